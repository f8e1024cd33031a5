use Rattle.std.proofs.Common.{◌≡◌, ◌<◌, [], ◌∷◌, ◌++◌, List, length, ap, sym, subst, ◌∙◌, arith}
use Rattle.std.specs.List.{All}
use Rattle.cs_leaf.specs.Entries.{Entry}
use Rattle.cs_map_store.specs.Leaves.{ArePatches, flat, patched, restored}
use Rattle.cs_map_store.specs.declared.leaves.Patch.{Patch}
use Rattle.cs_map_store.proofs.Leafing.{all_first, full_patched}
use Rattle.cs_map_store.proofs.leaves.stage_single.Goals as goal

pub returns-clause-can : goal.returns-clause-can
returns-clause-can c =
    let patch = c.in_ok-patch.patch in
    let its = c.in_ok-patch.ensures in
    let leaves = c.stage_one.new.leaves.items in
    let is : c.push_reserved.new.self.items ≡ patch ∷ [] = c.push_reserved.ensures.items ∙ ap (λ (ps : List Patch). ps ++ patch ∷ []) c.in_ok-patches.ensures.items in (
      subst (ArePatches (length leaves)) (sym is) (all_first (λ (p : Patch). p.at < length leaves) patch [] its.place (λ k d h. absurd (omega (arith, h)))),
      λ some. subst (All (λ (leaf : List Entry). 0 < length leaf)) (sym (ap (patched leaves) is ∙ its.same))
          (full_patched (patch ∷ []) c.args.leaves.now.items c.requires.leaves.full (subst (All (λ (p : Patch). 0 < length p.change.1)) is some)),
    )

pub returns-clause-before : goal.returns-clause-before
returns-clause-before c =
    let patch = c.in_ok-patch.patch in
    let is : c.push_reserved.new.self.items ≡ patch ∷ [] = c.push_reserved.ensures.items ∙ ap (λ (ps : List Patch). ps ++ patch ∷ []) c.in_ok-patches.ensures.items in
    ap (restored c.stage_one.new.leaves.items) is ∙ c.in_ok-patch.ensures.restored

pub returns-clause-made : goal.returns-clause-made
returns-clause-made c =
    let patch = c.in_ok-patch.patch in
    let its = c.in_ok-patch.ensures in
    let is : c.push_reserved.new.self.items ≡ patch ∷ [] = c.push_reserved.ensures.items ∙ ap (λ (ps : List Patch). ps ++ patch ∷ []) c.in_ok-patches.ensures.items in
    ap (λ (ps : List Patch). flat (patched c.stage_one.new.leaves.items ps)) is ∙ ap flat its.same ∙ its.made
