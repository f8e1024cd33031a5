use Rattle.std.proofs.Common.{◌≡◌, ℕ, List, Option, ◌++◌, ap, subst, ◌∙◌}
use Rattle.cs_store.specs.Contents.{StorePlace}
use Rattle.cs_leaf.specs.Entries.{IsPlaceFor, written}
use Rattle.cs_leaf.specs.Edits.{IsBehind}
use Rattle.cs_leaf.proofs.Editing.{merged_edit}
use Rattle.cs_leaf.proofs.merging.merge_edit.Goals as goal

pub returns-clause-merged : goal.returns-clause-merged
returns-clause-merged c =
    let is = c.of_edit-place.ensures in
    let at = c.pass-at.result.0 in
    merged_edit c.args.leaf.now c.args.merged.now c.push_rows.new.self c.push_edit.new.merged c.args.from at c.pass-at.result.1 c.args.edit.now c.pass-at.ensures.bound.0 c.pass-at.ensures.bound.1
    c.requires.sorted (subst (IsPlaceFor c.args.leaf.now c.args.from at) is c.pass-at.ensures.found)
    (subst (λ (p : StorePlace). IsBehind c.args.leaf.now at p c.pass-at.result.1) is c.pass-at.ensures.behind) c.in_ok-push_rows.ensures
    (subst (λ (p : StorePlace). c.push_edit.new.merged ≡ c.push_rows.new.self ++ written p c.args.edit.now.body) is (c.in_ok-push_edit.ensures ∙ ap (λ (body : Option (List ℕ)). c.push_rows.new.self ++ written c.of_edit-place.result body) c.body.ensures))
