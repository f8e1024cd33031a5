use Rattle.std.proofs.Common.{◌≡◌, ℕ, List, Some, IsTrue, subst}
use Rattle.std.specs.Prelude.{◌↔◌}
use Rattle.std.specs.List.{AllByRecursion}
use Rattle.std.specs.FinMap.{get}
use Rattle.cs_store.specs.Contents.{Bodies, StorePlace}
use Rattle.cs_leaf.specs.Entries.{Entry}
use Rattle.cs_map_store.specs.Checked.{IsGood}
use Rattle.cs_map_store.specs.Leaves.{flat}
use Rattle.cs_map_store.proofs.Checks.{leaves_hold}
use Rattle.cs_map_store.proofs.shelves.Leaves.check.Goals as goal

pub returns : goal.returns
returns c =
    let good = c.in_ok-good.good in
    let is_good = IsGood c.args.shelf c.args.catalog.now in
    let holds = leaves_hold (λ place body. is_good (place, body)) c.self.inside.leaves.items c.self.invariant.rise in
    let is = subst (λ (leaves : List (List Entry)). IsTrue good ↔ AllByRecursion is_good (flat leaves)) c.as_slice.ensures.value c.in_ok-good.ensures in
    subst (λ (bodies : Bodies). IsTrue good ↔ ((place : StorePlace) (body : List ℕ) → get bodies place ≡ Some body → is_good (place, body))) c.self.view_is
    (λ whole. holds.0 (is.0 whole), λ each. is.1 (holds.1 each))
