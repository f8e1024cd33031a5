use Rattle.std.proofs.Common.{List, ap, sym, subst, ◌∙◌}
use Rattle.cs_store.specs.Contents.{place_cmp}
use Rattle.cs_leaf.specs.Entries.{Entry, IsHeadOf, nth}
use Rattle.cs_leaf.proofs.Packing.{first_decides, front_tells}
use Rattle.cs_leaf.proofs.leaf.Leaf.compare_first.Goals as goal

pub returns-in_default-cmp : goal.returns-in_default-cmp
returns-in_default-cmp c =
    let its = c.cmp-in-Equal.ensures in
    its ∙ first_decides c.self.inside.front c.self.inside.bytes.items c.self.inside.spots.items c.self.inside.used c.place.inside.table c.place.inside.key.now c.place.inside.head c.self.invariant c.place.invariant (sym c.cmp.ensures ∙ c.in-Equal.is) (λ e. c.in_default-cmp.not-Equal (its ∙ e))
    ∙ (λ i. place_cmp (nth (c.self.view_is i) 0).0 (c.place.view_is i))

pub compare_keys-requires-clause-key : goal.compare_keys-requires-clause-key
compare_keys-requires-clause-key c =
    let was = c.self.inside in
    subst (IsHeadOf was.front.head) (ap (λ (es : List Entry). (nth es 0).0.1) c.self.view_is ∙ sym c.first_key.ensures)
    (front_tells was.front was.bytes.items was.spots.items c.self.invariant.0 c.self.invariant.1).1
