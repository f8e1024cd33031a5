use Rattle.std.proofs.Common.{List, ap, refl, ◌∙◌}
use Rattle.cs_leaf.specs.Entries.{Entry, entries_at}
use Rattle.cs_leaf.proofs.Packing.{still_packed}
use Rattle.cs_leaf.proofs.leaf.Amendment.leave.Goals as goal

pub invariant_of-result : goal.invariant_of-result
invariant_of-result c =
    let a = c.self.inside in
    still_packed a.front _ c.truncate.new.self.items a.spots.items a.spots.items a.used c.self.invariant.0 c.truncate.ensures.items refl

pub returns : goal.returns
returns c =
    let a = c.self.inside in
    ap (λ bytes. entries_at bytes a.spots.items) c.truncate.ensures.items ∙ ap (λ (ends : List Entry × List Entry). ends.0) c.self.view_is
