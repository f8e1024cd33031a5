use Rattle.std.proofs.Common.{refl}
use Rattle.cs_normalising.specs.Steps.Lent.{entries_of}
use Rattle.cs_normalising.proofs.LentForms.{picked_keys}
use Rattle.cs_normalising.proofs.lent_table.LentTable.with_changes.Goals as goal

pub returns : goal.returns
returns c =
    let lent = c.self.inside.lent in
    let within = rw (← c.self.view_is) at c.requires.within in
    let keys = picked_keys (entries_of c.self.inside.marks lent.changes) lent.order c.args.places.now lent.keys c.in_ok-keys.keys c.self.invariant.gathered within c.in_ok-keys.ensures in
    rw (c.from_parts.ensures, keys, ← c.self.view_is) refl
