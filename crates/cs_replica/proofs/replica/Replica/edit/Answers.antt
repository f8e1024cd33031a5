use Rattle.cs_pending.specs.Edits.{Leads, edit}
use Rattle.cs_pending.specs.EditLists.{asked_of_edit, table_of_edit}
use Rattle.cs_pending.specs.position.Shows.{ShowsSomeAt}
use Rattle.cs_pending.specs.declared.fault.EditFault.TheVariants.{Device}
use Rattle.cs_replica.specs.Edited.{IsEditedIn}
use Rattle.cs_replica.specs.Step.{IsEditFault, IsEditedBy}
use Rattle.cs_replica.proofs.Stepped.{once_leaves, stepped}
use Rattle.cs_replica.proofs.replica.Replica.edit.Goals as goal

pub returns-clause-writes : goal.returns-clause-writes
returns-clause-writes g c = rw (← c.self.view_is) (rw (c.of.ensures.0, c.of.ensures.1) at c.edit_at-edited.ensures.writes)

pub returns-clause-refused : goal.returns-clause-refused
returns-clause-refused g c = rw (← c.self.view_is) (rw (c.of.ensures.0, c.of.ensures.1) at c.edit_at-edited.ensures.refused)

pub returns-clause-turned : goal.returns-clause-turned
returns-clause-turned g c =
    let tables = c.self.inside.catalog in
    rw (← c.self.view_is)
    (stepped g.S.RowStore tables c.self.inside.store c.edit_at-edited.new.store c.self.inside.position c.edit_at-edited.new.position
    Device (λ ts. Leads (edit ts (table_of_edit c.args.edit.now) (asked_of_edit c.args.edit.now))) (λ ts. IsEditFault ts c.args.edit.now) c.edit_at-edited.result
    (rw (c.of.ensures.0, c.of.ensures.1) at c.edit_at-edited.ensures.writes) (rw (c.of.ensures.0, c.of.ensures.1) at c.edit_at-edited.ensures.refused)
    c.edit_at-edited.ensures.moved c.edit_at-edited.ensures.counted c.edit_at-edited.ensures.kept)

pub returns-clause-left : goal.returns-clause-left
returns-clause-left g c =
    rw (← c.self.view_is)
    (once_leaves g.S.RowStore c.self.inside.catalog c.self.inside.store c.edit_at-edited.new.store c.self.inside.position c.edit_at-edited.new.position c.shown.ensures.shown c.shown.ensures.fits
    c.one_position.ensures (IsEditedBy c.self.inside.catalog c.args.edit.now) Device (ShowsSomeAt c.self.inside.catalog c.self.inside.position (g.S.RowStore.contents c.self.inside.store))
    (IsEditedIn c.self.inside.catalog c.self.inside.position (table_of_edit c.args.edit.now) (asked_of_edit c.args.edit.now) (g.S.RowStore.contents c.self.inside.store))
    c.edit_at-edited.result (rw (c.of.ensures.0, c.of.ensures.1) at c.edit_at-edited.ensures.writes) c.edit_at-edited.ensures.kept (λ left made. made))

pub returns-clause-counts : goal.returns-clause-counts
returns-clause-counts g c = rw (← c.self.view_is) (record { later = c.edit_at-edited.ensures.writes.later; cause = c.edit_at-edited.ensures.writes.cause })
