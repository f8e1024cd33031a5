use Rattle.cs_pending.specs.EditLists.{AreEdited, IsEditsFault}
use Rattle.cs_pending.specs.position.Shows.{ShowsSomeAt}
use Rattle.cs_pending.specs.declared.fault.EditsFault.TheVariants.{Device}
use Rattle.cs_replica.specs.Edited.{IsSteppedIn}
use Rattle.cs_replica.specs.Step.{AreEditedBy}
use Rattle.cs_replica.proofs.Stepped.{once_leaves, stepped}
use Rattle.cs_replica.proofs.replica.Replica.edit_all.Goals as goal

pub returns-clause-writes : goal.returns-clause-writes
returns-clause-writes g c = rw (← c.self.view_is) c.edit_all_at-edited.ensures.writes

pub returns-clause-turned : goal.returns-clause-turned
returns-clause-turned g c =
    let tables = c.self.inside.catalog in
    rw (← c.self.view_is)
    (stepped g.S.RowStore tables c.self.inside.store c.edit_all_at-edited.new.store c.self.inside.position c.edit_all_at-edited.new.position
    Device (λ ts. AreEdited ts c.args.edits.now) (λ ts fault view. IsEditsFault ts c.args.edits.now view fault) c.edit_all_at-edited.result
    c.edit_all_at-edited.ensures.writes c.edit_all_at-edited.ensures.refused c.edit_all_at-edited.ensures.moved c.edit_all_at-edited.ensures.counted c.edit_all_at-edited.ensures.kept)

pub returns-clause-left : goal.returns-clause-left
returns-clause-left g c =
    rw (← c.self.view_is)
    (once_leaves g.S.RowStore c.self.inside.catalog c.self.inside.store c.edit_all_at-edited.new.store c.self.inside.position c.edit_all_at-edited.new.position c.shown.ensures.shown c.shown.ensures.fits
    c.one_position.ensures (AreEditedBy c.self.inside.catalog c.args.edits.now) Device (ShowsSomeAt c.self.inside.catalog c.self.inside.position (g.S.RowStore.contents c.self.inside.store))
    (IsSteppedIn c.self.inside.catalog c.self.inside.position (AreEdited c.self.inside.catalog c.args.edits.now) (g.S.RowStore.contents c.self.inside.store))
    c.edit_all_at-edited.result c.edit_all_at-edited.ensures.writes c.edit_all_at-edited.ensures.kept (λ left made. made))

pub returns-clause-counts : goal.returns-clause-counts
returns-clause-counts g c = rw (← c.self.view_is) (record { later = c.edit_all_at-edited.ensures.writes.later; cause = c.edit_all_at-edited.ensures.writes.cause })
