use Rattle.cs_pending.specs.EditLists.{asked_of_edit, table_of_edit}
use Rattle.cs_nodes.proofs.FollowingLemmas.Stood.{edited_stands}
use Rattle.cs_nodes.proofs.following.editing.edit_row.Goals as goal

pub returns-in-Ok-clause-stands : goal.returns-in-Ok-clause-stands
returns-in-Ok-clause-stands g c = λ known stands.
    edited_stands g.S.RowStore known c.args.replica.now c.edit.new.self c.in-Ok.ensures.writes.was_honest
    c.edit_stands.ensures c.catalogs_are_tables.ensures c.edit.ensures.catalog (table_of_edit c.args.edit.now) (asked_of_edit c.args.edit.now) c.in-Ok.ensures.writes.ok c.in-Ok.ensures.moved c.shown.ensures.shown stands
