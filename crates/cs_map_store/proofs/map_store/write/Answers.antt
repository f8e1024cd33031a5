use Rattle.std.proofs.Common.{◌∙◌, fold, ap}
use Rattle.cs_store.specs.Written.{edit_body}
use Rattle.cs_map_store.proofs.Holding.{held_after}
use Rattle.cs_map_store.proofs.map_store.write.Goals as goal

pub returns-clause-ok : goal.returns-clause-ok
returns-clause-ok c =
    let rows = c.args.shelves.now.rows in
    let pending = c.args.shelves.now.pending in
    let made = c.make.ensures ∙ c.in_ok-rows.ensures.after ∙ ap (fold edit_body rows) c.lend.ensures in
    let changed = c.make-2.ensures ∙ c.in-Ok.ensures.after ∙ ap (fold edit_body pending) c.lend-changes.ensures in
    held_after rows c.make.result pending c.make-2.result
    c.args.slots.now.entries c.write_rest.new.slots.entries c.args.log.now.items c.write_rest.new.log.items c.args.batch.now
    made changed c.in_default.ensures.meta c.in_default.ensures.log

pub returns-clause-kept : goal.returns-clause-kept
returns-clause-kept c = record {
  filled = c.write_rest.ensures.filled;
  names = c.write_rest.ensures.names c.requires.names;
}
