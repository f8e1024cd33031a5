use Rattle.std.proofs.Common.{ℕ, get_or, ◌∙◌, ap, sym, length, arith}
use Rattle.cs_value.specs.declared.catalog.TableDef.{TableDef}
use Rattle.cs_apply.specs.Found.{place_bytes}
use Rattle.cs_apply.proofs.Reading.{key_behind, place_at}
use Rattle.cs_apply.proofs.sought.place_of.Goals as goal

pub bounds-tables-table : goal.bounds-tables-table
bounds-tables-table c =
    let at = place_at c.args.catalog.now c.args.tasks.now.changes c.args.tasks.now.places.0 c.args.tasks.now.places.1 c.args.change c.requires.places c.requires.within in
    let below = c.requires.tables c.args.change 0 at.0 in
    let long = ap length c.tables.ensures.same in
    let is = c.table-table.ensures in
    omega (arith, below, long, is)

pub returns : goal.returns
returns c =
    let at = place_at c.args.catalog.now c.args.tasks.now.changes c.args.tasks.now.places.0 c.args.tasks.now.places.1 c.args.change c.requires.places c.requires.within in
    let below = c.requires.tables c.args.change 0 at.0 in
    let few = c.tables.ensures.tables.0 in
    let read = c.table-table.ensures in (
      ap (λ (table : ℕ). place_bytes table c.key.result.now) read
          ∙ ap (place_bytes (get_or c.args.tasks.now.places.0 c.args.change 0)) c.key.ensures
          ∙ key_behind _ at.1.0 _ at.1.1,
      record {
        table = c.index-tables-table.result;
        is = rw c.tables.ensures.same at c.index-tables-table.is;
        within = omega (arith, below, read);
        narrow = omega (arith, below, few, read);
        wide = ap length c.as_slice.ensures ∙ ap (λ (t : TableDef). length t.key_marks) (sym c.index-tables-table.is);
      },
    )
