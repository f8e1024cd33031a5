use Rattle.std.proofs.Common.{List, ap, sym, ◌∙◌}
use Rattle.std.specs.List.{list_all}
use Rattle.cs_value.specs.Catalog.{is_set}
use Rattle.cs_value.specs.declared.value.Field.{Field}
use Rattle.cs_change.specs.declared.change.Change.{Change}
use Rattle.cs_normal.specs.keyed.NormalForm.{has_key, marked_fields}
use Rattle.cs_tasks.proofs.LentKeys.{row_fields}
use Rattle.cs_tasks.proofs.lending.is_keyed.Goals as goal

pub returns-in-Insert : goal.returns-in-Insert
returns-in-Insert c = λ set.
    ap (λ (change : Change). has_key c.args.marks.now change) c.in-Insert.is
    ∙ sym (ap (list_all is_set) (row_fields c.args.marks.now c.in-Insert.new_row))
    ∙ sym (ap (λ (fields : List Field). list_all is_set (marked_fields c.args.marks.now fields)) c.of_row.ensures)
    ∙ c.are_set.ensures set

pub returns-in-Delete : goal.returns-in-Delete
returns-in-Delete c = λ set.
    ap (λ (change : Change). has_key c.args.marks.now change) c.in-Delete.is
    ∙ sym (ap (list_all is_set) (row_fields c.args.marks.now c.in-Delete.old_row))
    ∙ sym (ap (λ (fields : List Field). list_all is_set (marked_fields c.args.marks.now fields)) c.of_row-in-Delete.ensures)
    ∙ c.are_set-in-Delete.ensures set
