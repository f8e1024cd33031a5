use Rattle.std.proofs.Common.{◌≡◌, subst, sym, ◌∙◌, Option, IfSome}
use Rattle.cs_change.specs.declared.change.Change.{Change}
use Rattle.cs_change.specs.Spelling.{change_spelling, marks_of, FitsChange}
use Rattle.cs_changeset.proofs.OneChange.{whole_found, whole_only}
use Rattle.cs_changeset.proofs.changes.read_one.Goals as goal

pub returns-clause-found : goal.returns-clause-found
returns-clause-found c = subst (λ (found : Option Change). IfSome found (λ change. FitsChange (marks_of c.args.marks.now) change × (c.args.bytes.now ≡ change_spelling change)))
    (sym c.whole_change.ensures) (whole_found (marks_of c.args.marks.now) c.args.bytes.now c.read_change-read.result c.read_change-read.ensures)

pub returns-clause-only : goal.returns-clause-only
returns-clause-only c = λ change fits e. c.whole_change.ensures
    ∙ whole_only c.fields.ensures c.records.ensures (marks_of c.args.marks.now) c.args.bytes.now c.read_change-read.result change c.read_change-read.ensures fits e
