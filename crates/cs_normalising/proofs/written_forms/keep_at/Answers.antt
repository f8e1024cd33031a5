use Rattle.std.proofs.Common.{arith}
use Rattle.cs_normal.specs.keyed.Keyed.{beside}
use Rattle.cs_normalising.proofs.TableForms.{nothing_there}
use Rattle.cs_normalising.proofs.written_forms.keep_at.Goals as goal

pub returns-clause-kept : goal.returns-clause-kept
returns-clause-kept c =
    nothing_there c.args.marks.now c.args.changes.now c.args.place (beside c.args.keys.now.1 c.args.made.now) (omega (arith, c.if-place-changes.false))
