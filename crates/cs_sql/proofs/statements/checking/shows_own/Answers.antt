use Rattle.std.proofs.Common.{IfOk, IsTrue, sym, subst}
use Rattle.std.specs.Prelude.{◌↔◌}
use Rattle.cs_sql.specs.declared.statements.checking.Unordered.{Unordered}
use Rattle.cs_sql.specs.statements.Checked.{ShowsOwn}
use Rattle.cs_sql.proofs.statements.checking.shows_own.Goals as goal

pub returns-in-Rows : goal.returns-in-Rows
returns-in-Rows c = subst (λ (p : Unordered). IfOk c.shows_row.result (λ own. IsTrue own ↔ ShowsOwn p c.args.catalog.now c.args.row.now)) (sym c.in-Rows.is) c.shows_row.ensures

pub returns-in-Pending : goal.returns-in-Pending
returns-in-Pending c = subst (λ (p : Unordered). IfOk c.shows_change.result (λ own. IsTrue own ↔ ShowsOwn p c.args.catalog.now c.args.row.now)) (sym c.in-Pending.is) c.shows_change.ensures

pub returns-in-Meta : goal.returns-in-Meta
returns-in-Meta c = subst (λ (p : Unordered). IfOk c.shows_name.result (λ own. IsTrue own ↔ ShowsOwn p c.args.catalog.now c.args.row.now)) (sym c.in-Meta.is) c.shows_name.ensures
