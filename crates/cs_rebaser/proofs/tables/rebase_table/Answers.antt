use Rattle.std.proofs.Common.{ap, sym, ◌∙◌}
use Rattle.std.proofs.lemmas.Result.{IfOk-weaker}
use Rattle.cs_normal.specs.keyed.Changes.{Changes}
use Rattle.cs_normal.specs.keyed.Prepared.{kept}
use Rattle.cs_normal.specs.declared.normal.TableChanges.{TableChanges}
use Rattle.cs_rebaser.specs.Steps.{Finds}
use Rattle.cs_rebaser.specs.declared.index.Sought.TheVariants.{Nowhere}
use Rattle.cs_rebaser.proofs.Walks.{nothing_over}
use Rattle.cs_rebaser.proofs.tables.rebase_table.Goals as goal

pub returns-in-Nowhere : goal.returns-in-Nowhere
returns-in-Nowhere c =
    let table = c.args.table in
    let blob = c.args.rebaser.now in
    let named : Finds c.sought-sought.result blob table.name = rw c.name.ensures at c.sought-sought.ensures in
    let none : Finds Nowhere blob table.name = rw c.in-Nowhere.is at named in
    let all = nothing_over blob table.name table.marks (kept table.entries) none in
    IfOk-weaker c.written.result _ _ (λ made is. is ∙ ap {B = TableChanges} (λ (changes : Changes). record { name = table.name; marks = table.marks; changes = changes }) (sym all)) c.written.ensures
