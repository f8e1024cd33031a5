use Rattle.std.specs.Prelude.{IsTrue}
use Rattle.std.proofs.lemmas.Result.{IfOk-weaker}
use Rattle.cs_hub.proofs.Entries.{widen_told}
use Rattle.cs_hub.proofs.fitting.is_entry_of.Goals as goal

pub returns-in-Widen : goal.returns-in-Widen
returns-in-Widen c =
    IfOk-weaker c.may_widen.result _ _
    (λ may told. widen_told c.args.catalog.now c.tables-tables.ensures.tables c.most_bytes.ensures c.args.entry.now.body c.in-Widen.table c.in-Widen.width c.in-Widen.is (IsTrue may) told)
    (rw c.as_str.ensures at c.may_widen.ensures)
