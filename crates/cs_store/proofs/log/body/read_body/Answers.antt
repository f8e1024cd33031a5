use Rattle.std.proofs.Common.{rules}
use Rattle.cs_store.specs.declared.log.body.Body.TheVariants.{Changes}
use Rattle.cs_store.proofs.LogLemmas.Bodies.{only_body}
use Rattle.cs_store.proofs.log.body.read_body.Goals as goal

pub returns-in_ok-read_changes-in-0-clause-only : goal.returns-in_ok-read_changes-in-0-clause-only
returns-in_ok-read_changes-in-0-clause-only c =
    only_body c.one_body.ensures _ c.args.bytes.now (Changes c.in_ok-read_changes-in-0.field-0) c.tables.ensures.tables c.in_ok-read_changes-in-0.ensures.reads.0 tt (search rules)
