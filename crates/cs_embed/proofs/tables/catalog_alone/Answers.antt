use Rattle.cs_embed.proofs.Declared.{given, not_given}
use Rattle.cs_embed.proofs.tables.catalog_alone.Goals as goal

pub returns-in-Ok : goal.returns-in-Ok
returns-in-Ok c =
    given c.args.declaring.now c.from_ref.result.now c.in-Ok.catalog c.from_ref.ensures.value c.in-Ok.ensures.catalog c.in-Ok.ensures.shapes c.tables.ensures.tables

pub returns-in-Err : goal.returns-in-Err
returns-in-Err c =
    rw c.from.ensures (not_given c.args.declaring.now c.from_ref.result.now c.in-Err.fault c.from_ref.ensures.value c.in-Err.ensures.fault)
