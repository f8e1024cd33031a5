use Rattle.std.proofs.Common.{arith, subst}
use Rattle.sqlite.specs.Files.{file_state}
use Rattle.sqlite.specs.Start.{FindsIn}
use Rattle.sqlite.specs.State.{HasCleanDisk}
use Rattle.cs_sql.specs.Opening.{IsOpenedAt}
use Rattle.cs_embed.specs.Files.{alone}
use Rattle.cs_embed.proofs.Filed.{opened_holds}
use Rattle.cs_embed.proofs.file.open_file.Goals as goal

pub returns-in-Ok-adopt : goal.returns-in-Ok-adopt
returns-in-Ok-adopt c =
    let opened : HasCleanDisk (file_state c.in-Ok-adopt.store.conn) → IsOpenedAt (alone c.args.bytes.now) c.in-Ok-adopt.store = λ clean.
    let early : HasCleanDisk (file_state c.in_ok-conn.conn) = omega (arith, clean, c.in-Ok-adopt.ensures.survives.clean) in
    record {
      conn = c.in_ok-conn.conn;
      opened = c.in_ok-conn.ensures.opened early;
      found = subst (λ bytes. FindsIn (alone bytes) (file_state c.in_ok-conn.conn)) c.in-Ok.ensures.bytes (c.in_ok-conn.ensures.found early);
      adopted = c.in-Ok-adopt.ensures.adopted clean;
    } in
    record { opened = opened; holds = λ clean. opened_holds _ _ (opened clean) }
