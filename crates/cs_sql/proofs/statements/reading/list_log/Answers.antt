use Rattle.std.proofs.Common.{◌∙◌}
use Rattle.sqlite.specs.Held.{state}
use Rattle.cs_sql.proofs.StatementsLemmas.Meanings.{list_log_plain}
use Rattle.cs_sql.proofs.StatementsLemmas.Ranges.{lists_log}
use Rattle.cs_sql.proofs.statements.reading.list_log.Goals as goal

pub read_ready-requires-clause-plain : goal.read_ready-requires-clause-plain
read_ready-requires-clause-plain g c = list_log_plain

pub read_ready-requires-clause-starts : goal.read_ready-requires-clause-starts
read_ready-requires-clause-starts g c first taken = taken

pub returns-clause-ok : goal.returns-clause-ok
returns-clause-ok g c clean =
    let it = c.in_ok-read_ready.ensures.ok clean in
    let taken = it.4 c.args.first c.new-entries.ensures in (
      it.0,
      taken.items
          ∙ lists_log (state g.S.Store c.args.conn.now) (state g.S.Store c.read_ready.new.conn) it.1 it.2 c.args.first c.args.count (rw (c.params-to_sql.ensures, c.params-to_sql-2.ensures) at it.3),
    )
