use Rattle.std.proofs.Common.{arith}
use Rattle.sqlite.specs.Held.{state}
use Rattle.sqlite.specs.State.{HasCleanDisk}
use Rattle.sqlite.specs.Values.{bound}
use Rattle.cs_sql.proofs.StatementsLemmas.Finding.{ready_all, query_quiet, query_stays, ok_then}
use Rattle.cs_sql.proofs.StatementsLemmas.Streams.{probed_rows}
use Rattle.cs_sql.proofs.statements.reading.query_ready.Goals as goal

pub returns-clause-ok : goal.returns-clause-ok
returns-clause-ok g c clean =
    let late : HasCleanDisk (state g.S.Store c.probe.new.conn) = omega (arith, clean, c.query_all.ensures.survives.clean) in
    ok_then _ _ c.query_all.result
    (λ rows shown. probed_rows c.args.sql.now (bound c.args.params.now) (state g.S.Store c.args.conn.now) (state g.S.Store c.probe.new.conn) (state g.S.Store c.query_all.new.self) c.requires.ready c.in_ok-probe.ensures.ok c.probe.ensures.survives c.requires.plain late rows.items shown)
    (c.query_all.ensures.ok clean)

pub returns-clause-same : goal.returns-clause-same
returns-clause-same g c clean =
    query_stays c.args.sql.now c.requires.plain (bound c.args.params.now) (state g.S.Store c.args.conn.now) (state g.S.Store c.probe.new.conn) (state g.S.Store c.query_all.new.self) (ready_all (state g.S.Store c.args.conn.now) c.requires.ready) c.in_ok-probe.ensures.ok c.probe.ensures.survives
    c.query_all.ensures.survives c.query_all.result clean (c.query_all.ensures.ok clean) (c.query_all.ensures.err clean)

pub returns-clause-survives : goal.returns-clause-survives
returns-clause-survives g c =
    query_quiet c.args.sql.now c.requires.plain (bound c.args.params.now) (state g.S.Store c.args.conn.now) (state g.S.Store c.probe.new.conn) (state g.S.Store c.query_all.new.self) (ready_all (state g.S.Store c.args.conn.now) c.requires.ready) c.in_ok-probe.ensures.ok c.probe.ensures.survives
    c.query_all.ensures.survives
