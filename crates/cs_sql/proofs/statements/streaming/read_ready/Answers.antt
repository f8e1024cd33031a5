use Rattle.std.proofs.Common.{arith}
use Rattle.sqlite.specs.Held.{state}
use Rattle.sqlite.specs.State.{HasCleanDisk}
use Rattle.sqlite.specs.Values.{bound}
use Rattle.cs_sql.proofs.StatementsLemmas.Streams.{ok_shown, probed_quiet, probed_shown, probed_stays, ready_plain, ready_serves}
use Rattle.cs_sql.proofs.statements.streaming.read_ready.Goals as goal

pub read_each-requires-clause-serves : goal.read_each-requires-clause-serves
read_each-requires-clause-serves g c = ready_serves (state g.S.Store c.args.conn.now) (state g.S.Store c.probe.new.conn) c.requires.ready c.in_ok-probe.ensures.ok c.probe.ensures.survives

pub read_each-requires-clause-plain : goal.read_each-requires-clause-plain
read_each-requires-clause-plain g c = ready_plain c.args.sql.now (state g.S.Store c.args.conn.now) (state g.S.Store c.probe.new.conn) c.requires.ready c.in_ok-probe.ensures.ok c.probe.ensures.survives c.requires.plain

pub returns-clause-same : goal.returns-clause-same
returns-clause-same g c = probed_stays (state g.S.Store c.args.conn.now) (state g.S.Store c.probe.new.conn) (state g.S.Store c.read_each.new.conn) c.in_ok-probe.ensures.ok c.read_each.ensures.survives c.read_each.ensures.same

pub returns-clause-survives : goal.returns-clause-survives
returns-clause-survives g c = probed_quiet (state g.S.Store c.args.conn.now) (state g.S.Store c.probe.new.conn) (state g.S.Store c.read_each.new.conn) c.probe.ensures.survives c.read_each.ensures.survives

pub returns-clause-ok : goal.returns-clause-ok
returns-clause-ok g c clean =
    let late : HasCleanDisk (state g.S.Store c.probe.new.conn) = omega (arith, clean, c.read_each.ensures.survives.clean) in
    ok_shown _ _ c.read_each.result
    (probed_shown c.args.sql.now (bound c.args.params.now) (state g.S.Store c.args.conn.now) (state g.S.Store c.probe.new.conn) (state g.S.Store c.read_each.new.conn) c.requires.ready c.in_ok-probe.ensures.ok c.probe.ensures.survives c.requires.plain late
    g.R.Reader.has_read c.args.reader.now c.read_each.new.reader) (c.read_each.ensures.shown clean)
