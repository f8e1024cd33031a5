use Rattle.cs_lines.proofs.EndedLemmas.{passed_ended, passed_told}
use Rattle.cs_lines.proofs.ReadLemmas.{passed_end, passed_feed, passed_line, passed_more}
use Rattle.cs_lines.proofs.streams.skip_bytes.Goals as goal

pub returns-in-None-clause-skipped : goal.returns-in-None-clause-skipped
returns-in-None-clause-skipped g c =
    let ended = rw c.in-None.is at c.in_ok-next_byte.ensures.byte in passed_told _ _ _ c.loop.invariant ended.0

pub returns-in-None-clause-rest : goal.returns-in-None-clause-rest
returns-in-None-clause-rest g c =
    let ended = rw c.in-None.is at c.in_ok-next_byte.ensures.byte in passed_end _ _ _ _ c.loop.invariant ended.0 ended.1

pub returns-in-Some-eq10-clause-skipped : goal.returns-in-Some-eq10-clause-skipped
returns-in-Some-eq10-clause-skipped g c =
    let took = rw (c.in-Some-eq10.is, c.in-Some-eq10.field-0-test) at c.in_ok-next_byte.ensures.byte in
    passed_ended _ _ _ _ c.loop.invariant took

pub returns-in-Some-eq10-clause-rest : goal.returns-in-Some-eq10-clause-rest
returns-in-Some-eq10-clause-rest g c =
    let took = rw (c.in-Some-eq10.is, c.in-Some-eq10.field-0-test) at c.in_ok-next_byte.ensures.byte in
    passed_feed _ _ _ _ c.loop.invariant took

pub returns-in-Some-eq10-clause-part : goal.returns-in-Some-eq10-clause-part
returns-in-Some-eq10-clause-part g c =
    let took = rw (c.in-Some-eq10.is, c.in-Some-eq10.field-0-test) at c.in_ok-next_byte.ensures.byte in
    passed_line _ _ _ _ c.loop.invariant took

pub loop-preserved : goal.loop-preserved
loop-preserved g c =
    let took = rw c.in-Some.is at c.in_ok-next_byte.ensures.byte in passed_more _ _ _ _ _ c.loop.invariant took c.in-Some.field-0-test.1
