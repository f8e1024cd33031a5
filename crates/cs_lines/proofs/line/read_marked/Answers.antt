use Rattle.std.proofs.Common.{◌<◌, length, rules}
use Rattle.std.specs.Io.{StopsAt}
use Rattle.std.specs.Io.KnownBytes.{Consumes}
use Rattle.cs_lines.proofs.EndedLemmas.{read_ended, read_ended_behind}
use Rattle.cs_lines.proofs.ReadLemmas.{TakesLine-read, HasRead-skipped, Keeps-end, failed_behind}
use Rattle.cs_lines.proofs.line.read_marked.Goals as goal

pub returns-in-Ok-eq0-clause-read : goal.returns-in-Ok-eq0-clause-read
returns-in-Ok-eq0-clause-read g c =
    let end = c.in-Ok-eq0.ensures.end (search rules) in (end, Keeps-end _ _ end c.in-Ok-eq0.ensures.rest)

pub returns-in-Ok-clause-read : goal.returns-in-Ok-clause-read
returns-in-Ok-clause-read g c =
    let took = rw c.clear.ensures.items at c.in-Ok.ensures.bytes in
    let some : 0 < length c.read_through.new.line.items = search rules in
    rw c.drop_line_feed-ended.ensures.dropped (TakesLine-read _ _ _ took c.in-Ok.ensures.rest some)

pub returns-in-Ok-clause-ended : goal.returns-in-Ok-clause-ended
returns-in-Ok-clause-ended g c =
    let took = rw c.clear.ensures.items at c.in-Ok.ensures.bytes in
    let lost = rw c.clear.ensures.items at c.in-Ok.ensures.none_lost in
    let some : 0 < length c.read_through.new.line.items = search rules in
    rw c.drop_line_feed-ended.ensures.dropped
    (read_ended _ _ _ _ took c.in-Ok.ensures.rest lost some c.drop_line_feed-ended.ensures.told)

pub returns-in-OutOfMemory-clause-read : goal.returns-in-OutOfMemory-clause-read
returns-in-OutOfMemory-clause-read g c =
    let lost = rw c.clear.ensures.items at c.in-Err.ensures.none_lost in
    let took : Consumes (g.R.Read.remaining c.args.reader.now) (g.R.Read.remaining c.read_through.new.self) c.deref.result.now =
    rw c.deref.ensures.value lost in
    let ends = rw c.clear.ensures.items at c.in-Err.ensures.stops in
    let stops : StopsAt c.deref.result.now 10 = rw c.deref.ensures.value ends in
    HasRead-skipped _ _ _ _ _ _ took (c.skip_line.ensures.skipped stops)

pub returns-in-OutOfMemory-clause-ended : goal.returns-in-OutOfMemory-clause-ended
returns-in-OutOfMemory-clause-ended g c =
    let lost = rw c.clear.ensures.items at c.in-Err.ensures.none_lost in
    let took : Consumes (g.R.Read.remaining c.args.reader.now) (g.R.Read.remaining c.read_through.new.self) c.deref.result.now =
    rw c.deref.ensures.value lost in
    let ends = rw c.clear.ensures.items at c.in-Err.ensures.stops in
    let stops : StopsAt c.deref.result.now 10 = rw c.deref.ensures.value ends in
    read_ended_behind _ _ _ _ _ _ took (c.skip_line.ensures.ended stops)

pub returns-in-OutOfMemory-clause-part : goal.returns-in-OutOfMemory-clause-part
returns-in-OutOfMemory-clause-part g c =
    let lost = rw c.clear.ensures.items at c.in-Err.ensures.none_lost in
    let took : Consumes (g.R.Read.remaining c.args.reader.now) (g.R.Read.remaining c.read_through.new.self) c.deref.result.now =
    rw c.deref.ensures.value lost in
    let ends = rw c.clear.ensures.items at c.in-Err.ensures.stops in
    let stops : StopsAt c.deref.result.now 10 = rw c.deref.ensures.value ends in
    failed_behind _ _ _ _ _ took stops c.skip_line.ensures.part
