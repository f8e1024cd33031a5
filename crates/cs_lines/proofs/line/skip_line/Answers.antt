use Rattle.std.proofs.Common.{◌<◌, length, rules}
use Rattle.cs_lines.proofs.EndedLemmas.{none_of_no_skip, none_of_unended_skip, skip_ended_front, skip_ended_rest, skip_unended, some_of_ended_skip, some_of_unended_skip}
use Rattle.cs_lines.proofs.ReadLemmas.{no_line_feed, skipped_ended, skipped_rest, some_of_front, at_err}
use Rattle.cs_lines.proofs.line.skip_line.Goals as goal

pub returns-then-is_ended-clause-skipped : goal.returns-then-is_ended-clause-skipped
returns-then-is_ended-clause-skipped g c = λ stops. skipped_ended _ _ stops (search rules)

pub returns-then-is_ended-clause-ended : goal.returns-then-is_ended-clause-ended
returns-then-is_ended-clause-ended g c = λ stops. skip_ended_front _ _ stops (search rules)

pub returns-in_err-skip_through-clause-part : goal.returns-in_err-skip_through-clause-part
returns-in_err-skip_through-clause-part g c =
    at_err c.from_residual.result (λ stops. (no_line_feed _ stops (search rules), c.in_err-skip_through.ensures.part))

pub returns-in-Ended-clause-skipped : goal.returns-in-Ended-clause-skipped
returns-in-Ended-clause-skipped g c = λ stops.
    let told = rw c.in-Ended.is at c.in_ok-skip_through.ensures.skipped in
    skipped_rest _ _ _ stops (search rules) c.in_ok-skip_through.ensures.rest (some_of_ended_skip _ _ told)

pub returns-in-Ended-clause-ended : goal.returns-in-Ended-clause-ended
returns-in-Ended-clause-ended g c = λ stops.
    let told = rw c.in-Ended.is at c.in_ok-skip_through.ensures.skipped in
    skip_ended_rest _ _ _ stops (search rules) c.in_ok-skip_through.ensures.rest told

pub returns-in-Unended-clause-skipped : goal.returns-in-Unended-clause-skipped
returns-in-Unended-clause-skipped g c = λ stops.
    let told = rw c.in-Unended.is at c.in_ok-skip_through.ensures.skipped in
    skipped_rest _ _ _ stops (search rules) c.in_ok-skip_through.ensures.rest (some_of_unended_skip _ _ told)

pub returns-in-Unended-clause-ended : goal.returns-in-Unended-clause-ended
returns-in-Unended-clause-ended g c = λ stops.
    let told = rw c.in-Unended.is at c.in_ok-skip_through.ensures.skipped in
    skip_unended _ _ _ stops (search rules) c.in_ok-skip_through.ensures.rest (none_of_unended_skip _ told)

pub returns-then-is_empty-clause-ended : goal.returns-then-is_empty-clause-ended
returns-then-is_empty-clause-ended g c = λ stops.
    let told = rw c.in-Nothing.is at c.in_ok-skip_through.ensures.skipped in
    skip_unended _ _ _ stops (search rules) c.in_ok-skip_through.ensures.rest (none_of_no_skip _ told)

pub returns-else-is_empty-clause-skipped : goal.returns-else-is_empty-clause-skipped
returns-else-is_empty-clause-skipped g c = λ stops.
    let some : 0 < length c.args.front.now = search rules in
    skipped_rest _ _ _ stops (search rules) c.in_ok-skip_through.ensures.rest (some_of_front _ _ some)

pub returns-else-is_empty-clause-ended : goal.returns-else-is_empty-clause-ended
returns-else-is_empty-clause-ended g c = λ stops.
    let told = rw c.in-Nothing.is at c.in_ok-skip_through.ensures.skipped in
    skip_unended _ _ _ stops (search rules) c.in_ok-skip_through.ensures.rest (none_of_no_skip _ told)
