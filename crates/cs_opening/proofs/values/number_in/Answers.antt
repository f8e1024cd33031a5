use Rattle.std.proofs.Common.{List, ℕ, Some, ap, length, ◌∙◌}
use Rattle.std.specs.Bool.{◌==◌}
use Rattle.cs_opening.proofs.Decoded.{one_number, too_short}
use Rattle.cs_opening.proofs.values.number_in.Goals as goal

pub returns-in_err-number-clause-only : goal.returns-in_err-number-clause-only
returns-in_err-number-clause-only c = λ number fits is. absurd (too_short c.args.bytes.now number c.in_err-number.ensures is)

pub returns-then-not-is_empty-clause-only : goal.returns-then-not-is_empty-clause-only
returns-then-not-is_empty-clause-only c = λ number fits is.
    absurd (let no = c.if-not-is_empty.ensures ∙ ap (λ (r : List ℕ). length r == 0) (one_number c.args.bytes.now c.in_ok-number.rest.now c.in_ok-number.number number c.in_range.ensures fits c.in_ok-number.ensures is).1 in cc)

pub returns-clause-only : goal.returns-clause-only
returns-clause-only c = λ number fits is.
    ap Some (one_number c.args.bytes.now c.in_ok-number.rest.now c.in_ok-number.number number c.in_range.ensures fits c.in_ok-number.ensures is).0
