use Rattle.cs_opening.proofs.Decoded.{flight_parts, no_flight, value_of}
use Rattle.cs_opening.proofs.values.flight_in.Goals as goal

pub returns-in_default-clause-only : goal.returns-in_default-clause-only
returns-in_default-clause-only c = λ changes value. absurd (no_flight c.args.bytes.now c.args.catalog.now c.args.number changes c.in_default.ensures value)

pub returns-then-stored-number-clause-only : goal.returns-then-stored-number-clause-only
returns-then-stored-number-clause-only c = λ changes value.
    absurd (c.if-stored-number.true (flight_parts c.args.bytes.now c.in-Some.changeset.now c.in-Some.stored c.args.number c.args.catalog.now changes c.in_range.ensures c.in_range-2.ensures c.in-Some.ensures value).0)

pub returns-clause-only : goal.returns-clause-only
returns-clause-only c = λ changes value.
    c.value_in.ensures.only changes (value_of c.args.bytes.now c.in-Some.changeset.now c.in-Some.stored c.args.number c.args.catalog.now changes c.in_range.ensures c.in_range-2.ensures c.in-Some.ensures value)
