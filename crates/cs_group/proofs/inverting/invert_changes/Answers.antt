use Rattle.std.proofs.Common.{◌∙◌, ◌<◌, ap, arith, length, sym}
use Rattle.std.proofs.lemmas.List.{length-map}
use Rattle.std.specs.Prelude.{slice_get}
use Rattle.std.specs.Map.{values_of}
use Rattle.cs_group.specs.Inverse.{inverse_change}
use Rattle.cs_group.specs.Steps.Inverting.{KeepsLength}
use Rattle.cs_group.proofs.InPlace.{all_at, all_inverted, all_over, not_reached, one_more, still_within}
use Rattle.cs_group.proofs.inverting.invert_changes.Goals as goal

pub invert_at-requires-clause-within : goal.invert_at-requires-clause-within
invert_at-requires-clause-within c =
    let within : c.loop-at.at < length (values_of c.args.changes.now) = omega (arith, c.loop-at-test.true, c.len-at-end.ensures, length-map c.args.changes.now (λ e. e.1)) in
    still_within inverse_change (values_of c.args.changes.now) (values_of c.loop-at.changes) c.loop-at.at within c.loop-at.invariant.so_far

pub invert_at-requires-clause-long : goal.invert_at-requires-clause-long
invert_at-requires-clause-long c = λ change got.
    all_at KeepsLength (values_of c.args.changes.now) c.loop-at.at change c.requires (sym (not_reached inverse_change (values_of c.args.changes.now) c.loop-at.at) ∙ ap (λ zs. slice_get zs c.loop-at.at) (sym c.loop-at.invariant.so_far) ∙ got)

pub loop-at-preserved : goal.loop-at-preserved
loop-at-preserved c =
    let within : c.loop-at.at < length (values_of c.args.changes.now) = omega (arith, c.loop-at-test.true, c.len-at-end.ensures, length-map c.args.changes.now (λ e. e.1)) in
    record {
      keys = c.in_ok-invert_at.ensures.keys ∙ c.loop-at.invariant.keys;
      so_far = one_more inverse_change (values_of c.args.changes.now) (values_of c.loop-at.changes) (values_of c.invert_at.new.changes) c.loop-at.at within c.loop-at.invariant.so_far c.in_ok-invert_at.ensures.changes;
    }

pub returns : goal.returns
returns c =
    all_inverted c.args.changes.now c.loop-at.changes c.loop-at.invariant.keys (all_over inverse_change (values_of c.args.changes.now) (values_of c.loop-at.changes) c.loop-at.at (omega (arith, c.loop-at-test.false, c.len-at-end.ensures, length-map c.args.changes.now (λ e. e.1))) c.loop-at.invariant.so_far)
