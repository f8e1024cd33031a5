use Rattle.std.proofs.Common.{◌<◌, ◌∙◌, length, arith}
use Rattle.std.specs.Prelude.{slice_index_or}
use Rattle.std.proofs.lemmas.List.{take_all, length-set}
use Rattle.cs_apply.proofs.Giving.{given, kept}
use Rattle.cs_apply.proofs.numbers.put_at.Goals as goal

pub loop-place-preserved : goal.loop-place-preserved
loop-place-preserved c =
    let less : c.loop-place.place-index < length c.args.places.now = omega (arith, c.loop-place-test.true) in
    let bound = c.requires c.loop-place.place-index 0 less in
    let within : slice_index_or c.args.places.now c.loop-place.place-index 0 < length c.loop-place.told = omega (arith, bound, c.loop-place.invariant.0) in (
      length-set c.loop-place.told _ _ ∙ c.loop-place.invariant.0,
      given c.args.told.now c.args.places.now c.args.number c.loop-place.told c.loop-place.place-index less within c.loop-place.invariant.1,
      kept c.args.told.now c.args.places.now c.args.number c.loop-place.told c.loop-place.place-index less within c.loop-place.invariant.2,
    )

pub returns-clause-put : goal.returns-clause-put
returns-clause-put c = λ at inside.
    c.loop-place.invariant.1 at (rw (take_all c.loop-place.place-index c.args.places.now (omega (arith, c.loop-place-test.false))) inside)
