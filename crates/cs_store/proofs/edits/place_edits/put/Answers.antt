use Rattle.std.proofs.Common.{ap, ◌∙◌}
use Rattle.cs_store.specs.edits.Spots.{edits_in}
use Rattle.cs_store.proofs.EditsLemmas.EditLaws.{on_err, edits_stay, edits_more, spots_stay, within_more}
use Rattle.cs_store.proofs.edits.place_edits.put.Goals as goal

pub returns-in_err-spot-clause-within : goal.returns-in_err-spot-clause-within
returns-in_err-spot-clause-within c =
    spots_stay c.args.pieces.now c.put_bytes.new.pieces c.put_bytes.ensures.grown c.args.spots.now.items c.requires

pub returns-in_err-spot-clause-err : goal.returns-in_err-spot-clause-err
returns-in_err-spot-clause-err c =
    on_err _ (edits_stay c.args.pieces.now c.put_bytes.new.pieces c.put_bytes.ensures.grown c.args.spots.now.items c.requires)

pub returns-in_err-push-clause-within : goal.returns-in_err-push-clause-within
returns-in_err-push-clause-within c =
    rw c.in_err-push.ensures.items
    (spots_stay c.args.pieces.now c.put_bytes.new.pieces c.put_bytes.ensures.grown c.args.spots.now.items c.requires)

pub returns-in_err-push-clause-err : goal.returns-in_err-push-clause-err
returns-in_err-push-clause-err c =
    on_err _ (ap (edits_in c.put_bytes.new.pieces) c.in_err-push.ensures.items
    ∙ edits_stay c.args.pieces.now c.put_bytes.new.pieces c.put_bytes.ensures.grown c.args.spots.now.items c.requires)

pub returns-clause-within : goal.returns-clause-within
returns-clause-within c =
    rw c.in_ok-push.ensures.items
    (within_more c.args.pieces.now c.put_bytes.new.pieces c.put_bytes.ensures.grown c.args.spots.now.items c.requires
    c.in_ok-spot.spot c.args.edit.now c.in_ok-spot.ensures.stands c.in_ok-spot.ensures.within)

pub returns-clause-ok : goal.returns-clause-ok
returns-clause-ok c =
    ap (edits_in c.put_bytes.new.pieces) c.in_ok-push.ensures.items
    ∙ edits_more c.args.pieces.now c.put_bytes.new.pieces c.put_bytes.ensures.grown c.args.spots.now.items c.requires
    c.in_ok-spot.spot c.args.edit.now c.in_ok-spot.ensures.stands
