use Rattle.std.proofs.lemmas.List.Elements.{All-set}
use Rattle.cs_store.specs.edits.Spots.{IsEditSpotIn}
use Rattle.cs_store.proofs.EditsLemmas.EditLaws.{on_err, edits_stay, edits_set, spots_stay}
use Rattle.cs_store.proofs.edits.place_edits.set.Goals as goal

pub returns-in_err-spots-clause-within : goal.returns-in_err-spots-clause-within
returns-in_err-spots-clause-within c =
    spots_stay c.args.pieces.now c.put_bytes.new.pieces c.put_bytes.ensures.grown c.args.spots.now c.requires.spots

pub returns-in_err-spots-clause-err : goal.returns-in_err-spots-clause-err
returns-in_err-spots-clause-err c =
    on_err _ (edits_stay c.args.pieces.now c.put_bytes.new.pieces c.put_bytes.ensures.grown c.args.spots.now c.requires.spots)

pub returns-clause-within : goal.returns-clause-within
returns-clause-within c =
    All-set (IsEditSpotIn c.put_bytes.new.pieces) c.args.spots.now c.args.at c.in_ok-spots.field-0 c.in_ok-spots.ensures.within
    (spots_stay c.args.pieces.now c.put_bytes.new.pieces c.put_bytes.ensures.grown c.args.spots.now c.requires.spots)

pub returns-clause-ok : goal.returns-clause-ok
returns-clause-ok c =
    edits_set c.args.pieces.now c.put_bytes.new.pieces c.put_bytes.ensures.grown c.args.spots.now c.requires.spots
    c.in_ok-spots.field-0 c.args.edit.now c.in_ok-spots.ensures.stands c.args.at
