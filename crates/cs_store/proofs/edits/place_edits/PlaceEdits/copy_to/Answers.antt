use Rattle.std.proofs.Common.{◌<◌, Some, length, sym, ap, ◌∙◌, arith}
use Rattle.std.specs.Prelude.{slice_get, slice_set}
use Rattle.std.proofs.lemmas.List.{length-map}
use Rattle.std.proofs.lemmas.Option.{slice_get-get_or}
use Rattle.cs_store.specs.edits.Spots.{edit_in}
use Rattle.cs_store.proofs.EditsLemmas.EditLaws.{edits_copied}
use Rattle.cs_store.proofs.edits.place_edits.PlaceEdits.copy_to.Goals as goal

pub returns : goal.returns
returns c = λ edit is.
    let pieces = c.self.inside.pieces in
    let spots = c.self.inside.spots.items in
    let within : c.args.from < length spots = omega (arith, c.requires.from, ap length c.self.view_is, length-map spots (edit_in pieces)) in
    let there = slice_get-get_or spots c.args.from c.index.result.now within ∙ ap (λ spot. Some spot) (sym c.index.ensures) in
    edits_copied pieces spots c.args.from c.args.to c.index.result.now edit there (ap (λ edits. slice_get edits c.args.from) c.self.view_is ∙ is)
    ∙ ap (λ edits. slice_set edits c.args.to edit) c.self.view_is
