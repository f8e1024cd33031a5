use Rattle.std.proofs.Common.{sym, ap, take, ◌∙◌}
use Rattle.std.proofs.lemmas.List.{take-map}
use Rattle.cs_store.specs.edits.Spots.{edits_in, edit_in}
use Rattle.cs_store.proofs.edits.place_edits.PlaceEdits.truncate.Goals as goal

pub returns : goal.returns
returns c =
    ap (edits_in c.self.inside.pieces) c.truncate.ensures.items
    ∙ sym (take-map (edit_in c.self.inside.pieces) c.args.len c.self.inside.spots.items)
    ∙ ap (take c.args.len) c.self.view_is
