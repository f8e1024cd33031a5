use Rattle.std.proofs.Common.{◌≡◌, ◌⊎◌, List, drop, take, sym, subst, ◌∙◌}
use Rattle.std.proofs.lemmas.List.{take-append-drop}
use Rattle.std.specs.List.{All}
use Rattle.std.specs.Prelude.{length}
use Rattle.cs_leaf.specs.Entries.{IsFrontOf, IsSpotIn, IsTight, entries_at}
use Rattle.cs_leaf.specs.declared.leaf.Spot.{Spot}
use Rattle.cs_leaf.proofs.Packing.{front_stays, spots_kept, spots_still_in}
use Rattle.cs_leaf.proofs.leaf.Amendment.make.Goals as goal

pub invariant_of-result : goal.invariant_of-result
invariant_of-result c =
    let was = c.self.invariant in
    let bytes = c.self.inside.bytes.items in
    let spots = c.self.inside.spots.items in
    let held = c.self.inside.held in
    let within : All (IsSpotIn bytes) spots = spots_kept (take held bytes) (drop held bytes) bytes spots was.0.0 (sym (take-append-drop held bytes)) in (
      subst (All (IsSpotIn bytes)) (sym c.edit_spots.ensures) (spots_still_in bytes spots c.self.inside.at c.self.inside.spot_edit within was.1),
      subst (IsFrontOf c.note_front.new.front) c.as_slice.ensures.value c.note_front.ensures,
      subst (λ (all : List Spot). IsTight c.self.inside.used_after (length bytes) (entries_at bytes all)) (sym c.edit_spots.ensures) was.4,
    )

pub note_front-requires : goal.note_front-requires
note_front-requires c =
    let was = c.self.inside in
    subst (λ (spots : List Spot). (was.at ≡ 0) ⊎ IsFrontOf was.front spots) (sym (c.as_slice.ensures.value ∙ c.edit_spots.ensures))
    (front_stays was.front was.spots.items was.at was.spot_edit c.self.invariant.0.1 c.self.invariant.2)
