-- Edits in pieces of memory.
use Rattle.std.proofs.Common.{◌≡◌, ℕ, suc, ◌+◌, ◌-◌, ◌≤◌, ◌<◌, Bool, true, false, List, [], ◌∷◌, ◌++◌, Some, None, option_map, length, take, drop, refl, sym, ap, ◌∙◌, arith, length-append}
use Rattle.std.specs.List.{All, slice_range}
use Rattle.std.proofs.lemmas.List.{length-drop, drop-append-le, take-append-le, map-append, map-set, take-map, drop-map}
use Rattle.std.proofs.lemmas.List.Elements.{All-push}
use Rattle.std.proofs.lemmas.Option.{same_Some, slice_get-map}
use Rattle.std.specs.Prelude.{Result, Ok, Err, OnErr, MatchBool, slice_get, slice_set, slice_index_or, if◌then◌else◌}
use Rattle.cs_store.specs.edits.Edits.{BodyEdit}
use Rattle.cs_store.specs.edits.Pieces.{HaveGrown}
use Rattle.cs_store.specs.edits.Spots.{IsEditSpotIn, edit_in, edits_in, is_clear, piece_of}
use Rattle.cs_store.specs.declared.edits.lent_edits.EditSpot.{EditSpot}

slice_kept : (a b : List ℕ) (s e : ℕ) → s ≤ e → e ≤ length a → slice_range (a ++ b) s e ≡ slice_range a s e
slice_kept a b s e within bound =
    ap (take (e - s)) (drop-append-le s a b (omega arith)) ∙ take-append-le (e - s) (drop s a) b (omega (arith, length-drop s a))

all_tail : {X : Type 0} (P : X → Type 0) (x : X) (xs : List X) → All P (x ∷ xs) → All P xs
all_tail P x xs h = λ k d less. h (suc k) d (omega (arith, less))

-- a body stays where bytes more stand behind its piece
body_kept : (clear : Bool) (piece more : List ℕ) (body past : ℕ)
    → MatchBool clear (Unit {0}) ((body < past) × (past ≤ length piece + 1))
    → (if clear then None else Some (slice_range (piece ++ more) body (past - 1))) ≡ (if clear then None else Some (slice_range piece body (past - 1)))
body_kept true piece more body past within = refl
body_kept false piece more body past within = ap (λ b. Some b) (slice_kept piece more body (past - 1) (omega (arith, within.0)) (omega (arith, within.0, within.1)))

-- so does what is said of where it stands
within_kept : (clear : Bool) (short long body past : ℕ) → short ≤ long
    → MatchBool clear (Unit {0}) ((body < past) × (past ≤ short + 1)) → MatchBool clear (Unit {0}) ((body < past) × (past ≤ long + 1))
within_kept true short long body past less within = tt
within_kept false short long body past less within = (within.0, omega (arith, less, within.1))

module _ (old new : List (List ℕ)) (grown : HaveGrown old new) where
  -- an edit stays where bytes more stand behind its piece
  edit_kept : (spot : EditSpot) → IsEditSpotIn old spot → edit_in new spot ≡ edit_in old spot
  edit_kept spot within =
      let more = grown.1 spot.piece within.0 in
      let key = slice_kept (piece_of old spot) more.0 spot.key spot.body within.1 within.2 in
      let body = body_kept (is_clear spot) (piece_of old spot) more.0 spot.body spot.past within.3 in
      rw more.1 (rw (key, body) refl)

  spot_kept : (spot : EditSpot) → IsEditSpotIn old spot → IsEditSpotIn new spot
  spot_kept spot within =
      let more = grown.1 spot.piece within.0 in
      let longer : length (piece_of old spot) ≤ length (piece_of new spot) =
      omega (arith, ap length more.1, length-append (piece_of old spot) more.0) in (
        omega (arith, within.0, grown.0),
        within.1,
        omega (arith, within.2, longer),
        within_kept (is_clear spot) (length (piece_of old spot)) (length (piece_of new spot)) spot.body spot.past longer within.3,
      )

  -- the edits stay
  pub edits_stay : (spots : List EditSpot) → All (IsEditSpotIn old) spots → edits_in new spots ≡ edits_in old spots
  edits_stay [] within = refl
  edits_stay (spot ∷ spots) within =
      let one = edit_kept spot (within 0 spot (omega arith)) in
      let rest = edits_stay spots (all_tail (IsEditSpotIn old) spot spots within) in
      cc

  pub spots_stay : (spots : List EditSpot) → All (IsEditSpotIn old) spots → All (IsEditSpotIn new) spots
  spots_stay spots within = λ k d less. spot_kept (slice_index_or spots k d) (within k d less)

  -- an edit more, whose bytes are there
  module _ (spots : List EditSpot) (within : All (IsEditSpotIn old) spots) (spot : EditSpot) (edit : BodyEdit) (stands : edit_in new spot ≡ edit) where
    pub edits_more : edits_in new (spots ++ spot ∷ []) ≡ edits_in old spots ++ edit ∷ []
    edits_more =
        map-append (edit_in new) spots (spot ∷ [])
        ∙ ap (λ es. es ++ edit_in new spot ∷ []) (edits_stay spots within)
        ∙ ap (λ e. edits_in old spots ++ e ∷ []) stands

    -- an edit in place of another
    pub edits_set : (at : ℕ) → edits_in new (slice_set spots at spot) ≡ slice_set (edits_in old spots) at edit
    edits_set at =
        map-set (edit_in new) spots at spot
        ∙ ap (λ es. slice_set es at (edit_in new spot)) (edits_stay spots within)
        ∙ ap (slice_set (edits_in old spots) at) stands

    pub within_more : IsEditSpotIn new spot → All (IsEditSpotIn new) (spots ++ spot ∷ [])
    within_more here = All-push (IsEditSpotIn new) spots spot (spots_stay spots within) here

-- the edits at some of the spots
pub edits_part : (pieces : List (List ℕ)) (spots : List EditSpot) (from to : ℕ) → edits_in pieces (slice_range spots from to) ≡ slice_range (edits_in pieces spots) from to
edits_part pieces spots from to =
    sym (take-map (edit_in pieces) (to - from) (drop from spots)) ∙ ap (take (to - from)) (sym (drop-map (edit_in pieces) from spots))

-- what is told of an `Err`
pub on_err : {T E P : Type 0} (result : Result T E) → P → OnErr result P
on_err (Ok value) told = tt
on_err (Err why) told = told

-- an edit is put also at another place
pub edits_copied : (pieces : List (List ℕ)) (spots : List EditSpot) (from to : ℕ) (spot : EditSpot) (edit : BodyEdit) → slice_get spots from ≡ Some spot
    → slice_get (edits_in pieces spots) from ≡ Some edit → edits_in pieces (slice_set spots to spot) ≡ slice_set (edits_in pieces spots) to edit
edits_copied pieces spots from to spot edit there is =
    let same : edit_in pieces spot ≡ edit = same_Some _ _ (ap (option_map (edit_in pieces)) (sym there) ∙ sym (slice_get-map (edit_in pieces) spots from) ∙ is) in
    map-set (edit_in pieces) spots to spot ∙ ap (slice_set (edits_in pieces spots) to) same
