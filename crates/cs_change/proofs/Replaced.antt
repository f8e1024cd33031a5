-- A change put in the place of one that has as many bytes.
use Rattle.std.proofs.Common.{◌≡◌, ℕ, ◌+◌, ◌<◌, ◌≤◌, Bool, List, [], ◌∷◌, ◌++◌, length, take, drop, get_or, set, refl, sym, ap, subst, ◌∙◌, arith, length-append, Some, zero, suc}
use Rattle.std.specs.Prelude.{slice_get}
use Rattle.std.specs.List.{AllByRecursion}
use Rattle.std.proofs.Math.Seq.{take-append_seam, drop-append_seam}
use Rattle.std.proofs.lemmas.Option.{slice_get_within, slice_get-get_or}
use Rattle.std.proofs.lemmas.List.{append_assoc, drop-drop, drop_at, get_or_at, length-take-le, set_at, take_at}
use Rattle.cs_value.specs.declared.value.Field.{Field}
use Rattle.cs_record.specs.Spelling.{record_of, row_bytes}
use Rattle.cs_record.specs.Spelled.{SpellsRecord}
use Rattle.cs_change.specs.declared.change.Change.{Change}
use Rattle.cs_change.specs.declared.change.Change.TheVariants.{Insert, Delete, Update}
use Rattle.cs_change.specs.declared.place.Place.{Place}
use Rattle.cs_change.specs.Spelling.{insert_byte, delete_byte, update_byte, flag_byte, change_spelling, changes_spelling, HasLength}
use Rattle.cs_change.specs.Listed.{one_there}
use Rattle.cs_change.specs.Then.{turned}
use Rattle.cs_change.specs.Held.{IsInRange, split_of, IsChangeIn, ArePlaces, AreHeld, overwritten, turned_byte}
use Rattle.cs_change.proofs.Packed.{IsAt, at_place, length_places}

fits_set : (changes : List Change) (index : ℕ) (change : Change) → AllByRecursion IsInRange changes → IsInRange change → AllByRecursion IsInRange (set changes index change)
fits_set [] index change all one = tt
fits_set (c ∷ cs) zero change all one = (one, all.1)
fits_set (c ∷ cs) (suc index) change all one = (all.0, fits_set cs index change all.1 one)

-- the others stay where they are
places_set : (changes : List Change) (places : List Place) (at index : ℕ) (here change : Change) (was now : Place)
    → ArePlaces at changes places → slice_get changes index ≡ Some here → slice_get places index ≡ Some was
    → length (change_spelling here) ≡ length (change_spelling change) → now.start ≡ was.start → now.split ≡ split_of change
    → ArePlaces at (set changes index change) (set places index now)
places_set [] places at index here change was now stand got place long start split = absurd (cc)
places_set (c ∷ cs) [] at index here change was now stand got place long start split = absurd stand
places_set (c ∷ cs) (p ∷ ps) at zero here change was now stand got place long start split =
    let one : c ≡ here = cc in
    let same : p ≡ was = cc in
    let size : length (change_spelling c) ≡ length (change_spelling change) = ap (λ (x : Change). length (change_spelling x)) one ∙ long in
    ((start ∙ ap (λ (x : Place). x.start) (sym same) ∙ stand.0.0, split), rw (← size) stand.1)
places_set (c ∷ cs) (p ∷ ps) at (suc index) here change was now stand got place long start split =
    (stand.0, places_set cs ps (at + length (change_spelling c)) index here change was now stand.1 got place long start split)

-- the bytes of the change there, overwritten
written_over : (before here new after : List ℕ) (start : ℕ) → start ≡ length before → length here ≡ length new → overwritten (before ++ (here ++ after)) start new ≡ before ++ (new ++ after)
written_over before here new after start begins long =
    let front : take start (before ++ (here ++ after)) ≡ before = rw begins (take-append_seam before (here ++ after)) in
    let tail : drop start (before ++ (here ++ after)) ≡ here ++ after = rw begins (drop-append_seam before (here ++ after)) in
    let behind : drop (length new) (here ++ after) ≡ after = rw (← long) (drop-append_seam here after) in
    let rest : drop (start + length new) (before ++ (here ++ after)) ≡ after = sym (drop-drop (length new) start (before ++ (here ++ after))) ∙ ap (λ (t : List ℕ). drop (length new) t) tail ∙ behind in
    rw (front, rest) refl

-- one part behind another
pub both_written : (bytes one two : List ℕ) (at behind : ℕ) → behind ≡ at + length one → at + length one ≤ length bytes → overwritten (overwritten bytes at one) behind two ≡ overwritten bytes at (one ++ two)
both_written bytes one two at behind is room =
    let front = take at bytes ++ one in
    let rest = drop (at + length one) bytes in
    let once : overwritten bytes at one ≡ front ++ rest = sym (append_assoc (take at bytes) one rest) in
    let long : length front ≡ behind = omega (arith, is, length-append (take at bytes) one, length-take-le at bytes (omega (arith, room))) in
    let kept : take behind (front ++ rest) ≡ front = take_at front rest behind long in
    let tail : drop behind (front ++ rest) ≡ rest = drop_at front rest behind long in
    let sum : at + length one + length two ≡ at + length (one ++ two) = omega (arith, length-append one two) in
    let after : drop (behind + length two) (front ++ rest) ≡ drop (at + length (one ++ two)) bytes =
    sym (drop-drop (length two) behind (front ++ rest)) ∙ ap (λ (t : List ℕ). drop (length two) t) tail
    ∙ drop-drop (length two) (at + length one) bytes ∙ ap (λ (n : ℕ). drop n bytes) sum in
    ap (λ (t : List ℕ). overwritten t behind two) once
    ∙ ap (λ (t : List ℕ). t ++ (two ++ drop (behind + length two) (front ++ rest))) kept
    ∙ ap (λ (t : List ℕ). front ++ (two ++ t)) after
    ∙ append_assoc (take at bytes) one (two ++ drop (at + length (one ++ two)) bytes)
    ∙ ap (λ (t : List ℕ). take at bytes ++ t) (sym (append_assoc one two (drop (at + length (one ++ two)) bytes)))

-- what stands there
pub place_there : (bytes : List ℕ) (places : List Place) (changes : List Change) (index : ℕ) (here : Change) → AreHeld bytes places changes → slice_get changes index ≡ Some here → (place : Place) → place ≡ get_or places index place → (slice_get places index ≡ Some place) × IsAt changes 0 place (slice_get places (suc index)) index
place_there bytes places changes index here held got place is =
    let within : index < length places = omega (arith, slice_get_within changes index here got, length_places changes places 0 held.2) in
    let at : slice_get places index ≡ Some place = slice_get-get_or places index place within ∙ ap (λ (p : Place). Some p) (sym is) in
    (at, at_place changes places 0 index place held.0 held.2 at)

pub same_there : (changes : List Change) (index : ℕ) (here found : Change) → slice_get changes index ≡ Some here → slice_get changes index ≡ Some found → found ≡ here
same_there changes index here found got is = cc

-- where the change there begins, and that it has room
pub has_room : (bytes : List ℕ) (places : List Place) (changes : List Change) (index size : ℕ) → AreHeld bytes places changes → HasLength changes index size
    → (index < length places) × ((place : Place) → place ≡ get_or places index place → place.start + size ≤ length bytes)
has_room bytes places changes index size held (here, got, long) = (
  omega (arith, slice_get_within changes index here got, length_places changes places 0 held.2),
  λ place is.
      let at = (place_there bytes places changes index here held got place is).1 in
      let before = changes_spelling at.before in
      let change = change_spelling at.change in
      let after = changes_spelling at.after in
      let same : length change ≡ size = ap (λ (c : Change). length (change_spelling c)) (same_there changes index here at.change got at.there) ∙ long in
      omega (arith, at.stands.0, ap length held.1, ap length at.parts, length-append before (change ++ after), length-append change after, same),
)

pub held_set : (bytes new spelled : List ℕ) (places : List Place) (changes : List Change) (index start split : ℕ) (change : Change) (was : Place) → AreHeld bytes places changes → HasLength changes index (length spelled) → IsChangeIn spelled split change
    → was ≡ get_or places index was → start ≡ was.start → new ≡ overwritten bytes start spelled
    → AreHeld new (set places index (record { start = start; split = split })) (set changes index change)
held_set bytes new spelled places changes index start split change was held (here, got, long) is read begins written =
    let found = place_there bytes places changes index here held got was read in
    let at = found.1 in
    let before = changes_spelling at.before in
    let old = change_spelling at.change in
    let after = changes_spelling at.after in
    let now : Place = record { start = start; split = split } in
    let same : length old ≡ length spelled = ap (λ (c : Change). length (change_spelling c)) (same_there changes index here at.change got at.there) ∙ long in
    let size_same : length (change_spelling here) ≡ length (change_spelling change) = long ∙ ap length (sym is.1) in
    let whole : bytes ≡ before ++ (old ++ after) = sym held.1 ∙ at.parts in
    let first : start ≡ length before = omega (arith, begins, at.stands.0) in
    let made : new ≡ before ++ (spelled ++ after) = written ∙ ap (λ (t : List ℕ). overwritten t start spelled) whole ∙ written_over before old spelled after start first same in (
      fits_set changes index change held.0 is.0,
      at.other change ∙ ap (λ (t : List ℕ). before ++ (t ++ after)) is.1 ∙ sym made,
      places_set changes places 0 index here change was now held.2 got found.0 size_same begins (sym is.2),
    )

-- the bytes of two records spell an update
pub update_in : (flag : Bool) (old new : List Field) (olds news : List ℕ) → SpellsRecord olds old → SpellsRecord news new → IsChangeIn (update_byte ∷ flag_byte flag ∷ (olds ++ news)) (2 + length olds) (Update flag old new)
update_in flag old new olds news is_old is_new =
    ((is_old.0, is_new.0), ap (λ (t : List ℕ). update_byte ∷ flag_byte flag ∷ (t ++ record_of new)) is_old.1 ∙ ap (λ (t : List ℕ). update_byte ∷ flag_byte flag ∷ (olds ++ t)) is_new.1, ap (λ (t : List ℕ). 2 + length t) is_old.1)

-- ---- an INSERT turned to a DELETE, or the other way round

turned_length : (change : Change) → length (change_spelling change) ≡ length (change_spelling (turned change))
turned_length (Insert flag row) = refl
turned_length (Delete flag row) = refl
turned_length (Update flag old new) = refl

turned_split : (change : Change) → split_of change ≡ split_of (turned change)
turned_split (Insert flag row) = refl
turned_split (Delete flag row) = refl
turned_split (Update flag old new) = refl

turned_fits : (change : Change) → IsInRange change → IsInRange (turned change)
turned_fits (Insert flag row) fits = fits
turned_fits (Delete flag row) fits = fits
turned_fits (Update flag old new) fits = fits

first_turned : (before rest : List ℕ) (first start : ℕ) → start ≡ length before → set (before ++ first ∷ rest) start (turned_byte (get_or (before ++ first ∷ rest) start 0)) ≡ before ++ turned_byte first ∷ rest
first_turned before rest first start begins =
    ap (λ (b : ℕ). set (before ++ first ∷ rest) start (turned_byte b)) (get_or_at before first rest 0 start (sym begins)) ∙ set_at before first rest (turned_byte first) start (sym begins)

turned_bytes : (before after : List ℕ) (change : Change) (start : ℕ) → start ≡ length before → set (before ++ (change_spelling change ++ after)) start (turned_byte (get_or (before ++ (change_spelling change ++ after)) start 0)) ≡ before ++ (change_spelling (turned change) ++ after)
turned_bytes before after (Insert flag row) start begins = first_turned before (flag_byte flag ∷ row_bytes row ++ after) insert_byte start begins
turned_bytes before after (Delete flag row) start begins = first_turned before (flag_byte flag ∷ row_bytes row ++ after) delete_byte start begins
turned_bytes before after (Update flag old new) start begins = first_turned before (flag_byte flag ∷ (record_of old ++ record_of new) ++ after) update_byte start begins

-- the places stay
same_places : (changes : List Change) (places : List Place) (at index : ℕ) (change : Change) → ArePlaces at changes places → slice_get changes index ≡ Some change → ArePlaces at (set changes index (turned change)) places
same_places [] places at index change stand got = absurd (cc)
same_places (c ∷ cs) [] at index change stand got = absurd stand
same_places (c ∷ cs) (p ∷ ps) at zero change stand got =
    let one : c ≡ change = cc in
    let size : length (change_spelling c) ≡ length (change_spelling (turned change)) = turned_length c ∙ ap (λ (x : Change). length (change_spelling (turned x))) one in
    ((stand.0.0, stand.0.1 ∙ turned_split c ∙ ap (λ (x : Change). split_of (turned x)) one), rw (← size) stand.1)
same_places (c ∷ cs) (p ∷ ps) at (suc index) change stand got =
    (stand.0, same_places cs ps (at + length (change_spelling c)) index change stand.1 got)

takes_bytes : (change : Change) → 0 < length (change_spelling change)
takes_bytes (Insert flag row) = omega arith
takes_bytes (Delete flag row) = omega arith
takes_bytes (Update flag old new) = omega arith

-- a place is there
pub begins_within : (bytes : List ℕ) (places : List Place) (changes : List Change) (index : ℕ) → AreHeld bytes places changes → index < length changes
    → (index < length places) × ((place : Place) → place ≡ get_or places index place → place.start < length bytes)
begins_within bytes places changes index held within =
    let here = one_there changes index within in
    let room = has_room bytes places changes index (length (change_spelling here.0)) held (here.0, here.1, refl) in
    (room.0, λ place is. omega (arith, room.1 place is, takes_bytes here.0))

pub held_turned : (bytes new : List ℕ) (places : List Place) (changes : List Change) (index start : ℕ) (change : Change) (was : Place) → AreHeld bytes places changes → slice_get changes index ≡ Some change
    → was ≡ get_or places index was → start ≡ was.start → new ≡ set bytes start (turned_byte (get_or bytes start 0))
    → AreHeld new places (set changes index (turned change))
held_turned bytes new places changes index start change was held got read begins written =
    let found = place_there bytes places changes index change held got was read in
    let at = found.1 in
    let before = changes_spelling at.before in
    let after = changes_spelling at.after in
    let same = same_there changes index change at.change got at.there in
    let whole : bytes ≡ before ++ (change_spelling at.change ++ after) = sym held.1 ∙ at.parts in
    let first : start ≡ length before = omega (arith, begins, at.stands.0) in
    let made : new ≡ before ++ (change_spelling (turned at.change) ++ after) = written ∙ ap (λ (t : List ℕ). set t start (turned_byte (get_or t start 0))) whole ∙ turned_bytes before after at.change start first in (
      fits_set changes index (turned change) held.0 (subst (λ (x : Change). IsInRange (turned x)) same (turned_fits at.change at.fits)),
      at.other (turned change) ∙ ap (λ (x : Change). before ++ (change_spelling (turned x) ++ after)) (sym same) ∙ sym made,
      same_places changes places 0 index change held.2 got,
    )
