-- Changes in their bytes, with more columns.
use Rattle.std.proofs.Common.{◌≡◌, ◌<◌, ◌≤◌, ◌+◌, ◌-◌, ◌∙◌, ◌++◌, ◌&&◌, ℕ, Bool, List, [], ◌∷◌, cond, get_or, length, map, replicate, take, Option, Some, option_map, refl, ap, ap₂, sym, arith, true, false}
use Rattle.std.specs.Prelude.{IfSome}
use Rattle.std.specs.FinMap.{find, is_sorted}
use Rattle.std.specs.FinMap.Entries.{below_all}
use Rattle.std.specs.List.{AllByRecursion}
use Rattle.std.specs.Ordering.{is_eq, is_lt}
use Rattle.std.proofs.lemmas.List.{append-nil, length-append, length-replicate, map-append, take_more}
use Rattle.cs_value.specs.declared.value.Field.{Field}
use Rattle.cs_value.specs.declared.value.Value.{Value}
use Rattle.cs_change.specs.Spelling.{AreUpdateColumns, FitsChange, change_spelling, delete_byte, flag_byte, insert_byte, update_byte}
use Rattle.cs_change.specs.declared.change.Change.{Change}
use Rattle.cs_change.specs.declared.change.Change.TheVariants.{Insert, Delete, Update}
use Rattle.cs_changeset.specs.Laws.{ChangesApart}
use Rattle.cs_order.specs.Order.{by_bytes}
use Rattle.cs_pending.specs.Spots.{all_both}
use Rattle.cs_record.specs.Spelling.{null_type, record_of, row_bytes, undefined_type}
use Rattle.cs_store.specs.Written.{pairs_of}
use Rattle.cs_store.specs.declared.store.StoredBody.{StoredBody}
use Rattle.cs_store.specs.edits.Edits.{BodyEdit}
use Rattle.cs_widening.specs.Laws.{BytesWiden}
use Rattle.cs_widening.specs.Widening.{widened_change, widened_fields, widened_row}
use Rattle.cs_padding.specs.Steps.{ArePadded, padded_change, spelled}

abbrev pub Keyed : Type 0
Keyed = List (List ℕ × Change)

-- ---- one more that was padded

pub padded_more : (marks : List Bool) (nulls undefined : List ℕ) (number : ℕ) (listed : List StoredBody) (i : ℕ) (stored : StoredBody) (edits now : List BodyEdit) (change : Change)
    → i < length listed → stored ≡ get_or listed i stored
    → now ≡ edits ++ record { table = number; key = stored.key.items; body = Some (padded_change nulls undefined change) } ∷ []
    → ArePadded marks nulls undefined number (take i listed) edits → FitsChange marks change → stored.body.items ≡ change_spelling change
    → ArePadded marks nulls undefined number (take (i + 1) listed) now
padded_more marks nulls undefined number listed i stored edits now change less is grown (changes, listed_are, edits_are, fit) fits one =
    let more : take (i + 1) listed ≡ take i listed ++ stored ∷ [] = take_more listed i stored less ∙ ap (λ (s : StoredBody). take i listed ++ s ∷ []) (sym is) in
    let last : List ℕ × Change = (stored.key.items, change) in (
      changes ++ last ∷ [],
      map-append spelled changes (last ∷ [])
          ∙ ap₂ (λ (a b : List (List ℕ × List ℕ)). a ++ b) listed_are (ap (λ (b : List ℕ). (stored.key.items, b) ∷ []) (sym one))
          ∙ sym (map-append (λ (s : StoredBody). (s.key.items, s.body.items)) (take i listed) (stored ∷ []))
          ∙ ap (λ (ls : List StoredBody). pairs_of ls) (sym more),
      grown ∙ ap (λ (es : List BodyEdit). es ++ record { table = number; key = stored.key.items; body = Some (padded_change nulls undefined change) } ∷ []) edits_are
          ∙ sym (map-append (λ (row : List ℕ × Change). record { table = number; key = row.0; body = Some (padded_change nulls undefined row.1) }) changes (last ∷ [])),
      all_both (λ (keyed : List ℕ × Change). FitsChange marks keyed.1) changes (last ∷ []) fit (fits, tt),
    )

-- ---- a list of changes and what spells them

below_alike : (key : List ℕ) (rows : Keyed) → below_all by_bytes key (map spelled rows) ≡ below_all by_bytes key rows
below_alike key [] = refl
below_alike key (row ∷ rows) = ap (λ (b : Bool). is_lt (by_bytes key row.0) && b) (below_alike key rows)

pub rise_alike : (rows : Keyed) → is_sorted by_bytes (map spelled rows) ≡ is_sorted by_bytes rows
rise_alike [] = refl
rise_alike (row ∷ rows) = ap₂ (λ (a b : Bool). a && b) (below_alike row.0 rows) (rise_alike rows)

found_cond : (b : Bool) (change : Change) (rest : Option Change) (other : Option (List ℕ)) → other ≡ option_map change_spelling rest
    → cond b (Some (change_spelling change)) other ≡ option_map change_spelling (cond b (Some change) rest)
found_cond true change rest other is = refl
found_cond false change rest other is = is

pub found_alike : (key : List ℕ) (rows : Keyed) → find by_bytes key (map spelled rows) ≡ option_map change_spelling (find by_bytes key rows)
found_alike key [] = refl
found_alike key (row ∷ rows) = found_cond (is_eq (by_bytes key row.0)) row.1 (find by_bytes key rows) (find by_bytes key (map spelled rows)) (found_alike key rows)

fits_cond : (marks : List Bool) (b : Bool) (change : Change) (rest : Option Change) → FitsChange marks change → IfSome rest (FitsChange marks) → IfSome (cond b (Some change) rest) (FitsChange marks)
fits_cond marks true change rest fits others = fits
fits_cond marks false change rest fits others = others

pub found_fits : (marks : List Bool) (key : List ℕ) (rows : Keyed) → AllByRecursion (λ (keyed : List ℕ × Change). FitsChange marks keyed.1) rows → IfSome (find by_bytes key rows) (FitsChange marks)
found_fits marks key [] all = tt
found_fits marks key (row ∷ rows) all = fits_cond marks (is_eq (by_bytes key row.0)) row.1 (find by_bytes key rows) all.0 (found_fits marks key rows all.1)

-- ---- a change with more columns

one_longer : (marks : List Bool) (old new : List Field) (m : Bool) (o n : Field) → (length old ≡ length marks) × (length new ≡ length marks)
    → (length (o ∷ old) ≡ length (m ∷ marks)) × (length (n ∷ new) ≡ length (m ∷ marks))
one_longer marks old new m o n are = (omega (arith, are.0), omega (arith, are.1))

pub level : (marks : List Bool) (old new : List Field) → AreUpdateColumns marks old new → (length old ≡ length marks) × (length new ≡ length marks)
level [] [] [] are = (refl, refl)
level (m ∷ marks) (o ∷ old) (n ∷ new) are = one_longer marks old new m o n (level marks old new are.1)
level [] [] (n ∷ new) are = absurd are
level [] (o ∷ old) new are = absurd are
level (m ∷ marks) [] new are = absurd are
level (m ∷ marks) (o ∷ old) [] are = absurd are

module _ (bytes : BytesWiden) (width : ℕ) where
  wide_row : (columns : ℕ) (row : List Value) → length row ≡ columns → row_bytes row ++ replicate (width - columns) null_type ≡ row_bytes (widened_row width row)
  wide_row columns row long = ap (λ (n : ℕ). row_bytes row ++ replicate (width - n) null_type) (sym long) ∙ sym (bytes width row []).0

  wide_fields : (columns : ℕ) (fields : List Field) → length fields ≡ columns → record_of fields ++ replicate (width - columns) undefined_type ≡ record_of (widened_fields width fields)
  wide_fields columns fields long = ap (λ (n : ℕ). record_of fields ++ replicate (width - n) undefined_type) (sym long) ∙ sym (bytes width [] fields).1

  -- the padded bytes spell it
  pub wide_change : (marks : List Bool) (change : Change) → FitsChange marks change
      → padded_change (replicate (width - length marks) null_type) (replicate (width - length marks) undefined_type) change ≡ change_spelling (widened_change width change)
  wide_change marks (Insert flag new) fits = ap (λ (b : List ℕ). insert_byte ∷ flag_byte flag ∷ b) (wide_row (length marks) new fits.0)
  wide_change marks (Delete flag old) fits = ap (λ (b : List ℕ). delete_byte ∷ flag_byte flag ∷ b) (wide_row (length marks) old fits.0)
  wide_change marks (Update flag old new) fits =
      let long = level marks old new fits.0 in
      ap₂ (λ (a b : List ℕ). update_byte ∷ flag_byte flag ∷ (a ++ b)) (wide_fields (length marks) old long.0) (wide_fields (length marks) new long.1)

nothing_padded : (change : Change) → padded_change [] [] change ≡ change_spelling change
nothing_padded (Insert flag new) = ap (λ (b : List ℕ). insert_byte ∷ flag_byte flag ∷ b) (append-nil (row_bytes new))
nothing_padded (Delete flag old) = ap (λ (b : List ℕ). delete_byte ∷ flag_byte flag ∷ b) (append-nil (row_bytes old))
nothing_padded (Update flag old new) = ap₂ (λ (a b : List ℕ). update_byte ∷ flag_byte flag ∷ (a ++ b)) (append-nil (record_of old)) (append-nil (record_of new))

-- where the table has as many columns, nothing changes
pub kept_change : BytesWiden → (width : ℕ) (marks : List Bool) (change : Change) → FitsChange marks change → width ≤ length marks → change_spelling change ≡ change_spelling (widened_change width change)
kept_change bytes width marks change fits enough =
    let none : 0 ≡ width - length marks = omega (arith, enough) in
    sym (nothing_padded change) ∙ ap (λ (n : ℕ). padded_change (replicate n null_type) (replicate n undefined_type) change) none ∙ wide_change bytes width marks change fits

-- with more columns a change has more bytes
pub longer : (count : ℕ) (change : Change) → 0 < count → padded_change (replicate count null_type) (replicate count undefined_type) change ≡ change_spelling change → ⊥
longer count (Insert flag new) some same =
    let long = ap (λ (b : List ℕ). length b) same in
    let both = length-append (row_bytes new) (replicate count null_type) in
    let n = length-replicate count null_type in
    omega (arith, long, both, n, some)
longer count (Delete flag old) some same =
    let long = ap (λ (b : List ℕ). length b) same in
    let both = length-append (row_bytes old) (replicate count null_type) in
    let n = length-replicate count null_type in
    omega (arith, long, both, n, some)
longer count (Update flag old new) some same =
    let more = replicate count undefined_type in
    let long = ap (λ (b : List ℕ). length b) same in
    let all = length-append (record_of old ++ more) (record_of new ++ more) in
    let left = length-append (record_of old) more in
    let right = length-append (record_of new) more in
    let both = length-append (record_of old) (record_of new) in
    let n = length-replicate count undefined_type in
    omega (arith, long, all, left, right, both, n, some)

-- changes that are spelled alike are the same
pub same_change : ChangesApart → (marks : List Bool) (some other : Change) → FitsChange marks some → FitsChange marks other → change_spelling some ≡ change_spelling other → some ≡ other
same_change apart marks some other fits suits is = (apart marks some other [] [] fits suits (ap (λ (b : List ℕ). b ++ []) is)).0
