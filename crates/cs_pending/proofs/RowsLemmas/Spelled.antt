-- Rows behind their keys and what spells them: what is found, and that they rise alike.
use Rattle.std.proofs.Common.{◌≡◌, ◌<◌, ◌+◌, ◌++◌, ◌&&◌, ◌∙◌, ℕ, Bool, List, [], ◌∷◌, Option, Some, None, cond, length, get_or, map, option_map, take, T, true, false, refl, sym, ap, ap₂, subst}
use Rattle.std.specs.Prelude.{slice_get, IfSome, Contains}
use Rattle.std.specs.FinMap.{find, is_sorted}
use Rattle.std.specs.FinMap.Entries.{below_all}
use Rattle.std.specs.List.{AllByRecursion}
use Rattle.std.specs.Ordering.{is_eq, is_lt}
use Rattle.std.proofs.lemmas.List.{map-append, take_more}
use Rattle.std.proofs.lemmas.Option.{same_Some}
use Rattle.cs_order.specs.Order.{by_bytes}
use Rattle.cs_pending.specs.Spots.{all_both}
use Rattle.cs_change.specs.Spelling.{FitsRow}
use Rattle.cs_record.specs.Laws.{OneSpelledRow}
use Rattle.cs_record.specs.Spelling.{row_bytes}
use Rattle.cs_store.specs.Contents.{Contents, IsListing}
use Rattle.cs_store.specs.Written.{pairs_of}
use Rattle.cs_store.specs.declared.store.StoredBody.{StoredBody}
use Rattle.cs_value.specs.Key.{Place}
use Rattle.cs_value.specs.declared.value.Value.{Value}
use Rattle.cs_value.specs.Catalog.{AreTables}
use Rattle.cs_value.specs.Laws.{OnePlaceOfName}
use Rattle.cs_value.specs.declared.catalog.TableDef.{TableDef}
use Rattle.cs_normal.specs.State.{MayStandAt}
use Rattle.cs_pending.specs.NormalTasks.{one_table}
use Rattle.cs_pending.specs.OnePlace.{contained}
use Rattle.cs_pending.specs.Shows.{ShowsRows}
use Rattle.cs_pending.specs.View.{View}
use Rattle.cs_pending.specs.rows.Listings.{each_found}
use Rattle.cs_pending.specs.rows.Rows.{AreRowsOf}
use Rattle.cs_pending.specs.rows.Steps.{AreSpelled, IsRowBody, spelled}

abbrev pub Rows : Type 0
Rows = List (List ℕ × List Value)

-- ---- one more

pub spelled_more : (columns : ℕ) (listed : List StoredBody) (i : ℕ) (stored : StoredBody) (rows now : Rows) (row : List ℕ × List Value) → i < length listed → stored ≡ get_or listed i stored
    → now ≡ rows ++ row ∷ [] → AreSpelled columns (take i listed) rows → AreSpelled columns (stored ∷ []) (row ∷ []) → AreSpelled columns (take (i + 1) listed) now
spelled_more columns listed i stored rows now row less is grown so_far one =
    let more : take (i + 1) listed ≡ take i listed ++ stored ∷ [] = take_more listed i stored less ∙ ap (λ (s : StoredBody). take i listed ++ s ∷ []) (sym is) in (
      ap (λ (rs : Rows). map spelled rs) grown ∙ map-append spelled rows (row ∷ []) ∙ ap₂ (λ (a b : List (List ℕ × List ℕ)). a ++ b) so_far.0 one.0
          ∙ sym (map-append (λ (s : StoredBody). (s.key.items, s.body.items)) (take i listed) (stored ∷ []))
          ∙ ap (λ (ls : List StoredBody). pairs_of ls) (sym more),
      subst (λ (rs : Rows). AllByRecursion (λ (r : List ℕ × List Value). FitsRow columns r.1) rs) (sym grown)
          (all_both (λ (r : List ℕ × List Value). FitsRow columns r.1) rows (row ∷ []) so_far.1 one.1),
    )

-- ---- keys rise alike, and the same is found

below_alike : (key : List ℕ) (rows : Rows) → below_all by_bytes key (map spelled rows) ≡ below_all by_bytes key rows
below_alike key [] = refl
below_alike key (row ∷ rows) = ap (λ (b : Bool). is_lt (by_bytes key row.0) && b) (below_alike key rows)

pub rise_alike : (rows : Rows) → is_sorted by_bytes (map spelled rows) ≡ is_sorted by_bytes rows
rise_alike [] = refl
rise_alike (row ∷ rows) = ap₂ (λ (a b : Bool). a && b) (below_alike row.0 rows) (rise_alike rows)

found_cond : (b : Bool) (row : List Value) (rest : Place) (other : Option (List ℕ)) → other ≡ option_map row_bytes rest → cond b (Some (row_bytes row)) other ≡ option_map row_bytes (cond b (Some row) rest)
found_cond true row rest other is = refl
found_cond false row rest other is = is

pub found_alike : (key : List ℕ) (rows : Rows) → find by_bytes key (map spelled rows) ≡ option_map row_bytes (find by_bytes key rows)
found_alike key [] = refl
found_alike key (row ∷ rows) = found_cond (is_eq (by_bytes key row.0)) row.1 (find by_bytes key rows) (find by_bytes key (map spelled rows)) (found_alike key rows)

fits_cond : (columns : ℕ) (b : Bool) (row : List Value) (rest : Place) → FitsRow columns row → IfSome rest (FitsRow columns) → IfSome (cond b (Some row) rest) (FitsRow columns)
fits_cond columns true row rest fits others = fits
fits_cond columns false row rest fits others = others

pub found_fits : (columns : ℕ) (key : List ℕ) (rows : Rows) → AllByRecursion (λ (r : List ℕ × List Value). FitsRow columns r.1) rows → IfSome (find by_bytes key rows) (FitsRow columns)
found_fits columns key [] all = tt
found_fits columns key (row ∷ rows) all = fits_cond columns (is_eq (by_bytes key row.0)) row.1 (find by_bytes key rows) all.0 (found_fits columns key rows all.1)

-- ---- what is spelled alike is the same

pub same_place_of : OneSpelledRow → (columns : ℕ) (some other : Place) → IfSome some (FitsRow columns) → IfSome other (FitsRow columns) → option_map row_bytes some ≡ option_map row_bytes other → some ≡ other
same_place_of one columns None None a b is = refl
same_place_of one columns None (Some row) a b is = absurd cc
same_place_of one columns (Some row) None a b is = absurd cc
same_place_of one columns (Some row) (Some other) a b is =
    ap (λ (r : List Value). Some r) (one row other a.1 b.1 (same_Some (row_bytes row) (row_bytes other) is))

pub are_rows : OneSpelledRow → (columns : ℕ) (held : List ℕ → Place) (table : List ℕ → Option (List ℕ)) (listed : List StoredBody) (rows : Rows)
    → IsListing table (pairs_of listed) → ((key : List ℕ) → table key ≡ option_map row_bytes (held key)) → ((key : List ℕ) → IfSome (held key) (FitsRow columns)) → AreSpelled columns listed rows
    → AreRowsOf held rows
are_rows one columns held table listed rows listing stored fits are = record {
  rises = subst (λ (b : Bool). T b) (ap (λ (ps : List (List ℕ × List ℕ)). is_sorted by_bytes ps) (sym are.0) ∙ rise_alike rows) listing.rises;
  found = λ key.
      same_place_of one columns (find by_bytes key rows) (held key) (found_fits columns key rows are.1) (fits key)
      (sym (found_alike key rows) ∙ ap (λ (ps : List (List ℕ × List ℕ)). find by_bytes key ps) are.0 ∙ listing.found key ∙ stored key);
}

-- ---- what a store that shows rows lists

fits_of : OnePlaceOfName → (tables : List TableDef) → AreTables tables → (table : TableDef) → Contains tables table → (key : List ℕ) (place : Place) → MayStandAt tables table.name key place → IfSome place (FitsRow (length table.key_marks))
fits_of one tables are table inside key None stands = tt
fits_of one tables are table inside key (Some row) (t, among, named, is) =
    subst (λ (u : TableDef). FitsRow (length u.key_marks) row) (one_table one tables t table are among inside named) is.fits

pub shown_fits : OnePlaceOfName → (tables : List TableDef) → AreTables tables → (number : ℕ) (table : TableDef) → slice_get tables number ≡ Some table → (contents : Contents) (view : View) → ShowsRows tables contents view
    → (key : List ℕ) → IfSome (view.tables table.name key) (FitsRow (length table.key_marks))
shown_fits one tables are number table at contents view shows key =
    fits_of one tables are table (contained tables number table at) key (view.tables table.name key) (shows.rows.rows table.name key)

is_body : (columns : ℕ) (stored : Option (List ℕ)) (place : Place) (body : List ℕ) → stored ≡ option_map row_bytes place → IfSome place (FitsRow columns) → stored ≡ Some body → (row : List Value) × FitsRow columns row × (body ≡ row_bytes row)
is_body columns stored None body is fits there = absurd (let no = sym is ∙ there in cc)
is_body columns stored (Some row) body is fits there = (row, fits, same_Some body (row_bytes row) (sym there ∙ is))

-- each body that is listed is a row
pub all_bodies : (columns : ℕ) (held : List ℕ → Place) (table : List ℕ → Option (List ℕ)) (listed : List StoredBody) → IsListing table (pairs_of listed) → ((key : List ℕ) → table key ≡ option_map row_bytes (held key)) → ((key : List ℕ) → IfSome (held key) (FitsRow columns))
    → AllByRecursion (IsRowBody columns) listed
all_bodies columns held table listed listing stored fits =
    of_pairs listed (each_found (λ key body. (row : List Value) × FitsRow columns row × (body ≡ row_bytes row)) (pairs_of listed) listing.rises
    (λ key body is. is_body columns (table key) (held key) body (stored key) (fits key) (sym (listing.found key) ∙ is)))
  where
    of_pairs : (bodies : List StoredBody) → AllByRecursion (λ (pair : List ℕ × List ℕ). (row : List Value) × FitsRow columns row × (pair.1 ≡ row_bytes row)) (pairs_of bodies) → AllByRecursion (IsRowBody columns) bodies
    of_pairs [] all = tt
    of_pairs (body ∷ bodies) all = (all.0, of_pairs bodies all.1)
