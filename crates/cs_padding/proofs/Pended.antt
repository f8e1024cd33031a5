-- The edits by which the pending changes of a table get more columns.
use Rattle.std.proofs.Common.{◌≡◌, ◌≢◌, ◌<◌, ◌≤◌, ◌-◌, ◌∙◌, ℕ, Bool, List, [], ◌∷◌, length, map, replicate, Option, Some, None, option_map, T, refl, ap, subst, sym, arith}
use Rattle.std.specs.Prelude.{slice_get, IfSome}
use Rattle.std.specs.FinMap.{find, is_sorted}
use Rattle.std.specs.List.{All, AllByRecursion}
use Rattle.std.specs.Str.{bytes_eq}
use Rattle.std.proofs.lemmas.List.{length-map}
use Rattle.std.proofs.lemmas.List.Elements.{All-contains, All-from_recursion}
use Rattle.std.proofs.lemmas.Option.{same_Some, slice_get_within}
use Rattle.cs_value.specs.Catalog.{AreTables}
use Rattle.cs_value.specs.Facts.{by_test, some_same}
use Rattle.cs_value.specs.Laws.{OnePlaceOfName}
use Rattle.cs_value.specs.declared.catalog.TableDef.{TableDef}
use Rattle.cs_change.specs.Spelling.{FitsChange, change_spelling}
use Rattle.cs_change.specs.declared.change.Change.{Change}
use Rattle.cs_changeset.specs.Laws.{ChangesApart}
use Rattle.cs_order.specs.Order.{by_bytes}
use Rattle.cs_record.specs.Spelling.{null_type, undefined_type}
use Rattle.cs_store.specs.Contents.{Contents, IsListing, stored_pending}
use Rattle.cs_store.specs.Laws.{row_after}
use Rattle.cs_store.specs.Written.{pairs_of}
use Rattle.cs_store.specs.declared.store.StoredBody.{StoredBody}
use Rattle.cs_store.specs.edits.Edits.{BodyEdit}
use Rattle.cs_pending.specs.OnePlace.{contained}
use Rattle.cs_pending.specs.Shows.{Pends}
use Rattle.cs_pending.specs.Spots.{name_is, name_not}
use Rattle.cs_pending.specs.View.{Changed}
use Rattle.cs_pending.specs.rows.Listings.{each_found}
use Rattle.cs_widening.specs.Laws.{BytesWiden}
use Rattle.cs_widening.specs.Widening.{widened_change, widened_table, widened_tables}
use Rattle.cs_padding.specs.Pending.{ArePendingEdits, PendsSome, widened_pending}
use Rattle.cs_padding.specs.Steps.{ArePadded, IsChangeBody, edits_of, padded_change, spelled}
use Rattle.cs_padding.proofs.Changes.{Keyed, found_alike, found_fits, kept_change, longer, rise_alike, same_change, wide_change}
use Rattle.cs_padding.proofs.Listings.{Listing, left_elsewhere, left_there, or_set, rising}
use Rattle.cs_padding.proofs.Widened.{from_wide, other_place, same_found, same_place}

-- the bytes of a change or none, with more columns
abbrev pub wide_bytes : ℕ → Option Change → Option (List ℕ)
wide_bytes width change = option_map change_spelling (option_map (widened_change width) change)

module _ (laws : OnePlaceOfName) (apart : ChangesApart) (bytes : BytesWiden) (tables : List TableDef) (are : AreTables tables) (name : List ℕ) (width : ℕ)
    (contents : Contents) (pending : Changed) (pends : Pends tables contents pending) where
  -- what edits leave at each place: the changes of the table with more columns, and what stood elsewhere
  pub record Leaves (edits : List BodyEdit) : Type 0 where
    pub here : (number : ℕ) (table : TableDef) (key : List ℕ) → slice_get tables number ≡ Some table → table.name ≡ name
        → row_after edits number key (stored_pending contents number key) ≡ wide_bytes width (pending table.name key)
    pub elsewhere : (number : ℕ) (table : TableDef) (key : List ℕ) → slice_get tables number ≡ Some table → (table.name ≡ name → ⊥)
        → row_after edits number key (stored_pending contents number key) ≡ stored_pending contents number key

  written : (edits : List BodyEdit) → Leaves edits → (number : ℕ) (wide : TableDef) (key : List ℕ) → slice_get (widened_tables name width tables) number ≡ Some wide
      → row_after edits number key (stored_pending contents number key) ≡ option_map change_spelling (widened_pending name width pending wide.name key)
  written edits leaves number wide key at =
      let found = from_wide name width tables number wide at in
      let table = found.0 in
      subst (λ (n : List ℕ). row_after edits number key (stored_pending contents number key) ≡ option_map change_spelling (widened_pending name width pending n key)) (sym found.2)
      (by_test (bytes_eq table.name name) _
      (λ t. simp t (leaves.here number table key found.1 (name_is table.name name t)))
      (λ t. simp t (leaves.elsewhere number table key found.1 (name_not table.name name t) ∙ pends.stored number table key found.1)))

  -- none, where that is what they leave
  pub no_edits : Leaves [] → ArePendingEdits (widened_tables name width tables) contents [] (widened_pending name width pending)
  no_edits leaves = record {
    written = written [] leaves;
    within = All-from_recursion (λ (edit : BodyEdit). edit.table < length (widened_tables name width tables)) [] tt;
    rising = rising (λ (body : List ℕ). body) 0 [] tt;
    changing = All-from_recursion (λ (edit : BodyEdit). edit.body ≢ stored_pending contents edit.table edit.key) [] tt;
  }

  -- no table has the name
  pub no_table : All (λ (table : TableDef). table.name ≢ name) tables → Leaves []
  no_table none = record {
    here = λ number table key at named. absurd (All-contains (λ (t : TableDef). t.name ≢ name) tables table none (contained tables number table at) named);
    elsewhere = λ number table key at other. refl;
  }

  kept : (marks : List Bool) (change : Option Change) → width ≤ length marks → IfSome change (FitsChange marks) → option_map change_spelling change ≡ wide_bytes width change
  kept marks None enough fits = refl
  kept marks (Some change) enough fits = ap (λ (b : List ℕ). Some b) (kept_change bytes width marks change fits enough)

  module _ (number : ℕ) (table : TableDef) (at : slice_get tables number ≡ Some table) (named : table.name ≡ name) where
    -- the table has as many columns
    pub wide_enough : width ≤ length table.key_marks → Leaves []
    wide_enough enough = record {
      here = λ other found key there same.
          let is = same_found laws tables are name number table at named other found there (same_place laws tables are name number table at named other found there same) in
          pends.stored other found key there
          ∙ kept found.key_marks (pending found.name key) (subst (λ (t : TableDef). width ≤ length t.key_marks) (sym is) enough) (pends.fits found key (contained tables other found there));
      elsewhere = λ other found key there other_name. refl;
    }

    -- it has fewer
    module _ (narrow : length table.key_marks < width) (listed : List StoredBody) (listing : IsListing (stored_pending contents number) (pairs_of listed)) where
      abbrev count : ℕ
      count = width - length table.key_marks

      abbrev body : Change → List ℕ
      body = padded_change (replicate count null_type) (replicate count undefined_type)

      stored_is : (key : List ℕ) → stored_pending contents number key ≡ option_map change_spelling (pending table.name key)
      stored_is key = pends.stored number table key at

      fits_at : (key : List ℕ) → IfSome (pending table.name key) (FitsChange table.key_marks)
      fits_at key = pends.fits table key (contained tables number table at)

      set_as : (found change : Option Change) (stored : Option (List ℕ)) → IfSome found (FitsChange table.key_marks) → IfSome change (FitsChange table.key_marks)
          → option_map change_spelling found ≡ stored → stored ≡ option_map change_spelling change → or_set body number found stored ≡ wide_bytes width change
      set_as None None stored fits suits one two = two
      set_as None (Some change) stored fits suits one two = absurd (let no = one ∙ two in cc)
      set_as (Some found) None stored fits suits one two = absurd (let no = one ∙ two in cc)
      set_as (Some found) (Some change) stored fits suits one two =
          let same : found ≡ change = same_change apart table.key_marks found change fits suits (same_Some (change_spelling found) (change_spelling change) (one ∙ two)) in
          ap (λ (b : List ℕ). Some b) (wide_change bytes width table.key_marks found fits ∙ ap (λ (c : Change). change_spelling (widened_change width c)) same)

      module _ (changes : Keyed) (are_listed : map spelled changes ≡ pairs_of listed) (fit : AllByRecursion (λ (keyed : List ℕ × Change). FitsChange table.key_marks keyed.1) changes) where
        rises : T (is_sorted by_bytes changes)
        rises = subst (λ (b : Bool). T b) (ap (λ (ps : Listing). is_sorted by_bytes ps) (sym are_listed) ∙ rise_alike changes) listing.rises

        found_is : (key : List ℕ) → option_map change_spelling (find by_bytes key changes) ≡ stored_pending contents number key
        found_is key = sym (found_alike key changes) ∙ ap (λ (ps : Listing). find by_bytes key ps) are_listed ∙ listing.found key

        leaves_padded : Leaves (edits_of body number changes)
        leaves_padded = record {
          here = λ other found key there same.
              let place = same_place laws tables are name number table at named other found there same in
              let is = same_found laws tables are name number table at named other found there place in
              subst (λ (n : ℕ). row_after (edits_of body number changes) n key (stored_pending contents n key) ≡ wide_bytes width (pending found.name key)) (sym place)
              (subst (λ (t : TableDef). row_after (edits_of body number changes) number key (stored_pending contents number key) ≡ wide_bytes width (pending t.name key)) (sym is)
              (left_there body number key changes (stored_pending contents number key) rises
              ∙ set_as (find by_bytes key changes) (pending table.name key) (stored_pending contents number key) (found_fits table.key_marks key changes fit) (fits_at key) (found_is key) (stored_is key)));
          elsewhere = λ other found key there other_name.
              left_elsewhere body number other key changes (stored_pending contents other key) (other_place laws tables are name number table at named other found there other_name);
        }

        each_changes : (rows : Keyed) → AllByRecursion (λ (keyed : List ℕ × Change). FitsChange table.key_marks keyed.1) rows
            → AllByRecursion (λ (row : List ℕ × List ℕ). stored_pending contents number row.0 ≡ Some row.1) (map spelled rows)
            → AllByRecursion (λ (edit : BodyEdit). edit.body ≢ stored_pending contents edit.table edit.key) (edits_of body number rows)
        each_changes [] fits all = tt
        each_changes (row ∷ rows) fits all =
            ((λ e. longer count row.1 (omega (arith, narrow)) (some_same (e ∙ all.0))), each_changes rows fits.1 all.1)

        each_within : (rows : Keyed) → AllByRecursion (λ (edit : BodyEdit). edit.table < length (widened_tables name width tables)) (edits_of body number rows)
        each_within [] = tt
        each_within (row ∷ rows) =
            (let within = slice_get_within tables number table at in let n = length-map tables (widened_table name width) in omega (arith, within, n), each_within rows)

        all_stored : AllByRecursion (λ (row : List ℕ × List ℕ). stored_pending contents number row.0 ≡ Some row.1) (map spelled changes)
        all_stored =
            subst (λ (rows : Listing). AllByRecursion (λ (row : List ℕ × List ℕ). stored_pending contents number row.0 ≡ Some row.1) rows) (sym are_listed)
            (each_found (λ key b. stored_pending contents number key ≡ Some b) (pairs_of listed) listing.rises (λ key b found. sym (listing.found key) ∙ found))

        padded_are : ArePendingEdits (widened_tables name width tables) contents (edits_of body number changes) (widened_pending name width pending)
        padded_are = record {
          written = written (edits_of body number changes) leaves_padded;
          within = All-from_recursion (λ (edit : BodyEdit). edit.table < length (widened_tables name width tables)) (edits_of body number changes) (each_within changes);
          rising = rising body number changes rises;
          changing = All-from_recursion (λ (edit : BodyEdit). edit.body ≢ stored_pending contents edit.table edit.key) (edits_of body number changes) (each_changes changes fit all_stored);
        }

      pub padded_pending : (edits : List BodyEdit)
          → ArePadded table.key_marks (replicate (width - length table.key_marks) null_type) (replicate (width - length table.key_marks) undefined_type) number listed edits
          → ArePendingEdits (widened_tables name width tables) contents edits (widened_pending name width pending)
      padded_pending edits (changes, are_listed, made, fit) =
          subst (λ (es : List BodyEdit). ArePendingEdits (widened_tables name width tables) contents es (widened_pending name width pending)) (sym made) (padded_are changes are_listed fit)

-- ---- what is listed are changes

change_of : (marks : List Bool) (stored : Option (List ℕ)) (change : Option Change) (body : List ℕ) → stored ≡ option_map change_spelling change → IfSome change (FitsChange marks) → stored ≡ Some body
    → (c : Change) × FitsChange marks c × (body ≡ change_spelling c)
change_of marks stored None body is fits there = absurd (let no = sym is ∙ there in cc)
change_of marks stored (Some change) body is fits there = (change, fits, same_Some body (change_spelling change) (sym there ∙ is))

pub all_changes : (tables : List TableDef) (contents : Contents) → PendsSome tables contents → (number : ℕ) (table : TableDef) → slice_get tables number ≡ Some table
    → (listed : List StoredBody) → IsListing (stored_pending contents number) (pairs_of listed) → AllByRecursion (IsChangeBody table.key_marks) listed
all_changes tables contents (pending, pends) number table at listed listing =
    of_pairs listed (each_found (λ key body. (c : Change) × FitsChange table.key_marks c × (body ≡ change_spelling c)) (pairs_of listed) listing.rises
    (λ key body found.
    change_of table.key_marks (stored_pending contents number key) (pending table.name key) body (pends.stored number table key at) (pends.fits table key (contained tables number table at))
    (sym (listing.found key) ∙ found)))
  where
    of_pairs : (bodies : List StoredBody) → AllByRecursion (λ (pair : List ℕ × List ℕ). (c : Change) × FitsChange table.key_marks c × (pair.1 ≡ change_spelling c)) (pairs_of bodies) → AllByRecursion (IsChangeBody table.key_marks) bodies
    of_pairs [] all = tt
    of_pairs (body ∷ bodies) all = (all.0, of_pairs bodies all.1)
