-- The edits by which the rows of a table get more columns.
use Rattle.std.proofs.Common.{◌≡◌, ◌≢◌, ◌<◌, ◌≤◌, ◌-◌, ◌∙◌, ◌++◌, ℕ, List, [], ◌∷◌, get_or, length, replicate, Option, Some, None, option_map, refl, ap, subst, sym, arith, false}
use Rattle.std.specs.Prelude.{nat_eq, slice_get, Contains}
use Rattle.std.specs.List.{All, AllByRecursion}
use Rattle.std.specs.Str.{bytes_eq}
use Rattle.std.proofs.lemmas.Bool.Decides.{Decides-eqb}
use Rattle.std.proofs.lemmas.List.{append-nil, length-append, length-map, length-replicate}
use Rattle.std.proofs.lemmas.List.Elements.{All-contains, All-from_recursion}
use Rattle.std.proofs.lemmas.Option.{get_or_from_slice_get, slice_get-get_or, slice_get-map, slice_get_within}
use Rattle.cs_value.specs.Catalog.{AreTables}
use Rattle.cs_value.specs.Facts.{by_test, some_same}
use Rattle.cs_value.specs.Key.{Place}
use Rattle.cs_value.specs.Laws.{OnePlaceOfName}
use Rattle.cs_value.specs.declared.catalog.TableDef.{TableDef}
use Rattle.cs_record.specs.Spelling.{null_type, row_bytes}
use Rattle.cs_normal.specs.State.{State, MayStandAt}
use Rattle.cs_store.specs.Contents.{Contents, IsListing, stored_tables}
use Rattle.cs_store.specs.Laws.{row_after}
use Rattle.cs_store.specs.States.{AreEdits, Holds}
use Rattle.cs_store.specs.edits.Edits.{BodyEdit}
use Rattle.cs_pending.specs.NormalTasks.{one_table}
use Rattle.cs_pending.specs.OnePlace.{contained}
use Rattle.cs_pending.specs.Spots.{name_is, name_not}
use Rattle.cs_pending.specs.rows.Listings.{each_found}
use Rattle.cs_widening.specs.Laws.{BytesWiden}
use Rattle.cs_widening.specs.Widening.{widened, widened_place, widened_table, widened_tables}
use Rattle.cs_padding.specs.Steps.{padded, padded_edits}
use Rattle.cs_padding.proofs.Listings.{Listing, left_elsewhere, left_there, or_set, rising}

-- ---- the tables

pub wide_name : (name : List ℕ) (width : ℕ) (table : TableDef) → (widened_table name width table).name ≡ table.name
wide_name name width table = by_test (bytes_eq table.name name) _ (λ e. simp e refl) (λ e. simp e refl)

-- a table with the new columns stands where it stood without them
pub from_wide : (name : List ℕ) (width : ℕ) (tables : List TableDef) (number : ℕ) (wide : TableDef) → slice_get (widened_tables name width tables) number ≡ Some wide
    → (table : TableDef) × (slice_get tables number ≡ Some table) × (wide.name ≡ table.name)
from_wide name width tables number wide at =
    let split : (found : Option TableDef) → slice_get tables number ≡ found → option_map (widened_table name width) found ≡ Some wide
    → (table : TableDef) × (slice_get tables number ≡ Some table) × (wide.name ≡ table.name) = elim [
      | None ↦ λ e is. absurd (let no = is in cc)
      | Some table ↦ λ e is. (table, e, ap (λ (t : TableDef). t.name) (sym (let same : widened_table name width table ≡ wide = (let f = is in cc) in same)) ∙ wide_name name width table)
    ] in
    split (slice_get tables number) refl (ap (option_map (widened_table name width)) refl ∙ sym (slice_get-map (widened_table name width) tables number) ∙ at)

-- one table has the name
module _ (laws : OnePlaceOfName) (tables : List TableDef) (are : AreTables tables) (name : List ℕ) (number : ℕ) (table : TableDef) (at : slice_get tables number ≡ Some table) (named : table.name ≡ name) where
  pub same_place : (other : ℕ) (found : TableDef) → slice_get tables other ≡ Some found → found.name ≡ name → other ≡ number
  same_place other found there same =
      laws name tables other number are (slice_get_within tables other found there) (slice_get_within tables number table at)
      (λ d. ap (λ (t : TableDef). t.name) (get_or_from_slice_get tables other found d there) ∙ same)
      (λ d. ap (λ (t : TableDef). t.name) (get_or_from_slice_get tables number table d at) ∙ named)

  pub same_found : (other : ℕ) (found : TableDef) → slice_get tables other ≡ Some found → other ≡ number → found ≡ table
  same_found other found there is = some_same (sym (subst (λ (n : ℕ). slice_get tables n ≡ Some found) is there) ∙ at)

  -- a place of another name is another
  pub other_place : (other : ℕ) (found : TableDef) → slice_get tables other ≡ Some found → (found.name ≡ name → ⊥) → nat_eq other number ≡ false
  other_place other found there apart =
      by_test (nat_eq other number) _
      (λ t. absurd (apart (ap (λ (d : TableDef). d.name) (same_found other found there ((Decides-eqb other number).0 t)) ∙ named)))
      (λ t. t)

-- ---- the rows

-- so many bytes of NULL behind a body, or none
abbrev pub with_nulls : ℕ → Option (List ℕ) → Option (List ℕ)
with_nulls count stored = option_map (λ body. body ++ replicate count null_type) stored

module _ (laws : OnePlaceOfName) (bytes : BytesWiden) (tables : List TableDef) (are : AreTables tables) (name : List ℕ) (width : ℕ) where
  wide_bytes : (table : TableDef) → Contains tables table → (key : List ℕ) (place : Place) → MayStandAt tables table.name key place
      → option_map row_bytes (widened_place width place) ≡ with_nulls (width - length table.key_marks) (option_map row_bytes place)
  wide_bytes table inside key None stands = refl
  wide_bytes table inside key (Some row) (other, among, named, is) =
      let same : other ≡ table = one_table laws tables other table are among inside named in
      let long : length row ≡ length table.key_marks = is.fits.0 ∙ ap (λ (t : TableDef). length t.key_marks) same in
      ap (λ (b : List ℕ). Some b) ((bytes width row []).0 ∙ ap (λ (n : ℕ). row_bytes row ++ replicate (width - n) null_type) long)

  -- ---- the edits

  module _ (contents : Contents) (before : State) (holds : Holds tables contents before) where
    -- what edits leave at each place: NULLs behind each row of the table, and what stood elsewhere
    pub record Leaves (edits : List BodyEdit) : Type 0 where
      pub here : (number : ℕ) (table : TableDef) (key : List ℕ) → slice_get tables number ≡ Some table → table.name ≡ name
          → row_after edits number key (stored_tables contents number key) ≡ with_nulls (width - length table.key_marks) (stored_tables contents number key)
      pub elsewhere : (number : ℕ) (table : TableDef) (key : List ℕ) → slice_get tables number ≡ Some table → (table.name ≡ name → ⊥)
          → row_after edits number key (stored_tables contents number key) ≡ stored_tables contents number key

    written : (edits : List BodyEdit) → Leaves edits → (number : ℕ) (wide : TableDef) (key : List ℕ) → slice_get (widened_tables name width tables) number ≡ Some wide
        → row_after edits number key (stored_tables contents number key) ≡ option_map row_bytes (widened name width before wide.name key)
    written edits leaves number wide key at =
        let found = from_wide name width tables number wide at in
        let table = found.0 in
        let stored = holds.stored number table key found.1 in
        subst (λ (n : List ℕ). row_after edits number key (stored_tables contents number key) ≡ option_map row_bytes (widened name width before n key)) (sym found.2)
        (by_test (bytes_eq table.name name) _
        (λ t. simp t
        (leaves.here number table key found.1 (name_is table.name name t) ∙ ap (with_nulls (width - length table.key_marks)) stored
        ∙ sym (wide_bytes table (contained tables number table found.1) key (before table.name key) (holds.rows table.name key))))
        (λ t. simp t (leaves.elsewhere number table key found.1 (name_not table.name name t) ∙ stored)))

    -- none, where that is what they leave
    pub no_edits : Leaves [] → AreEdits (widened_tables name width tables) contents [] (widened name width before)
    no_edits leaves = record {
      written = written [] leaves;
      within = All-from_recursion (λ (edit : BodyEdit). edit.table < length (widened_tables name width tables)) [] tt;
      rising = rising (padded []) 0 [] tt;
      changing = All-from_recursion (λ (edit : BodyEdit). edit.body ≢ stored_tables contents edit.table edit.key) [] tt;
    }

    -- no table has the name
    pub no_table : All (λ (table : TableDef). table.name ≢ name) tables → Leaves []
    no_table none = record {
      here = λ number table key at named. absurd (All-contains (λ (t : TableDef). t.name ≢ name) tables table none (contained tables number table at) named);
      elsewhere = λ number table key at other. refl;
    }

    module _ (number : ℕ) (table : TableDef) (at : slice_get tables number ≡ Some table) (named : table.name ≡ name) where
      no_more : (count : ℕ) (stored : Option (List ℕ)) → count ≡ 0 → stored ≡ with_nulls count stored
      no_more count None none = refl
      no_more count (Some body) none = ap (λ (b : List ℕ). Some b) (sym (append-nil body) ∙ ap (λ (n : ℕ). body ++ replicate n null_type) (sym none))

      -- the table has as many columns
      pub wide_enough : width ≤ length table.key_marks → Leaves []
      wide_enough enough = record {
        here = λ other found key there same.
            let is = same_found laws tables are name number table at named other found there (same_place laws tables are name number table at named other found there same) in
            no_more (width - length found.key_marks) (stored_tables contents other key)
            (ap (λ (t : TableDef). width - length t.key_marks) is ∙ omega (arith, enough));
        elsewhere = λ other found key there apart. refl;
      }

      -- it has fewer
      module _ (narrow : length table.key_marks < width) (rows : Listing) (listing : IsListing (stored_tables contents number) rows) where
        abbrev more : List ℕ
        more = replicate (width - length table.key_marks) null_type

        both_padded : (stored : Option (List ℕ)) → or_set (padded more) number stored stored ≡ with_nulls (width - length table.key_marks) stored
        both_padded None = refl
        both_padded (Some body) = refl

        leaves_padded : Leaves (padded_edits number more rows)
        leaves_padded = record {
          here = λ other found key there same.
              let place = same_place laws tables are name number table at named other found there same in
              let is = same_found laws tables are name number table at named other found there place in
              let stored = stored_tables contents number key in
              subst (λ (n : ℕ). row_after (padded_edits number more rows) n key (stored_tables contents n key) ≡ with_nulls (width - length found.key_marks) (stored_tables contents n key)) (sym place)
              (subst (λ (t : TableDef). row_after (padded_edits number more rows) number key stored ≡ with_nulls (width - length t.key_marks) stored) (sym is)
              (left_there (padded more) number key rows stored listing.rises ∙ ap (λ (o : Option (List ℕ)). or_set (padded more) number o stored) (listing.found key) ∙ both_padded stored));
          elsewhere = λ other found key there apart.
              left_elsewhere (padded more) number other key rows (stored_tables contents other key)
              (other_place laws tables are name number table at named other found there apart);
        }

        longer : (body : List ℕ) → body ++ more ≡ body → ⊥
        longer body same =
            let long = ap (λ (b : List ℕ). length b) same in
            let both = length-append body more in
            let count = length-replicate (width - length table.key_marks) null_type in
            omega (arith, long, both, count, narrow)

        each_changes : (listed : Listing) → AllByRecursion (λ (row : List ℕ × List ℕ). Some (row.1 ++ more) ≢ stored_tables contents number row.0) listed
            → AllByRecursion (λ (edit : BodyEdit). edit.body ≢ stored_tables contents edit.table edit.key) (padded_edits number more listed)
        each_changes [] all = tt
        each_changes (row ∷ listed) all = (all.0, each_changes listed all.1)

        each_within : (listed : Listing) → AllByRecursion (λ (edit : BodyEdit). edit.table < length (widened_tables name width tables)) (padded_edits number more listed)
        each_within [] = tt
        each_within (row ∷ listed) =
            (let within = slice_get_within tables number table at in let count = length-map tables (widened_table name width) in omega (arith, within, count), each_within listed)

        pub padded_are : AreEdits (widened_tables name width tables) contents (padded_edits number (replicate (width - length table.key_marks) null_type) rows) (widened name width before)
        padded_are = record {
          written = written (padded_edits number more rows) leaves_padded;
          within = All-from_recursion (λ (edit : BodyEdit). edit.table < length (widened_tables name width tables)) (padded_edits number more rows) (each_within rows);
          rising = rising (padded more) number rows listing.rises;
          changing = All-from_recursion (λ (edit : BodyEdit). edit.body ≢ stored_tables contents edit.table edit.key) (padded_edits number more rows)
              (each_changes rows (each_found (λ key body. Some (body ++ more) ≢ stored_tables contents number key) rows listing.rises
              (λ key body found. λ e. longer body (some_same (e ∙ sym (listing.found key) ∙ found)))));
        }

-- the table at a place where one stands
pub stands : (tables : List TableDef) (number : ℕ) (table : TableDef) → number < length tables → table ≡ get_or tables number table → slice_get tables number ≡ Some table
stands tables number table less is = slice_get-get_or tables number table less ∙ ap (λ (t : TableDef). Some t) (sym is)
