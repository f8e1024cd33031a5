-- A commit of the next entry shows the longer log.
use Rattle.std.proofs.Common.{◌≡◌, ◌≢◌, ◌+◌, ℕ, zero, suc, Bool, true, false, cond, List, [], ◌∷◌, ◌++◌, length, take, ◌<◌, Option, Some, None, is_some, refl, sym, ap, subst, ◌∙◌, option_map, fold, arith, length-append}
use Rattle.std.specs.Prelude.{nat_eq, slice_get}
use Rattle.std.specs.FinMap.{get}
use Rattle.std.proofs.lemmas.Bool.{eq-eqb, eqb-true}
use Rattle.std.proofs.lemmas.List.Elements.{recursion_from_All}
use Rattle.std.proofs.lemmas.List.{length-map, take_all}
use Rattle.std.proofs.lemmas.Option.{same_Some, slice_get_within}
use Rattle.cs_value.specs.declared.catalog.TableDef.{TableDef}
use Rattle.cs_record.specs.Spelling.{row_bytes}
use Rattle.cs_normal.specs.State.{State, AreSame, IsStateOf}
use Rattle.cs_store.specs.log.Laws.{AppendedIsLog, CatalogNext, EntryLeads, LogStates, LongerLog}
use Rattle.cs_store.specs.log.Log.{IsMade, catalog_after, catalog_at, catalog_next, catalog_of, state_of, tables_at}
use Rattle.cs_store.specs.log.Stored.{AreEntriesOf, IsEntryOf}
use Rattle.cs_store.specs.declared.log.body.Body.{Body}
use Rattle.cs_store.specs.declared.log.body.Body.TheVariants.{Changes, Widen}
use Rattle.cs_store.specs.declared.log.entry.LogEntry.{LogEntry}
use Rattle.cs_store.specs.Contents.{Contents, LogItem, Meta, log_count, log_entry, name_text}
use Rattle.cs_store.specs.Laws.{CountsLog, KeepsOtherRows, WritesLog, WritesRows, entry_after}
use Rattle.cs_store.specs.Written.{after_batch, edit_body, edit_meta, optional_entry}
use Rattle.cs_store.specs.declared.batch.Batch.{Batch}
use Rattle.cs_store.specs.declared.batch.MetaEdit.{MetaEdit}
use Rattle.cs_store.specs.edits.Edits.{BodyEdit}
use Rattle.cs_store.specs.declared.batch.StoredEntry.{StoredEntry}
use Rattle.cs_pending.specs.Steps.{no_place}
use Rattle.cs_hub.specs.log_store.Laws.{AppendShows}
use Rattle.cs_hub.specs.log_store.Shows.{HasEntries, item_of_entry}

-- ---- a list and one more

-- an entry behind a list
behind : {X : Type 0} (xs : List X) (x : X) → slice_get (xs ++ x ∷ []) (length xs) ≡ Some x
behind [] x = refl
behind (y ∷ xs) x = behind xs x

-- and at each other index what was there
elsewhere : {X : Type 0} (xs : List X) (x : X) (at : ℕ) → at ≢ length xs → slice_get (xs ++ x ∷ []) at ≡ slice_get xs at
elsewhere [] x zero apart = absurd (apart refl)
elsewhere [] x (suc at) apart = refl
elsewhere (y ∷ xs) x zero apart = refl
elsewhere (y ∷ xs) x (suc at) apart = elsewhere xs x at (λ e. apart (ap suc e))

none_behind : {X : Type 0} (xs : List X) → slice_get xs (length xs) ≡ None
none_behind [] = refl
none_behind (x ∷ xs) = none_behind xs

-- ---- the catalog has as many tables behind each entry

count_after : (tables : List TableDef) (body : Body) → length (catalog_after tables body) ≡ length tables
count_after tables (Changes changes) = refl
count_after tables (Widen table width) = length-map tables _

count_of : (opening : List TableDef) (log : List LogEntry) → length (catalog_of opening log) ≡ length opening
count_of opening [] = refl
count_of opening (first ∷ log) = count_of (catalog_next opening first) log ∙ count_after opening first.body

-- ---- the catalog and the rows behind one entry more

module _ (longer : LongerLog) (opening : List TableDef) (log : List LogEntry) (entry : LogEntry) where
  abbrev Grown : List LogEntry
  Grown = log ++ entry ∷ []

  abbrev Present : List TableDef
  Present = catalog_at opening log (length log)

  count_grown : length Grown ≡ length log + 1
  count_grown = length-append log (entry ∷ [])

  same_there : catalog_at opening Grown (length log) ≡ Present
  same_there = (longer opening log (entry ∷ []) (length log) (omega arith)).0

  pub grown_catalog : CatalogNext → catalog_at opening Grown (length Grown) ≡ catalog_next Present entry
  grown_catalog law =
      ap (λ (n : ℕ). catalog_at opening Grown n) count_grown
      ∙ law opening Grown (length log) entry (behind log entry)
      ∙ ap (λ (t : List TableDef). catalog_after t entry.body) same_there

  whole : (rows : List LogEntry) → tables_at rows (length rows) ≡ state_of rows
  whole rows = ap state_of (take_all (length rows) rows (omega arith))

  -- what the entry leaves at each place is what the longer log makes there
  pub left_there : EntryLeads → (after : State) → IsMade Present entry.body (state_of log) after → (name key : List ℕ) → after name key ≡ state_of Grown name key
  left_there law after made name key =
      let was : tables_at Grown (length log) ≡ state_of log = (longer opening log (entry ∷ []) (length log) (omega arith)).1 ∙ whole log in
      let before : AreSame (tables_at Grown (length log)) (state_of log) = λ n k. ap (λ (s : State). s n k) (sym was) in
      let there : IsMade (catalog_at opening Grown (length log)) entry.body (state_of log) after = subst (λ (t : List TableDef). IsMade t entry.body (state_of log) after) (sym same_there) made in
      law opening Grown (length log) entry (state_of log) after (behind log entry) before there name key
      ∙ ap (λ (n : ℕ). tables_at Grown n name key) (sym count_grown)
      ∙ ap (λ (s : State). s name key) (whole Grown)

  -- each entry is one of the catalog at its version
  pub fits_grown : AreEntriesOf opening log → IsEntryOf Present entry → AreEntriesOf opening Grown
  fits_grown were fits version found there = at (nat_eq version (length log)) refl
    where
      at : (b : Bool) → nat_eq version (length log) ≡ b → IsEntryOf (catalog_at opening Grown version) found
      at true test =
          let here : version ≡ length log = eqb-true version (length log) test in
          let is : entry ≡ found = same_Some entry found (sym (ap (slice_get Grown) here ∙ behind log entry) ∙ there) in
          let last : IsEntryOf (catalog_at opening log version) entry = subst (λ (n : ℕ). IsEntryOf (catalog_at opening log n) entry) (sym here) fits in
          subst (λ (t : List TableDef). IsEntryOf t found) (sym (longer opening log (entry ∷ []) version (omega (arith, here))).0) (subst (IsEntryOf (catalog_at opening log version)) is last)
      at false test =
          let apart : version ≢ length log = λ here. absurd (let yes = eq-eqb version (length log) here in cc) in
          let was : slice_get log version ≡ Some found = sym (elsewhere log entry version apart) ∙ there in
          let within : version < length log = slice_get_within log version found was in
          subst (λ (t : List TableDef). IsEntryOf t found) (sym (longer opening log (entry ∷ []) version (omega (arith, within))).0) (were version found was)

-- ---- the entries

-- an entry that is to be appended is one
one_there : (stored : Option StoredEntry) (item : LogItem) → optional_entry stored ≡ Some item → is_some stored ≡ true
one_there None item e = absurd cc
one_there (Some entry) item e = refl

entries_grown : WritesLog → CountsLog → (contents : Contents) (log : List LogEntry) (entry : LogEntry) (batch : Batch) → HasEntries contents log
    → optional_entry batch.log ≡ Some (item_of_entry entry) → HasEntries (after_batch batch contents) (log ++ entry ∷ [])
entries_grown writes counts contents log entry batch was new = record {
  stored = λ version. writes batch contents version ∙ at version (nat_eq version (log_count contents)) refl;
  counted = counts batch contents free ∙ ap (λ (b : Bool). cond b (log_count contents + 1) (log_count contents)) some ∙ omega (arith, was.counted, length-append log (entry ∷ []));
}
  where
    some : is_some batch.log ≡ true
    some = one_there batch.log (item_of_entry entry) new

    free : log_entry contents (log_count contents) ≡ None
    free = was.stored (log_count contents) ∙ ap (λ (n : ℕ). option_map item_of_entry (slice_get log n)) was.counted ∙ ap (option_map item_of_entry) (none_behind log)

    at : (version : ℕ) (b : Bool) → nat_eq version (log_count contents) ≡ b → entry_after batch.log contents version ≡ option_map item_of_entry (slice_get (log ++ entry ∷ []) version)
    at version true test =
        let here : version ≡ length log = eqb-true version (log_count contents) test ∙ was.counted in
        let there : slice_get (log ++ entry ∷ []) version ≡ Some entry = ap (slice_get (log ++ entry ∷ [])) here ∙ behind log entry in
        rw (some, test, there) new
    at version false test =
        let apart : version ≢ length log = λ here. absurd (let yes = eq-eqb version (log_count contents) (here ∙ sym was.counted) in cc) in
        rw (some, test, elsewhere log entry version apart) (was.stored version)

-- ---- all of it

pub append_shows : AppendedIsLog → LogStates → LongerLog → CatalogNext → EntryLeads → WritesRows → WritesLog → CountsLog → KeepsOtherRows → AppendShows
append_shows appended states longer next leads rows_law log_law count_law others opening contents log entry batch are was made =
    let grown = log ++ entry ∷ [] in
    let present = catalog_at opening log (length log) in
    let is_log = appended opening log entry was.is_log made.next in
    let catalog : catalog_at opening grown (length grown) ≡ catalog_next present entry = grown_catalog longer opening log entry next in
    let count : length (catalog_next present entry) ≡ length opening = count_after present entry.body ∙ count_of opening (take (length log) log) in
    let meta : (after_batch batch contents).meta ≡ contents.meta = ap (λ (edits : List MetaEdit). fold edit_meta contents.meta edits) made.no_meta in
    record {
      is_log = is_log;
      fit = fits_grown longer opening log entry was.fit made.fits;
      rows = record {
        rows = subst (λ (l : List LogEntry). IsStateOf (catalog_at opening grown (length grown)) (state_of l)) (take_all (length grown) grown (omega arith))
            (states opening grown (length grown) are is_log);
        stored = λ number table key at. rows_law batch contents number key
            ∙ made.edits.written number table key (subst (λ (t : List TableDef). slice_get t number ≡ Some table) catalog at)
            ∙ ap (option_map row_bytes) (left_there longer opening log entry leads made.after made.made table.name key);
      };
      elsewhere = λ place out. others batch contents place
          (no_place (catalog_next present entry) place batch.rows (λ number is. let least = out number is in omega (arith, least, count)) (recursion_from_All _ batch.rows made.edits.within))
          ∙ was.elsewhere place out;
      pending = ap (λ (edits : List BodyEdit). fold edit_body contents.pending edits) made.no_pending ∙ was.pending;
      values = record {
        values = λ name. ap (λ (m : Meta). get m (name_text name)) meta ∙ was.values.values name;
        names = λ text never. ap (λ (m : Meta). get m text) meta ∙ was.values.names text never;
      };
      entries = entries_grown log_law count_law contents log entry batch was.entries made.item;
    }
