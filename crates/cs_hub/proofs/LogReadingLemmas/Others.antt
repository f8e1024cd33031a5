-- Entries that may be told as one, which were read so far.
use Rattle.std.proofs.Common.{◌≡◌, ◌+◌, ◌≤◌, ◌<◌, ◌∙◌, ◌++◌, ◌∷◌, [], ℕ, zero, suc, List, Some, get_or, length, map, take, sym, ap, subst, arith}
use Rattle.std.specs.Prelude.{slice_get}
use Rattle.std.specs.List.{All, AllByRecursion, sum_by}
use Rattle.std.proofs.lemmas.List.{length-map, length-take-le, map-append}
use Rattle.std.proofs.lemmas.List.Elements.{All-push, recursion_from_All}
use Rattle.std.proofs.lemmas.List.Sums.{sum_by_push}
use Rattle.std.proofs.lemmas.Option.{get_or_from_slice_get, slice_get_within}
use Rattle.cs_value.specs.declared.catalog.TableDef.{TableDef}
use Rattle.cs_normal.specs.Normal.{normal_spelling}
use Rattle.cs_normal.specs.declared.normal.TableChanges.{TableChanges}
use Rattle.cs_store.specs.Contents.{LogItem}
use Rattle.cs_store.specs.Written.{item_of, items_of}
use Rattle.cs_store.specs.declared.batch.StoredEntry.{StoredEntry}
use Rattle.cs_store.specs.declared.log.body.Body.{Body}
use Rattle.cs_store.specs.declared.log.body.Body.TheVariants.{Changes, Widen}
use Rattle.cs_store.specs.declared.log.entry.LogEntry.{LogEntry}
use Rattle.cs_store.specs.declared.log.entry.TheConstants.{MAX_CHANGESET}
use Rattle.cs_store.specs.log.Entry.{changes_of_body, entry_changes}
use Rattle.cs_store.specs.log.Stored.{AreChangesOf, stored_body}
use Rattle.cs_hub.specs.catching.Catches.{IsToldAlone, NoneIsAlone}
use Rattle.cs_hub.specs.log_reading.Steps.{AreOthers, AreStoredAs, IsStoredAs}
use Rattle.cs_hub.proofs.CatchingLemmas.Plain.{kept_by, plain_of}
use Rattle.cs_hub.proofs.CatchingLemmas.Runs.{IsNotAlone}
use Rattle.cs_hub.proofs.LogReadingLemmas.Found.{same_length, stored_at, stored_there}

-- the changesets of the first so many entries, none of which is told alone
pub record AreOthersSoFar (asker at : ℕ) (entries : List LogEntry) (list : List (List TableChanges)) : Type 0 where
  pub are : list ≡ map entry_changes (take at entries)
  pub others : NoneIsAlone asker (take at entries)

pub one_other : (asker at : ℕ) (entries : List LogEntry) (before now : List (List TableChanges)) (read entry : LogEntry) → take (at + 1) entries ≡ take at entries ++ entry ∷ [] → read ≡ entry → (IsToldAlone asker read → ⊥)
    → AreOthersSoFar asker at entries before → now ≡ before ++ entry_changes read ∷ [] → AreOthersSoFar asker (at + 1) entries now
one_other asker at entries before now read entry more is other so_far grown = record {
  are = grown ∙ ap (λ (e : LogEntry). before ++ entry_changes e ∷ []) is
      ∙ ap (λ (cs : List (List TableChanges)). cs ++ entry_changes entry ∷ []) so_far.are
      ∙ sym (map-append entry_changes (take at entries) (entry ∷ [])) ∙ sym (ap (map entry_changes) more);
  others = subst (All (IsNotAlone asker)) (sym more) (All-push (IsNotAlone asker) (take at entries) entry so_far.others (subst (IsNotAlone asker) is other));
}

-- those before a place, where what stands there is told alone
front_of : (asker at : ℕ) (entries : List LogEntry) (list : List (List TableChanges)) → at ≤ length entries → AreOthersSoFar asker at entries list
    → ((entry : LogEntry) → slice_get entries at ≡ Some entry → IsToldAlone asker entry) → AreOthers asker entries list
front_of asker at entries list within so_far ends =
    let many : length list ≡ at = ap length so_far.are ∙ length-map (take at entries) entry_changes ∙ length-take-le at entries within in
    record {
      there = omega (arith, many, within);
      are = so_far.are ∙ ap (λ (n : ℕ). map entry_changes (take n entries)) (sym many);
      others = subst (λ (n : ℕ). NoneIsAlone asker (take n entries)) (sym many) so_far.others;
      ends = λ entry there. ends entry (subst (λ (n : ℕ). slice_get entries n ≡ Some entry) many there);
    }

-- all of them
pub all_others : (tables : ℕ → List TableDef) (first asker at : ℕ) (stored : List StoredEntry) (entries : List LogEntry) (list : List (List TableChanges)) → at ≡ length stored → AreStoredAs tables first (items_of stored) entries
    → AreOthersSoFar asker at entries list → AreOthers asker entries list
all_others tables first asker at stored entries list all are so_far =
    let long : length entries ≡ at = sym (same_length tables first (items_of stored) entries are) ∙ length-map stored item_of ∙ sym all in
    front_of asker at entries list (omega (arith, long)) so_far
    (λ entry there. absurd (let inside = slice_get_within entries at entry there in omega (arith, inside, long)))

-- the tables stay as long as none is told alone
tables_stay : (asker : ℕ) (tables : ℕ → List TableDef) (first : ℕ) (items : List LogItem) (entries : List LogEntry) (at : ℕ) → at ≤ length entries → AreStoredAs tables first items entries → AllByRecursion (IsNotAlone asker) (take at entries) → tables (first + at) ≡ tables first
tables_stay asker tables first items entries zero within are others = ap tables (let e : first + 0 ≡ first = omega arith in e)
tables_stay asker tables first items [] (suc at) within are others = absurd (omega (arith, within))
tables_stay asker tables first [] (e ∷ es) (suc at) within are others = absurd are
tables_stay asker tables first (i ∷ is) (e ∷ es) (suc at) within are others =
    ap tables (let n : first + suc at ≡ (first + 1) + at = omega arith in n)
    ∙ tables_stay asker tables (first + 1) is es at (omega (arith, within)) are.2 others.1
    ∙ are.1 ∙ kept_by (tables first) e.body (plain_of asker e others.0)

-- what was read so far is others', all of the tables at the first
module _ (tables : ℕ → List TableDef) (first : ℕ) (catalog : List TableDef) (same : tables first ≡ catalog) (asker at : ℕ) (stored : List StoredEntry) (entries : List LogEntry) (list : List (List TableChanges)) (item : StoredEntry)
    (less : at < length stored) (is : item ≡ get_or stored at item) (are : AreStoredAs tables first (items_of stored) entries) (so_far : AreOthersSoFar asker at entries list) where
  -- the next one is stored by these
  pub next_stored : (entry : LogEntry) × IsStoredAs catalog (item_of item) entry × (take (at + 1) entries ≡ take at entries ++ entry ∷ [])
  next_stored =
      let there = stored_at tables first stored entries at item less is are in
      let within = (stored_there tables first stored entries at item less are).2 in
      let here = tables_stay asker tables first (items_of stored) entries at (let w : at ≤ length entries = omega (arith, within) in w) are (recursion_from_All (IsNotAlone asker) (take at entries) so_far.others) in
      (there.0, subst (λ (t : List TableDef). IsStoredAs t (item_of item) there.0) (here ∙ same) there.1, there.2)

  -- those before the first that is told alone
  pub others_before : (read : LogEntry) → ((entry : LogEntry) → IsStoredAs catalog (item_of item) entry → read ≡ entry) → IsToldAlone asker read → AreOthers asker entries list
  others_before read only alone =
      let there = stored_there tables first stored entries at item less are in
      let within = there.2 in
      let here = tables_stay asker tables first (items_of stored) entries at (let w : at ≤ length entries = omega (arith, within) in w) are (recursion_from_All (IsNotAlone asker) (take at entries) so_far.others) in
      let read_is = only there.0 (subst (λ (t : List TableDef). IsStoredAs t (item_of item) there.0) (here ∙ same) (subst (λ (s : StoredEntry). IsStoredAs (tables (first + at)) (item_of s) there.0) (sym is) there.1)) in
      front_of asker at entries list (omega (arith, within)) so_far
      (λ entry at_it. subst (IsToldAlone asker) (read_is ∙ sym there.3 ∙ get_or_from_slice_get entries at entry there.0 at_it) alone)

-- ---- their bytes

abbrev pub bytes_of : List (List TableChanges) → ℕ
bytes_of list = sum_by (λ changes. length (normal_spelling changes)) list

-- so many bytes together, where the count is no more than one may have
abbrev pub AreCounted : List (List TableChanges) → ℕ → Type 0
AreCounted list bytes = bytes ≤ MAX_CHANGESET → bytes_of list ≤ bytes

bytes_more : (before now : List (List TableChanges)) (last : List TableChanges) → now ≡ before ++ last ∷ [] → bytes_of now ≡ bytes_of before + length (normal_spelling last)
bytes_more before now last grown = ap bytes_of grown ∙ sum_by_push (λ (changes : List TableChanges). length (normal_spelling changes)) before last

spelled_within : (body : Body) → length (normal_spelling (changes_of_body body)) ≤ length (stored_body body)
spelled_within (Changes changes) = omega arith
spelled_within (Widen table width) = omega arith

pub counted_more : (opening : List TableDef) (before now : List (List TableChanges)) (item : StoredEntry) (read : LogEntry) (bytes more : ℕ) → IsStoredAs opening (item_of item) read → now ≡ before ++ entry_changes read ∷ []
    → (more ≤ MAX_CHANGESET → more ≡ bytes + length item.body.items) → AreCounted before bytes → AreCounted now more
counted_more opening before now item read bytes more is grown sum were = λ few.
    let adds = sum few in
    let long : length item.body.items ≡ length (stored_body read.body) = ap (λ (i : LogItem). length i.body) is.is in
    let fewer = were (omega (arith, few, adds)) in
    omega (arith, bytes_more before now (entry_changes read) grown, adds, long, fewer, spelled_within read.body)

pub fit_more : (opening : List TableDef) (before now : List (List TableChanges)) (item : StoredEntry) (read : LogEntry) → IsStoredAs opening (item_of item) read → now ≡ before ++ entry_changes read ∷ []
    → All (AreChangesOf opening) before → All (AreChangesOf opening) now
fit_more opening before now item read is grown all =
    subst (All (AreChangesOf opening)) (sym grown) (All-push (AreChangesOf opening) before (entry_changes read) all is.fits.changes)
