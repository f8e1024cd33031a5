-- Entries that a store shows: what is stored of them, and what was read or told of them so far.
use Rattle.std.proofs.Common.{◌≡◌, ◌+◌, ◌≤◌, ◌<◌, ◌∙◌, ◌++◌, ◌∷◌, [], ℕ, zero, suc, List, Option, Some, None, Result, Ok, Err, option_map, length, take, drop, map, get_or, refl, sym, ap, subst, arith}
use Rattle.std.specs.Prelude.{slice_get}
use Rattle.std.specs.List.{flat_map}
use Rattle.std.proofs.lemmas.List.{append_assoc, flat_map_more, length-drop, length-map, length-take-le, take_more}
use Rattle.std.proofs.lemmas.Option.{same_Some}
use Rattle.cs_value.specs.Catalog.{AreTables}
use Rattle.cs_value.specs.declared.catalog.TableDef.{TableDef}
use Rattle.cs_store.specs.log.Laws.{CatalogNext, OneBody}
use Rattle.cs_store.specs.log.Log.{catalog_next}
use Rattle.cs_store.specs.log.Widens.{CatalogByWidens}
use Rattle.cs_store.specs.log.Stored.{IsEntryOf}
use Rattle.cs_store.specs.declared.log.entry.LogEntry.{LogEntry}
use Rattle.cs_store.specs.declared.log.fault.BodyFault.{BodyFault}
use Rattle.cs_store.specs.declared.log.fault.BodyFault.TheVariants.{Memory, NoBody}
use Rattle.cs_store.specs.Contents.{Contents, LogItem, entry_before, log_entry, log_range}
use Rattle.cs_store.specs.Written.{item_of, items_of}
use Rattle.cs_store.specs.declared.batch.StoredEntry.{StoredEntry}
use Rattle.cs_store.specs.declared.fault.StoreFault.{StoreFault}
use Rattle.cs_store.specs.declared.fault.StoreFault.TheVariants as store
use Rattle.cs_store.specs.declared.fault.StoreFault.TheVariants.{Device}
use Rattle.cs_store.specs.declared.store.RowStore.{Ghosts}
use Rattle.cs_pending.specs.Calls.{ReadsStore}
use Rattle.cs_pending.specs.Storing.{err_is, same_err}
use Rattle.cs_wire.specs.Answers.{entries_numbers, entries_spelling, entries_tag}
use Rattle.cs_wire.specs.Entries.{ToldEntry, entry_spelling}
use Rattle.cs_wire.specs.Numbers.{eight_bytes, four_bytes}
use Rattle.cs_wire.specs.Told.{told_entry}
use Rattle.cs_hub.specs.log_store.Shows.{ShowsLog, item_of_entry}
use Rattle.cs_hub.specs.log_store.Versions.{ShowsBy, Versions, tables_by}
use Rattle.cs_hub.proofs.LogStoreLemmas.OneLog.{one_entry}
use Rattle.cs_hub.proofs.LogStoreLemmas.Versions.{tables_shown}
use Rattle.cs_hub.specs.log_reading.Reading.{ShowsEntries, ShowsEntriesBy}
use Rattle.cs_hub.specs.log_reading.Steps.{AreStoredAs, AreToldAs, HasRange, IsStoredAs, IsToldAs, ReadsAs}

-- ---- an entry is told by what is stored of it

-- an entry of a log that is shown fits the tables at its version: by these it is read
pub fits_at : CatalogByWidens → (versions : Versions) (contents : Contents) (log : List LogEntry) → ShowsBy versions contents log → (version : ℕ) (entry : LogEntry) → slice_get log version ≡ Some entry → IsEntryOf (tables_by versions version) entry
fits_at law versions contents log shows version entry is =
    subst (λ (tables : List TableDef). IsEntryOf tables entry) (sym (tables_shown law versions log shows.2 version)) (shows.0.fit version entry is)

found_in : OneBody → (tables : List TableDef) → AreTables tables → (entry : LogEntry) → IsEntryOf tables entry → (found : Option LogEntry)
    → ((other : LogEntry) → found ≡ Some other → IsEntryOf tables other) → option_map item_of_entry found ≡ Some (item_of_entry entry) → found ≡ Some entry
found_in law tables are entry fits None others is = absurd (let no = is in cc)
found_in law tables are entry fits (Some other) others is =
    ap (λ (e : LogEntry). Some e) (one_entry law tables are other entry (others other refl) fits (same_Some (item_of_entry other) (item_of_entry entry) is))

-- what is stored as an entry is that entry of the log
pub has_it : CatalogByWidens → OneBody → (versions : Versions) (version : ℕ) → AreTables (tables_by versions version) → (contents : Contents) (log : List LogEntry) → ShowsBy versions contents log → (entry : LogEntry) → IsEntryOf (tables_by versions version) entry
    → (item : LogItem) → log_entry contents version ≡ Some item → item ≡ item_of_entry entry → slice_get log version ≡ Some entry
has_it by law versions version are contents log shows entry fits item at is =
    found_in law (tables_by versions version) are entry fits (slice_get log version) (λ other there. fits_at by versions contents log shows version other there)
    (sym (shows.0.entries.stored version) ∙ at ∙ ap (λ (i : LogItem). Some i) is)

-- an entry of the log is stored
pub stored_as : (opening : List TableDef) (contents : Contents) (log : List LogEntry) → ShowsLog opening contents log → (version : ℕ) (entry : LogEntry) → slice_get log version ≡ Some entry
    → log_entry contents version ≡ Some (item_of_entry entry)
stored_as opening contents log shows version entry is = shows.entries.stored version ∙ ap (λ (o : Option LogEntry). option_map item_of_entry o) is

pub is_it : (opening : List TableDef) (contents : Contents) (log : List LogEntry) → ShowsLog opening contents log → (version : ℕ) (entry : LogEntry) (item : LogItem)
    → log_entry contents version ≡ Some item → slice_get log version ≡ Some entry → item ≡ item_of_entry entry
is_it opening contents log shows version entry item at is =
    same_Some item (item_of_entry entry) (sym at ∙ stored_as opening contents log shows version entry is)

-- ---- what is stored from a version on

-- where a list is cut before an element
cut_at : {X : Type 0} (xs : List X) (i : ℕ) → i < length xs → (x : X) × (slice_get xs i ≡ Some x) × (drop i xs ≡ x ∷ drop (suc i) xs)
cut_at [] i less = absurd (omega (arith, less))
cut_at (x ∷ xs) zero less = (x, refl, refl)
cut_at (x ∷ xs) (suc i) less = let rest = cut_at xs i (omega (arith, less)) in (rest.0, rest.1, rest.2)

-- what an entry makes of the tables at its version are those at the next
next_tables : CatalogByWidens → CatalogNext → (versions : Versions) (contents : Contents) (log : List LogEntry) → ShowsBy versions contents log → (version : ℕ) (entry : LogEntry) → slice_get log version ≡ Some entry
    → tables_by versions (version + 1) ≡ catalog_next (tables_by versions version) entry
next_tables law leads versions contents log shows version entry is =
    tables_shown law versions log shows.2 (version + 1) ∙ leads versions.opening log version entry is
    ∙ ap (λ (tables : List TableDef). catalog_next tables entry) (sym (tables_shown law versions log shows.2 version))

pub are_stored : CatalogByWidens → CatalogNext → (versions : Versions) (contents : Contents) (log : List LogEntry) → ShowsBy versions contents log → (first count : ℕ) → first + count ≤ length log
    → AreStoredAs (tables_by versions) first (log_range contents first count) (take count (drop first log))
are_stored law leads versions contents log shows first zero within = tt
are_stored law leads versions contents log shows first (suc count) within =
    let at = cut_at log first (omega (arith, within)) in
    let next : suc first ≡ first + 1 = omega arith in
    let one : IsStoredAs (tables_by versions first) (item_of_entry at.0) at.0 = record { is = refl; fits = fits_at law versions contents log shows first at.0 at.1 } in
    subst (λ (es : List LogEntry). AreStoredAs (tables_by versions) first (log_range contents first (suc count)) (take (suc count) es)) (sym (at.2 ∙ ap (λ (n : ℕ). at.0 ∷ drop n log) next))
    (subst (λ (o : Option LogItem). AreStoredAs (tables_by versions) first (entry_before o (log_range contents (first + 1) count)) (at.0 ∷ take count (drop (first + 1) log))) (sym (stored_as versions.opening contents log shows.0 first at.0 at.1))
    (one, next_tables law leads versions contents log shows first at.0 at.1, are_stored law leads versions contents log shows (first + 1) count (omega (arith, within))))

pub same_length : (tables : ℕ → List TableDef) (version : ℕ) (items : List LogItem) (entries : List LogEntry) → AreStoredAs tables version items entries → length items ≡ length entries
same_length tables version [] [] are = refl
same_length tables version [] (e ∷ es) are = absurd are
same_length tables version (i ∷ is) [] are = absurd are
same_length tables version (i ∷ is) (e ∷ es) are = let rest = same_length tables (version + 1) is es are.2 in omega (arith, rest)

pub range_length : (first count : ℕ) (log : List LogEntry) → first + count ≤ length log → length (take count (drop first log)) ≡ count
range_length first count log within = length-take-le count (drop first log) (omega (arith, within, length-drop first log))

-- each is stored as an answer tells it
pub told_from : (opening : List TableDef) (contents : Contents) (log : List LogEntry) → ShowsLog opening contents log → (first count : ℕ) → first + count ≤ length log
    → AreToldAs (log_range contents first count) (map told_entry (take count (drop first log)))
told_from opening contents log shows first zero within = tt
told_from opening contents log shows first (suc count) within =
    let at = cut_at log first (omega (arith, within)) in
    let next : suc first ≡ first + 1 = omega arith in
    let one : IsToldAs (item_of_entry at.0) (told_entry at.0) = record { is = refl; size = (shows.fit first at.0 at.1).size } in
    subst (λ (es : List LogEntry). AreToldAs (log_range contents first (suc count)) (map told_entry (take (suc count) es))) (sym (at.2 ∙ ap (λ (n : ℕ). at.0 ∷ drop n log) next))
    (subst (λ (o : Option LogItem). AreToldAs (entry_before o (log_range contents (first + 1) count)) (told_entry at.0 ∷ map told_entry (take count (drop (first + 1) log)))) (sym (stored_as opening contents log shows first at.0 at.1))
    (one, told_from opening contents log shows (first + 1) count (omega (arith, within))))

told_length : (items : List LogItem) (tolds : List ToldEntry) → AreToldAs items tolds → length items ≡ length tolds
told_length [] [] are = refl
told_length [] (t ∷ ts) are = absurd are
told_length (i ∷ is) [] are = absurd are
told_length (i ∷ is) (t ∷ ts) are = let rest = told_length is ts are.1 in omega (arith, rest)

pub has_range : (opening : List TableDef) (contents : Contents) (first count : ℕ) → ShowsEntries opening contents first count → HasRange contents first count
has_range opening contents first count some =
    told_length (log_range contents first count) (map told_entry (take count (drop first some.0))) (told_from opening contents some.0 some.1 first count some.2)
    ∙ length-map (take count (drop first some.0)) told_entry
    ∙ range_length first count some.0 some.2

-- so has a log that has these tables at its versions
pub has_range_by : (versions : Versions) (contents : Contents) (first count : ℕ) → ShowsEntriesBy versions contents first count → HasRange contents first count
has_range_by versions contents first count some = has_range versions.opening contents first count (some.0, some.1.0, some.2)

-- ---- one more of those that are stored

-- the one at a place, with which one more is taken
abbrev One : {X : Type 0} → (X → Type 0) → List X → ℕ → Type 0
One {X} Is xs at = (x : X) × Is x × (take (at + 1) xs ≡ take at xs ++ x ∷ [])

told_there : (stored : List StoredEntry) (tolds : List ToldEntry) (at : ℕ) (v : StoredEntry) → at < length stored → AreToldAs (items_of stored) tolds
    → (told : ToldEntry) × IsToldAs (item_of (get_or stored at v)) told × (at < length tolds) × (get_or tolds at told ≡ told)
told_there [] tolds at v less are = absurd (omega (arith, less))
told_there (s ∷ ss) [] at v less are = absurd are
told_there (s ∷ ss) (t ∷ ts) zero v less are = (t, are.0, omega arith, refl)
told_there (s ∷ ss) (t ∷ ts) (suc at) v less are =
    let rest = told_there ss ts at v (omega (arith, less)) are.1 in
    let within = rest.2 in (rest.0, rest.1, omega (arith, within), rest.3)

pub stored_there : (tables : ℕ → List TableDef) (version : ℕ) (stored : List StoredEntry) (entries : List LogEntry) (at : ℕ) (v : StoredEntry) → at < length stored → AreStoredAs tables version (items_of stored) entries
    → (entry : LogEntry) × IsStoredAs (tables (version + at)) (item_of (get_or stored at v)) entry × (at < length entries) × (get_or entries at entry ≡ entry)
stored_there tables version [] entries at v less are = absurd (omega (arith, less))
stored_there tables version (s ∷ ss) [] at v less are = absurd are
stored_there tables version (s ∷ ss) (e ∷ es) zero v less are =
    (e, subst (λ (n : ℕ). IsStoredAs (tables n) (item_of s) e) (let here : version ≡ version + 0 = omega arith in here) are.0, omega arith, refl)
stored_there tables version (s ∷ ss) (e ∷ es) (suc at) v less are =
    let rest = stored_there tables (version + 1) ss es at v (omega (arith, less)) are.2 in
    let within = rest.2 in
    (rest.0, subst (λ (n : ℕ). IsStoredAs (tables n) (item_of (get_or ss at v)) rest.0) (let next : (version + 1) + at ≡ version + suc at = omega arith in next) rest.1, omega (arith, within), rest.3)

pub told_at : (stored : List StoredEntry) (tolds : List ToldEntry) (at : ℕ) (v : StoredEntry) → at < length stored → v ≡ get_or stored at v → AreToldAs (items_of stored) tolds
    → One (IsToldAs (item_of v)) tolds at
told_at stored tolds at v less is are =
    let there = told_there stored tolds at v less are in (
      there.0,
      subst (λ (s : StoredEntry). IsToldAs (item_of s) there.0) (sym is) there.1,
      take_more tolds at there.0 there.2 ∙ ap (λ (t : ToldEntry). take at tolds ++ t ∷ []) there.3,
    )

pub stored_at : (tables : ℕ → List TableDef) (version : ℕ) (stored : List StoredEntry) (entries : List LogEntry) (at : ℕ) (v : StoredEntry) → at < length stored → v ≡ get_or stored at v
    → AreStoredAs tables version (items_of stored) entries → One (IsStoredAs (tables (version + at)) (item_of v)) entries at
stored_at tables version stored entries at v less is are =
    let there = stored_there tables version stored entries at v less are in (
      there.0,
      subst (λ (s : StoredEntry). IsStoredAs (tables (version + at)) (item_of s) there.0) (sym is) there.1,
      take_more entries at there.0 there.2 ∙ ap (λ (e : LogEntry). take at entries ++ e ∷ []) there.3,
    )

told_all : (stored : List StoredEntry) (tolds : List ToldEntry) → AreToldAs (items_of stored) tolds → take (length stored) tolds ≡ tolds
told_all [] [] are = refl
told_all [] (t ∷ ts) are = absurd are
told_all (s ∷ ss) [] are = absurd are
told_all (s ∷ ss) (t ∷ ts) are = ap (λ (xs : List ToldEntry). t ∷ xs) (told_all ss ts are.1)

stored_all : (tables : ℕ → List TableDef) (version : ℕ) (stored : List StoredEntry) (entries : List LogEntry) → AreStoredAs tables version (items_of stored) entries → take (length stored) entries ≡ entries
stored_all tables version [] [] are = refl
stored_all tables version [] (e ∷ es) are = absurd are
stored_all tables version (s ∷ ss) [] are = absurd are
stored_all tables version (s ∷ ss) (e ∷ es) are = ap (λ (xs : List LogEntry). e ∷ xs) (stored_all tables (version + 1) ss es are.2)

-- what is written of the entries told so far, with one more, and of all
pub put_more : (at : ℕ) (tolds : List ToldEntry) (told : ToldEntry) (old before now : List ℕ) → take (at + 1) tolds ≡ take at tolds ++ told ∷ [] → before ≡ old ++ flat_map entry_spelling (take at tolds)
    → now ≡ before ++ entry_spelling told → now ≡ old ++ flat_map entry_spelling (take (at + 1) tolds)
put_more at tolds told old before now one were grown =
    grown ∙ ap (λ (bytes : List ℕ). bytes ++ entry_spelling told) were
    ∙ append_assoc old (flat_map entry_spelling (take at tolds)) (entry_spelling told)
    ∙ ap (λ (bytes : List ℕ). old ++ bytes) (flat_map_more entry_spelling [] (take at tolds) told ∙ ap (λ (ts : List ToldEntry). flat_map entry_spelling ts) (sym one))

pub put_all : (at : ℕ) (stored : List StoredEntry) (tolds : List ToldEntry) (old now : List ℕ) → at ≡ length stored → AreToldAs (items_of stored) tolds → now ≡ old ++ flat_map entry_spelling (take at tolds)
    → now ≡ old ++ flat_map entry_spelling tolds
put_all at stored tolds old now end are is =
    is ∙ ap (λ (ts : List ToldEntry). old ++ flat_map entry_spelling ts) (ap (λ (n : ℕ). take n tolds) end ∙ told_all stored tolds are)

-- what is read so far, with one more, and of all
pub read_more : (at : ℕ) (entries : List LogEntry) (entry read : LogEntry) (before now : List LogEntry) → take (at + 1) entries ≡ take at entries ++ entry ∷ [] → before ≡ take at entries → read ≡ entry
    → now ≡ before ++ read ∷ [] → now ≡ take (at + 1) entries
read_more at entries entry read before now one were is grown =
    grown ∙ ap (λ (es : List LogEntry). es ++ read ∷ []) were ∙ ap (λ (e : LogEntry). take at entries ++ e ∷ []) is ∙ sym one

pub unread : {T : Type 0} (entry : LogEntry) (fault : BodyFault) → ReadsAs entry (Err fault) → ◌≡◌ {A = Result T BodyFault} (Err fault) (Err NoBody) → ⊥
unread entry Memory reads is = let no = err_is Memory NoBody is in cc
unread entry NoBody reads is = reads

pub read_all : (tables : ℕ → List TableDef) (version at : ℕ) (stored : List StoredEntry) (entries read : List LogEntry) → at ≡ length stored → AreStoredAs tables version (items_of stored) entries → read ≡ take at entries → read ≡ entries
read_all tables version at stored entries read end are is = is ∙ ap (λ (n : ℕ). take n entries) end ∙ stored_all tables version stored entries are

-- ---- the answer

numbers_more : (first count : ℕ) (some more : List ℕ) → (entries_tag ∷ entries_numbers first count some) ++ more ≡ entries_tag ∷ entries_numbers first count (some ++ more)
numbers_more first count some more =
    ap (λ (bs : List ℕ). entries_tag ∷ bs) (append_assoc (eight_bytes first) (four_bytes count ++ some) more
    ∙ ap (λ (bs : List ℕ). eight_bytes first ++ bs) (append_assoc (four_bytes count) some more))

pub all_told : (first count : ℕ) (log : List LogEntry) (head now : List ℕ) → first + count ≤ length log → head ≡ entries_tag ∷ entries_numbers first count []
    → now ≡ head ++ flat_map entry_spelling (map told_entry (take count (drop first log)))
    → now ≡ entries_spelling first (map told_entry (take count (drop first log)))
all_told first count log head now within begun is =
    let entries = take count (drop first log) in
    let many : length (map told_entry entries) ≡ count = length-map entries told_entry ∙ range_length first count log within in
    is ∙ ap (λ (bytes : List ℕ). bytes ++ flat_map entry_spelling (map told_entry entries)) begun
    ∙ numbers_more first count [] (flat_map entry_spelling (map told_entry entries))
    ∙ ap (λ (n : ℕ). entries_tag ∷ entries_numbers first n (flat_map entry_spelling (map told_entry entries))) (sym many)

-- ---- what is read of a store for more than was asked of it

module _ {S : Type 0} (g : Ghosts S) (all first : Type 0) (one : all → first) (old new : S) where
  pub read_well : {T U : Type 0} (t : T) (u : U) → ReadsStore g {T = T} {E = StoreFault} Device first old new (Ok t)
      → ReadsStore g {T = U} {E = StoreFault} Device all old new (Ok u)
  read_well t u reads = record {
    was_honest = reads.was_honest;
    same = reads.same;
    crash = reads.crash;
    kept = reads.kept;
    later = reads.later;
    cause = λ e. absurd cc;
    as_read = λ h r. reads.as_read h (one r);
  }

  pub read_failed : {T U : Type 0} (fault : StoreFault) → ReadsStore g {T = T} Device first old new (Err fault)
      → ReadsStore g {T = U} Device all old new (Err fault)
  read_failed fault reads = record {
    was_honest = reads.was_honest;
    same = reads.same;
    crash = reads.crash;
    kept = tt;
    later = reads.later;
    cause = λ e. reads.cause (same_err fault Device e);
    as_read = λ h r. reads.as_read h (one r);
  }

  pub no_memory : {T U : Type 0} (t : T) → ReadsStore g {T = T} {E = StoreFault} Device first old new (Ok t)
      → ReadsStore g {T = U} {E = StoreFault} Device all old new (Err store.Memory)
  no_memory t reads = record {
    was_honest = reads.was_honest;
    same = reads.same;
    crash = reads.crash;
    kept = tt;
    later = reads.later;
    cause = λ e. absurd (let no = err_is store.Memory Device e in cc);
    as_read = λ h r. reads.as_read h (one r);
  }
