-- From the steps to an entry that was taken.
use Rattle.std.proofs.Common.{◌≡◌, ◌⊎◌, ℕ, Bool, true, false, is_some, Result, Ok, Err, List, [], ◌∷◌, map, Option, Some, None, refl, sym, ap, subst, ◌∙◌, inl, inr}
use Rattle.std.specs.Prelude.{◌||◌, IsSome}
use Rattle.std.specs.List.{AllByRecursion}
use Rattle.cs_value.specs.Facts.{by_test}
use Rattle.cs_value.specs.Key.{Place}
use Rattle.cs_value.specs.declared.catalog.TableDef.{TableDef}
use Rattle.cs_change.specs.Action.{action, action_any, after, after_any}
use Rattle.cs_change.specs.declared.change.Change.{Change}
use Rattle.cs_normal.specs.keyed.Changes.{Changes, IsEntry}
use Rattle.cs_normal.specs.Normal.{FitsCatalog, IsNormalChangeset, change_of, groups_of}
use Rattle.cs_normal.specs.State.{AreSame, IsDefinedOn, IsStateOf, State, left_at}
use Rattle.cs_normal.specs.declared.normal.TableChanges.{TableChanges}
use Rattle.cs_store.specs.declared.fault.StoreFault.{StoreFault}
use Rattle.cs_store.specs.declared.fault.StoreFault.TheVariants as stored
use Rattle.cs_store.specs.declared.store.RowStore.{Ghosts}
use Rattle.cs_conflict.specs.declared.clash.Clash.{Clash}
use Rattle.cs_conflict.specs.declared.conflict.Conflict.{Conflict}
use Rattle.cs_conflict.specs.declared.wish.Wish.{Wish}
use Rattle.cs_apply.specs.NormalTasks.{AreElsewhere, HaveOwnPlaces, are_apart, entries_in, keyed_task, keyed_tasks, number_of, of_one, table_tasks, tasks_are}
use Rattle.cs_apply.specs.Spots.{all_both}
use Rattle.cs_tasks.specs.Tasks.{Task, tasks}
use Rattle.cs_pending.specs.Calls.{ReadsStore}
use Rattle.cs_pending.specs.Storing.{err_is}
use Rattle.cs_pending.specs.View.{View, middle}
use Rattle.cs_pending.specs.position.Shows.{base, flown}
use Rattle.cs_exchange.specs.taking.Steps.{AreOn, AreSitesPlaced, HasBad, IsDecided, IsDirectAt, IsFlightFolded, IsReady, IsStill, site_task}
use Rattle.cs_exchange.specs.taking.Takes.{IfStopped, IsPendingOver, IsTaken, StopsAt, StopsTaking, TakeAll, is_touched}
use Rattle.cs_exchange.specs.declared.taking.fault.TakeFault.{TakeFault}
use Rattle.cs_exchange.specs.declared.taking.fault.TakeFault.TheVariants.{Memory, BadEntry, Device}
use Rattle.cs_exchange.specs.declared.taking.site.Site.{Site}
use Rattle.cs_exchange.proofs.TakingLemmas.Stepped.{still_direct, still_log}
use Rattle.cs_exchange.proofs.TakingLemmas.Whole.{AreFound, all_found, nothing_there, there_or_elsewhere, where_none, where_some}

-- ---- the changes of the entry

each_entry : (table : ℕ) (first : TableChanges) (changes : Changes) → AllByRecursion (IsEntry first.marks) changes → AllByRecursion (λ (t : Task). IsEntry t.marks (t.key, t.change)) (map (keyed_task table first) changes)
each_entry table first [] are = tt
each_entry table first (c ∷ changes) are = (are.0, each_entry table first changes are.1)

all_entries : (tables : List TableDef) (changes : List TableChanges) → IsNormalChangeset changes → AllByRecursion (λ (t : Task). IsEntry t.marks (t.key, t.change)) (keyed_tasks tables changes)
unfolding keyed_tasks
all_entries tables [] normal = tt
all_entries tables (first ∷ others) normal =
    all_both (λ (t : Task). IsEntry t.marks (t.key, t.change)) (table_tasks tables first) (keyed_tasks tables others)
    (each_entry (number_of tables first) first first.changes (entries_in first others normal)) (all_entries tables others normal.2)

everywhere : (P : List ℕ → List ℕ → Type 0) (ts : List Task) → ((name key : List ℕ) → P name key) → AllByRecursion (λ (t : Task). P t.name t.key) ts
everywhere P [] all = tt
everywhere P (t ∷ ts) all = (all t.name t.key, everywhere P ts all)

none_some : {A : Type 0} (o : Option A) → IsSome o → o ≡ None → ⊥
none_some None some none = absurd (let no = some in cc)
none_some (Some a) some none = absurd (let no = none in cc)

some_is : {A : Type 0} (o : Option A) (a : A) → o ≡ Some a → IsSome o
some_is o a is = subst (λ (x : Option _). IsSome x) (sym is) refl

module _ (changes : List TableChanges) where
  left_each : (log theirs : State) (ts : List Task) → AreFound changes ts → AllByRecursion (λ (t : Task). after (action t.change) (log t.name t.key) ≡ Some (theirs t.name t.key)) ts
      → AllByRecursion (λ (t : Task). left_at changes log t.name t.key ≡ Some (theirs t.name t.key)) ts
  left_each log theirs [] found are = tt
  left_each log theirs (t ∷ ts) found are =
      (ap (λ (c : Option Change). after_any (action_any c) (log t.name t.key)) found.0 ∙ are.0, left_each log theirs ts found.1 are.1)

  -- each change is defined, and so the changeset leaves something at its place
  defined_each : (log : State) (ts : List Task) → AreFound changes ts → AllByRecursion (λ (t : Task). IsSome (after (action t.change) (log t.name t.key))) ts
      → AllByRecursion (λ (t : Task). IsSome (left_at changes log t.name t.key)) ts
  defined_each log [] found are = tt
  defined_each log (t ∷ ts) found are =
      (subst (λ (c : Option Change). IsSome (after_any (action_any c) (log t.name t.key))) (sym found.0) are.0, defined_each log ts found.1 are.1)

  -- a change that isn't defined, and all are
  never_bad : (log : State) (ts : List Task) → AreFound changes ts → ((name key : List ℕ) → IsSome (left_at changes log name key)) → HasBad log ts → ⊥
  unfolding HasBad
  never_bad log [] found all bad = bad
  never_bad log (t ∷ ts) found all (inl none) =
      none_some (left_at changes log t.name t.key) (all t.name t.key) (ap (λ (c : Option Change). after_any (action_any c) (log t.name t.key)) found.0 ∙ none)
  never_bad log (t ∷ ts) found all (inr behind) = never_bad log ts found.1 all behind

  pub bad_entry : (tables : List TableDef) (log : State) → IsNormalChangeset changes → HasBad log (keyed_tasks tables changes) → IsDefinedOn tables changes log → ⊥
  bad_entry tables log normal bad defined = never_bad log (keyed_tasks tables changes) (all_found changes tables normal) defined.1 bad

-- the places of an entry have what their changes leave
made_each : (log own : State) (sites : List Site) → AreOn log own sites → AllByRecursion (λ (t : Task). IsSome (after (action t.change) (log t.name t.key))) (map site_task sites)
made_each log own [] on = tt
made_each log own (site ∷ sites) on = (
  some_is (after (action site.at.change) (log site.at.table.now.name site.at.key.now)) site.theirs (ap (λ (x : Place). after (action site.at.change) x) (sym on.0.log_is) ∙ site.made),
  made_each log own sites on.1,
)

or_right : (a b : Bool) → a ≡ false → (a || b) ≡ true → b ≡ true
or_right true b e either = absurd cc
or_right false b e either = either

or_none : (a b : Bool) → (a || b) ≡ false → (a ≡ false) × (b ≡ false)
or_none true b e = absurd cc
or_none false b e = (refl, e)

-- ---- the places are ready, and the entry is taken

module _ (tables : List TableDef) (changes : List TableChanges) (fits : FitsCatalog tables changes) (normal : IsNormalChangeset changes) (sites : List Site) (are : map site_task sites ≡ keyed_tasks tables changes) where
  pub is_ready : (log own : State) (view : View) → AreSitesPlaced tables sites → AreOn log own sites → IsStateOf tables log → IsStateOf tables own → AreSame own view.tables → AreSame log (middle view)
      → IsReady tables log own sites view
  is_ready log own view placed on log_state own_state same_own same_log = record {
    placed = placed;
    on = on;
    apart = subst (λ (ts : List Task). HaveOwnPlaces ts) (sym are) (are_apart tables changes normal);
    entries = subst (λ (ts : List Task). AllByRecursion (λ (t : Task). IsEntry t.marks (t.key, t.change)) ts) (sym are) (all_entries tables changes normal);
    log_state = log_state;
    own_state = own_state;
    stand = everywhere (λ n k. (view.tables n k ≡ own n k) × (middle view n k ≡ log n k)) (map site_task sites) (λ n k. (same_own n k, same_log n k));
  }

  all_tasks : map site_task sites ≡ tasks tables (groups_of changes)
  all_tasks = are ∙ sym (tasks_are tables changes (of_one tables changes fits) normal)

  none_there : (name key : List ℕ) → AreElsewhere (name, key) (keyed_tasks tables changes) → change_of name key changes ≡ None
  none_there = nothing_there tables changes normal (keyed_tasks tables changes) refl

  defined_at : (log : State) (name key : List ℕ) → IsSome (left_at changes log name key) ⊎ AreElsewhere (name, key) (keyed_tasks tables changes) → IsSome (left_at changes log name key)
  defined_at log name key (inl is) = is
  defined_at log name key (inr away) = subst (λ (c : Option Change). IsSome (after_any (action_any c) (log name key))) (sym (none_there name key away)) refl

  all_defined : (log own : State) → AreOn log own sites → IsDefinedOn tables changes log
  all_defined log own on =
      let made = subst (λ (ts : List Task). AllByRecursion (λ (t : Task). IsSome (after (action t.change) (log t.name t.key))) ts) are (made_each log own sites on) in (
        fits,
        λ n k. defined_at log n k (there_or_elsewhere (λ name key. IsSome (left_at changes log name key)) (keyed_tasks tables changes)
            (defined_each changes log (keyed_tasks tables changes) (all_found changes tables normal) made) n k),
      )

  module _ {P : Type 0} (picks : P → Clash → Wish → P → Type 0) (p q : P) where
    pub stops_entry : (flight : Option (List TableChanges)) (seen : View) (conflict : Conflict) → AreOn (base flight seen) seen.tables sites
        → StopsAt picks (base flight seen) seen.tables (map site_task sites) p conflict q → StopsTaking picks tables flight changes seen p conflict q
    stops_entry flight seen conflict on stops = record {
      defined = all_defined (base flight seen) seen.tables on;
      stops = subst (λ (ts : List Task). StopsAt picks (base flight seen) seen.tables ts p conflict q) all_tasks stops;
    }

    module _ (flight : Option (List TableChanges)) (seen view end : View) (folded : IsFlightFolded tables flight seen view)
        (decided : IsDecided picks tables (base flight seen) seen.tables (map site_task sites) view p end q) where
      at_entry : IsDecided picks tables (base flight seen) seen.tables (keyed_tasks tables changes) view p end q
      at_entry = subst (λ (ts : List Task). IsDecided picks tables (base flight seen) seen.tables ts view p end q) are decided

      -- a place where the entry has no change
      beside : (name key : List ℕ) → is_some (change_of name key changes) ≡ false → IsStill view end name key
      beside name key none = at_entry.elsewhere name key (where_none tables changes normal (keyed_tasks tables changes) refl name key none)

      left_here : (name key : List ℕ) → (left_at changes (base flight seen) name key ≡ Some (middle end name key)) ⊎ AreElsewhere (name, key) (keyed_tasks tables changes)
          → left_at changes (base flight seen) name key ≡ Some (middle end name key)
      left_here name key (inl is) = is
      left_here name key (inr away) =
          ap (λ (c : Option Change). after_any (action_any c) (base flight seen name key)) (none_there name key away)
          ∙ ap (λ (x : Place). Some x) (sym (still_log view end name key (at_entry.elsewhere name key away) ∙ folded.log name key))

      direct_at : (name key : List ℕ) → is_touched flight changes name key ≡ true → IsDirectAt tables end name key
      direct_at name key touched =
          by_test (is_some (change_of name key changes)) _
          (λ e. where_some tables changes normal (keyed_tasks tables changes) refl (IsDirectAt tables end) at_entry.direct name key e)
          (λ e. still_direct tables view end name key (beside name key e)
          (folded.direct name key (or_right (is_some (change_of name key changes)) (is_some (change_of name key (flown flight))) e touched)))

      pub pends_over : IsPendingOver tables flight changes seen end
      pends_over = record {
        touched = λ table key inside is. direct_at table.name key is table inside refl;
        untouched = λ n k is.
            let none = or_none (is_some (change_of n k changes)) (is_some (change_of n k (flown flight))) is in
            (beside n k none.0).pending ∙ (folded.still n k none.1).pending;
      }

      pub is_taken : IsTaken picks tables flight changes seen end p q
      is_taken = record {
        takes = subst (λ (ts : List Task). TakeAll picks (base flight seen) seen.tables (middle end) end.tables ts p q) all_tasks decided.takes;
        applied = (
          fits,
          λ n k. left_here n k (there_or_elsewhere (λ name key. left_at changes (base flight seen) name key ≡ Some (middle end name key)) (keyed_tasks tables changes)
              (left_each changes (base flight seen) (middle end) (keyed_tasks tables changes) (all_found changes tables normal) at_entry.theirs) n k),
        );
        others = λ n k none. (beside n k (ap (λ (c : Option Change). is_some c) none)).row ∙ folded.same n k;
        pending = pends_over;
      }

-- ---- faults

pub was_device : (fault : StoreFault) (told : TakeFault) → (fault ≡ stored.Memory → told ≡ Memory) → told ≡ Device → fault ≡ stored.Device
was_device stored.Memory told memory is = absurd (let no = sym (memory refl) ∙ is in cc)
was_device stored.Device told memory is = refl

-- a fault of the store tells neither of the entry nor of a picker
pub stops_never : (fault : StoreFault) (told : TakeFault) (said : Conflict → Type 0) → (fault ≡ stored.Memory → told ≡ Memory) × (fault ≡ stored.Device → told ≡ Device) → IfStopped told said
stops_never stored.Memory told said gives = subst (λ (f : TakeFault). IfStopped f said) (sym (gives.0 refl)) tt
stops_never stored.Device told said gives = subst (λ (f : TakeFault). IfStopped f said) (sym (gives.1 refl)) tt

pub bad_never : {T : Type 0} (fault : StoreFault) (told : TakeFault) → (fault ≡ stored.Memory → told ≡ Memory) × (fault ≡ stored.Device → told ≡ Device) → ◌≡◌ {A = Result T TakeFault} (Err told) (Err BadEntry) → ⊥
bad_never stored.Memory told gives is = absurd (let no = sym (gives.0 refl) ∙ err_is told BadEntry is in cc)
bad_never stored.Device told gives is = absurd (let no = sym (gives.1 refl) ∙ err_is told BadEntry is in cc)

module _ {S : Type 0} (g : Ghosts S) (readable : Type 0) (old new : S) where
  -- reads that failed, told by another name
  pub reads_told : {T U : Type 0} (fault : StoreFault) (told : TakeFault) → (told ≡ Device → fault ≡ stored.Device)
      → ReadsStore g {T = T} stored.Device readable old new (Err fault)
      → ReadsStore g {T = U} Device readable old new (Err told)
  reads_told fault told is reads = record {
    was_honest = reads.was_honest;
    same = reads.same;
    crash = reads.crash;
    kept = tt;
    later = reads.later;
    cause = λ e. reads.cause (ap (λ (f : StoreFault). Err f) (is (err_is told Device e)));
    as_read = reads.as_read;
  }

  -- a fault after reads that isn't the device's
  pub reads_then_fault : {T U : Type 0} (t : T) (told : TakeFault) → (◌≡◌ {A = Result U TakeFault} (Err told) (Err Device) → ⊥)
      → ReadsStore g {T = T} {E = StoreFault} stored.Device readable old new (Ok t)
      → ReadsStore g {T = U} Device readable old new (Err told)
  reads_then_fault t told never reads = record {
    was_honest = reads.was_honest;
    same = reads.same;
    crash = reads.crash;
    kept = tt;
    later = reads.later;
    cause = λ e. absurd (never e);
    as_read = reads.as_read;
  }
