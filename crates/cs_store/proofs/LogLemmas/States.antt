-- The states that a log makes, entry by entry.
use Rattle.std.proofs.Common.{◌≡◌, ℕ, zero, suc, ◌+◌, ◌≤◌, List, [], ◌∷◌, ◌++◌, take, drop, length, Option, Some, None, slice_get, refl, sym, ap, subst, map, append_assoc, ◌∙◌, arith}
use Rattle.std.specs.Option.{IsSome, unwrap_or}
use Rattle.std.specs.List.{All, fold}
use Rattle.std.specs.Str.{bytes_eq}
use Rattle.std.proofs.Math.Seq.{take-length}
use Rattle.std.proofs.lemmas.List.{append-nil, take-append-drop, take-take}
use Rattle.std.proofs.lemmas.List.Elements.{All-head, All-tail}
use Rattle.std.proofs.lemmas.List.Sums.{fold-append}
use Rattle.cs_value.specs.Catalog.{AreTables}
use Rattle.cs_value.specs.Facts.{by_test}
use Rattle.cs_value.specs.Key.{Place}
use Rattle.cs_value.specs.declared.catalog.TableDef.{TableDef}
use Rattle.cs_change.specs.Action.{action_any, after_any}
use Rattle.cs_normal.specs.Normal.{IsNormalChangeset, change_of}
use Rattle.cs_normal.specs.State.{State, left_at, AreApplied, IsApplied, IsDefinedOn, AppliedIsNet, IsStateOf, MayStandAt}
use Rattle.cs_widening.specs.Laws.{WidenedAreTables, WidenedIsState}
use Rattle.cs_widening.specs.Widening.{widened, widened_place, widened_tables}
use Rattle.cs_store.specs.log.Entry.{MayWiden, WidensNone, changes_of_body, entry_changes}
use Rattle.cs_store.specs.log.Laws.{CatalogNext, CatalogsAreTables, EntryLeads, LogIsApplied, LogStates, OneStateAVersion, PlainSlices, Slices}
use Rattle.cs_store.specs.log.Log.{AreMade, IsLog, IsMade, IsNextEntry, after_body, after_entry, catalog_after, catalog_at, catalog_next, catalog_of, empty_state, entries_between, state_of, tables_at}
use Rattle.cs_store.specs.declared.log.body.Body.{Body}
use Rattle.cs_store.specs.declared.log.body.Body.TheVariants.{Changes, Widen}
use Rattle.cs_store.specs.declared.log.entry.LogEntry.{LogEntry}
use Rattle.cs_store.proofs.LogLemmas.Logs.{front_is_log}

-- each entry of the rest is the next behind those before it
abbrev pub AreNext : List TableDef → List LogEntry → List LogEntry → Type 0
AreNext opening before [] = Unit {0}
AreNext opening before (entry ∷ rest) = IsNextEntry opening before entry × AreNext opening (before ++ entry ∷ []) rest

at_end : (before rest : List LogEntry) (entry : LogEntry) → slice_get (before ++ entry ∷ rest) (length before) ≡ Some entry
at_end [] rest entry = refl
at_end (first ∷ before) rest entry = at_end before rest entry

up_to_end : (before rest : List LogEntry) → take (length before) (before ++ rest) ≡ before
up_to_end [] rest = refl
up_to_end (first ∷ before) rest = ap (λ (l : List LogEntry). first ∷ l) (up_to_end before rest)

pub are_next : (opening : List TableDef) (before rest : List LogEntry) → IsLog opening (before ++ rest) → AreNext opening before rest
are_next opening before [] each = tt
are_next opening before (entry ∷ rest) each = (
  subst (λ (l : List LogEntry). IsNextEntry opening l entry) (up_to_end before (entry ∷ rest)) (each (length before) entry (at_end before rest entry)),
  are_next opening (before ++ entry ∷ []) rest (subst (λ (l : List LogEntry). IsLog opening l) (sym (append_assoc before (entry ∷ []) rest)) each),
)

-- ---- one entry

defined_there : (left : Option Place) (place : Place) → IsSome left → left ≡ Some (unwrap_or left place)
defined_there None place some = cc
defined_there (Some end) place some = refl

body_made : (tables : List TableDef) (state : State) (body : Body) → IsDefinedOn tables (changes_of_body body) state → MayWiden tables body → IsMade tables body state (after_body state body)
body_made tables state (Changes changes) defined widens =
    (defined.0, λ name key. defined_there (left_at changes state name key) (state name key) (defined.1 name key))
body_made tables state (Widen table width) defined can = (can, λ name key. refl)

-- the catalog behind a log
at_length : (opening : List TableDef) (log : List LogEntry) → catalog_at opening log (length log) ≡ catalog_of opening log
at_length opening log = ap (catalog_of opening) (take-length log)

one_more : (log : List LogEntry) (entry : LogEntry) → state_of (log ++ entry ∷ []) ≡ after_entry (state_of log) entry
one_more log entry = fold-append after_entry empty_state log (entry ∷ [])

one_more_catalog : (opening : List TableDef) (log : List LogEntry) (entry : LogEntry) → catalog_of opening (log ++ entry ∷ []) ≡ catalog_next (catalog_of opening log) entry
one_more_catalog opening log entry = fold-append catalog_next opening log (entry ∷ [])

next_made : (opening : List TableDef) (log : List LogEntry) (entry : LogEntry) → IsNextEntry opening log entry → IsMade (catalog_of opening log) entry.body (state_of log) (state_of (log ++ entry ∷ []))
next_made opening log entry next =
    subst (λ (s : State). IsMade (catalog_of opening log) entry.body (state_of log) s) (sym (one_more log entry))
    (subst (λ (tables : List TableDef). IsMade tables entry.body (state_of log) (after_entry (state_of log) entry)) (at_length opening log)
    (body_made (catalog_at opening log (length log)) (state_of log) entry.body next.defined next.widens))

may_next : (opening : List TableDef) (log : List LogEntry) (entry : LogEntry) → IsNextEntry opening log entry → MayWiden (catalog_of opening log) entry.body
may_next opening log entry next = subst (λ (tables : List TableDef). MayWiden tables entry.body) (at_length opening log) next.widens

-- ---- one behind another

all_made : (opening : List TableDef) (before rest : List LogEntry) → AreNext opening before rest → AreMade (catalog_of opening before) rest (state_of before) (state_of (before ++ rest))
all_made opening before [] next = λ name key. ap (λ (l : List LogEntry). state_of l name key) (append-nil before)
all_made opening before (entry ∷ rest) next = (
  state_of (before ++ entry ∷ []),
  next_made opening before entry next.0,
  subst (λ (tables : List TableDef). AreMade tables rest (state_of (before ++ entry ∷ [])) (state_of (before ++ entry ∷ rest))) (one_more_catalog opening before entry)
      (subst (λ (l : List LogEntry). AreMade (catalog_of opening (before ++ entry ∷ [])) rest (state_of (before ++ entry ∷ [])) (state_of l)) (append_assoc before (entry ∷ []) rest)
      (all_made opening (before ++ entry ∷ []) rest next.1)),
)

pub log_is_applied : LogIsApplied
log_is_applied opening log each = all_made opening [] log (are_next opening [] log each)

-- the first entries of a log are a log
first_entries : (opening : List TableDef) (log : List LogEntry) (version : ℕ) → IsLog opening log → IsLog opening (take version log)
first_entries opening log version each =
    front_is_log opening (take version log) (drop version log) (subst (λ (l : List LogEntry). IsLog opening l) (sym (take-append-drop version log)) each)

first_of_first : (log : List LogEntry) (from to : ℕ) → from ≤ to → take from (take to log) ≡ take from log
first_of_first log from to within = rw take-take refl

split_at : (log : List LogEntry) (from to : ℕ) → from ≤ to → take from log ++ entries_between log from to ≡ take to log
split_at log from to within =
    ap (λ (l : List LogEntry). l ++ drop from (take to log)) (sym (first_of_first log from to within)) ∙ take-append-drop from (take to log)

pub slices : Slices
slices opening log from to each within =
    let whole = split_at log from to within in
    let is : IsLog opening (take from log ++ entries_between log from to) = subst (λ (l : List LogEntry). IsLog opening l) (sym whole) (first_entries opening log to each) in
    subst (λ (l : List LogEntry). AreMade (catalog_of opening (take from log)) (entries_between log from to) (tables_at log from) (state_of l)) whole
    (all_made opening (take from log) (entries_between log from to) (are_next opening (take from log) (entries_between log from to) is))

-- ---- where none widens a table

-- the changeset is applied, and the catalog stays
plain_body : (tables : List TableDef) (body : Body) (before end : State) → WidensNone body → IsMade tables body before end → IsApplied tables (changes_of_body body) before end × (catalog_after tables body ≡ tables)
plain_body tables (Changes changes) before end none made = (made, refl)
plain_body tables (Widen table width) before end none made = absurd none

-- the entry widens no table
abbrev Plain : LogEntry → Type 0
Plain entry = WidensNone entry.body

plain : (tables : List TableDef) (entries : List LogEntry) (before end : State) → All Plain entries → AreMade tables entries before end → AreApplied tables (map entry_changes entries) before end
plain tables [] before end none made = made
plain tables (entry ∷ entries) before end none (middle, first, others) =
    let step = plain_body tables entry.body before middle (All-head Plain entry entries none) first in
    (middle, step.0, plain tables entries middle end (All-tail Plain entry entries none) (subst (λ (t : List TableDef). AreMade t entries middle end) step.1 others))

pub plain_slices : PlainSlices
plain_slices opening log from to each within none =
    plain (catalog_at opening log from) (entries_between log from to) (tables_at log from) (tables_at log to) none (slices opening log from to each within)

-- ---- they are states of the tables

tables_after : WidenedAreTables → (tables : List TableDef) (body : Body) → AreTables tables → MayWiden tables body → AreTables (catalog_after tables body)
tables_after wide tables (Changes changes) are may = are
tables_after wide tables (Widen table width) are can = wide tables table width are can

state_after : AppliedIsNet → WidenedIsState → (tables : List TableDef) (body : Body) (before end : State) → AreTables tables → IsNormalChangeset (changes_of_body body) → IsStateOf tables before → IsMade tables body before end → IsStateOf (catalog_after tables body) end
state_after net wide tables (Changes changes) before end are normal state made = (net tables changes before end are normal state made).0
state_after net wide tables (Widen table width) before end are normal state made =
    λ name key. subst (λ (p : Place). MayStandAt (widened_tables table width tables) name key p) (sym (made.1 name key)) (wide tables table width before state name key)

-- a catalog behind a log, and a state of it
abbrev Behind : List TableDef → List LogEntry → Type 0
Behind opening log = AreTables (catalog_of opening log) × IsStateOf (catalog_of opening log) (state_of log)

states_along : AppliedIsNet → WidenedAreTables → WidenedIsState → (opening : List TableDef) (before rest : List LogEntry) → AreNext opening before rest → Behind opening before → Behind opening (before ++ rest)
states_along net wide_tables wide_state opening before [] next behind = subst (λ (l : List LogEntry). Behind opening l) (sym (append-nil before)) behind
states_along net wide_tables wide_state opening before (entry ∷ rest) next behind =
    let tables = catalog_of opening before in
    let after = one_more_catalog opening before entry in
    let are = tables_after wide_tables tables entry.body behind.0 (may_next opening before entry next.0) in
    let state = state_after net wide_state tables entry.body (state_of before) (state_of (before ++ entry ∷ [])) behind.0 next.0.normal behind.1 (next_made opening before entry next.0) in
    let one : Behind opening (before ++ entry ∷ []) = (
      subst AreTables (sym after) are,
      subst (λ (t : List TableDef). IsStateOf t (state_of (before ++ entry ∷ []))) (sym after) state,
    ) in
    subst (λ (l : List LogEntry). Behind opening l) (append_assoc before (entry ∷ []) rest)
    (states_along net wide_tables wide_state opening (before ++ entry ∷ []) rest next.1 one)

behind_all : AppliedIsNet → WidenedAreTables → WidenedIsState → (opening : List TableDef) (log : List LogEntry) (version : ℕ) → AreTables opening → IsLog opening log → Behind opening (take version log)
behind_all net wide_tables wide_state opening log version are each =
    states_along net wide_tables wide_state opening [] (take version log) (are_next opening [] (take version log) (first_entries opening log version each)) (are, λ name key. tt)

pub log_states : AppliedIsNet → WidenedAreTables → WidenedIsState → LogStates
log_states net wide_tables wide_state opening log version are each = (behind_all net wide_tables wide_state opening log version are each).1

pub catalogs_are_tables : AppliedIsNet → WidenedAreTables → WidenedIsState → CatalogsAreTables
catalogs_are_tables net wide_tables wide_state opening log version are each = (behind_all net wide_tables wide_state opening log version are each).0

-- ---- there is one

-- what an entry does leaves the same where the same stands
leaves_same : (tables : List TableDef) (body : Body) (before also middle : State) → ((name key : List ℕ) → also name key ≡ before name key) → IsMade tables body before middle → (name key : List ℕ) → after_body also body name key ≡ middle name key
leaves_same tables (Changes changes) before also middle same made name key =
    let there : left_at changes also name key ≡ Some (middle name key) =
    subst (λ (p : Place). after_any (action_any (change_of name key changes)) p ≡ Some (middle name key)) (sym (same name key)) (made.1 name key) in
    ap (λ (o : Option Place). unwrap_or o (also name key)) there
leaves_same tables (Widen table width) before also middle same made name key =
    let both : widened table width also name key ≡ widened table width before name key =
    by_test (bytes_eq name table) _ (λ e. simp e (ap (widened_place width) (same name key))) (λ e. simp e (same name key)) in
    both ∙ sym (made.1 name key)

led : (tables : List TableDef) (entries : List LogEntry) (before also end : State) → ((name key : List ℕ) → also name key ≡ before name key) → AreMade tables entries before end → (name key : List ℕ) → fold after_entry also entries name key ≡ end name key
led tables [] before also end same made name key = same name key ∙ sym (made name key)
led tables (entry ∷ entries) before also end same (middle, first, others) name key =
    led (catalog_next tables entry) entries middle (after_entry also entry) end (leaves_same tables entry.body before also middle same first) others name key

pub one_state_a_version : OneStateAVersion
one_state_a_version opening log version state made name key =
    sym (led opening (take version log) empty_state empty_state state (λ n k. refl) made name key)

-- ---- at one entry

take_one : (log : List LogEntry) (version : ℕ) (entry : LogEntry) → slice_get log version ≡ Some entry → take (suc version) log ≡ take version log ++ entry ∷ []
take_one [] zero entry there = cc
take_one [] (suc version) entry there = cc
take_one (first ∷ log) zero entry there = let is : first ≡ entry = cc in ap (λ (e : LogEntry). e ∷ []) is
take_one (first ∷ log) (suc version) entry there = ap (λ (l : List LogEntry). first ∷ l) (take_one log version entry there)

take_next : (log : List LogEntry) (version : ℕ) (entry : LogEntry) → slice_get log version ≡ Some entry → take (version + 1) log ≡ take version log ++ entry ∷ []
take_next log version entry there =
    let e : version + 1 ≡ suc version = omega arith in
    ap (λ (n : ℕ). take n log) e ∙ take_one log version entry there

pub catalog_next_is : CatalogNext
catalog_next_is opening log version entry there =
    ap (catalog_of opening) (take_next log version entry there) ∙ one_more_catalog opening (take version log) entry

pub entry_leads : EntryLeads
entry_leads opening log version entry before end there same made name key =
    let next : tables_at log (version + 1) ≡ after_entry (tables_at log version) entry = ap state_of (take_next log version entry there) ∙ one_more (take version log) entry in
    sym (leaves_same (catalog_at opening log version) entry.body before (tables_at log version) end (λ n k. sym (same n k)) made name key)
    ∙ sym (ap (λ (s : State). s name key) next)
