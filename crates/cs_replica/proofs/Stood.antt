-- Replicas that stand on a log.
use Rattle.std.proofs.Common.{◌≡◌, ◌≤◌, ℕ, List, [], Option, Some, None, length, option_map, refl, sym, ap, subst, ◌∙◌, arith, length-append}
use Rattle.std.specs.Prelude.{slice_get, Contains, pos}
use Rattle.std.specs.FinMap.{empty, empty_of_len, get, get-empty}
use Rattle.std.proofs.lemmas.List.{get_or_default}
use Rattle.std.proofs.lemmas.Option.{same_Some, slice_get_within, slice_get-get_or}
use Rattle.cs_value.specs.declared.catalog.TableDef.{TableDef}
use Rattle.cs_change.specs.Action.{action_any, after_any}
use Rattle.cs_change.specs.Spelling.{change_spelling}
use Rattle.cs_change.specs.declared.change.Change.{Change}
use Rattle.cs_normal.specs.Normal.{FitsCatalog, change_of}
use Rattle.cs_normal.specs.State.{AreSame, IsApplied, NetIsApplied, State}
use Rattle.cs_normal.specs.declared.normal.TableChanges.{TableChanges}
use Rattle.cs_store.specs.log.Laws.{EntryLeads, LongerLog}
use Rattle.cs_store.specs.log.Log.{tables_at}
use Rattle.cs_store.specs.declared.log.entry.LogEntry.{LogEntry}
use Rattle.cs_store.specs.Contents.{Bodies, Contents, place_cmp, stored_pending}
use Rattle.cs_pending.specs.Laws.{EditKeepsBefore}
use Rattle.cs_pending.specs.Nets.{undo_none}
use Rattle.cs_pending.specs.Shows.{IsSoundOf}
use Rattle.cs_pending.specs.View.{View, before, middle, undo}
use Rattle.cs_pending.specs.position.Shows.{ShowsAt, base, changes_at, flown}
use Rattle.cs_pending.specs.declared.position.position.Position.{Position}
use Rattle.cs_replica.specs.Stands.{StandsOn}
use Rattle.cs_replica.specs.Laws.{EditStands, EntryStands, EqualAtRest, FirstStands, FlightFits, KeptStands, LeadStands, StandsLonger}

-- ---- where it stands

pub first_stands : FirstStands
unfolding undo
first_stands log position version flight = record {
  within = omega (arith, version);
  on_tables = λ n k.
      ap (λ (f : Option (List TableChanges)). base f (record { tables = λ name key. None; pending = λ name key. None }) n k) flight
      ∙ ap (λ (v : ℕ). tables_at log v n k) (sym version);
}

pub stands_longer : LongerLog → StandsLonger
stands_longer law log more position view stands = record {
  within = omega (arith, stands.within, length-append log more);
  on_tables = λ n k. stands.on_tables n k ∙ sym (ap (λ (s : State). s n k) (law [] log more position.version stands.within).1);
}

-- the same changes undone from the same rows
same_before : (flight : Option (List TableChanges)) (some other : State) → AreSame some other → AreSame (before (changes_at (flown flight)) some) (before (changes_at (flown flight)) other)
same_before flight some other same n k = ap (undo (action_any (changes_at (flown flight) n k))) (same n k)

pub edit_stands : EditKeepsBefore → EditStands
edit_stands keeps tables log name asked old new position pending view next are shows made after stands = record {
  within = stands.within;
  on_tables = λ n k.
      same_before position.flight (middle view) (middle next) (keeps tables name asked view next are shows.rows.sound after.rows.rows.rows made) n k
      ∙ stands.on_tables n k;
}

pub kept_stands : KeptStands
kept_stands log position other view next version same stands = record {
  within = omega (arith, version, stands.within);
  on_tables = λ n k. same n k ∙ stands.on_tables n k ∙ ap (λ (v : ℕ). tables_at log v n k) (sym version);
}

-- ---- one entry, or several

-- what a changeset leaves of the same rows is the same
one_left : (tables others : List TableDef) (changes : List TableChanges) (some other : State) (end left : State) → AreSame some other → IsApplied tables changes some end → IsApplied others changes other left → AreSame end left
one_left tables others changes some other end left same one two n k =
    same_Some (left n k) (end n k) (sym (two.1 n k) ∙ ap (after_any (action_any (change_of n k changes))) (same n k) ∙ one.1 n k)

-- what leads from the log's tables at one version to those at another, whichever the catalogs are
lead_there : (tables others : List TableDef) (log : List LogEntry) (next : ℕ) (changes : List TableChanges) (position other : Position) (view left : View) → next ≤ length log → IsApplied tables changes (tables_at log position.version) (tables_at log next)
    → other.version ≡ next → IsApplied others changes (base position.flight view) (base other.flight left) → StandsOn log position view → StandsOn log other left
lead_there tables others log next changes position other view left within leads version applied stands = record {
  within = omega (arith, within, version);
  on_tables = λ n k.
      one_left tables others changes (tables_at log position.version) (base position.flight view) (tables_at log next) (base other.flight left) stands.on_tables leads applied n k
      ∙ ap (λ (v : ℕ). tables_at log v n k) (sym version);
}

pub lead_stands : LeadStands
lead_stands tables = lead_there tables tables

-- what makes of the log's rows what the entry at the version makes of them
pub entry_stands : EntryLeads → EntryStands
entry_stands leads opening log entry position other view next at version made stands = record {
  within = (let within = slice_get_within log position.version entry at in omega (arith, within, version));
  on_tables = λ n k.
      leads opening log position.version entry (base position.flight view) (base other.flight next) at stands.on_tables made n k
      ∙ ap (λ (v : ℕ). tables_at log v n k) (sym version);
}

-- ---- what is under way

pub flight_fits : NetIsApplied → FlightFits
flight_fits law tables contents log position changes view are shows flight stands =
    let sound = subst (λ (f : Option (List TableChanges)). IsSoundOf tables (changes_at (flown f)) (middle view)) flight shows.under_way.sound in
    let fits = subst (λ (f : Option (List TableChanges)). FitsCatalog tables (flown f)) flight shows.under_way.fits in
    let applied = law tables changes (before (changes_at changes) (middle view)) (middle view) are sound.before_state sound.after_state (fits, sound.net_of) in
    let on : AreSame (tables_at log position.version) (before (changes_at changes) (middle view)) =
    subst (λ (f : Option (List TableChanges)). AreSame (tables_at log position.version) (base f view)) flight stands.on_tables in
    (fits, λ n k. ap (after_any (action_any (change_of n k changes))) (sym (on n k)) ∙ applied.1 n k)

-- ---- at rest

no_change : (change : Option Change) → option_map change_spelling change ≡ None → change ≡ None
no_change None is = refl
no_change (Some change) is = absurd cc

numbered : (tables : List TableDef) (table : TableDef) → Contains tables table → (number : ℕ) × (slice_get tables number ≡ Some table)
numbered tables table (i, within, is) =
    (i, slice_get-get_or tables i table within ∙ ap (λ (t : TableDef). Some t) (sym (get_or_default tables i table _ within) ∙ is))

-- where nothing is pending, the rows before it are the rows
rest_rows : (tables : List TableDef) (contents : Contents) (position : Position) (view : View) → ShowsAt tables contents position view → position.pending ≡ 0
    → (table : TableDef) (key : List ℕ) → Contains tables table → middle view table.name key ≡ view.tables table.name key
rest_rows tables contents position view shows none table key inside =
    let at = numbered tables table inside in
    let bare : contents.pending ≡ empty = empty_of_len contents.pending (sym shows.counted ∙ none) in
    let stored : stored_pending contents at.0 key ≡ None = ap (λ (m : Bodies). get m (pos at.0, key)) bare ∙ get-empty place_cmp (pos at.0, key) in
    let change : view.pending table.name key ≡ None = no_change (view.pending table.name key) (sym (shows.rows.pends.stored at.0 table key at.1) ∙ stored) in
    ap (λ (c : Option Change). undo (action_any c) (view.tables table.name key)) change ∙ undo_none (view.tables table.name key)

-- where nothing is under way, the log's rows are those before what is pending
no_flight : (flight : Option (List TableChanges)) (view : View) (n k : List ℕ) → flight ≡ None → base flight view n k ≡ middle view n k
no_flight flight view n k none = ap (λ (f : Option (List TableChanges)). base f view n k) none ∙ undo_none (middle view n k)

pub equal_at_rest : EqualAtRest
equal_at_rest tables log contents others position other view seen shows sees stands stood version flight none pending zero_too table key inside =
    sym (rest_rows tables contents position view shows pending table key inside)
    ∙ sym (no_flight position.flight view table.name key flight)
    ∙ stands.on_tables table.name key
    ∙ ap (λ (v : ℕ). tables_at log v table.name key) version
    ∙ sym (stood.on_tables table.name key)
    ∙ no_flight other.flight seen table.name key none
    ∙ rest_rows tables others other seen sees zero_too table key inside
