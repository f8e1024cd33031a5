-- The rows of a log, as rows that a store shows with nothing pending.
use Rattle.std.proofs.Common.{◌≡◌, ℕ, zero, suc, true, false, cond, List, [], ◌∷◌, length, Result, Some, None, slice_get, refl, sym, ap, subst, ◌∙◌, arith}
use Rattle.std.specs.FinMap.{get, get-empty}
use Rattle.std.proofs.lemmas.List.{length-map, take_all}
use Rattle.std.proofs.lemmas.Option.{same_Some}
use Rattle.std.specs.Str.{bytes_eq}
use Rattle.cs_value.specs.Catalog.{AreTables}
use Rattle.cs_value.specs.Facts.{same_row-refl}
use Rattle.cs_value.specs.Key.{Place}
use Rattle.cs_value.specs.declared.catalog.TableDef.{TableDef}
use Rattle.std.specs.Prelude.{Bool, nat_lt, pos}
use Rattle.cs_change.specs.Net.{net}
use Rattle.cs_store.specs.log.Laws.{LogStates}
use Rattle.cs_store.specs.log.Log.{catalog_after, catalog_at, catalog_next, catalog_of, state_of}
use Rattle.cs_store.specs.log.Widens.{WidenAt, catalog_by}
use Rattle.cs_store.specs.declared.log.body.Body.{Body}
use Rattle.cs_store.specs.declared.log.body.Body.TheVariants.{Changes, Widen}
use Rattle.cs_widening.specs.Widening.{up_to, widened_table, widened_tables}
use Rattle.cs_store.specs.declared.log.entry.LogEntry.{LogEntry}
use Rattle.cs_normal.specs.State.{State, IsStateOf}
use Rattle.cs_store.specs.Contents.{Bodies, Contents, place_cmp}
use Rattle.cs_store.specs.declared.store.RowStore.{Ghosts}
use Rattle.cs_hub.specs.log_store.Shows.{ShowsLog}
use Rattle.cs_pending.specs.Calls.{ReadsStore}
use Rattle.cs_pending.specs.Shows.{ShowsRows}
use Rattle.cs_pending.specs.View.{View, undo}

-- these rows, with nothing pending
abbrev pub at_rest : State → View
at_rest state = record { tables = state; pending = λ name key. None }

net_same : (marks : List Bool) (place : Place) → net marks place place ≡ None
unfolding net
net_same marks None = refl
net_same marks (Some row) = simp (same_row-refl row) refl

-- they are rows of the tables that the log has in the end
state_there : LogStates → (opening : List TableDef) (log : List LogEntry) → AreTables opening → (contents : Contents) → ShowsLog opening contents log → IsStateOf (catalog_at opening log (length log)) (state_of log)
state_there states opening log are contents shows =
    subst (λ (es : List LogEntry). IsStateOf (catalog_at opening log (length log)) (state_of es)) (take_all (length log) log (omega arith))
    (states opening log (length log) are shows.is_log)

pub log_rows : LogStates → (opening : List TableDef) (contents : Contents) (log : List LogEntry) → AreTables opening → ShowsLog opening contents log → ShowsRows (catalog_at opening log (length log)) contents (at_rest (state_of log))
unfolding undo
log_rows states opening contents log are shows = record {
  rows = shows.rows;
  pends = record {
    stored = λ number table key is. ap (λ (held : Bodies). get held (pos number, key)) shows.pending ∙ get-empty place_cmp (pos number, key);
    fits = λ table key inside. tt;
  };
  sound = record {
    before_state = state_there states opening log are contents shows;
    after_state = state_there states opening log are contents shows;
    net_of = λ table key inside. sym (net_same table.key_marks (state_of log table.name key));
  };
}

-- ---- a table keeps its place and its name

name_of_either : (wide : Bool) (table other : TableDef) → other.name ≡ table.name → (cond wide other table).name ≡ table.name
name_of_either true table other is = is
name_of_either false table other is = refl

widened_name : (name : List ℕ) (width : ℕ) (table : TableDef) → (widened_table name width table).name ≡ table.name
widened_name name width table = name_of_either (bytes_eq table.name name) table (record table { key_marks = up_to width false table.key_marks }) refl

-- a table with this name stands there
abbrev StandsNamed : List TableDef → ℕ → List ℕ → Type 0
StandsNamed tables number name = (table : TableDef) × (slice_get tables number ≡ Some table) × (table.name ≡ name)

widened_there : (name : List ℕ) (width : ℕ) (tables : List TableDef) (number : ℕ) (table : TableDef) → slice_get tables number ≡ Some table → slice_get (widened_tables name width tables) number ≡ Some (widened_table name width table)
widened_there name width [] number table is = absurd cc
widened_there name width (first ∷ tables) zero table is = ap (λ (t : TableDef). Some (widened_table name width t)) (same_Some first table is)
widened_there name width (first ∷ tables) (suc number) table is = widened_there name width tables number table is

named_after : (body : Body) (tables : List TableDef) (number : ℕ) (name : List ℕ) → StandsNamed tables number name → StandsNamed (catalog_after tables body) number name
named_after (Changes changes) tables number name there = there
named_after (Widen wide width) tables number name (table, is, named) = (widened_table wide width table, widened_there wide width tables number table is, widened_name wide width table ∙ named)

pub named_in : (log : List LogEntry) (tables : List TableDef) (number : ℕ) (name : List ℕ) → StandsNamed tables number name → StandsNamed (catalog_of tables log) number name
named_in [] tables number name there = there
named_in (entry ∷ log) tables number name there = named_in log (catalog_next tables entry) number name (named_after entry.body tables number name there)

either_count : (wide : Bool) (some other : List TableDef) (count : ℕ) → length some ≡ count → length other ≡ count → length (cond wide some other) ≡ count
either_count true some other count s o = s
either_count false some other count s o = o

-- there are as many tables at each version
pub count_by : (tables : List TableDef) (widens : List WidenAt) (version : ℕ) → length (catalog_by tables widens version) ≡ length tables
count_by tables [] version = refl
count_by tables (one ∷ more) version =
    either_count (nat_lt one.at version) (catalog_by (widened_tables one.table one.width tables) more version) tables (length tables)
    (count_by (widened_tables one.table one.width tables) more version ∙ length-map tables (widened_table one.table one.width)) refl

-- the same reads, where more is asked of what is read
pub read_when : {S T E : Type 0} (g : Ghosts S) (device : E) (inner outer : Type 0) (old new : S) (result : Result T E) → (outer → inner) → ReadsStore g device inner old new result
    → ReadsStore g device outer old new result
read_when g device inner outer old new result on reads = record {
  was_honest = reads.was_honest;
  same = reads.same;
  crash = reads.crash;
  kept = reads.kept;
  later = reads.later;
  cause = reads.cause;
  as_read = λ h r. reads.as_read h (on r);
}
