-- The changes of an entry, each at its place in a table of the catalog.
use Rattle.std.proofs.Common.{◌≡◌, ℕ, Bool, List, [], ◌∷◌, map, Option, Some, sym, ap, subst, ◌∙◌}
use Rattle.std.specs.List.{AllByRecursion}
use Rattle.std.specs.Prelude.{Contains}
use Rattle.cs_value.specs.Catalog.{AreTables}
use Rattle.cs_value.specs.Key.{FitsPlace}
use Rattle.cs_value.specs.Laws.{OnePlaceOfName}
use Rattle.cs_value.specs.declared.catalog.TableDef.{TableDef}
use Rattle.cs_change.specs.Action.{action, action_any, after, after_any}
use Rattle.cs_change.specs.declared.change.Change.{Change}
use Rattle.cs_normal.specs.keyed.Changes.{Changes, IsEntry}
use Rattle.cs_normal.specs.keyed.Laws.{BytesTellKeys}
use Rattle.cs_normal.specs.Laws.{SetColumnsFit}
use Rattle.cs_normal.specs.Normal.{FitsCatalog, IsNormalChangeset, change_of, groups_of}
use Rattle.cs_normal.specs.State.{IsStateOf, MayStandAt, State, left_at}
use Rattle.cs_normal.specs.declared.normal.TableChanges.{TableChanges}
use Rattle.cs_apply.specs.NormalTasks.{IsKnown, all_known, entries_in, keyed_task, keyed_tasks, number_of, of_one, table_tasks, tasks_are}
use Rattle.cs_apply.specs.Spots.{all_both}
use Rattle.cs_tasks.specs.Tasks.{Task, tasks}
use Rattle.cs_pending.specs.OnePlace.{contained}
use Rattle.cs_exchange.proofs.TakingLemmas.Standing.{stands_keyed}
use Rattle.cs_exchange.proofs.TakingLemmas.Whole.{AreFound, all_found}

-- a change of the entry: it is the one at its place, and normal, and its table is one of the catalog's
pub record IsOfEntry (tables : List TableDef) (entry : List TableChanges) (t : Task) : Type 0 where
  pub table : TableDef
  pub inside : Contains tables table
  pub named : table.name ≡ t.name
  pub normal : IsEntry table.key_marks (t.key, t.change)
  pub marked : table.key_marks ≡ t.marks
  pub found : change_of t.name t.key entry ≡ Some t.change

entries_of : (table : ℕ) (first : TableChanges) (changes : Changes) → AllByRecursion (IsEntry first.marks) changes → AllByRecursion (λ (t : Task). IsEntry t.marks (t.key, t.change)) (map (keyed_task table first) changes)
entries_of table first [] are = tt
entries_of table first (c ∷ changes) are = (are.0, entries_of table first changes are.1)

are_entries : (tables : List TableDef) (entry : List TableChanges) → IsNormalChangeset entry → AllByRecursion (λ (t : Task). IsEntry t.marks (t.key, t.change)) (keyed_tasks tables entry)
unfolding keyed_tasks
are_entries tables [] normal = tt
are_entries tables (first ∷ others) normal =
    all_both (λ (t : Task). IsEntry t.marks (t.key, t.change)) (table_tasks tables first) (keyed_tasks tables others)
    (entries_of (number_of tables first) first first.changes (entries_in first others normal)) (are_entries tables others normal.2)

module _ (tables : List TableDef) (entry : List TableChanges) (normal : IsNormalChangeset entry) where
  each_of_entry : (ts : List Task) → AllByRecursion (IsKnown tables) ts → AllByRecursion (λ (t : Task). IsEntry t.marks (t.key, t.change)) ts
      → AreFound entry ts → AllByRecursion (IsOfEntry tables entry) ts
  each_of_entry [] known entries found = tt
  each_of_entry (t ∷ ts) known entries found = (
    record {
      table = known.0.there.table;
      inside = contained tables t.table known.0.there.table known.0.there.stands;
      named = known.0.there.named;
      normal = subst (λ (m : List Bool). IsEntry m (t.key, t.change)) (sym known.0.there.marked) entries.0;
      marked = known.0.there.marked;
      found = found.0;
    },
    each_of_entry ts known.1 entries.1 found.1,
  )

  module _ (fits : FitsCatalog tables entry) where
    pub of_entry : AllByRecursion (IsOfEntry tables entry) (keyed_tasks tables entry)
    of_entry =
        each_of_entry (keyed_tasks tables entry) (all_known tables entry (of_one tables entry fits) normal) (are_entries tables entry normal)
        (all_found entry tables normal)

    pub entry_tasks : tasks tables (groups_of entry) ≡ keyed_tasks tables entry
    entry_tasks = tasks_are tables entry (of_one tables entry fits) normal

-- ---- the rows there

module _ (tells : BytesTellKeys) (fit : SetColumnsFit) (one_place : OnePlaceOfName) (tables : List TableDef) (are : AreTables tables) (entry : List TableChanges) (t : Task) (is : IsOfEntry tables entry t) where
  pub stands_there : (state : State) → IsStateOf tables state → MayStandAt tables is.table.name t.key (state t.name t.key)
  stands_there state states = subst (λ (n : List ℕ). MayStandAt tables n t.key (state t.name t.key)) (sym is.named) (states t.name t.key)

  -- what stands there has the key of the change
  pub keyed_there : (state : State) → IsStateOf tables state → FitsPlace is.table.key_marks is.normal.key (state t.name t.key)
  keyed_there state states = stands_keyed tells fit one_place tables are is.table is.inside t.key t.change (state t.name t.key) is.normal (stands_there state states)

-- what the entry leaves there is what its change does
pub left_there : (tables : List TableDef) (entry : List TableChanges) (t : Task) (is : IsOfEntry tables entry t) (log theirs : State) → left_at entry log t.name t.key ≡ Some (theirs t.name t.key)
    → after (action t.change) (log t.name t.key) ≡ Some (theirs t.name t.key)
left_there tables entry t is log theirs left = ap (λ (c : Option Change). after_any (action_any c) (log t.name t.key)) (sym is.found) ∙ left
