-- Two views that one store shows at one position.
use Rattle.std.proofs.Common.{◌≡◌, ℕ, List, Option, Some, None, refl, sym, ap, ap₂, subst, ◌∙◌}
use Rattle.std.specs.Prelude.{Contains}
use Rattle.cs_value.specs.Key.{Place}
use Rattle.cs_value.specs.declared.catalog.TableDef.{TableDef}
use Rattle.cs_change.specs.Action.{action_any}
use Rattle.cs_change.specs.declared.change.Change.{Change}
use Rattle.cs_normal.specs.Normal.{change_of}
use Rattle.cs_normal.specs.State.{MayStandAt, State}
use Rattle.cs_store.specs.Contents.{Contents}
use Rattle.cs_pending.specs.Laws.{OneView}
use Rattle.cs_pending.specs.View.{View, middle, undo}
use Rattle.cs_pending.specs.position.Shows.{ShowsAt, base, flown}
use Rattle.cs_pending.specs.declared.position.position.Position.{Position}
use Rattle.cs_exchange.specs.taking.Laws.{OneLogRows}
use Rattle.cs_exchange.proofs.TakingLemmas.Worked.{by_option}

module _ (one_view : OneView) (tables : List TableDef) (old : Contents) (position : Position) (before seen : View) (b : ShowsAt tables old position before) (s : ShowsAt tables old position seen) where
  pub same_own : (name key : List ℕ) → seen.tables name key ≡ before.tables name key
  same_own = (one_view tables old before seen b.rows s.rows).0

  pub same_changes : (table : TableDef) (key : List ℕ) → Contains tables table → seen.pending table.name key ≡ before.pending table.name key
  same_changes = (one_view tables old before seen b.rows s.rows).1

  -- where a row stands there is a table
  middle_in : (name key : List ℕ) (row : Place) → MayStandAt tables name key row → (row ≡ None → ⊥) → middle seen name key ≡ middle before name key
  middle_in name key None stands some = absurd (some refl)
  middle_in name key (Some row) (table, inside, named, of) some =
      subst (λ (n : List ℕ). middle seen n key ≡ middle before n key) named
      (ap₂ (λ (c : Option Change) (x : Place). undo (action_any c) x) (same_changes table key inside) (same_own table.name key))

  same_middle : (name key : List ℕ) → middle seen name key ≡ middle before name key
  same_middle name key =
      by_option (middle seen name key) _
      (λ none. by_option (middle before name key) _
      (λ nothing. none ∙ sym nothing)
      (λ row is. middle_in name key (middle before name key) (b.rows.sound.before_state name key) (λ no. let f = sym is ∙ no in cc)))
      (λ row is. middle_in name key (middle seen name key) (s.rows.sound.before_state name key) (λ no. let f = sym is ∙ no in cc))

  pub log_same : base position.flight before ≡ base position.flight seen
  log_same = sym (λ i name key. undo (action_any (change_of name key (flown position.flight))) (same_middle name key i))

  pub own_same : before.tables ≡ seen.tables
  own_same = sym (λ i name key. same_own name key i)

pub one_log_rows : OneView → OneLogRows
one_log_rows one_view tables contents position view seen b s = (
  λ name key. sym (ap (λ (state : State). state name key) (log_same one_view tables contents position view seen b s)),
  same_own one_view tables contents position view seen b s,
)
