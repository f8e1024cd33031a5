-- A place settled, and the places to come.
use Rattle.std.proofs.Common.{◌≡◌, ℕ, false, List, Option, refl, sym, ap, ap₂, ◌∙◌}
use Rattle.std.specs.Prelude.{Contains}
use Rattle.cs_value.specs.Key.{Place}
use Rattle.cs_value.specs.declared.catalog.TableDef.{TableDef}
use Rattle.cs_change.specs.Action.{action_any}
use Rattle.cs_change.specs.declared.change.Change.{Change}
use Rattle.cs_normal.specs.State.{MayStandAt}
use Rattle.cs_apply.specs.NormalTasks.{one_table}
use Rattle.cs_apply.specs.Spots.{same_spot, spot_refl}
use Rattle.cs_pending.specs.Settled.{Catalogs, middle_put}
use Rattle.cs_pending.specs.Shows.{IsSoundOf}
use Rattle.cs_pending.specs.View.{View, direct_net, middle, put_at, settled, undo}
use Rattle.cs_exchange.specs.taking.Steps.{IsDirectAt, IsStill}

pub put_there : {A : Type 0} (name key : List ℕ) (x : A) (held : List ℕ → List ℕ → A) → put_at name key x held name key ≡ x
put_there name key x held = let e = spot_refl (name, key) in simp e refl

pub put_other : {A : Type 0} (name key : List ℕ) (x : A) (held : List ℕ → List ℕ → A) (n k : List ℕ) → same_spot (n, k) (name, key) ≡ false → put_at name key x held n k ≡ held n k
put_other name key x held n k e = simp e refl

-- ---- a place that is as it was

pub still_log : (view end : View) (n k : List ℕ) → IsStill view end n k → middle end n k ≡ middle view n k
still_log view end n k is = ap₂ (λ (c : Option Change) (x : Place). undo (action_any c) x) is.pending is.row

pub still_then : (view mid end : View) (n k : List ℕ) → IsStill view mid n k → IsStill mid end n k → IsStill view end n k
still_then view mid end n k one two = record { row = two.row ∙ one.row; pending = two.pending ∙ one.pending }

pub still_direct : (tables : List TableDef) (view end : View) (n k : List ℕ) → IsStill view end n k → IsDirectAt tables view n k → IsDirectAt tables end n k
still_direct tables view end n k is direct = λ table among named.
    is.pending ∙ direct table among named ∙ ap₂ (λ (b x : Place). direct_net table b x) (sym (still_log view end n k is)) (sym is.row)

-- ---- a place settled

module _ (tables : List TableDef) (law : Catalogs tables) (view : View) (table : TableDef) (key : List ℕ) (base mine : Place) (inside : Contains tables table)
    (sound : IsSoundOf tables view.pending view.tables) (base_stands : MayStandAt tables table.name key base) (mine_stands : MayStandAt tables table.name key mine) where
  pub middle_there : middle (settled table key base mine view) table.name key ≡ base
  middle_there = middle_put tables law view table key base mine inside sound base_stands mine_stands table.name key ∙ put_there table.name key base (middle view)

  pub other_still : (n k : List ℕ) → same_spot (n, k) (table.name, key) ≡ false → IsStill view (settled table key base mine view) n k
  other_still n k e = record {
    row = put_other table.name key mine view.tables n k e;
    pending = put_other table.name key (direct_net table base mine) view.pending n k e;
  }

  -- what is pending there is the net change, whichever table of the catalog has the name
  pub direct_there : IsDirectAt tables (settled table key base mine view) table.name key
  direct_there = λ other among named.
      let one : other ≡ table = one_table law.one tables other table law.are among inside named in
      put_there table.name key (direct_net table base mine) view.pending
      ∙ ap (λ (t : TableDef). direct_net t base mine) (sym one)
      ∙ ap₂ (λ (b x : Place). direct_net other b x) (sym middle_there) (sym (put_there table.name key mine view.tables))
