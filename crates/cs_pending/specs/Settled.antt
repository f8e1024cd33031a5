-- A place settled: what the view is then, and that it is sound. Crates above cite it.
use Rattle.std.proofs.Common.{◌≡◌, ℕ, refl, ap, ap₂, sym, ◌∙◌, subst, List, Some, None}
use Rattle.std.specs.Prelude.{Contains, IfSome}
use Rattle.cs_value.specs.Catalog.{AreTables}
use Rattle.cs_value.specs.Key.{Place, FitsPlace}
use Rattle.cs_value.specs.Laws.{OnePlaceOfName}
use Rattle.cs_value.specs.declared.catalog.TableDef.{TableDef}
use Rattle.cs_change.specs.Action.{action_any}
use Rattle.cs_change.specs.Laws.{NetTakes}
use Rattle.cs_change.specs.Net.{net}
use Rattle.cs_change.specs.Spelling.{FitsChange}
use Rattle.cs_normal.specs.State.{State, MayStandAt, OneKeyStands}
use Rattle.cs_apply.specs.NormalTasks.{one_table}
use Rattle.cs_pending.specs.Shows.{IsSoundOf}
use Rattle.cs_pending.specs.View.{undo, put_at, View, middle, settled, direct_net}
use Rattle.cs_pending.specs.OnePlace.{by_spot}
use Rattle.cs_pending.specs.Nets.{undo_net, action_with_flag, net_fits, IsSpelledPlace}

-- the laws that a catalog's tables and their rows have
pub record Catalogs (tables : List TableDef) : Type 0 where
  pub are : AreTables tables
  pub one : OnePlaceOfName
  pub key : OneKeyStands
  pub net_takes : NetTakes

pub spelled_place : (tables : List TableDef) (name key : List ℕ) (place : Place) → MayStandAt tables name key place → IsSpelledPlace place
spelled_place tables name key None stands = tt
spelled_place tables name key (Some row) stands = stands.3.fits.1

module _ (tables : List TableDef) (law : Catalogs tables) (view : View) (table : TableDef) (key : List ℕ) (base mine : Place) (inside : Contains tables table)
    (sound : IsSoundOf tables view.pending view.tables) (base_stands : MayStandAt tables table.name key base) (mine_stands : MayStandAt tables table.name key mine) where
  abbrev now : View
  now = settled table key base mine view

  keyed : (k : _) × FitsPlace table.key_marks k base × FitsPlace table.key_marks k mine × FitsPlace table.key_marks k mine
  keyed = law.key tables table key base mine mine law.are inside base_stands mine_stands mine_stands

  -- what stood before what is pending is what is said, there, and elsewhere what it was
  pub middle_put : (n k : List ℕ) → middle now n k ≡ put_at table.name key base (middle view) n k
  middle_put n k =
      by_spot n k table.name key _ (λ e same_n same_k.
      let back : undo (net table.key_marks base mine) mine ≡ base = undo_net table.key_marks keyed.0 base mine keyed.1 keyed.2 in
      simp (e, action_with_flag) back)
      (λ e. simp e refl)

  put_stands : (held : State) (x : Place) → MayStandAt tables table.name key x → ((n k : List ℕ) → MayStandAt tables n k (held n k)) → (n k : List ℕ) → MayStandAt tables n k (put_at table.name key x held n k)
  put_stands held x stands all n k =
      by_spot n k table.name key _ (λ e same_n same_k.
      simp e (subst (λ (m : List ℕ). MayStandAt tables m k x) (sym same_n) (subst (λ (j : List ℕ). MayStandAt tables table.name j x) (sym same_k) stands)))
      (λ e. simp e (all n k))

  pub settled_sound : IsSoundOf tables now.pending now.tables
  settled_sound = record {
    before_state = λ n k. subst (λ (p : Place). MayStandAt tables n k p) (sym (middle_put n k)) (put_stands (middle view) base base_stands sound.before_state n k);
    after_state = put_stands view.tables mine mine_stands sound.after_state;
    net_of = λ t k among. by_spot t.name k table.name key _ (λ e same_n same_k.
        let one : t ≡ table = one_table law.one tables t table law.are among inside same_n in
        let mid : middle now t.name k ≡ base = middle_put t.name k ∙ (let h : put_at table.name key base (middle view) t.name k ≡ base = simp e refl in h) in
        let change_is : action_any (now.pending t.name k) ≡ net table.key_marks base mine = simp (e, action_with_flag) refl in
        let place_is : now.tables t.name k ≡ mine = simp e refl in
        change_is ∙ ap (λ (u : TableDef). net u.key_marks base mine) (sym one) ∙ ap₂ (λ (b x : Place). net t.key_marks b x) (sym mid) (sym place_is))
        (λ e.
        let mid : middle now t.name k ≡ middle view t.name k = middle_put t.name k ∙ (let h : put_at table.name key base (middle view) t.name k ≡ middle view t.name k = simp e refl in h) in
        let change_is : action_any (now.pending t.name k) ≡ action_any (view.pending t.name k) = simp e refl in
        let place_is : now.tables t.name k ≡ view.tables t.name k = simp e refl in
        change_is ∙ sound.net_of t k among ∙ ap₂ (λ (b x : Place). net t.key_marks b x) (sym mid) (sym place_is));
  }

  pub settled_fits : ((t : TableDef) (k : List ℕ) → Contains tables t → IfSome (view.pending t.name k) (FitsChange t.key_marks))
      → (t : TableDef) (k : List ℕ) → Contains tables t → IfSome (now.pending t.name k) (FitsChange t.key_marks)
  settled_fits fits t k among = by_spot t.name k table.name key _ (λ e same_n same_k.
      let is : t ≡ table = one_table law.one tables t table law.are among inside same_n in
      let fit = net_fits law.net_takes table.key_marks keyed.0 base mine keyed.1 keyed.2 (spelled_place tables table.name key base base_stands) (spelled_place tables table.name key mine mine_stands) in
      simp e (subst (λ (u : TableDef). IfSome (direct_net table base mine) (FitsChange u.key_marks)) (sym is) fit))
      (λ e. simp e (fits t k among))
