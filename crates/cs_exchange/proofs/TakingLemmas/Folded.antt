-- What is under way becomes pending, place by place.
use Rattle.std.proofs.Common.{◌≡◌, ℕ, List, [], ◌∷◌, map, Option, refl, sym, ap₂, subst, ◌∙◌, false}
use Rattle.std.specs.Prelude.{Contains}
use Rattle.std.specs.List.{AllByRecursion}
use Rattle.cs_value.specs.Key.{Place}
use Rattle.cs_value.specs.declared.catalog.TableDef.{TableDef}
use Rattle.cs_normal.specs.State.{MayStandAt}
use Rattle.cs_normal.specs.declared.normal.TableChanges.{TableChanges}
use Rattle.cs_store.specs.Contents.{Contents}
use Rattle.cs_apply.specs.NormalTasks.{AreElsewhere, spot_of}
use Rattle.cs_apply.specs.Spots.{same_spot, spots_apart}
use Rattle.cs_tasks.specs.Tasks.{Task}
use Rattle.cs_pending.specs.OnePlace.{by_spot, contained}
use Rattle.cs_pending.specs.Placing.{StandsIn}
use Rattle.cs_pending.specs.Settled.{Catalogs}
use Rattle.cs_pending.specs.Settling.{Settles}
use Rattle.cs_pending.specs.Shows.{IsSoundOf}
use Rattle.cs_pending.specs.View.{View, middle, settled}
use Rattle.cs_pending.specs.declared.placing.Standing.{Standing}
use Rattle.cs_pending.specs.declared.settling.Settling.{Settling}
use Rattle.cs_pending.specs.position.Shows.{base}
use Rattle.cs_exchange.specs.taking.Steps.{IsFolded, IsFoldReady, IsPlaced, IsStill, task_of}
use Rattle.cs_apply.specs.declared.placement.placed.Placed.{Placed}
use Rattle.cs_exchange.proofs.TakingLemmas.Stepped.{direct_there, middle_there, other_still, still_direct, still_log, still_then}

module _ (tables : List TableDef) (flight : Option (List TableChanges)) (seen view : View) (x : Placed) (others : List Task) (standing : Standing) (log : Place) (contents : Contents) (begun : ℕ) (old new : Settling) where
  pub fold_settled : (MayStandAt tables x.table.now.name x.key.now log → MayStandAt tables x.table.now.name x.key.now standing.mine → StandsIn view x.table.now x.key.now standing
      → Settles tables contents begun old view → Settles tables contents begun new (settled x.table.now x.key.now log standing.mine view))
      → StandsIn seen x.table.now x.key.now standing → log ≡ base flight seen x.table.now.name x.key.now
      → IsFoldReady tables flight seen (task_of x ∷ others) view → Settles tables contents begun old view
      → Settles tables contents begun new (settled x.table.now x.key.now (base flight seen x.table.now.name x.key.now) (seen.tables x.table.now.name x.key.now) view)
  fold_settled claim stands is ready settles =
      let name = x.table.now.name in
      let key = x.key.now in
      subst (λ (m : Place). Settles tables contents begun new (settled x.table.now key (base flight seen name key) m view)) stands.mine_is
      (subst (λ (l : Place). Settles tables contents begun new (settled x.table.now key l standing.mine view)) is
      (claim (subst (λ (p : Place). MayStandAt tables name key p) (sym is) (ready.log name key))
      (subst (λ (p : Place). MayStandAt tables name key p) (sym stands.mine_is) (ready.own name key))
      (record { mine_is = stands.mine_is ∙ sym (ready.same name key); base_is = stands.base_is ∙ sym ready.stand.0 })
      settles))

-- ---- one place, and the others

module _ (tables : List TableDef) (law : Catalogs tables) (flight : Option (List TableChanges)) (seen view : View) (x : Placed) (others : List Task) (inside : Contains tables x.table.now)
    (sound : IsSoundOf tables view.pending view.tables) (ready : IsFoldReady tables flight seen (task_of x ∷ others) view) where
  abbrev name : List ℕ
  name = x.table.now.name

  abbrev key : List ℕ
  key = x.key.now

  abbrev next : View
  next = settled x.table.now key (base flight seen name key) (seen.tables name key) view

  still_there : (n k : List ℕ) → same_spot (n, k) (name, key) ≡ false → IsStill view next n k
  still_there = other_still tables law view x.table.now key (base flight seen name key) (seen.tables name key) inside sound (ready.log name key) (ready.own name key)

  stand_still : (ts : List Task) → AreElsewhere (name, key) ts → AllByRecursion (λ (u : Task). middle view u.name u.key ≡ middle seen u.name u.key) ts
      → AllByRecursion (λ (u : Task). middle next u.name u.key ≡ middle seen u.name u.key) ts
  stand_still [] away stand = tt
  stand_still (u ∷ ts) away stand =
      (still_log view next u.name u.key (still_there u.name u.key (spots_apart (name, key) (spot_of u) away.0)) ∙ stand.0, stand_still ts away.1 stand.1)

  pub fold_ready : IsFoldReady tables flight seen others next
  fold_ready = record {
    log = ready.log;
    own = ready.own;
    same = λ n k. by_spot n k name key _ (λ e same_n same_k.
        let there : next.tables n k ≡ seen.tables name key = simp e refl in
        there ∙ ap₂ (λ (a b : List ℕ). seen.tables a b) (sym same_n) (sym same_k))
        (λ e. let there : next.tables n k ≡ view.tables n k = simp e refl in there ∙ ready.same n k);
    apart = ready.apart.1;
    stand = stand_still others ready.apart.0 ready.stand.1;
  }

  pub fold_more : (end : View) → IsFolded tables flight seen others next end → IsFolded tables flight seen (task_of x ∷ others) view end
  fold_more end folded =
      let still = folded.elsewhere name key ready.apart.0 in
      record {
        same = folded.same;
        there = (
          still_log next end name key still
              ∙ middle_there tables law view x.table.now key (base flight seen name key) (seen.tables name key) inside sound (ready.log name key) (ready.own name key),
          folded.there,
        );
        direct = (
          still_direct tables next end name key still
              (direct_there tables law view x.table.now key (base flight seen name key) (seen.tables name key) inside sound (ready.log name key) (ready.own name key)),
          folded.direct,
        );
        elsewhere = λ n k away. still_then view next end n k (still_there n k away.0) (folded.elsewhere n k away.1);
      }

-- ---- all places, one after another

-- the places before the rest were folded: what the rest leads to from here, all lead to from the start
pub record FoldsOn (tables : List TableDef) (flight : Option (List TableChanges)) (seen : View) (contents : Contents) (begun : ℕ) (all rest : List Placed) (view : View) (now : Settling) : Type 0 where
  pub mid : View
  pub ready : IsFoldReady tables flight seen (map task_of rest) mid
  pub settles : Settles tables contents begun now mid
  pub leads : (end : View) → IsFolded tables flight seen (map task_of rest) mid end → IsFolded tables flight seen (map task_of all) view end

module _ (tables : List TableDef) (flight : Option (List TableChanges)) (seen : View) (contents : Contents) (begun : ℕ) (all : List Placed) (view : View) where
  pub folds_begin : (now : Settling) → IsFoldReady tables flight seen (map task_of all) view → Settles tables contents begun now view → FoldsOn tables flight seen contents begun all all view now
  folds_begin now ready settles = record { mid = view; ready = ready; settles = settles; leads = λ end folded. folded }

  pub folds_more : Catalogs tables → (rest : List Placed) (x : Placed) (others : List Placed) (old new : Settling) → rest ≡ x ∷ others → IsPlaced tables x
      → ((mid : View) (ts : List Task) → IsFoldReady tables flight seen (task_of x ∷ ts) mid → Settles tables contents begun old mid
      → Settles tables contents begun new (settled x.table.now x.key.now (base flight seen x.table.now.name x.key.now) (seen.tables x.table.now.name x.key.now) mid))
      → FoldsOn tables flight seen contents begun all rest view old → FoldsOn tables flight seen contents begun all others view new
  folds_more law rest x others old new parts placed one so_far =
      let on = subst (λ (ps : List Placed). FoldsOn tables flight seen contents begun all ps view old) parts so_far in
      let inside = contained tables x.number x.table.now placed in
      record {
        mid = settled x.table.now x.key.now (base flight seen x.table.now.name x.key.now) (seen.tables x.table.now.name x.key.now) on.mid;
        ready = fold_ready tables law flight seen on.mid x (map task_of others) inside on.settles.sound on.ready;
        settles = one on.mid (map task_of others) on.ready on.settles;
        leads = λ end folded. on.leads end (fold_more tables law flight seen on.mid x (map task_of others) inside on.settles.sound on.ready end folded);
      }

  pub folds_end : (rest : List Placed) (now : Settling) → rest ≡ [] → FoldsOn tables flight seen contents begun all rest view now
      → (end : View) × Settles tables contents begun now end × IsFolded tables flight seen (map task_of all) view end
  folds_end rest now none so_far =
      let on = subst (λ (ps : List Placed). FoldsOn tables flight seen contents begun all ps view now) none so_far in
      (on.mid, on.settles, on.leads on.mid (record { same = on.ready.same; there = tt; direct = tt; elsewhere = λ n k away. record { row = refl; pending = refl } }))
