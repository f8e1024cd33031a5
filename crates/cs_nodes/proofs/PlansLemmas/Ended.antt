-- The ends of plans that ran.
use Rattle.std.proofs.Common.{◌≡◌, ◌<◌, ℕ, zero, suc, List, [], ◌∷◌, Some, Ok, Result, length, map, get_or, refl, sym, ap, subst, ◌∙◌, arith}
use Rattle.std.specs.Prelude.{All, slice_get}
use Rattle.std.proofs.lemmas.Option.{same_Some, slice_get-get_or}
use Rattle.cs_map_store.specs.Slots.{InMemory, held_by}
use Rattle.cs_nodes.specs.Nodes.{IsOfOpening, NodeState}
use Rattle.cs_opening.specs.Fresh.{first_position}
use Rattle.cs_pending.specs.Laws.{empty_view}
use Rattle.cs_pending.specs.declared.position.position.Position.{Position}
use Rattle.cs_store.specs.log.Log.{catalog_at}
use Rattle.cs_nodes.specs.following.Holding.{Shows}
use Rattle.cs_spine.specs.Known.{SpineCells}
use Rattle.cs_value.specs.declared.catalog.TableDef.{TableDef}
use Rattle.cs_nodes.specs.plans.Ends.{AreEnds, IsEnd, node_at}
use Rattle.cs_nodes.specs.plans.Jobs.{AreJobsOf}
use Rattle.cs_nodes.specs.plans.Runs.{NodeAt, RunsPlan, first_node}
use Rattle.cs_nodes.specs.declared.plans.ending.NodeEnd.{NodeEnd}
use Rattle.cs_nodes.specs.declared.plans.job.Job.{Job}
use Rattle.cs_nodes.specs.declared.plans.plan.Step.{Step}
use Rattle.cs_nodes.proofs.PlansLemmas.Onward.{TurnsBy, counted}

-- a new node as it is shown
fresh : (tables : List TableDef) (id : ℕ) (start : NodeState InMemory) → start.replica.catalog ≡ tables → start.pass.known ≡ [] → start.replica.position ≡ first_position id → node_at start empty_view ≡ first_node tables id
fresh tables id start tabled none first = (λ i. record { tables = tabled i; known = none i; position = first i; view = empty_view })

-- it is one that began with these tables
began : (tables : List TableDef) (id : ℕ) (start : NodeState InMemory) → start.replica.catalog ≡ tables → start.replica.position ≡ first_position id → IsOfOpening tables start
began tables id start tabled first =
    let none : start.replica.position.version ≡ 0 = ap (λ (x : Position). x.version) first in
    record {
      within = omega (arith, none);
      catalog = tabled ∙ sym (ap (λ (n : ℕ). catalog_at tables start.pass.known n) none);
    }

-- what a plan made of a new node is its end
pub ended : (tables : List TableDef) (cells : SpineCells) (id : ℕ) (plan : List Step) (end : NodeEnd) (start : NodeState InMemory)
    → start.replica.catalog ≡ tables → start.pass.spine ≡ cells → start.pass.known ≡ [] → start.replica.position ≡ first_position id → Shows held_by start.replica empty_view → start.replica.store.misreads ≡ 0
    → TurnsBy plan end.steps.items start end.node → IsEnd tables cells id plan end
ended tables cells id plan end start tabled of none first shows unread turns =
    let t = turns.turned unread empty_view shows in
    let celled : RunsPlan cells.cap plan end.steps.items (node_at start empty_view) (node_at end.node t.0) =
    subst (λ (s : SpineCells). RunsPlan s.cap plan end.steps.items (node_at start empty_view) (node_at end.node t.0)) of t.3 in
    let runs : RunsPlan cells.cap plan end.steps.items (first_node tables id) (node_at end.node t.0) =
    subst (λ (n : NodeAt). RunsPlan cells.cap plan end.steps.items n (node_at end.node t.0)) (fresh tables id start tabled none first) celled in
    record {
      catalog = turns.catalog tables (began tables id start tabled first);
      spine = turns.spine ∙ of;
      view = t.0;
      shows = t.1;
      runs = runs;
      counted = counted cells.cap plan end.steps.items (first_node tables id) (node_at end.node t.0) runs;
    }

-- each end is of the row of cells and began with the tables
pub of_spine : (tables : List TableDef) (cells : SpineCells) (plans : List (List Step)) (ends : List NodeEnd) → AreEnds tables cells plans ends → All (λ end. end.node.pass.spine ≡ cells) ends
of_spine tables cells plans ends are k d less =
    let within : k < length plans = omega (arith, are.counted, less) in
    (are.each k (get_or plans k []) (get_or ends k d) (slice_get-get_or plans k [] within) (slice_get-get_or ends k d less)).spine

pub of_catalog : (tables : List TableDef) (cells : SpineCells) (plans : List (List Step)) (ends : List NodeEnd) → AreEnds tables cells plans ends → All (λ end. IsOfOpening tables end.node) ends
of_catalog tables cells plans ends are k d less =
    let within : k < length plans = omega (arith, are.counted, less) in
    (are.each k (get_or plans k []) (get_or ends k d) (slice_get-get_or plans k [] within) (slice_get-get_or ends k d less)).catalog

same_count : {A B : Type 0} (f : A → B) (xs : List A) → length (map f xs) ≡ length xs
same_count f [] = refl
same_count f (x ∷ xs) = let more = same_count f xs in omega (arith, more)

of_map : {A B : Type 0} (f : A → B) (xs : List A) (i : ℕ) (y : B) → slice_get (map f xs) i ≡ Some y → (x : A) × (slice_get xs i ≡ Some x) × (f x ≡ y)
of_map f [] zero y here = absurd cc
of_map f [] (suc i) y here = absurd cc
of_map f (x ∷ xs) zero y here = (x, refl, same_Some (f x) y here)
of_map f (x ∷ xs) (suc i) y here = of_map f xs i y here

in_map : {A B : Type 0} (f : A → B) (xs : List A) (i : ℕ) (x : A) → slice_get xs i ≡ Some x → slice_get (map f xs) i ≡ Some (f x)
in_map f [] zero x here = absurd cc
in_map f [] (suc i) x here = absurd cc
in_map f (y ∷ ys) zero x here = ap (λ z. Some (f z)) (same_Some y x here)
in_map f (y ∷ ys) (suc i) x here = in_map f ys i x here

-- where each job came to an end of its plan, each plan has its end
pub are_ends : {P E : Type 0} (tables : List TableDef) (cells : SpineCells) (plans : List (List Step)) (jobs : List (Job P)) (results : List (Result NodeEnd E)) (ends : List NodeEnd)
    → AreJobsOf plans jobs → length results ≡ length jobs → map (λ end. Ok end) ends ≡ results
    → ((i : ℕ) (job : Job P) (end : NodeEnd) → slice_get jobs i ≡ Some job → slice_get results i ≡ Some (Ok end) → IsEnd tables cells job.id job.plan end)
    → AreEnds tables cells plans ends
are_ends {P} {E} tables cells plans jobs results ends paired level all said = record {
  counted =
      let came : length (map (λ (e : NodeEnd). finished e) ends) ≡ length results = ap length all in
      let planned : length (map (λ (job : Job P). job.plan) jobs) ≡ length plans = ap length paired.plans_are in
      omega (arith, same_count (λ (e : NodeEnd). finished e) ends, same_count (λ (job : Job P). job.plan) jobs, came, planned, level);
  each = λ i plan end here there.
      let planned : slice_get (map (λ (job : Job P). job.plan) jobs) i ≡ Some plan = subst (λ (ps : List (List Step)). slice_get ps i ≡ Some plan) (sym paired.plans_are) here in
      let f = of_map (λ (job : Job P). job.plan) jobs i plan planned in
      let came : slice_get results i ≡ Some (Ok end) = subst (λ (rs : List (Result NodeEnd E)). slice_get rs i ≡ Some (Ok end)) all (in_map (λ (e : NodeEnd). finished e) ends i end there) in
      let is = said i f.0 end f.1 came in
      subst (λ (n : ℕ). IsEnd tables cells n plan end) (paired.ids_are i f.0 f.1) (subst (λ (p : List Step). IsEnd tables cells f.0.id p end) f.2 is);
}
  where
    finished : NodeEnd → Result NodeEnd E
    finished end = Ok end
