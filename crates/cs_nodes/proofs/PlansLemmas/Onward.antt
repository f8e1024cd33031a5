-- From the step of a call to the run of a plan.
use Rattle.std.proofs.Common.{◌≡◌, ◌++◌, ℕ, List, [], ◌∷◌, length, refl, sym, subst, ◌∙◌, append-nil, append_assoc, arith}
use Rattle.cs_map_store.specs.Slots.{InMemory}
use Rattle.cs_nodes.specs.Nodes.{NodeState}
use Rattle.cs_spine.specs.Known.{SpineCells}
use Rattle.cs_nodes.specs.plans.Ends.{TurnsNode, node_at}
use Rattle.cs_nodes.specs.plans.Runs.{NodeAt, RunsPlan, RunsStep}
use Rattle.cs_nodes.specs.declared.plans.plan.Step.{Step}
use Rattle.cs_nodes.specs.declared.plans.plan.Stepped.{Stepped}

-- what a node made of itself by these calls
abbrev pub TurnsBy : List Step → List Stepped → NodeState InMemory → NodeState InMemory → Type 0
TurnsBy plan steps = TurnsNode (λ cells. RunsPlan cells plan steps)

runs_more : (old mid new : NodeState InMemory) (step : Step) (one : Stepped) (plan : List Step) (steps : List Stepped) → TurnsNode (λ cells. RunsStep cells step one) old mid → TurnsBy plan steps mid new
    → TurnsBy (step ∷ plan) (one ∷ steps) old new
runs_more old mid new step one plan steps first rest = record {
  catalog = λ opening is. rest.catalog opening (first.catalog opening is);
  spine = rest.spine ∙ first.spine;
  turned = λ none view shows.
      let f = first.turned none view shows in
      let r = rest.turned f.2 f.0 f.1 in
      let there : RunsPlan old.pass.spine.cap plan steps (node_at mid f.0) (node_at new r.0) =
      subst (λ (s : SpineCells). RunsPlan s.cap plan steps (node_at mid f.0) (node_at new r.0)) first.spine r.3 in
      (r.0, r.1, r.2, (node_at mid f.0, f.3, there));
}

runs_none : (old : NodeState InMemory) → TurnsBy [] [] old old
runs_none old = record { catalog = λ opening is. is; spine = refl; turned = λ none view shows. (view, shows, none, refl) }

-- what follows from here, follows from the start
abbrev pub Running : NodeState InMemory → List Step → NodeState InMemory → List Step → List Stepped → Type 0
Running old plan now rest done =
    (new : NodeState InMemory) (more : List Stepped) → TurnsBy rest more now new → TurnsBy plan (done ++ more) old new

pub starts : (old : NodeState InMemory) (plan : List Step) (done : List Stepped) → done ≡ [] → Running old plan old plan done
starts old plan done none = subst (λ (d : List Stepped). Running old plan old plan d) (sym none) (λ new more turns. turns)

pub running_on : (old : NodeState InMemory) (plan : List Step) (now next : NodeState InMemory) (step : Step) (rest : List Step) (done others : List Stepped) (one : Stepped)
    → Running old plan now (step ∷ rest) done → TurnsNode (λ cells. RunsStep cells step one) now next → others ≡ done ++ one ∷ []
    → Running old plan next rest others
running_on old plan now next step rest done others one so first is new more turns =
    rw (is, append_assoc) (so new (one ∷ more) (runs_more now next new step one rest more first turns))

pub ran : (old : NodeState InMemory) (plan : List Step) (now : NodeState InMemory) (rest : List Step) (done : List Stepped) → length rest ≡ 0 → Running old plan now rest done → TurnsBy plan done old now
ran old plan now [] done none so = subst (λ (d : List Stepped). TurnsBy plan d old now) (append-nil done) (so now [] (runs_none now))
ran old plan now (step ∷ rest) done none so = absurd (omega (arith, none))

-- as many calls as the plan has
pub counted : (cells : ℕ) (plan : List Step) (steps : List Stepped) (old new : NodeAt) → RunsPlan cells plan steps old new → length steps ≡ length plan
counted cells [] [] old new runs = refl
counted cells [] (one ∷ steps) old new runs = absurd runs
counted cells (step ∷ plan) [] old new runs = absurd runs
counted cells (step ∷ plan) (one ∷ steps) old new runs =
    let more = counted cells plan steps runs.0 new runs.2 in omega (arith, more)
