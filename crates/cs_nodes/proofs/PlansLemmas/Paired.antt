-- Lists that grow as others are taken.
use Rattle.std.proofs.Common.{◌≡◌, ◌+◌, ◌++◌, ℕ, zero, suc, List, [], ◌∷◌, Some, length, map, sym, ap, subst, ◌∙◌, arith, append_assoc, append-nil}
use Rattle.std.specs.Prelude.{slice_get}
use Rattle.std.proofs.lemmas.List.{map-append}
use Rattle.std.proofs.lemmas.Option.{same_Some}
use Rattle.cs_nodes.specs.declared.plans.job.Job.{Job}

-- the one that is taken from the one list goes behind the other
pub taken_more : {A B : Type 0} (f : A → B) (all : List B) (done others : List A) (one : A) (rest more : List B)
    → map f done ++ rest ≡ all → rest ≡ f one ∷ more → others ≡ done ++ one ∷ [] → map f others ++ more ≡ all
taken_more f all done others one rest more was first is =
    ap (λ ones. map f ones ++ more) is ∙ ap (λ ones. ones ++ more) (map-append f done (one ∷ [])) ∙ append_assoc (map f done) (f one ∷ []) more
    ∙ ap (λ ones. map f done ++ ones) (sym first) ∙ was

-- all are taken
pub taken_all : {A B : Type 0} (f : A → B) (all : List B) (done : List A) (rest : List B) → map f done ++ rest ≡ all → length rest ≡ 0 → map f done ≡ all
taken_all f all done [] was none = sym (append-nil (map f done)) ∙ was
taken_all f all done (one ∷ rest) was none = absurd (omega (arith, none))

ids_from : {P : Type 0} (n : ℕ) (jobs : List (Job P)) (job : Job P) → ((i : ℕ) (one : Job P) → slice_get jobs i ≡ Some one → one.id ≡ i + n) → job.id ≡ length jobs + n
    → (i : ℕ) (one : Job P) → slice_get (jobs ++ job ∷ []) i ≡ Some one → one.id ≡ i + n
ids_from n [] job so is zero one here = ap (λ j. j.id) (sym (same_Some job one here)) ∙ is
ids_from n [] job so is (suc i) one here = absurd cc
ids_from n (first ∷ jobs) job so is zero one here = so zero one here
ids_from n (first ∷ jobs) job so is (suc i) one here =
    let more = ids_from (suc n) jobs job (λ k j there. let t = so (suc k) j there in omega (arith, t)) (omega (arith, is)) i one here in
    omega (arith, more)

-- each job has its place as its id, and so has one more
pub ids_more : {P : Type 0} (jobs others : List (Job P)) (job : Job P) → ((i : ℕ) (one : Job P) → slice_get jobs i ≡ Some one → one.id ≡ i) → job.id ≡ length jobs → others ≡ jobs ++ job ∷ []
    → (i : ℕ) (one : Job P) → slice_get others i ≡ Some one → one.id ≡ i
ids_more {P} jobs others job so is grown i one here =
    let more = ids_from 0 jobs job (λ k j there. let t = so k j there in omega (arith, t)) (omega (arith, is)) i one (subst (λ (js : List (Job P)). slice_get js i ≡ Some one) grown here) in
    omega (arith, more)
