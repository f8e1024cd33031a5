-- Counts of failures, from one call to the next.
use Rattle.std.proofs.Common.{◌≡◌, ◌≤◌, ◌∙◌, ℕ, List, [], ◌∷◌, Some, slice_get, slice_set, refl, sym, ap, subst, inl, inr, arith}
use Rattle.cs_hub.specs.Holding as hub
use Rattle.cs_replica.specs.Leaves.{Counts}
use Rattle.cs_replica.specs.Holding as replica
use Rattle.cs_store.specs.Calls.{MoreFailures}
use Rattle.cs_store.specs.declared.store.RowStore.{Ghosts}
use Rattle.cs_world.specs.Fails.{CountsOn, HasFailed, SaysDevice, SomeSaysDevice}
use Rattle.cs_world.specs.Holding.{Holding}
use Rattle.cs_world.specs.declared.letter.Letter.{Letter}
use Rattle.cs_world.specs.declared.outcome.Outcome.{Outcome}
use Rattle.cs_world.proofs.Found.{both_there, set_at, set_length, set_there}

module _ {S : Type 0} (g : Ghosts S) where
  abbrev held : hub.Holding S → List (replica.Holding S) → List Letter → Holding S
  held h rs ls = record { hub = h; replicas = rs; letters = ls }

  same_place : (replicas : List (replica.Holding S)) (r : ℕ) (one other : replica.Holding S) → slice_get replicas r ≡ Some one → slice_get replicas r ≡ Some other → g.failed one.store ≤ g.failed other.store
  same_place replicas r one other at there =
      let both : Some one ≡ Some other = sym at ∙ there in
      let same : one ≡ other = cc in
      subst (λ (x : replica.Holding S). g.failed one.store ≤ g.failed x.store) same (omega arith)

  -- what is told otherwise is told as before
  pub told_as : {told other : Type 0} {old new : replica.Holding S} → Counts g told old new → (other → told) → Counts g other old new
  told_as counts is = record { later = counts.later; cause = λ t. counts.cause (is t) }

  -- no store was asked
  pub counts_same : (told : Type 0) → (told → ⊥) → (h : hub.Holding S) (replicas : List (replica.Holding S)) (letters ls : List Letter) → CountsOn g told (held h replicas letters) (held h replicas ls)
  counts_same told none h replicas letters ls = record {
    hub = omega arith;
    count = refl;
    replicas = same_place replicas;
    cause = λ t. absurd (none t);
  }

  -- a replica's was
  pub counts_replica : (told inner : Type 0) → (told → inner) → (h : hub.Holding S) (replicas : List (replica.Holding S)) (r : ℕ) (old new : replica.Holding S) → slice_get replicas r ≡ Some old
      → Counts g inner old new → (letters ls : List Letter) → CountsOn g told (held h replicas letters) (held h (slice_set replicas r new) ls)
  counts_replica told inner is h replicas r old new was counts letters ls = record {
    hub = omega arith;
    count = set_length replicas r new;
    replicas = λ s one other at there.
        elim (set_at replicas r new s other there) [
          | inl (same, it) ↦
              let both : Some one ≡ Some old = sym at ∙ (ap (λ (i : ℕ). slice_get replicas i) same ∙ was) in
              let first : one ≡ old = cc in
              subst (λ (x : replica.Holding S). g.failed one.store ≤ g.failed x.store) (sym it) (subst (λ (x : replica.Holding S). g.failed x.store ≤ g.failed new.store) (sym first) counts.later)
          | inr (apart, it) ↦ same_place replicas s one other at it
        ];
    cause = λ t. inr (r, old, new, was, set_there replicas r new old was, counts.cause (is t));
  }

  -- the hub's was
  pub counts_hub : (told : Type 0) (h new : hub.Holding S) → (told → MoreFailures (g.failed h.store) (g.failed new.store)) → (replicas : List (replica.Holding S)) (letters ls : List Letter)
      → g.failed h.store ≤ g.failed new.store → CountsOn g told (held h replicas letters) (held new replicas ls)
  counts_hub told h new cause replicas letters ls later = record {
    hub = later;
    count = refl;
    replicas = same_place replicas;
    cause = λ t. inl (cause t);
  }

  -- nothing happened
  pub counts_none : (old : Holding S) → CountsOn g (SomeSaysDevice []) old old
  counts_none old = record {
    hub = omega arith;
    count = refl;
    replicas = same_place old.replicas;
    cause = λ none. absurd none;
  }

  more_on : (old mid new : ℕ) → MoreFailures old mid → mid ≤ new → MoreFailures old new
  more_on old mid new more later = omega (arith, more, later)

  more_before : (old mid new : ℕ) → old ≤ mid → MoreFailures mid new → MoreFailures old new
  more_before old mid new later more = omega (arith, more, later)

  -- one event and then others
  pub counts_more : (old mid new : Holding S) (outcome : Outcome) (outcomes : List Outcome) → CountsOn g (SaysDevice outcome) old mid → CountsOn g (SomeSaysDevice outcomes) mid new
      → CountsOn g (SomeSaysDevice (outcome ∷ outcomes)) old new
  counts_more old mid new outcome outcomes first rest = record {
    hub = let a = first.hub in let b = rest.hub in omega (arith, a, b);
    count = rest.count ∙ first.count;
    replicas = λ r one other at there.
        let m = both_there mid.replicas old.replicas r one first.count at in
        let a = first.replicas r one m.0 at m.1 in
        let b = rest.replicas r m.0 other m.1 there in
        omega (arith, a, b);
    cause = λ told. elim told [ inl it ↦ behind (first.cause it) | inr later ↦ before (rest.cause later) ];
  }
    where
      behind : HasFailed g old mid → HasFailed g old new
      behind (inl more) = inl (more_on (g.failed old.hub.store) (g.failed mid.hub.store) (g.failed new.hub.store) more rest.hub)
      behind (inr (r, one, other, at, there, more)) =
          let n = both_there new.replicas mid.replicas r other rest.count there in
          inr (r, one, n.0, at, n.1, more_on (g.failed one.store) (g.failed other.store) (g.failed n.0.store) more (rest.replicas r other n.0 there n.1))

      before : HasFailed g mid new → HasFailed g old new
      before (inl more) = inl (more_before (g.failed old.hub.store) (g.failed mid.hub.store) (g.failed new.hub.store) first.hub more)
      before (inr (r, one, other, at, there, more)) =
          let o = both_there old.replicas mid.replicas r one (sym first.count) at in
          inr (r, o.0, other, o.1, there, more_before (g.failed o.0.store) (g.failed one.store) (g.failed other.store) (first.replicas r o.0 one o.1 at) more)
