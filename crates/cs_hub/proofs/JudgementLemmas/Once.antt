-- The answer to a push is determined.
use Rattle.std.proofs.Common.{◌≡◌, inl, inr, Result, Err, sym, ap, ◌∙◌}
use Rattle.cs_conflict.specs.declared.conflict.Conflict.{Conflict}
use Rattle.cs_hub.specs.appending.Laws.{OneFirstConflict}
use Rattle.cs_store.specs.log.Log.{state_of}
use Rattle.cs_hub.specs.judgement.Hub.{HubState, synced}
use Rattle.cs_hub.specs.judgement.Laws.{OneAnswer}
use Rattle.cs_hub.specs.judgement.Pushes.{Case, Push, TellsConflict}
use Rattle.cs_hub.specs.declared.judgement.fault.HubFault.{HubFault}
use Rattle.cs_hub.specs.declared.judgement.fault.HubFault.TheVariants.{Conflict as OnConflict}
use Rattle.cs_hub.specs.declared.judgement.push.Pushed.{Pushed}

-- two cases over the same guard decide alike, where what they decide and what stands below them does
pub one_case : {guard some below other beneath R : Type 0} → (some → other → R) → (below → beneath → R) → Case guard some below → Case guard other beneath → R
one_case decided left (inl (g, s)) (inl (h, o)) = decided s o
one_case decided left (inl (g, s)) (inr (n, b)) = absurd (n g)
one_case decided left (inr (n, b)) (inl (g, s)) = absurd (n g)
one_case decided left (inr (n, b)) (inr (m, c)) = left b c

pub same : {A B : Type 0} {one other is : A} {new last left : B} → (one ≡ is) × (new ≡ left) → (other ≡ is) × (last ≡ left) → (one ≡ other) × (new ≡ last)
same (a, n) (b, m) = (a ∙ sym b, n ∙ sym m)

-- so does the first conflict
same_conflict : OneFirstConflict → (old new last : HubState) (push : Push) (one other : Result Pushed HubFault) → TellsConflict old push one × (new ≡ old) → TellsConflict old push other × (last ≡ old) → (one ≡ other) × (new ≡ last)
same_conflict law old new last push one other p q =
    let conflict : p.0.0 ≡ q.0.0 = law (synced old) push.changes (state_of old.log) p.0.0 q.0.0 p.0.1 q.0.1 in
    (p.0.2 ∙ ap (λ (c : Conflict). Err (OnConflict c)) conflict ∙ sym q.0.2, p.1 ∙ sym q.1)

pub one_answer : OneFirstConflict → OneAnswer
one_answer law limit old new last push one other =
    one_case same (one_case same (one_case same (one_case same (one_case same (one_case same (same_conflict law old new last push one other))))))
