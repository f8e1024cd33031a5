-- Rebasing has one answer, up to want of memory.
use Rattle.std.proofs.Common.{◌≡◌, ◌⊎◌, inl, inr, ℕ, ◌+◌, arith, List, [], ◌∷◌, ◌++◌, length, drop, refl, sym, ap, subst, ◌∙◌}
use Rattle.std.proofs.lemmas.Bool.{cases_lt}
use Rattle.cs_change.specs.declared.group.Group.{Group}
use Rattle.cs_changeset.specs.Laws.{ChangesetLaws}
use Rattle.cs_changeset.specs.Reading.{IsChangesetFault}
use Rattle.cs_changeset.specs.declared.fault.Fault.{Fault}
use Rattle.cs_normalising.specs.Laws.{NoFaultWhereFit}
use Rattle.cs_normal.specs.Normal.{normal_spelling}
use Rattle.cs_normal.specs.declared.normal.TableChanges.{TableChanges}
use Rattle.cs_group.specs.Combined.{IsCombined}
use Rattle.cs_blob.specs.Laws.{BlobLaws}
use Rattle.cs_blob.specs.Reading.{IsBlobFault}
use Rattle.cs_blob.specs.declared.blob.BlobGroup.{BlobGroup}
use Rattle.cs_rebaser.specs.Faults.{IsConfigureFault, IsRebaseFault}
use Rattle.cs_rebaser.specs.Rebased.{HasEachOnce, HaveShapes, rebased}
use Rattle.cs_rebaser.specs.RebasedLaws.{NoWrongShape}
use Rattle.cs_rebaser.specs.declared.faults.ConfigureFault.{ConfigureFault}
use Rattle.cs_rebaser.specs.declared.faults.ConfigureFault.TheVariants as configuring
use Rattle.cs_rebaser.specs.declared.faults.RebaseFault.{RebaseFault}
use Rattle.cs_rebaser.specs.declared.faults.RebaseFault.TheVariants as rebasing
use Rattle.cs_ffi.specs.Answers.{no_memory, read, IsHanded, Spell, TellsCount, TellsFault, UpToMemory}
use Rattle.cs_ffi.specs.CombinedAnswers.{IsAloneRefusal, NotCombined}
use Rattle.cs_ffi.specs.RebasedAnswers.{key_twice, wrong_shape, configure_answer, rebase_answer, AnswersRebased, CanRebase, IsBesideRefusal, IsBlobRefusal, IsRebaseRefusal, NotConfigured, NotRebased, SpellAlone, SpellBlob, SpellRebased}
use Rattle.cs_ffi.specs.Laws.{AnswerLaws, OneRebasedAnswer}
use Rattle.cs_ffi.specs.declared.answer.Answer.{Answer}
use Rattle.cs_ffi.proofs.Fit.{fault_is_memory}
use Rattle.cs_ffi.proofs.OneAnswer.{Below, Same, same, by_each, no_alone_refusal, no_fault, no_refusal, one_alone, one_alone_refusal, one_hand, one_spelled, one_together, refused_alike, without_content}

-- the laws below
pub record BelowRebasing : Type 0 where
  pub below : Below
  pub blobs : BlobLaws
  pub shapes : NoWrongShape

-- ---- the local changeset

pub spelled_alone : (local : List ℕ) (groups : List Group) (alone : List TableChanges) → Spell local groups → IsCombined (groups ∷ []) alone → SpellAlone local alone
spelled_alone local groups alone spells combined = record { groups = groups; spells = spells; combined = combined }

one_form : Below → (local : List ℕ) (some others : List TableChanges) → SpellAlone local some → SpellAlone local others → some ≡ others
one_form laws local some others s o =
    one_together laws (s.groups ∷ []) (o.groups ∷ []) some others (one_alone laws.changesets local s.groups o.groups s.spells o.spells) s.combined o.combined

not_refused : Below → (local : List ℕ) (alone : List TableChanges) (answer : Answer) → SpellAlone local alone → IsAloneRefusal local answer → answer ≡ no_memory
not_refused laws local alone answer s r = no_alone_refusal laws local s.groups alone answer s.spells s.combined r

-- ---- the blob's bytes

one_blob : BlobLaws → (bytes : List ℕ) (some others : List BlobGroup) → SpellBlob bytes some → SpellBlob bytes others → some ≡ others
one_blob laws bytes some others s o = laws.one some others s.0 o.0 (sym s.1 ∙ o.1)

no_blob_refusal : BlobLaws → (before : ℕ) (bytes : List ℕ) (blob : List BlobGroup) (answer : Answer) → SpellBlob bytes blob → IsBlobRefusal before bytes answer → answer ≡ no_memory
no_blob_refusal laws before bytes blob answer spells (inl m) = m
no_blob_refusal laws before bytes blob answer spells (inr (fault, offset, told, is)) =
    absurd (laws.right blob fault offset spells.0 (subst (λ (b : List ℕ). IsBlobFault fault offset b) spells.1 told))

one_blob_refusal : BlobLaws → (before : ℕ) (bytes : List ℕ) (one other : Answer) → IsBlobRefusal before bytes one → IsBlobRefusal before bytes other → Same one other
one_blob_refusal laws before bytes one other (inl m) r = inl m
one_blob_refusal laws before bytes one other (inr s) (inl m) = inr (inl m)
one_blob_refusal laws before bytes one other (inr (f, o, told, a)) (inr (g, p, told', b)) =
    let both = laws.fault f g o p bytes told told' in
    same (by_each a b (refused_alike f g (before + o) (before + p) (both.0, ap (λ (n : ℕ). before + n) both.1)))

-- ---- the blob's entries and shapes

configured : (fault : ConfigureFault) (blob : List BlobGroup) → HasEachOnce blob → IsConfigureFault fault blob → configure_answer fault ≡ no_memory
configured configuring.Memory blob once told = refl
configured configuring.KeyTwice blob once told = absurd (told once)

shaped : NoWrongShape → (fault : RebaseFault) (blob : List BlobGroup) (alone : List TableChanges) → HaveShapes blob alone → IsRebaseFault fault blob alone → rebase_answer fault ≡ no_memory
shaped law rebasing.Memory blob alone shapes told = refl
shaped law rebasing.WrongShape blob alone shapes told = absurd (law blob alone shapes told)

configure_answers : (fault : ConfigureFault) → (configure_answer fault ≡ no_memory) ⊎ (configure_answer fault ≡ key_twice)
configure_answers configuring.Memory = inl refl
configure_answers configuring.KeyTwice = inr refl

rebase_answers : (fault : RebaseFault) → (rebase_answer fault ≡ no_memory) ⊎ (rebase_answer fault ≡ wrong_shape)
rebase_answers rebasing.Memory = inl refl
rebase_answers rebasing.WrongShape = inr refl

-- two answers that are want of memory or a third are the same
third : {one other a b is : Answer} → one ≡ a → other ≡ b → (a ≡ no_memory) ⊎ (a ≡ is) → (b ≡ no_memory) ⊎ (b ≡ is) → Same one other
third x y (inl m) t = inl (x ∙ m)
third x y (inr s) (inl m) = inr (inl (y ∙ m))
third x y (inr s) (inr t) = same (by_each (x ∙ s) (y ∙ t) refl)

abbrev IsNotRebased : List BlobGroup → List TableChanges → Answer → Type 0
IsNotRebased blob alone answer = NotConfigured blob answer ⊎ NotRebased blob alone answer

one_not_rebased : (blob : List BlobGroup) (alone : List TableChanges) (one other : Answer) → IsNotRebased blob alone one → IsNotRebased blob alone other → Same one other
one_not_rebased blob alone one other (inl s) (inl o) =
    third s.number o.number (configure_answers s.fault) (configure_answers o.fault)
one_not_rebased blob alone one other (inl s) (inr o) = inl (s.number ∙ configured s.fault blob o.once s.told)
one_not_rebased blob alone one other (inr s) (inl o) = inr (inl (o.number ∙ configured o.fault blob s.once o.told))
one_not_rebased blob alone one other (inr s) (inr o) =
    third s.number o.number (rebase_answers s.fault) (rebase_answers o.fault)

no_not_rebased : NoWrongShape → (blob : List BlobGroup) (alone : List TableChanges) (answer : Answer) → HasEachOnce blob → HaveShapes blob alone → IsNotRebased blob alone answer → answer ≡ no_memory
no_not_rebased law blob alone answer once shapes (inl not) = not.number ∙ configured not.fault blob once not.told
no_not_rebased law blob alone answer once shapes (inr not) = not.number ∙ shaped law not.fault blob alone shapes not.told

-- ---- beside the local changeset

no_beside_refusal : BlobLaws → NoWrongShape → (before : ℕ) (bytes : List ℕ) (blob : List BlobGroup) (alone : List TableChanges) (answer : Answer) → SpellBlob bytes blob → HasEachOnce blob → HaveShapes blob alone
    → IsBesideRefusal before alone bytes answer → answer ≡ no_memory
no_beside_refusal laws law before bytes blob alone answer spells once shapes (inl r) =
    no_blob_refusal laws before bytes blob answer spells r
no_beside_refusal laws law before bytes blob alone answer spells once shapes (inr (other, spells', not)) =
    no_not_rebased law blob alone answer once shapes (subst (λ (b : List BlobGroup). IsNotRebased b alone answer) (one_blob laws bytes other blob spells' spells) not)

one_beside_refusal : BlobLaws → (before : ℕ) (bytes : List ℕ) (alone : List TableChanges) (one other : Answer) → IsBesideRefusal before alone bytes one → IsBesideRefusal before alone bytes other → Same one other
one_beside_refusal laws before bytes alone one other (inl r) (inl s) = one_blob_refusal laws before bytes one other r s
one_beside_refusal laws before bytes alone one other (inl r) (inr (blob, spells, not)) =
    inl (no_blob_refusal laws before bytes blob one spells r)
one_beside_refusal laws before bytes alone one other (inr (blob, spells, not)) (inl r) =
    inr (inl (no_blob_refusal laws before bytes blob other spells r))
one_beside_refusal laws before bytes alone one other (inr (some, spells, not)) (inr (others, spells', not')) =
    one_not_rebased others alone one other (subst (λ (b : List BlobGroup). IsNotRebased b alone one) (one_blob laws bytes some others spells spells') not) not'

-- ---- rebasing

one_rebased_spelled : BelowRebasing → (local bytes made more : List ℕ) → SpellRebased local bytes made → SpellRebased local bytes more → made ≡ more
one_rebased_spelled laws local bytes made more s o =
    let alone = one_form laws.below local s.alone o.alone s.spells o.spells in
    let blob = one_blob laws.blobs bytes s.blob o.blob s.spells_blob o.spells_blob in
    by_each s.spelled o.spelled
    (ap (λ (a : List TableChanges). normal_spelling (rebased s.blob a)) alone ∙ ap (λ (b : List BlobGroup). normal_spelling (rebased b o.alone)) blob)

no_rebase_refusal : BelowRebasing → (local bytes made : List ℕ) (answer : Answer) → SpellRebased local bytes made → IsRebaseRefusal local bytes answer → answer ≡ no_memory
no_rebase_refusal laws local bytes made answer s (inl r) = not_refused laws.below local s.alone answer s.spells r
no_rebase_refusal laws local bytes made answer s (inr (alone, spells, r)) =
    let same_form = one_form laws.below local alone s.alone spells s.spells in
    no_beside_refusal laws.blobs laws.shapes (length local) bytes s.blob s.alone answer s.spells_blob s.once s.shapes (subst (λ (a : List TableChanges). IsBesideRefusal (length local) a bytes answer) same_form r)

one_rebase_refusal : BelowRebasing → (local bytes : List ℕ) (one other : Answer) → IsRebaseRefusal local bytes one → IsRebaseRefusal local bytes other → Same one other
one_rebase_refusal laws local bytes one other (inl r) (inl s) = one_alone_refusal laws.below local one other r s
one_rebase_refusal laws local bytes one other (inl r) (inr (alone, spells, s)) =
    inl (not_refused laws.below local alone one spells r)
one_rebase_refusal laws local bytes one other (inr (alone, spells, s)) (inl r) =
    inr (inl (not_refused laws.below local alone other spells r))
one_rebase_refusal laws local bytes one other (inr (some, spells, r)) (inr (others, spells', s)) =
    let same_form = one_form laws.below local some others spells spells' in
    one_beside_refusal laws.blobs (length local) bytes others one other (subst (λ (a : List TableChanges). IsBesideRefusal (length local) a bytes one) same_form r) s

pub one_rebased_answer : BelowRebasing → OneRebasedAnswer
one_rebased_answer laws local bytes =
    one_hand (SpellRebased local bytes) (IsRebaseRefusal local bytes) (one_rebased_spelled laws local bytes) (no_rebase_refusal laws local bytes) (one_rebase_refusal laws local bytes)

-- ---- what is owed is told

pub rebased_told : AnswerLaws → (local bytes before after : List ℕ) (result answer : Answer) → AnswersRebased local bytes before after result → IsRebaseRefusal local bytes answer → UpToMemory result answer (result ≡ answer)
rebased_told laws local bytes before after result answer answers owed =
    without_content (laws.rebased local bytes before after before result answer answers (inr (owed, refl)))

-- the caller's memory after bytes are handed over
handed : (made before : List ℕ) → (after : List ℕ) × IsHanded made before after
handed made before =
    elim (cases_lt (length before) (length made)) [
      | inl less ↦ (before, record { room = λ enough. absurd (omega (arith, less, enough)); no_room = λ short. refl })
      | inr enough ↦ (made ++ drop (length made) before, record { room = λ fits. refl; no_room = λ less. absurd (omega (arith, less, enough)) })
    ]

count_told : {n : ℕ} {result : Answer} → Same result (read n) → TellsCount n result
count_told (inl m) = inr m
count_told (inr (inl none)) = absurd (omega (arith, ap (λ (a : Answer). a.fault) none))
count_told (inr (inr is)) = inl is

pub count_owed : AnswerLaws → (local bytes before after made : List ℕ) (result : Answer) → AnswersRebased local bytes before after result → SpellRebased local bytes made → TellsCount (length made) result
count_owed laws local bytes before after made result answers spells =
    let there = handed made before in
    count_told (without_content (laws.rebased local bytes before after there.0 result (read (length made)) answers (inl (made, spells, there.1, refl))))

-- a fault of the local bytes is told
pub fault_owed : ChangesetLaws → (local bytes : List ℕ) (answer : Answer) (fault : Fault) (offset : ℕ) → IsRebaseRefusal local bytes answer → IsChangesetFault fault offset local → TellsFault fault offset answer
fault_owed laws local bytes answer fault offset (inl (inl (inl m))) told = inr m
fault_owed laws local bytes answer fault offset (inl (inl (inr (g, p, told', is)))) told =
    inl (is ∙ refused_alike g fault p offset (laws.fault g fault p offset local told' told))
fault_owed laws local bytes answer fault offset (inl (inr (groups, spells, not))) told =
    absurd (no_fault laws local groups fault offset spells told)
fault_owed laws local bytes answer fault offset (inr (alone, s, r)) told =
    absurd (no_fault laws local s.groups fault offset s.spells told)

pub none_made : ChangesetLaws → (local bytes made : List ℕ) (fault : Fault) (offset : ℕ) → SpellRebased local bytes made → IsChangesetFault fault offset local → ⊥
none_made laws local bytes made fault offset s told =
    no_fault laws local s.spells.groups fault offset s.spells.spells told

-- what can be rebased is refused for want of memory alone
pub none_owed : ChangesetLaws → NoFaultWhereFit → BlobLaws → NoWrongShape → (local bytes : List ℕ) (answer : Answer) → CanRebase local bytes → IsRebaseRefusal local bytes answer → answer ≡ no_memory
none_owed laws fit blobs shapes local bytes answer can (inl (inl r)) =
    no_refusal laws local can.groups answer can.spells r
none_owed laws fit blobs shapes local bytes answer can (inl (inr (groups, spells, not))) =
    let one = one_spelled laws local groups can.groups spells can.spells in
    let moved = subst (λ (g : List Group). NotCombined (g ∷ []) answer) one not in
    moved.number ∙ fault_is_memory fit moved.fault (can.groups ∷ []) can.can moved.told
none_owed laws fit blobs shapes local bytes answer can (inr (alone, s, r)) =
    let one = one_spelled laws local s.groups can.groups s.spells can.spells in
    let combined = subst (λ (g : List Group). IsCombined (g ∷ []) alone) one s.combined in
    no_beside_refusal blobs shapes (length local) bytes can.blob alone answer can.spells_blob can.once (can.shapes alone combined) r
