-- Each push has an answer.
use Rattle.std.proofs.Common.{◌≡◌, inl, inr, ℕ, ◌+◌, ◌<◌, ◌≤◌, List, [], ◌∷◌, length, take, min, Option, Some, None, Result, Ok, Err, slice_get, refl, ap, subst, ◌∙◌, arith}
use Rattle.std.proofs.Math.Seq.{take-length}
use Rattle.std.proofs.lemmas.Option.{slice_get_within}
use Rattle.std.proofs.lemmas.Bool.{cases_lt}
use Rattle.std.proofs.lemmas.Bool.Decides.{eqb_tells}
use Rattle.cs_value.specs.Catalog.{AreTables}
use Rattle.cs_value.specs.Decided.{OrNot, same_bytes_or_not}
use Rattle.cs_value.specs.declared.catalog.TableDef.{TableDef}
use Rattle.cs_normal.specs.declared.normal.TableChanges.{TableChanges}
use Rattle.cs_store.specs.log.Laws.{CatalogsAreTables, DefinedOrNot, OneBody}
use Rattle.cs_store.specs.log.Log.{IsLog, catalog_at, catalog_of, state_of}
use Rattle.cs_store.specs.log.Stored.{AreChangesOf, stored_body}
use Rattle.cs_store.specs.log.Entry.{MayWiden, changes_of_body, entry_changes}
use Rattle.cs_store.specs.declared.log.body.Body.{Body}
use Rattle.cs_store.specs.declared.log.entry.LogEntry.{LogEntry}
use Rattle.cs_hub.specs.appending.Laws.{DefinedOrConflict}
use Rattle.cs_hub.specs.judgement.Hub.{HubState, judging, synced, with_entry}
use Rattle.cs_hub.specs.judgement.Laws.{PushHasAnswer}
use Rattle.cs_hub.specs.judgement.Pushes.{Case, CanFollow, IsRepeat, Push, TellsConflict, entry_of_push}
use Rattle.cs_hub.specs.declared.judgement.fault.HubFault.{HubFault}
use Rattle.cs_hub.specs.declared.judgement.fault.HubFault.TheVariants.{Ahead, Conflict as OnConflict, Empty, Full}
use Rattle.cs_hub.specs.declared.judgement.push.Pushed.{Pushed}
use Rattle.cs_hub.specs.declared.judgement.push.Pushed.TheVariants.{Accepted, Stale}

-- ---- the guards are decided

no_change : (changes : List TableChanges) → OrNot (changes ≡ [])
no_change [] = inl refl
no_change (first ∷ others) = inr (λ is. cc)

pub is_below : (a b : ℕ) → OrNot (a < b)
is_below a b = elim (cases_lt a b) [ inl lt ↦ inl lt | inr ge ↦ inr (λ lt. omega arith) ]

pub is_within : (a b : ℕ) → OrNot (a ≤ b)
is_within a b = elim (cases_lt b a) [ inl lt ↦ inr (λ le. omega arith) | inr le ↦ inl le ]

pub same_number : (a b : ℕ) → OrNot (a ≡ b)
same_number a b = elim (eqb_tells a b) [ inl (e, is) ↦ inl is | inr (e, ne) ↦ inr ne ]

same_body : OneBody → (tables : List TableDef) (a b : Body) → AreTables tables → AreChangesOf tables (changes_of_body a) → AreChangesOf tables (changes_of_body b) → MayWiden tables a → MayWiden tables b → OrNot (a ≡ b)
same_body one tables a b are first second may might =
    elim (same_bytes_or_not (stored_body a) (stored_body b)) [
      | inl is ↦ inl (one tables a b are first second may might is)
      | inr not ↦ inr (λ is. not (ap stored_body is))
    ]

same_parts : (a b : LogEntry) → a.origin ≡ b.origin → a.number ≡ b.number → a.body ≡ b.body → a ≡ b
same_parts a b origin number body =
    ap (λ (o : ℕ). record { origin = o; number = a.number; body = a.body }) origin
    ∙ (ap (λ (n : ℕ). record { origin = b.origin; number = n; body = a.body }) number
    ∙ ap (λ (c : Body). record { origin = b.origin; number = b.number; body = c }) body)

same_entry : OneBody → (tables : List TableDef) (a b : LogEntry) → AreTables tables → AreChangesOf tables (entry_changes a) → AreChangesOf tables (entry_changes b) → MayWiden tables a.body → MayWiden tables b.body → OrNot (a ≡ b)
same_entry one tables a b are first second may might =
    elim (same_number a.origin b.origin) [
      | inr not ↦ inr (λ is. not (ap (λ (e : LogEntry). e.origin) is))
      | inl origin ↦ elim (same_number a.number b.number) [
        | inr not ↦ inr (λ is. not (ap (λ (e : LogEntry). e.number) is))
        | inl number ↦ elim (same_body one tables a.body b.body are first second may might) [
          | inr not ↦ inr (λ is. not (ap (λ (e : LogEntry). e.body) is))
          | inl body ↦ inl (same_parts a b origin number body)
        ]
      ]
    ]

-- whether the push is the entry at its base: both are of the catalog there
found_entry : OneBody → CatalogsAreTables → (opening : List TableDef) (log : List LogEntry) (push : Push) (found : Option LogEntry) → AreTables opening → IsLog opening log
    → (push.head.base < length log → AreChangesOf (catalog_at opening log push.head.base) push.changes) → slice_get log push.head.base ≡ found → OrNot (IsRepeat log push)
found_entry one catalogs opening log push None are each fits is = inr (λ there. cc)
found_entry one catalogs opening log push (Some kept) are each fits is =
    let base = push.head.base in
    let front = take base log in
    let there : catalog_at opening front (length front) ≡ catalog_at opening log base = ap (catalog_of opening) (take-length front) in
    let next = each base kept is in
    let changes = subst (λ (t : List TableDef). AreChangesOf t (entry_changes kept)) there (next.normal, next.defined.0) in
    let widens = subst (λ (t : List TableDef). MayWiden t kept.body) there next.widens in
    elim (same_entry one (catalog_at opening log base) kept (entry_of_push push) (catalogs opening log base are each) changes (fits (slice_get_within log base kept is)) widens tt) [
      | inl same ↦ inl (is ∙ ap (λ (e : LogEntry). Some e) same)
      | inr not ↦ inr (λ there. not (cc))
    ]

-- ---- so one case decides

abbrev pub Told : Type 0
Told = Result Pushed HubFault

abbrev pub Some2 : (Told → HubState → Type 0) → Type 0
Some2 holds = (answer : Told) × (new : HubState) × holds answer new

pub in_case : {guard : Type 0} (below : Told → HubState → Type 0) (told : Told) (after : HubState) → OrNot guard → ((guard → ⊥) → Some2 below) → Some2 (λ answer new. Case guard ((answer ≡ told) × (new ≡ after)) (below answer new))
in_case below told after (inl holds) other = (told, after, inl (holds, (refl, refl)))
in_case below told after (inr not) other =
    let rest = other not in
    (rest.0, rest.1, inr (not, rest.2))

abbrev Conflicts : HubState → Push → Told → HubState → Type 0
Conflicts old push answer new = TellsConflict old push answer × (new ≡ old)

-- the last case: the push follows, or its first conflict is told
in_last : DefinedOrNot → DefinedOrConflict → (old : HubState) (push : Push) → AreChangesOf (synced old) push.changes
    → Some2 (λ answer new. Case (CanFollow old push) ((answer ≡ Ok (Accepted (push.head.base + 1))) × (new ≡ with_entry old (entry_of_push push))) (Conflicts old push answer new))
in_last decided conflicts old push fits =
    elim (decided (synced old) push.changes (state_of old.log)) [
      | inl follows ↦ (Ok (Accepted (push.head.base + 1)), with_entry old (entry_of_push push), inl (follows, (refl, refl)))
      | inr not ↦ elim (conflicts (synced old) push.changes (state_of old.log) fits) [
        | inl follows ↦ absurd (not follows)
        | inr (conflict, first) ↦ (Err (OnConflict conflict), old, inr (not, ((conflict, first, refl), refl)))
      ]
    ]

abbrev OfNewest : HubState → Push → Told → HubState → Type 0
OfNewest old push answer new =
    Case (CanFollow old push) ((answer ≡ Ok (Accepted (push.head.base + 1))) × (new ≡ with_entry old (entry_of_push push))) (Conflicts old push answer new)

abbrev OfRoom : ℕ → HubState → Push → Told → HubState → Type 0
OfRoom limit old push answer new =
    Case (limit ≤ length old.log) ((answer ≡ Err Full) × (new ≡ old)) (OfNewest old push answer new)

abbrev OfOther : ℕ → HubState → Push → Told → HubState → Type 0
OfOther limit old push answer new =
    Case (push.head.base < length old.log) ((answer ≡ Ok (Stale (length old.log))) × (new ≡ old)) (OfRoom limit old push answer new)

abbrev OfBase : ℕ → HubState → Push → Told → HubState → Type 0
OfBase limit old push answer new =
    Case (IsRepeat old.log push) ((answer ≡ Ok (Accepted (push.head.base + 1))) × (new ≡ old)) (OfOther limit old push answer new)

abbrev OfSome : ℕ → HubState → Push → Told → HubState → Type 0
OfSome limit old push answer new =
    Case (length old.log < push.head.base) ((answer ≡ Err Ahead) × (new ≡ old)) (OfBase limit old push answer new)

-- the catalog by which a push is judged is that at its base, where the log has that
judged_by : (old : HubState) (push : Push) (version : ℕ) → min push.head.base (length old.log) ≡ version → AreChangesOf (judging old push.head.base) push.changes → AreChangesOf (catalog_at old.opening old.log version) push.changes
judged_by old push version is fits = subst (λ (n : ℕ). AreChangesOf (catalog_at old.opening old.log n) push.changes) is fits

pub push_has_answer : DefinedOrNot → DefinedOrConflict → OneBody → CatalogsAreTables → PushHasAnswer
push_has_answer decided conflicts one catalogs limit old push hub fits =
    in_case (OfSome limit old push) (Err Empty) old (no_change push.changes)
    (λ some. in_case (OfBase limit old push) (Err Ahead) old (is_below (length old.log) push.head.base)
    (λ within. in_case (OfOther limit old push) (Ok (Accepted (push.head.base + 1))) old
    (found_entry one catalogs old.opening old.log push (slice_get old.log push.head.base) hub.tables hub.log (λ less. judged_by old push push.head.base (omega (arith, less)) fits) refl)
    (λ other. in_case (OfRoom limit old push) (Ok (Stale (length old.log))) old (is_below push.head.base (length old.log))
    (λ newest. in_case (OfNewest old push) (Err Full) old (is_within limit (length old.log))
    (λ room. in_last decided conflicts old push (judged_by old push (length old.log) (omega (arith, within, newest)) fits))))))
