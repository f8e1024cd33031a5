-- Fronts of logs, and logs with one entry more.
use Rattle.std.proofs.Common.{◌≡◌, ◌⊎◌, inl, inr, ℕ, zero, suc, ◌<◌, ◌≤◌, List, [], ◌∷◌, ◌++◌, take, length, Some, slice_get, refl, sym, ap, subst, arith}
use Rattle.std.proofs.lemmas.List.{take-append-le}
use Rattle.std.proofs.lemmas.Option.{slice_get_within}
use Rattle.cs_store.specs.log.Laws.{AppendedIsLog, EmptyIsLog, FrontIsLog, LongerLog}
use Rattle.cs_store.specs.log.Log.{IsNextEntry, catalog_of, state_of}
use Rattle.cs_store.specs.declared.log.entry.LogEntry.{LogEntry}

-- an entry of the longer log stands where it stood, or is the last
split_last : (log : List LogEntry) (last : LogEntry) (place : ℕ) (entry : LogEntry) → slice_get (log ++ last ∷ []) place ≡ Some entry
    → ((slice_get log place ≡ Some entry) × (take place (log ++ last ∷ []) ≡ take place log)) ⊎ ((entry ≡ last) × (take place (log ++ last ∷ []) ≡ log))
split_last [] last zero entry there = inr (cc, refl)
split_last [] last (suc place) entry there = cc
split_last (first ∷ log) last zero entry there = inl (there, refl)
split_last (first ∷ log) last (suc place) entry there =
    elim (split_last log last place entry there) [
      | inl (there', front) ↦ inl (there', ap (λ (l : List LogEntry). first ∷ l) front)
      | inr (is, front) ↦ inr (is, ap (λ (l : List LogEntry). first ∷ l) front)
    ]

pub empty_is_log : EmptyIsLog
empty_is_log opening zero entry there = cc
empty_is_log opening (suc place) entry there = cc

pub appended_is_log : AppendedIsLog
appended_is_log opening log last each new place entry there =
    elim (split_last log last place entry there) [
      | inl (there', front) ↦ subst (λ (l : List LogEntry). IsNextEntry opening l entry) (sym front) (each place entry there')
      | inr (is, front) ↦ subst (λ (l : List LogEntry). IsNextEntry opening l entry) (sym front) (subst (λ (e : LogEntry). IsNextEntry opening log e) (sym is) new)
    ]

-- what stands in the front stands there in the whole
in_front : (log more : List LogEntry) (place : ℕ) (entry : LogEntry) → slice_get log place ≡ Some entry → slice_get (log ++ more) place ≡ Some entry
in_front [] more zero entry there = cc
in_front [] more (suc place) entry there = cc
in_front (first ∷ log) more zero entry there = there
in_front (first ∷ log) more (suc place) entry there = in_front log more place entry there

pub take_front : (log more : List LogEntry) (version : ℕ) → version ≤ length log → take version (log ++ more) ≡ take version log
take_front log more version within = rw take-append-le refl

pub front_is_log : FrontIsLog
front_is_log opening log more each place entry there =
    let within : place < length log = slice_get_within log place entry there in
    subst (λ (l : List LogEntry). IsNextEntry opening l entry) (take_front log more place (omega (arith, within))) (each place entry (in_front log more place entry there))

pub longer_log : LongerLog
longer_log opening log more version within =
    (ap (catalog_of opening) (take_front log more version within), ap state_of (take_front log more version within))
