-- Whether a changeset is defined on a state is decided by its own places: elsewhere nothing changes.
use Rattle.std.proofs.Common.{◌≡◌, ◌⊎◌, inl, inr, ℕ, Bool, true, false, cond, List, [], ◌∷◌, length, Option, Some, None, refl, sym, subst}
use Rattle.std.specs.Option.{IsSome}
use Rattle.std.specs.Str.{bytes_eq}
use Rattle.std.proofs.lemmas.Slice.Eq.{bytes_eq-Decides}
use Rattle.cs_value.specs.Decided.{OrNot, both_or_not, same_bytes_or_not, same_marks_or_not}
use Rattle.cs_value.specs.Key.{Place}
use Rattle.cs_value.specs.declared.catalog.TableDef.{TableDef}
use Rattle.cs_change.specs.Action.{action_any, after_any}
use Rattle.cs_change.specs.declared.change.Change.{Change}
use Rattle.cs_normal.specs.Order.{same_bytes}
use Rattle.cs_normal.specs.Facts.{same_is}
use Rattle.cs_normal.specs.Changes.{Changes as KeyedChanges, change_at}
use Rattle.cs_normal.specs.Normal.{FitsCatalog, IsOfTable, change_of, changes_in}
use Rattle.cs_normal.specs.State.{State, left_at}
use Rattle.cs_normal.specs.declared.normal.TableChanges.{TableChanges}
use Rattle.cs_normal.specs.NormalFacts.{here}
use Rattle.cs_widening.specs.Laws.{CanWidenOrNot}
use Rattle.cs_store.specs.log.Entry.{MayWiden, entry_changes}
use Rattle.cs_store.specs.log.Laws.{DefinedOrNot, NextOrNot}
use Rattle.cs_store.specs.log.Log.{catalog_at, state_of}
use Rattle.cs_store.specs.declared.log.body.Body.{Body}
use Rattle.cs_store.specs.declared.log.body.Body.TheVariants.{Changes, Widen}

one_of : {P Q : Type 0} → OrNot P → OrNot Q → OrNot (P ⊎ Q)
one_of (inl p) q = inl (inl p)
one_of (inr not) (inl q) = inl (inr q)
one_of (inr not) (inr nor) = inr (elim [ inl p ↦ not p | inr q ↦ nor q ])

-- ---- its tables are the catalog's

is_of_table : (table : TableDef) (changes : TableChanges) → OrNot (IsOfTable table changes)
is_of_table table changes = both_or_not (same_bytes_or_not changes.name table.name) (same_marks_or_not changes.marks table.key_marks)

fits : (tables : List TableDef) (changes : List TableChanges) → OrNot (FitsCatalog tables changes)
fits tables [] = inl tt
fits [] (first ∷ others) = inr (λ it. it)
fits (table ∷ tables) (first ∷ others) =
    one_of (both_or_not (is_of_table table first) (fits tables others)) (fits tables (first ∷ others))

-- ---- each change is defined at its place

-- what is left at each place, or none where that isn't defined
abbrev Left : Type 0
Left = List ℕ → List ℕ → Option Place

abbrev Refuses : Left → Type 0
Refuses left = (name : List ℕ) × (key : List ℕ) × (left name key ≡ None)

-- something is left at each key of a table's changes, and at those of each table
abbrev AllIn : Left → List ℕ → KeyedChanges → Type 0
AllIn left name [] = Unit {0}
AllIn left name (keyed ∷ changes) = IsSome (left name keyed.0) × AllIn left name changes

abbrev AllOf : Left → List TableChanges → Type 0
AllOf left [] = Unit {0}
AllOf left (table ∷ tables) = AllIn left table.name table.changes × AllOf left tables

some_or_none : (left : Left) (name key : List ℕ) (place : Option Place) → left name key ≡ place → IsSome (left name key) ⊎ Refuses left
some_or_none left name key None is = inr (name, key, is)
some_or_none left name key (Some place) is = inl (rw is refl)

all_or_one : {P Q R : Type 0} → P ⊎ R → Q ⊎ R → (P × Q) ⊎ R
all_or_one (inl p) (inl q) = inl (p, q)
all_or_one (inl p) (inr r) = inr r
all_or_one (inr r) q = inr r

all_in : (left : Left) (name : List ℕ) (changes : KeyedChanges) → AllIn left name changes ⊎ Refuses left
all_in left name [] = inl tt
all_in left name (keyed ∷ changes) =
    all_or_one (some_or_none left name keyed.0 (left name keyed.0) refl) (all_in left name changes)

all_of : (left : Left) (tables : List TableChanges) → AllOf left tables ⊎ Refuses left
all_of left [] = inl tt
all_of left (table ∷ tables) = all_or_one (all_in left table.name table.changes) (all_of left tables)

-- what is left where no change stands
abbrev LeavesElsewhere : Left → List ℕ → List ℕ → Option Change → Type 0
LeavesElsewhere left name key change = change ≡ None → IsSome (left name key)

at_first : (left : Left) (name key : List ℕ) (keyed : List ℕ × Change) (rest : Option Change) (t : Bool) → IsSome (left name keyed.0) → same_bytes key keyed.0 ≡ t → (LeavesElsewhere left name key rest → IsSome (left name key)) → LeavesElsewhere left name key (cond t (Some keyed.1) rest) → IsSome (left name key)
at_first left name key keyed rest true here e others elsewhere = subst (λ (k : List ℕ). IsSome (left name k)) (sym (same_is key keyed.0 e)) here
at_first left name key keyed rest false here e others elsewhere = others elsewhere

at_key : (left : Left) (name key : List ℕ) (changes : KeyedChanges) → AllIn left name changes → LeavesElsewhere left name key (change_at key changes) → IsSome (left name key)
at_key left name key [] all elsewhere = elsewhere refl
at_key left name key (keyed ∷ changes) all elsewhere =
    at_first left name key keyed (change_at key changes) (same_bytes key keyed.0) all.0 refl (at_key left name key changes all.1) elsewhere

in_first : (left : Left) (name key : List ℕ) (table : TableChanges) (rest : KeyedChanges) (t : Bool) → AllIn left table.name table.changes → bytes_eq table.name name ≡ t → (LeavesElsewhere left name key (change_at key rest) → IsSome (left name key)) → LeavesElsewhere left name key (change_at key (cond t table.changes rest)) → IsSome (left name key)
in_first left name key table rest true here e others elsewhere =
    at_key left name key table.changes (subst (λ (n : List ℕ). AllIn left n table.changes) ((bytes_eq-Decides table.name name).0 e) here) elsewhere
in_first left name key table rest false here e others elsewhere = others elsewhere

at_place : (left : Left) (name key : List ℕ) (tables : List TableChanges) → AllOf left tables → LeavesElsewhere left name key (change_of name key tables) → IsSome (left name key)
at_place left name key [] all elsewhere = elsewhere refl
at_place left name key (table ∷ tables) all elsewhere =
    in_first left name key table (changes_in name tables) (bytes_eq table.name name) all.0 refl (at_place left name key tables all.1) elsewhere

unchanged : (changes : List TableChanges) (state : State) (name key : List ℕ) → change_of name key changes ≡ None → IsSome (left_at changes state name key)
unchanged changes state name key none =
    subst (λ (c : Option Change). IsSome (after_any (action_any c) (state name key))) (sym none) refl

is_none : {A : Type 0} (left : Option A) → left ≡ None → IsSome left → ⊥
is_none None e some = cc
is_none (Some a) e some = cc

pub defined_or_not : DefinedOrNot
defined_or_not tables changes state =
    both_or_not (fits tables changes)
    (elim (all_of (left_at changes state) changes) [
      | inl all ↦ inl (λ name key. at_place (left_at changes state) name key changes all (unchanged changes state name key))
      | inr refused ↦ inr (λ each. is_none (left_at changes state refused.0 refused.1) refused.2 (each refused.0 refused.1))
    ])

-- ---- the next of a log, or not

may_or_not : CanWidenOrNot → (tables : List TableDef) (body : Body) → OrNot (MayWiden tables body)
may_or_not can tables (Changes changes) = inl tt
may_or_not can tables (Widen table width) = can tables table width

pub next_or_not : DefinedOrNot → CanWidenOrNot → NextOrNot
next_or_not decided can opening log entry normal =
    elim (both_or_not (decided (catalog_at opening log (length log)) (entry_changes entry) (state_of log)) (may_or_not can (catalog_at opening log (length log)) entry.body)) [
      | inl (defined, widens) ↦ inl (record { normal = normal; defined = defined; widens = widens })
      | inr not ↦ inr (λ next. not (next.defined, next.widens))
    ]
