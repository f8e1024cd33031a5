-- Changesets that were taken one by one.
use Rattle.std.proofs.Common.{◌≡◌, ◌+◌, ◌<◌, ◌≤◌, ◌++◌, ℕ, List, [], ◌∷◌, length, take, sym, subst, arith, inl, inr}
use Rattle.std.specs.List.{All, sum_by}
use Rattle.std.proofs.lemmas.List.{take_all}
use Rattle.std.proofs.lemmas.List.Elements.{All-take}
use Rattle.std.proofs.lemmas.List.Sums.{sum_by-take-le}
use Rattle.cs_value.specs.Catalog.{AreTables}
use Rattle.cs_value.specs.declared.catalog.TableDef.{TableDef}
use Rattle.cs_group.specs.Tables.{AreThen, JoinOneMore, OneJoin}
use Rattle.cs_normal.specs.Normal.{FitsCatalog, IsNormalChangeset, normal_spelling}
use Rattle.cs_normal.specs.declared.normal.TableChanges.{TableChanges}
use Rattle.cs_store.specs.log.Stored.{AreChangesOf}
use Rattle.cs_store.specs.declared.log.entry.TheConstants.{MAX_CHANGESET}
use Rattle.cs_hub.specs.catching.Consolidated.{AreOne, AreShort, IsShort}
use Rattle.cs_hub.specs.catching.Runs.{IsRunOf}
use Rattle.cs_hub.specs.catching.Steps.{IsRunSoFar}
use Rattle.cs_hub.proofs.CatchingLemmas.Runs.{Joins, le_or, short_of}

-- ---- a run of changesets

-- where all have few bytes together, each front of them is short
pub few_run : Joins → (tables : List TableDef) (list : List (List TableChanges)) (joined : List TableChanges) → AreTables tables → All (AreChangesOf tables) list → sum_by (λ changes. length (normal_spelling changes)) list ≤ MAX_CHANGESET
    → AreOne tables list joined → IsRunOf tables list (length list) joined
few_run laws tables list joined are all few one = record {
  run = record {
    there = omega arith;
    each = λ n less. short_of laws tables (take n list) are (All-take (AreChangesOf tables) n list all) (omega (arith, few, sum_by-take-le (λ (changes : List TableChanges). length (normal_spelling changes)) list n));
    ends = λ less short. omega (arith, less);
  };
  one = subst (λ (l : List (List TableChanges)). AreOne tables l joined) (sym (take_all (length list) list (omega arith))) one;
}

-- with the next one they are these
pub one_with : JoinOneMore → (tables : List TableDef) (list : List (List TableChanges)) (at : ℕ) (next joined both : List TableChanges) → at < length list → take (at + 1) list ≡ take at list ++ next ∷ [] → AreOne tables (take at list) joined
    → IsNormalChangeset both → FitsCatalog tables both → AreThen tables joined next both → AreOne tables (take (at + 1) list) both
one_with law tables list at next joined both less more one normal fits then =
    subst (λ (l : List (List TableChanges)). AreOne tables l both) (sym more)
    (record { of_tables = (normal, fits); joined = law tables (take at list) next joined both one.joined then })

pub one_more_so_far : (tables : List TableDef) (list : List (List TableChanges)) (at : ℕ) (joined both : List TableChanges) → at < length list → IsRunSoFar tables list at joined → AreOne tables (take (at + 1) list) both → IsShort both → IsRunSoFar tables list (at + 1) both
one_more_so_far tables list at joined both less so_far one short = record {
  there = omega (arith, less);
  each = λ n within. elim (le_or n at) [
    | inl before ↦ so_far.each n before
    | inr behind ↦ subst (λ (k : ℕ). AreShort tables (take k list)) (let e : at + 1 ≡ n = omega (arith, within, behind) in e) (both, one, short)
  ];
  one = one;
}

-- with the next one they are too long
pub ends_long : OneJoin → (tables : List TableDef) (list : List (List TableChanges)) (at : ℕ) (joined both : List TableChanges) → AreTables tables → IsRunSoFar tables list at joined → AreOne tables (take (at + 1) list) both → (IsShort both → ⊥) → IsRunOf tables list at joined
ends_long law tables list at joined both are so_far one long = record {
  run = record {
    there = so_far.there;
    each = so_far.each;
    ends = λ less (other, is, short).
        let same = law tables (take (at + 1) list) other both are is.of_tables.0 one.of_tables.0 is.of_tables.1 one.of_tables.1 is.joined one.joined in
        long (subst IsShort same short);
  };
  one = so_far.one;
}

-- what they are together is short
pub run_is_short : OneJoin → (tables : List TableDef) (list : List (List TableChanges)) (count : ℕ) (changes : List TableChanges) → AreTables tables → IsRunOf tables list count changes → IsShort changes
run_is_short law tables list count changes are is =
    let told = is.run.each count (omega arith) in
    let some = told.1 in
    let one = is.one in
    subst IsShort (law tables (take count list) told.0 changes are some.of_tables.0 one.of_tables.0 some.of_tables.1 one.of_tables.1 some.joined one.joined) told.2
