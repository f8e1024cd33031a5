-- Headers have a catalog or a fault.
use Rattle.std.proofs.Common.{List, [], ◌∷◌, inl, inr}
use Rattle.std.specs.Prelude.{◌⊎◌}
use Rattle.std.specs.List.{AllByRecursion, Contains}
use Rattle.std.specs.Str.{bytes_eq}
use Rattle.std.proofs.lemmas.Bool.{cases_Bool}
use Rattle.std.proofs.lemmas.Bool.Decides.{not_from_Decides}
use Rattle.std.proofs.lemmas.List.Elements.{All-contains, All-contains_itself, All-from_recursion, recursion_from_All}
use Rattle.std.proofs.lemmas.Slice.Eq.{bytes_eq-Decides}
use Rattle.cs_value.specs.Laws.{CatalogLaws}
use Rattle.cs_value.specs.declared.catalog.TableDef.{TableDef}
use Rattle.cs_normal.specs.Headers.{tables_of_headers, AreTwoShapes, HasTwoShapes, CatalogOrHeaderFault}
use Rattle.cs_normal.specs.declared.headers.HeaderFault.TheVariants.{Shape as TwoShapes, BadCatalog}
use Rattle.cs_normal.specs.NormalFacts.{here, behind, same_or_not}

-- ---- two shapes of one name

abbrev NotTwoShapes : TableDef → TableDef → Type 0
NotTwoShapes some other = AreTwoShapes some other → ⊥

two_or_not : (some other : TableDef) → AreTwoShapes some other ⊎ NotTwoShapes some other
two_or_not some other =
    elim (cases_Bool (bytes_eq some.name other.name)) [
      | inr differ ↦ inr (λ two. not_from_Decides (bytes_eq some.name other.name) (bytes_eq-Decides some.name other.name) differ two.0)
      | inl same ↦ elim (same_or_not some.key_marks other.key_marks) [
        | inl shape ↦ inr (λ two. two.1 shape)
        | inr differ ↦ inl ((bytes_eq-Decides some.name other.name).0 same, differ)
      ]
    ]

other_or_none : (some : TableDef) (headers : List TableDef) → ((other : TableDef) × Contains headers other × AreTwoShapes some other) ⊎ AllByRecursion (NotTwoShapes some) headers
other_or_none some [] = inr tt
other_or_none some (first ∷ headers) =
    elim (two_or_not some first) [
      | inl two ↦ inl (first, here first headers, two)
      | inr not_two ↦ elim (other_or_none some headers) [
        | inl (other, there, two) ↦ inl (other, behind first headers other there, two)
        | inr none ↦ inr (not_two, none)
      ]
    ]

abbrev IsAlone : List TableDef → TableDef → Type 0
IsAlone headers some = AllByRecursion (NotTwoShapes some) headers

pair_or_none : (headers front : List TableDef) → AllByRecursion (Contains headers) front → HasTwoShapes headers ⊎ AllByRecursion (IsAlone headers) front
pair_or_none headers [] there = inr tt
pair_or_none headers (first ∷ front) there =
    elim (other_or_none first headers) [
      | inl (other, in', two) ↦ inl (first, other, there.0, in', two)
      | inr none ↦ elim (pair_or_none headers front there.1) [
        | inl pair ↦ inl pair
        | inr all ↦ inr (none, all)
      ]
    ]

none_pair : (headers : List TableDef) → AllByRecursion (IsAlone headers) headers → HasTwoShapes headers → ⊥
none_pair headers all (some, other, in', in'', two) =
    let alone = All-contains (IsAlone headers) headers some (All-from_recursion (IsAlone headers) headers all) in' in
    All-contains (NotTwoShapes some) headers other (All-from_recursion (NotTwoShapes some) headers alone) in'' two

pub catalog_or_header_fault : CatalogLaws → CatalogOrHeaderFault
catalog_or_header_fault catalogs headers =
    elim (pair_or_none headers headers (recursion_from_All (Contains headers) headers (All-contains_itself headers))) [
      | inl two ↦ inr (TwoShapes, (λ e. cc), two)
      | inr all ↦ elim (catalogs.found (tables_of_headers headers)) [
        | inl are ↦ inl (none_pair headers all, are)
        | inr (fault, wrong) ↦ inr (BadCatalog, (λ e. cc), (none_pair headers all, catalogs.right fault (tables_of_headers headers) wrong))
      ]
    ]
