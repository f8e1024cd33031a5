-- Tables are a catalog, or have a fault.
use Rattle.std.proofs.Common.{◌≡◌, ℕ, zero, suc, ◌+◌, ◌<◌, ◌≤◌, Bool, true, false, List, [], ◌∷◌, length, get_or, take, refl, sym, arith, inl, inr, subst}
use Rattle.std.specs.Prelude.{◌≢◌, ◌⊎◌}
use Rattle.std.specs.List.{All, AllByRecursion, Contains}
use Rattle.std.specs.Str.{bytes_eq}
use Rattle.std.proofs.lemmas.Bool.{cases_lt, cases_eq, cases_Bool}
use Rattle.std.proofs.lemmas.Bool.Decides.{not_from_Decides}
use Rattle.std.proofs.lemmas.List.{get_or_default, take_all}
use Rattle.std.proofs.lemmas.List.Elements.{All-from_recursion, recursion_from_All}
use Rattle.std.proofs.lemmas.Slice.Eq.{bytes_eq-Decides}
use Rattle.cs_value.specs.Catalog.{HasWidth, HasKeyColumn, HasName, HasNewName, IsTable, IsTableFault, EachIsTable, AreTables, IsCatalogFault}
use Rattle.cs_value.specs.Laws.{CatalogOrFault}
use Rattle.cs_value.specs.declared.catalog.CatalogFault.{CatalogFault}
use Rattle.cs_value.specs.declared.catalog.CatalogFault.TheVariants.{Width, NoKey, TwiceNamed, Name, TooMany}
use Rattle.cs_value.specs.declared.catalog.TableDef.{TableDef}
use Rattle.cs_value.proofs.Tables.{ChecksTo, checks_more, first_fault}

-- ---- what is asked of one table

abbrev OrNot : Type 0 → Type 0
OrNot P = P ⊎ (P → ⊥)

some_behind : {X : Type 0} (x y : X) (xs : List X) → Contains xs x → Contains (y ∷ xs) x
some_behind x y xs (k, within, is) = (suc k, omega (arith, within), is)

none_there : {X : Type 0} (x y : X) (xs : List X) → y ≢ x → (Contains xs x → ⊥) → Contains (y ∷ xs) x → ⊥
none_there x y xs other none (zero, within, is) = other is
none_there x y xs other none (suc k, within, is) = none (k, omega (arith, within), is)

has_mark : (marks : List Bool) → OrNot (Contains marks true)
has_mark [] = inr (λ h. omega (arith, h.1))
has_mark (true ∷ marks) = inl (0, omega arith, refl)
has_mark (false ∷ marks) = elim (has_mark marks) [
  | inl is ↦ inl (some_behind true false marks is)
  | inr none ↦ inr (none_there true false marks (λ e. cc) none)
]

has_zero : (name : List ℕ) → OrNot (Contains name 0)
has_zero [] = inr (λ h. omega (arith, h.1))
has_zero (zero ∷ name) = inl (0, omega arith, refl)
has_zero (suc byte ∷ name) = elim (has_zero name) [
  | inl is ↦ inl (some_behind 0 (suc byte) name is)
  | inr none ↦ inr (none_there 0 (suc byte) name (λ e. omega (arith, e)) none)
]

between : (low n high : ℕ) → OrNot ((low < n) × (n ≤ high))
between low n high =
    elim (cases_lt low n) [
      | inr most ↦ inr (λ h. omega (arith, h.0, most))
      | inl above ↦ elim (cases_lt high n) [
        | inl more ↦ inr (λ h. omega (arith, h.1, more))
        | inr within ↦ inl (above, within)
      ]
    ]

has_width : (table : TableDef) → OrNot (HasWidth table)
has_width table = between 0 (length table.key_marks) 2000

has_name : (table : TableDef) → OrNot (HasName table)
has_name table =
    elim (between 0 (length table.name) 255) [
      | inr bad ↦ inr (λ h. bad (h.0, h.1))
      | inl fits ↦ elim (has_zero table.name) [
        | inl zeroed ↦ inr (λ h. h.2 zeroed)
        | inr none ↦ inl (fits.0, fits.1, none)
      ]
    ]

abbrev OtherName : TableDef → TableDef → Type 0
OtherName table other = other.name ≢ table.name

new_name_by : (before : List TableDef) (table : TableDef) → OrNot (AllByRecursion (OtherName table) before)
new_name_by [] table = inl tt
new_name_by (other ∷ before) table =
    elim (cases_Bool (bytes_eq other.name table.name)) [
      | inl same ↦ inr (λ h. h.0 ((bytes_eq-Decides other.name table.name).0 same))
      | inr differ ↦ elim (new_name_by before table) [
        | inl all ↦ inl (not_from_Decides (bytes_eq other.name table.name) (bytes_eq-Decides other.name table.name) differ, all)
        | inr some ↦ inr (λ h. some h.1)
      ]
    ]

has_new_name : (before : List TableDef) (table : TableDef) → OrNot (HasNewName before table)
has_new_name before table =
    elim (new_name_by before table) [
      | inl all ↦ inl (All-from_recursion (OtherName table) before all)
      | inr some ↦ inr (λ h. some (recursion_from_All (OtherName table) before h))
    ]

TableWrong : List TableDef → TableDef → Type 0
TableWrong before table = (fault : CatalogFault) × IsTableFault fault before table

table_or_fault : (before : List TableDef) (table : TableDef) → IsTable before table ⊎ TableWrong before table
unfolding TableWrong
table_or_fault before table =
    elim (has_width table) [
      | inr bad ↦ inr (Width, bad)
      | inl width ↦ elim (has_mark table.key_marks) [
        | inr bad ↦ inr (NoKey, (width, bad))
        | inl key ↦ elim (has_name table) [
          | inr bad ↦ inr (Name, (width, key, bad))
          | inl name ↦ elim (has_new_name before table) [
            | inr bad ↦ inr (TwiceNamed, (width, key, name, bad))
            | inl new ↦ inl (width, key, name, new)
          ]
        ]
      ]
    ]

-- ---- one table after another

nowhere : TableDef
nowhere = record { name = []; key_marks = [] }

each_or_fault : (tables : List TableDef) (left at : ℕ) → length tables ≤ 1000 → at + left ≡ length tables → ChecksTo tables at → EachIsTable tables ⊎ ((fault : CatalogFault) × IsCatalogFault fault tables)
unfolding TableWrong
each_or_fault tables zero at few is so_far = inl (λ place within. so_far place (omega (arith, within, is)))
each_or_fault tables (suc left) at few is so_far =
    let within : at < length tables = omega (arith, is) in
    let table = get_or tables at nowhere in
    let there : table ≡ get_or tables at table = get_or_default tables at nowhere table within in
    elim (table_or_fault (take at tables) table) [
      | inr (fault, wrong) ↦ inr (fault, first_fault tables fault at table few within there so_far wrong)
      | inl right ↦ each_or_fault tables left (at + 1) few (omega (arith, is)) (checks_more tables at table within there so_far right)
    ]

pub catalog_or_fault : CatalogOrFault
catalog_or_fault tables =
    elim (cases_lt 1000 (length tables)) [
      | inl many ↦ inr (TooMany, many)
      | inr few ↦ elim (each_or_fault tables (length tables) 0 few (omega arith) (λ place below. absurd (omega (arith, below)))) [
        | inl each ↦ inl (few, each)
        | inr told ↦ inr told
      ]
    ]
