-- The table words of a command line.
use Rattle.std.specs.Prelude.{◌≡◌, ℕ, ◌+◌, List, take}
use Rattle.std.specs.List.{AllZip, HoldsAt}
use Rattle.cs_value.specs.Catalog.{AreTables}
use Rattle.cs_value.specs.declared.catalog.TableDef.{TableDef}
use Rattle.cs_command.specs.TableWord.{SpellsTable}
use Rattle.cs_command.specs.declared.table.TableFault.{TableFault}
use Rattle.cs_command.specs.declared.table.TableFault.TheVariants.{Memory, Word}

-- each word spells its table, in order, and the tables are a catalog
abbrev pub IsCatalogOf : List (List ℕ) → List TableDef → Type 0
IsCatalogOf words tables = AllZip SpellsTable words tables × AreTables tables

-- the words spell no catalog
abbrev pub AreNoCatalog : List (List ℕ) → Type 0
AreNoCatalog words = (tables : List TableDef) → IsCatalogOf words tables → ⊥

-- the words up to this place spell no catalog, but those before it do
abbrev pub IsRefusedAt : List (List ℕ) → ℕ → Type 0
IsRefusedAt words place =
    ((tables : List TableDef) × IsCatalogOf (take place words) tables)
    × AreNoCatalog (take (place + 1) words)

-- memory was refused, or the word stands at the first place at which the words are refused
abbrev pub IsFirstRefused : TableFault → List (List ℕ) → Type 0
IsFirstRefused Memory words = Unit {0}
IsFirstRefused (Word word) words =
    (place : ℕ) × HoldsAt (λ w. w ≡ word.now) words place × IsRefusedAt words place
