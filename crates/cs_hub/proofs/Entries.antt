-- An entry that widens a table is one of the tables.
use Rattle.std.proofs.Common.{◌≡◌, ◌+◌, ◌≤◌, ◌↔◌, ℕ, List, length, take, sym, subst, arith}
use Rattle.cs_value.specs.Catalog.{AreTables, IsTable}
use Rattle.cs_value.specs.declared.catalog.TableDef.{TableDef}
use Rattle.cs_widening.specs.Widening.{CanWiden}
use Rattle.cs_store.specs.log.Entry.{MayWiden, widen_spelling}
use Rattle.cs_store.specs.log.Stored.{FitsBody}
use Rattle.cs_store.specs.declared.log.body.Body.{Body}
use Rattle.cs_store.specs.declared.log.body.Body.TheVariants.{Widen}
use Rattle.cs_store.specs.declared.log.entry.TheConstants.{MAX_CHANGESET}

name_is_short : (tables : List TableDef) → AreTables tables → (table : List ℕ) (width : ℕ) → CanWiden tables table width → length table ≤ 255
name_is_short tables are table width (def, (place, less, at), named, fewer, within) =
    let is = subst (IsTable (take place tables)) at (are.1 place less def) in
    subst (λ (name : List ℕ). length name ≤ 255) named is.2.1

four_more : (table : List ℕ) (width : ℕ) → length (widen_spelling table width) ≡ 4 + length table
four_more table width = omega arith

-- so it is where the table may be widened
pub widen_fits : (tables : List TableDef) → AreTables tables → MAX_CHANGESET ≡ 4294967295 → (table : List ℕ) (width : ℕ) → MayWiden tables (Widen table width) → FitsBody tables (Widen table width)
widen_fits tables are most table width may = record {
  changes = (tt, tt);
  widens = may;
  size = omega (arith, most, four_more table width, name_is_short tables are table width may);
}

pub widen_told : (tables : List TableDef) → AreTables tables → MAX_CHANGESET ≡ 4294967295 → (body : Body) (table : List ℕ) (width : ℕ) → body ≡ Widen table width → (P : Type 0) → (P ↔ MayWiden tables (Widen table width)) → P ↔ FitsBody tables body
widen_told tables are most body table width is P told = (
  (λ p. subst (FitsBody tables) (sym is) (widen_fits tables are most table width (told.0 p))),
  (λ fits. told.1 (subst (FitsBody tables) is fits).widens),
)
