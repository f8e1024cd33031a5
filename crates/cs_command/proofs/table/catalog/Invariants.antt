-- The words so far are a catalog.
use Rattle.std.proofs.Common.{List, map, take}
use Rattle.cs_value.specs.declared.catalog.TableDef.{TableDef}
use Rattle.cs_command.specs.CatalogWords.{IsCatalogOf}
use Rattle.cs_command.proofs.table.catalog.Given as goal

abbrev pub invariant-loop-place : goal.invariant-loop-place
invariant-loop-place l = (tables : List TableDef) × IsCatalogOf (map (λ word. word.now) (take l.place l.words)) tables
