-- What is printed of a clash: another's change that can't be made on the own row, beside the own change (format of this project).
use Rattle.std.specs.Prelude.{ℕ, Bool, true, false, List, ◌++◌, Option, Some, None, codes, slice_get}
use Rattle.cs_conflict.specs.declared.clash.Clash.{Clash}
use Rattle.cs_conflict.specs.declared.kind.Kind.{Kind}
use Rattle.cs_conflict.specs.declared.kind.Kind.TheVariants.{DataDiffers, KeyConflict, NotFound}
use Rattle.cs_text.specs.Text.{change_text, name_text, values_text}
use Rattle.cs_value.specs.Key.{Place}
use Rattle.cs_value.specs.declared.catalog.TableDef.{TableDef}

-- the name of the kind, as SQLite's constants have it
abbrev pub kind_text : Kind → List ℕ
kind_text DataDiffers = codes "data"
kind_text NotFound = codes "notfound"
kind_text KeyConflict = codes "conflict"

-- the table with this number in the catalog, or `-`
abbrev pub table_text : Option TableDef → List ℕ
table_text (Some table) = name_text table.name
table_text None = codes "-"

-- the own row's values, or `-`
abbrev pub own_text : Place → List ℕ
own_text (Some row) = values_text row
own_text None = codes " -"

-- the letters of the wishes that are lawful beside `s`: `k` where the own change covers the other's, `t` where there is an own
-- row
abbrev pub lawful_text : Kind → Bool → List ℕ
lawful_text NotFound covered = codes "k"
lawful_text DataDiffers true = codes "kt"
lawful_text DataDiffers false = codes "t"
lawful_text KeyConflict true = codes "kt"
lawful_text KeyConflict false = codes "t"

-- `clash KIND T CHANGE row VALUES own CHANGE lawful LETTERS`
abbrev pub clash_text : List TableDef → Clash → List ℕ
clash_text tables clash =
    (codes "clash " ++ kind_text clash.conflict.kind ++ codes " ") ++ table_text (slice_get tables clash.conflict.table)
    ++ (codes " " ++ change_text clash.conflict.change ++ codes " row") ++ own_text clash.conflict.row
    ++ (codes " own " ++ change_text clash.local ++ codes " lawful " ++ lawful_text clash.conflict.kind clash.covers)
