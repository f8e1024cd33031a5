-- An entry's changes, the table that it widens, and how what it does is spelled.
use Rattle.std.specs.Prelude.{ℕ, List, [], ◌++◌}
use Rattle.std.specs.Int.{to_be_bytes, w32}
use Rattle.cs_value.specs.declared.catalog.TableDef.{TableDef}
use Rattle.cs_normal.specs.Normal.{normal_spelling}
use Rattle.cs_normal.specs.declared.normal.TableChanges.{TableChanges}
use Rattle.cs_widening.specs.Widening.{CanWiden}
use Rattle.cs_store.specs.declared.log.body.Body.{Body}
use Rattle.cs_store.specs.declared.log.body.Body.TheVariants.{Changes, Widen}
use Rattle.cs_store.specs.declared.log.entry.LogEntry.{LogEntry}

-- the changeset of an entry; none of one that widens a table
abbrev pub changes_of_body : Body → List TableChanges
changes_of_body (Changes changes) = changes
changes_of_body (Widen table width) = []

abbrev pub entry_changes : LogEntry → List TableChanges
entry_changes entry = changes_of_body entry.body

-- where it widens a table, that table can be widened so
abbrev pub MayWiden : List TableDef → Body → Type 0
MayWiden tables (Changes changes) = Unit {0}
MayWiden tables (Widen table width) = CanWiden tables table width

-- a body that leaves the catalog as it is
abbrev pub WidensNone : Body → Type 0
WidensNone (Changes changes) = Unit {0}
WidensNone (Widen table width) = ⊥

-- the byte that tells the kind of body
abbrev pub kind_of : Body → ℕ
kind_of (Changes changes) = 0
kind_of (Widen table width) = 1

-- a number of columns in four bytes, the high byte first, and the name of a table
abbrev pub widen_spelling : List ℕ → ℕ → List ℕ
widen_spelling table width = to_be_bytes w32 width ++ table

-- the body's bytes without its kind: a changeset in normal form, as it is written, or the columns and the table that gets them
abbrev pub body_spelling : Body → List ℕ
body_spelling (Changes changes) = normal_spelling changes
body_spelling (Widen table width) = widen_spelling table width
