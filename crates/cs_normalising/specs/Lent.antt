-- A table's changes in normal form that stay in the bytes where they were read.
use Rattle.std.specs.Prelude.{ℕ, Bool, List, [], Option, None, slice_index_or}
use Rattle.cs_change.specs.declared.change.Change.{Change}
use Rattle.cs_normal.specs.keyed.Prepared.{Entries, kept}
use Rattle.cs_normal.specs.declared.normal.TableChanges.{TableChanges}

-- the entry at a place; an empty one past the end
abbrev pub nth_entry : Entries → ℕ → List ℕ × Option Change
nth_entry entries place = slice_index_or entries place ([], None)

-- the table's name, its key columns, and in the order of the keys each key's bytes with the normal form of its change. None: an
-- update that changes nothing
pub record LentForm : Type 0 where
  pub name : List ℕ
  pub marks : List Bool
  pub entries : Entries

-- the table with the changes that are left
abbrev pub table_of : LentForm → TableChanges
table_of lent = record { name = lent.name; marks = lent.marks; changes = kept lent.entries }
