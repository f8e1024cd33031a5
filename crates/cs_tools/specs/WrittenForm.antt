-- The forms in which a tool writes a changeset (profile of this project over SQLite's "changeset format").
use Rattle.std.specs.Prelude.{◌≡◌, ℕ, List}
use Rattle.cs_normal.specs.Normal.{normal_spelling}
use Rattle.cs_normal.specs.declared.normal.TableChanges.{TableChanges}
use Rattle.cs_column_bytes.specs.KeyPlaces.{Head, HaveOneOrder, HasTwoOrders, sqlite_spelling}
use Rattle.cs_tools.specs.declared.fault.ToolFault.{ToolFault}
use Rattle.cs_tools.specs.declared.fault.ToolFault.TheVariants.{KeyOrder}
use Rattle.cs_tools.specs.declared.tool.Form.{Form}
use Rattle.cs_tools.specs.declared.tool.Form.TheVariants.{Normal, Sqlite}

-- the bytes spell the changeset in normal form; or with the column bytes of the headers that came in, where those of one table
-- agree
abbrev pub SpellsIn : Form → List Head → List TableChanges → List ℕ → Type 0
SpellsIn Normal heads tables bytes = bytes ≡ normal_spelling tables
SpellsIn Sqlite heads tables bytes = HaveOneOrder heads × (bytes ≡ sqlite_spelling heads tables)

-- why there are no such bytes: those of one table don't agree
abbrev pub IsNotWritten : Form → List Head → ToolFault → Type 0
IsNotWritten form heads told = (form ≡ Sqlite) × HasTwoOrders heads × (told ≡ KeyOrder)
