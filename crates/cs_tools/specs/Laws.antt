-- The laws of the tools. An input has one text that a tool owes, or one fault, but for being out of memory and failed reads. The form in
-- which a changeset is written changes nothing but its column bytes.
use Rattle.std.specs.Prelude.{◌≡◌, ◌⊎◌, ⊤, ℕ, List, [], ◌∷◌, Option, Some}
use Rattle.std.specs.List.{AllByRecursion, AllZip, flat_map}
use Rattle.cs_blob.specs.Spelling.{FitsBlob}
use Rattle.cs_blob.specs.declared.blob.BlobGroup.{BlobGroup}
use Rattle.cs_change.specs.Spelling.{FitsChangeset}
use Rattle.cs_change.specs.declared.group.Group.{Group}
use Rattle.cs_group.specs.Combined.{IsCombined}
use Rattle.cs_lines.specs.Served.{AreAllLines}
use Rattle.cs_normal.specs.Normal.{groups_of}
use Rattle.cs_normal.specs.declared.normal.TableChanges.{TableChanges}
use Rattle.cs_column_bytes.specs.KeyPlaces.{Head, for_sqlite, HasTwoOrders, heads_of}
use Rattle.cs_column_bytes.specs.Laws.{IsSameGroup}
use Rattle.cs_tools.specs.CombinedLines.{CombinesAll, SpellChangesets}
use Rattle.cs_tools.specs.Endings.{Owes, Refuses}
use Rattle.cs_tools.specs.Faults.{IsOfNoLine}
use Rattle.cs_tools.specs.RebasedLine.{heads_of_both, IsRebased, RebasesLines, TakesBoth}
use Rattle.cs_tools.specs.ShownLine.{ShowsBlob, ShowsChangeset}
use Rattle.cs_tools.specs.declared.fault.ToolFault.{ToolFault}
use Rattle.cs_tools.specs.declared.tool.Form.{Form}
use Rattle.cs_tools.specs.declared.tool.Form.TheVariants.{Sqlite}
use Rattle.cs_tools.specs.declared.tool.Tool.{Tool}

-- no text is owed for SQLite where headers of one table in the lines have its key's columns in two orders
abbrev pub NothingCombinedOfTwoOrders : Type 0
NothingCombinedOfTwoOrders =
    (input text : List ℕ) (lines : List (List ℕ)) (changesets : List (List Group))
    → AreAllLines (Some input) lines
    → SpellChangesets lines changesets
    → HasTwoOrders (flat_map heads_of changesets)
    → CombinesAll Sqlite (Some input) text
    → ⊥

abbrev pub NothingRebasedOfTwoOrders : Type 0
NothingRebasedOfTwoOrders =
    (input text : List ℕ) (left next : Option (List ℕ)) (groups : List Group) (blob : List BlobGroup)
    → TakesBoth (Some input) left groups blob
    → HasTwoOrders (heads_of_both groups blob)
    → RebasesLines Sqlite (Some input) next text
    → ⊥

-- with these column bytes the changeset has the same tables, key columns and changes, and the reader takes it
abbrev pub IsTheSameForSqlite : List Head → List TableChanges → Type 0
IsTheSameForSqlite heads tables =
    AllZip IsSameGroup (for_sqlite heads tables) (groups_of tables) × FitsChangeset (for_sqlite heads tables)

-- the lines of an input have one text that `combine` owes in a form
abbrev pub OneCombinedText : Type 0
OneCombinedText = (form : Form) (input text other : List ℕ) → CombinesAll form (Some input) text
    → CombinesAll form (Some input) other → text ≡ other

-- its first two lines have one that `rebase` owes in a form, and one rest that it leaves
abbrev pub OneRebasedText : Type 0
OneRebasedText = (form : Form) (input text other : List ℕ) (left next : Option (List ℕ))
    → RebasesLines form (Some input) left text → RebasesLines form (Some input) next other
    → (text ≡ other) × (left ≡ next)

-- changesets taken together are the same in either form but for the column bytes, and the reader takes them
abbrev pub CombinedStaysTheSame : Type 0
CombinedStaysTheSame =
    (changesets : List (List Group)) (both : List TableChanges)
    → AllByRecursion FitsChangeset changesets
    → IsCombined changesets both
    → IsTheSameForSqlite (flat_map heads_of changesets) both

-- and so is a changeset rebased over a blob
abbrev pub RebasedStaysTheSame : Type 0
RebasedStaysTheSame =
    (groups : List Group) (blob : List BlobGroup) (local made : List TableChanges)
    → FitsChangeset groups
    → FitsBlob blob
    → IsCombined (groups ∷ []) local
    → IsRebased blob local made
    → IsTheSameForSqlite (heads_of_both groups blob) made

-- its first line has one that `show changeset` owes, and one rest that it leaves
abbrev pub OneShownChangeset : Type 0
OneShownChangeset = (input text other : List ℕ) (left next : Option (List ℕ)) → ShowsChangeset (Some input) left text
    → ShowsChangeset (Some input) next other → (text ≡ other) × (left ≡ next)

-- and one that `show blob` owes
abbrev pub OneShownBlob : Type 0
OneShownBlob = (input text other : List ℕ) (left next : Option (List ℕ)) → ShowsBlob (Some input) left text
    → ShowsBlob (Some input) next other → (text ≡ other) × (left ≡ next)

-- an input has one fault for a tool, also where a read may fail at any time
abbrev pub OneFault : Type 0
OneFault =
    (tool : Tool) (input : List ℕ) (left next : Option (List ℕ)) (some other : ToolFault)
    → Refuses tool ⊤ (Some input) left some
    → Refuses tool ⊤ (Some input) next other
    → IsOfNoLine some ⊎ IsOfNoLine other ⊎ (some ≡ other)

-- and none where a text is owed
abbrev pub NoFaultWhereOwed : Type 0
NoFaultWhereOwed =
    (tool : Tool) (input text : List ℕ) (left next : Option (List ℕ)) (told : ToolFault)
    → Owes tool (Some input) left text
    → Refuses tool ⊤ (Some input) next told
    → IsOfNoLine told

-- there is one: an input owes a text, or has a fault that its lines are the reason of
abbrev pub TextOrFault : Type 0
TextOrFault =
    (tool : Tool) (input : List ℕ)
    → (left : Option (List ℕ))
    × (((text : List ℕ) × Owes tool (Some input) left text)
    ⊎ ((told : ToolFault) × (IsOfNoLine told → ⊥) × Refuses tool ⊥ (Some input) left told))
