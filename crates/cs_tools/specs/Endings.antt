-- How a tool ends: which text it owes for an input, why it owes none, and what it has written.
use Rattle.std.specs.Prelude.{◌≡◌, ◌⊎◌, ℕ, List, Option, Result, Ok, Err, ⊤}
use Rattle.std.specs.Io.KnownBytes.{Appends, Keeps}
use Rattle.cs_blob.specs.Reading.{IsBlobFault}
use Rattle.cs_changeset.specs.Reading.{IsChangesetFault}
use Rattle.cs_lines.specs.Writing.{AppendsFront}
use Rattle.cs_tools.specs.CombinedLines.{CombinesAll, RefusesToCombine}
use Rattle.cs_tools.specs.RebasedLine.{RebasesLines, RefusesToRebase}
use Rattle.cs_tools.specs.ShownLine.{RefusesToShow, ShowsBlob, ShowsChangeset}
use Rattle.cs_tools.specs.declared.fault.ToolFault.{ToolFault}
use Rattle.cs_tools.specs.declared.fault.ToolFault.TheVariants.{Write}
use Rattle.cs_tools.specs.declared.tool.Tool.{Tool}
use Rattle.cs_tools.specs.declared.tool.Tool.TheVariants.{Combine, Rebase, ShowBlob, ShowChangeset}

-- the text that a tool owes where this was the input and this is left of it. `combine` takes all lines, `rebase` two, `show` one
abbrev pub Owes : Tool → Option (List ℕ) → Option (List ℕ) → List ℕ → Type 0
Owes (Combine form) input left text = CombinesAll form input text
Owes (Rebase form) input left text = RebasesLines form input left text
Owes ShowChangeset input left text = ShowsChangeset input left text
Owes ShowBlob input left text = ShowsBlob input left text

-- why it owes none
abbrev pub Refuses : Tool → Type 0 → Option (List ℕ) → Option (List ℕ) → ToolFault → Type 0
Refuses (Combine form) read_failed input left told = RefusesToCombine form read_failed input left told
Refuses (Rebase form) read_failed input left told = RefusesToRebase form read_failed input left told
Refuses ShowChangeset read_failed input left told = RefusesToShow IsChangesetFault read_failed input left told
Refuses ShowBlob read_failed input left told = RefusesToShow IsBlobFault read_failed input left told

-- a text that is owed was written. Or nothing was, and this is why. Or a front of a text that is owed was, where the writer failed
abbrev pub Ends : (List ℕ → Type 0) → (ToolFault → Type 0) → Type 0 → Option (List ℕ) → Option (List ℕ)
    → Result ⊤ ToolFault → Type 0
Ends IsOwed IsRefused write_failed old new (Ok done) = (text : List ℕ) × IsOwed text × Appends old new text
Ends IsOwed IsRefused write_failed old new (Err told) =
    (IsRefused told × Keeps old new)
    ⊎ ((told ≡ Write) × ((text : List ℕ) × IsOwed text × AppendsFront old new text × write_failed))
