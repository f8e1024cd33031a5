-- A change whose inverse stands in its place.
use Rattle.std.specs.Prelude.{◌≡◌, Bool, List, Option, Some, None, length}
use Rattle.cs_change.specs.Spelling.{change_spelling}
use Rattle.cs_change.specs.Then.{turned}
use Rattle.cs_value.specs.declared.value.Field.{Field}
use Rattle.cs_change.specs.declared.change.Change.{Change}
use Rattle.cs_change.specs.declared.change.Change.TheVariants.{Update}
use Rattle.cs_group.specs.Inverse.{inverse_change}

-- the inverse has as many bytes
abbrev pub KeepsLength : Change → Type 0
KeepsLength change = length (change_spelling change) ≡ length (change_spelling (inverse_change change))

-- an update with these records and this flag, or else the change turned
abbrev pub made_inverse : Option Bool → List Field → List Field → Change → Change
made_inverse None old new change = turned change
made_inverse (Some flag) old new change = Update flag old new
