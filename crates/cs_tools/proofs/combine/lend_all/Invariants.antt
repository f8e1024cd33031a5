use Rattle.std.proofs.Common.{take}
use Rattle.std.specs.List.{AllByRecursion, AllZip}
use Rattle.cs_change.specs.Spelling.{FitsChangeset, changeset_spelling}
use Rattle.cs_tools.specs.SpelledLine.{Spells}
use Rattle.cs_tools.proofs.combine.lend_all.Given as goal

abbrev pub invariant-loop-one : goal.invariant-loop-one
invariant-loop-one l =
    AllByRecursion FitsChangeset l.changesets.items
    × AllZip (Spells FitsChangeset changeset_spelling) (take l.one-index l.owned) l.changesets.items
