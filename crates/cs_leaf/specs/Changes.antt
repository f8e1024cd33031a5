-- A change of a leaf.
use Rattle.std.specs.Prelude.{List}
use Rattle.cs_leaf.specs.Entries.{Entry}
use Rattle.cs_leaf.specs.declared.changing.Way.{Way}
use Rattle.cs_leaf.specs.declared.changing.Way.TheVariants.{Anew, InPlace}

-- a leaf before a change, and after it
abbrev pub ends_of : Way → List Entry × List Entry
ends_of (InPlace amendment) = amendment
ends_of (Anew old new) = (old, new)
