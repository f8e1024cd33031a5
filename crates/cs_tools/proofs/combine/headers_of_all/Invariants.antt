use Rattle.std.proofs.Common.{◌≡◌, flat_map, take}
use Rattle.cs_column_bytes.specs.KeyPlaces.{heads_of}
use Rattle.cs_column_bytes.specs.Steps.{heads_behind}
use Rattle.cs_tools.proofs.combine.headers_of_all.Given as goal

abbrev pub invariant-loop-changeset : goal.invariant-loop-changeset
invariant-loop-changeset l = heads_behind l.headers.items ≡ flat_map heads_of (take l.changeset-index l.changesets)
