use Rattle.std.proofs.Common.{◌≡◌, take}
use Rattle.std.specs.List.{flat_map}
use Rattle.cs_normalising.specs.Steps.Named.{changes_at}
use Rattle.cs_normalising.proofs.table_form.lend_places.Given as goal

abbrev pub invariant-loop-place : goal.invariant-loop-place
invariant-loop-place l = l.lent.items ≡ flat_map (changes_at l.groups) (take l.place-index l.places)
