-- The order of the changes of one table over changesets as read.
use Rattle.std.specs.Prelude.{◌≡◌, Bool, true, List, map}
use Rattle.std.specs.List.{flat_map, list_all}
use Rattle.cs_normal.specs.keyed.NormalForm.{change_bytes, has_key}
use Rattle.cs_order.specs.Groups.{IsGrouping}
use Rattle.cs_group.specs.Steps.Gathering.{lent_changes, lent_numbers}
use Rattle.cs_group.specs.Steps.Numbering.{changes_in_group, numbers_in_group, NumberedGroup}
use Rattle.cs_group.specs.declared.gathering.ReadOrder.{ReadOrder}

-- the keys and the changes of these groups, no key with NULL, with the places of each key
pub record IsReadOrder (marks : List Bool) (groups : List NumberedGroup) (order : ReadOrder) : Type 0 where
  pub keys : order.keys ≡ map (change_bytes marks) (flat_map changes_in_group groups)
  pub set : list_all (has_key marks) (flat_map changes_in_group groups) ≡ true
  pub changes : lent_changes order.changes ≡ flat_map changes_in_group groups
  pub numbers : lent_numbers order.changes ≡ flat_map numbers_in_group groups
  pub places : IsGrouping order.keys order.places
