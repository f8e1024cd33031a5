-- What the order of a table's changes over changesets as read comes to.
use Rattle.std.proofs.Common.{◌≡◌, List, ◌∙◌, ap, map, sym}
use Rattle.std.specs.Prelude.{IsUtf8}
use Rattle.std.specs.List.{All, flat_map, list_all}
use Rattle.cs_change.specs.declared.change.Change.{Change}
use Rattle.cs_change.specs.declared.group.Group.{Group}
use Rattle.cs_normal.specs.keyed.Changes.{Changes}
use Rattle.cs_normal.specs.keyed.NormalForm.{change_bytes, has_key, keyed}
use Rattle.cs_value.specs.declared.catalog.TableDef.{TableDef}
use Rattle.cs_group.specs.Steps.Gathering.{lent_changes, lent_numbers}
use Rattle.cs_group.specs.Steps.Joining.{entry_left}
use Rattle.cs_group.specs.Steps.Numbering.{named, numbered_from}
use Rattle.cs_group.specs.Steps.ReadOrders.{IsReadOrder}
use Rattle.cs_group.specs.Steps.Reading.{IsReadJoinOf, Rise, read_each}
use Rattle.cs_group.specs.declared.gathering.ReadOrder.{ReadOrder}
use Rattle.cs_group.proofs.KeyFolds.{taken_together}
use Rattle.cs_group.proofs.Numbering.{changes_of_named, numbers_of_named}
use Rattle.cs_group.proofs.Risings.{keyed_each, keyed_keys, keyed_once, keyed_values}

-- where the numbers of each group rise, what is left of the groups is the table's changes taken together
pub joined_read : (table : TableDef) (changesets : List (List Group)) (order : ReadOrder) (joined : Changes)
    → IsReadOrder table.key_marks (named table.name (numbered_from 1 changesets)) order → IsUtf8 table.name
    → All (Rise (lent_numbers order.changes)) order.places
    → joined ≡ flat_map (entry_left table.key_marks order.keys (lent_changes order.changes)) order.places
    → IsReadJoinOf changesets table joined
joined_read table changesets order joined is text rise left =
    let marks = table.key_marks in
    let lists = read_each table.name changesets in
    let all = changes_of_named table.name changesets in
    let changes = is.changes ∙ all in
    let keys = is.keys ∙ ap (λ (cs : List Change). map (change_bytes marks) cs) all in
    let numbers = is.numbers ∙ numbers_of_named table.name changesets in
    let set = ap (λ (cs : List Change). list_all (has_key marks) cs) (sym all) ∙ is.set in
    let once = keyed_each marks lists _ _ order.places keys numbers set is.places rise in
    record {
      once = once;
      together = taken_together marks (map (keyed marks) lists) _ _ order.places joined (keyed_once marks lists once) (keys ∙ keyed_keys marks lists) (changes ∙ keyed_values marks lists) is.places left;
      text = text;
    }
