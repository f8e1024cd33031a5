use Rattle.std.proofs.Common.{◌∙◌, ap, List}
use Rattle.std.proofs.lemmas.Result.{IfOk-weaker}
use Rattle.cs_group.specs.Steps.Numbering.{named, numbered_behind, NumberedGroup}
use Rattle.cs_group.proofs.Numbering.{named_at}
use Rattle.cs_group.proofs.numbered.NumberedGroups.of_table.Goals as goal

pub returns-in-Some : goal.returns-in-Some
returns-in-Some c =
    let groups = numbered_behind c.self.inside.groups.items in
    let name = c.args.table.now.name in
    let names = rw c.in-Some.is at c.self.invariant in
    let placed = rw (c.as_slice-groups.ensures.value, c.of.ensures, c.as_bytes.ensures.value, c.as_str-name.ensures, names) at c.groups_placed.ensures in
    IfOk-weaker c.groups_placed.result _ _ (λ found is. is ∙ named_at name groups ∙ ap (λ (gs : List NumberedGroup). named name gs) c.self.view_is) placed
