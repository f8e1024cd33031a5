use Rattle.std.proofs.Common.{◌++◌, List, ap, sym, length, ◌∙◌, arith}
use Rattle.std.proofs.lemmas.List.{take_all}
use Rattle.cs_change.specs.declared.change.Change.{Change}
use Rattle.cs_tasks.specs.Tasks.{table_of}
use Rattle.cs_tasks.proofs.Groups.{all_applied}
use Rattle.cs_tasks.proofs.change_list.list_group.Goals as goal

pub returns : goal.returns
returns c =
    let long = ap length c.as_slice-change-items.ensures in
    let taken = take_all c.loop-change.change-index c.args.group.now.changes (omega (arith, long, c.loop-change-test.false)) in
    let all = all_applied (table_of c.args.group.now c.args.catalog.now) c.args.group.now (λ none. c.if-count_of-eq0.false (c.count_of.ensures ∙ none)) in
    c.loop-change.invariant ∙ ap (λ (cs : List Change). c.args.changes.now.items ++ cs) (taken ∙ sym all)
