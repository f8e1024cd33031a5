use Rattle.std.proofs.Common.{rules, ◌≡◌, Bool, List, Some, subst}
use Rattle.cs_normal.specs.keyed.NormalForm.{normal_form}
use Rattle.cs_store.specs.log.Steps.{HasKeyAbove, IsChangeAt}
use Rattle.cs_store.proofs.LogLemmas.Seen.{next_change}
use Rattle.cs_store.proofs.log.stored.next_change.Goals as goal

pub returns : goal.returns
returns c =
    let marks = c.args.marks.now in
    let change = c.in-Some.change in
    let bytes = c.args.bytes.now in
    let at : IsChangeAt marks bytes change c.in-Some.len = subst (λ (ms : List Bool). IsChangeAt ms bytes change c.in-Some.len) c.requires c.in-Some.ensures in
    let form : normal_form marks change ≡ Some change = search rules in
    let above : HasKeyAbove marks c.args.last.now.items c.takes_next.new.last.items change = search rules in
    next_change c.normal_form_keeps.ensures marks c.args.last.now.items c.takes_next.new.last.items bytes change c.in-Some.len at form above
