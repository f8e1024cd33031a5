use Rattle.std.proofs.Common.{rules, ◌≡◌}
use Rattle.std.specs.Prelude.{Some}
use Rattle.cs_text.specs.parse.Values.{value_in}
use Rattle.cs_text.proofs.ParseLemmas.ValueLemmas.{values_more}
use Rattle.cs_text.proofs.parse.values.read_values.Goals as goal

pub loop-word-preserved : goal.loop-word-preserved
loop-word-preserved c =
    let spells : Some c.in-Some-2.value ≡ value_in c.in-Some.word.now = search rules in
    rw c.in_ok-push.ensures.items (values_more c.loop-word.values.items c.in-Some-2.value _ c.loop-word.words c.next.new.self c.in-Some.word.now
    c.loop-word.invariant c.in-Some.ensures spells)
