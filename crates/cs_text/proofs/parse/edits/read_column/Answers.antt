use Rattle.std.proofs.Common.{rules}
use Rattle.cs_text.proofs.ParseLemmas.EditLemmas.{puts_field, puts_key}
use Rattle.cs_text.proofs.parse.edits.read_column.Goals as goal

pub returns-in_ok-push-2 : goal.returns-in_ok-push-2
returns-in_ok-push-2 c =
    puts_key c.args.mark c.args.word.now c.in-Some.value _ _ _ _ c.if-mark.true (search rules) (search rules) (search rules)

pub returns-in_ok-push-3 : goal.returns-in_ok-push-3
returns-in_ok-push-3 c =
    puts_field c.args.mark c.args.word.now c.in-Some-2.field _ _ _ c.if-mark.false (search rules) (search rules)
