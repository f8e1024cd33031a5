use Rattle.std.proofs.Common.{rules, ◌≡◌, ◌<◌, length, get_or, true, arith, length-drop}
use Rattle.cs_text.specs.Text.{is_plain}
use Rattle.cs_text.proofs.ParseLemmas.TextLemmas.{plain_first, rest_is}
use Rattle.cs_text.proofs.parse.texts.first_byte.Goals as goal

pub returns-in-len1-up : goal.returns-in-len1-up
returns-in-len1-up c =
    let text = c.args.text.now in
    let some : 0 < length text = search rules in
    let plain : is_plain (get_or text 0 0) ≡ true = search rules in
    (rw (rest_is text some) (omega (arith, length-drop 1 text)), plain_first text _ some (rest_is text some) plain)
