use Rattle.std.proofs.Common.{rules}
use Rattle.cs_text.proofs.ParseLemmas.TextLemmas.{text_none, text_some}
use Rattle.cs_text.proofs.parse.texts.read_text.Goals as goal

pub returns-in_default-from_utf8 : goal.returns-in_default-from_utf8
returns-in_default-from_utf8 c = text_none c.args.word.now c.in-Some.bytes.items (search rules) (search rules)

pub returns : goal.returns
returns c = text_some c.args.word.now c.in-Some.bytes.items _ (search rules) (search rules) (search rules)
