use Rattle.std.proofs.Common.{refl, arith}
use Rattle.std.proofs.lemmas.Str.{IsUtf8-from_ascii}
use Rattle.cs_record.proofs.Lanes.{ascii_text}
use Rattle.cs_record.proofs.texts.is_text.Goals as goal

pub returns-then-text-ascii_start : goal.returns-then-text-ascii_start
returns-then-text-ascii_start c =
    let is = IsUtf8-from_ascii c.args.text.now (ascii_text c.args.text.now c.args.bytes.now c.ascii_start.result c.requires c.ascii_start.ensures (omega (arith, c.if-text-ascii_start.true))) in
    (λ _. is, λ _. refl)
