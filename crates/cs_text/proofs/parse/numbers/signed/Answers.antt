use Rattle.std.proofs.Common.{◌∙◌}
use Rattle.cs_text.proofs.ParseLemmas.NumberLemmas.{signed_is}
use Rattle.cs_text.proofs.parse.numbers.signed.Goals as goal

pub returns : goal.returns
returns c =
    let text = c.in_ok-unsigned_text.ensures in
    c.ok.ensures.value ∙ signed_is c.args.word.now c.in_ok-unsigned_text.field-0.now _ text.0 text.1 c.parse.ensures.value.0
