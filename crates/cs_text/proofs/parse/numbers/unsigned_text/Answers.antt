use Rattle.cs_text.proofs.ParseLemmas.NumberLemmas.{no_text}
use Rattle.cs_text.proofs.parse.numbers.unsigned_text.Goals as goal

pub returns-in-Err : goal.returns-in-Err
returns-in-Err c = no_text c.args.word.now c.in-Err.ensures.cases.0
