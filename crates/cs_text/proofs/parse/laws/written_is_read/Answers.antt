use Rattle.cs_text.proofs.ParseLemmas.WrittenLemmas.{written_is}
use Rattle.cs_text.proofs.parse.laws.written_is_read.Goals as goal

pub returns : goal.returns
returns c = written_is
