use Rattle.cs_command.proofs.CatalogLemmas.{one_refused_word}
use Rattle.cs_command.proofs.laws.one_refused_word.Goals as goal

pub returns : goal.returns
returns c = one_refused_word
