use Rattle.std.proofs.lemmas.Bool.Decides.{Decides-eqb}
use Rattle.std.proofs.lemmas.Slice.Eq.{strip_prefix_is}
use Rattle.cs_text.proofs.ParseLemmas.ValueLemmas.{behind_is}
use Rattle.cs_text.proofs.parse.values.behind.Goals as goal

pub returns : goal.returns
returns c = behind_is _ _ _ (strip_prefix_is Decides-eqb c.args.word.now c.args.front.now _ c.strip_prefix.ensures.cases)
