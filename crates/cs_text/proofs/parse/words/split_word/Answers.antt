use Rattle.cs_text.proofs.ParseLemmas.WordLemmas.{words_split, words_whole}
use Rattle.cs_text.proofs.parse.words.split_word.Goals as goal

pub returns-in-Some : goal.returns-in-Some
returns-in-Some c = words_split c.args.line.now c.in-Some.at c.in-Some.ensures

pub returns-in-None : goal.returns-in-None
returns-in-None c = words_whole c.args.line.now c.in-None.ensures
