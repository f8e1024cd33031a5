use Rattle.cs_text.proofs.ParseLemmas.WordLemmas.{left_none}
use Rattle.cs_text.proofs.parse.words.Words.is_at_end.Goals as goal

pub returns : goal.returns
returns c = left_none c.self.inside.rest _ _ c.self.view_is c.is_none.ensures
