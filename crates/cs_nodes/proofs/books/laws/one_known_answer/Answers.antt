use Rattle.cs_nodes.proofs.BooksLemmas.Once.{one_known_answer}
use Rattle.cs_nodes.proofs.books.laws.one_known_answer.Goals as goal

pub returns : goal.returns
returns c = one_known_answer c.one_service.ensures
