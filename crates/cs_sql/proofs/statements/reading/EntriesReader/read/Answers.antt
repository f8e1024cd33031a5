use Rattle.cs_sql.proofs.StatementsLemmas.Streams.{ok_shown}
use Rattle.cs_sql.proofs.statements.reading.EntriesReader.read.Goals as goal

pub returns-clause-more : goal.returns-clause-more
returns-clause-more c = ok_shown _ _ c.take.result (λ takes start rows was first begun. takes first rows (was first begun)) c.take.ensures
