use Rattle.std.proofs.Common.{refl}
use Rattle.cs_sql.proofs.StatementsLemmas.Adopting.{other_seen}
use Rattle.cs_sql.proofs.statements.counting.Ids.with_other.Goals as goal

pub returns-clause-more : goal.returns-clause-more
returns-clause-more c = other_seen c.args.self.now _ c.in_ok-one_more.ensures.more refl refl
