use Rattle.cs_store.proofs.StoreLaws as law
use Rattle.cs_store.proofs.laws.calls.Goals as goal

pub returns : goal.returns
returns g c = record {
  reads = law.reads_then_reads g.S.RowStore _ _;
  commits = law.reads_then_commits g.S.RowStore _ _;
  read_again = law.commits_then_reads g.S.RowStore _ _;
  fails = law.fails_to_commit g.S.RowStore _ _;
  alike = law.reads_alike g.S.RowStore _ _;
}
