use Rattle.cs_opening.proofs.Kept as law
use Rattle.cs_opening.proofs.laws.tables_kept.Goals as goal

pub returns : goal.returns
returns c = record {
  again = law.wider_again;
  one = law.one_opens_by c.changesets.ensures c.headers_fit.ensures;
  some = law.some_opens_by;
  handed = law.nothing_by_handed;
}
