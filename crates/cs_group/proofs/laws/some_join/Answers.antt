use Rattle.cs_group.proofs.Shorter.{join_is_short}
use Rattle.cs_group.proofs.SomeJoins.{join_one_more, some_join}
use Rattle.cs_group.proofs.laws.some_join.Goals as goal

pub returns : goal.returns
returns c = record {
  some = some_join c.form_laws.ensures c.normal_is_its_form.ensures;
  short = join_is_short c.form_laws.ensures.apart;
  more = join_one_more;
}
