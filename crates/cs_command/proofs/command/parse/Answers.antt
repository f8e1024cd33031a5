use Rattle.std.proofs.Common.{map, ap, subst}
use Rattle.clap.specs.Faults.{fault_of, is_simple_and_free}
use Rattle.clap.specs.Kinds.{FailsBy}
use Rattle.clap.specs.Words.{App}
use Rattle.cs_command.proofs.CommandLemmas.{found_so}
use Rattle.cs_command.proofs.command.parse.Goals as goal

pub returns-clause-found : goal.returns-clause-found
returns-clause-found g c =
    found_so c.try_get_matches_from.result _ (map g.S.AsStr.text c.args.words.now) c.in_ok-command.ensures c.try_get_matches_from.ensures.matches

pub returns-clause-faults : goal.returns-clause-faults
returns-clause-faults g c =
    let is = c.in_ok-command.ensures in
    let words = map g.S.AsStr.text c.args.words.now in
    subst (λ (a : App). FailsBy (fault_of a words) c.try_get_matches_from.result) is
    (c.try_get_matches_from.ensures.kinds (ap is_simple_and_free is))
