use Rattle.std.proofs.Common.{◌∙◌}
use Rattle.clap.specs.Words.{found_of, rows_of}
use Rattle.clap.proofs.WalkLemmas.{one_text-rows}
use Rattle.cs_command.proofs.FoundLemmas.{given_at}
use Rattle.cs_command.proofs.asked.is_given.Goals as goal

pub returns : goal.returns
returns c =
    c.unwrap_or.ensures
    ∙ given_at _ c.args.id.now _ _ (rows_of (found_of c.args.found.now)) (one_text-rows (found_of c.args.found.now) c.args.id.now) c.get_one.ensures.none c.get_one.ensures.value
