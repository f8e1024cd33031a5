use Rattle.std.proofs.Common.{ap, ◌∙◌}
use Rattle.std.specs.Prelude.{option_and_then}
use Rattle.clap.specs.Words.{found_of}
use Rattle.clap.proofs.WalkLemmas.{first_value-rows}
use Rattle.cs_command.specs.CommandLine.{number_in}
use Rattle.cs_command.proofs.asked.number_of.Goals as goal

pub returns-in_err-get_str : goal.returns-in_err-get_str
returns-in_err-get_str c =
    c.from_residual.ensures
    ∙ ap (option_and_then number_in) (c.in_err-get_str.ensures ∙ first_value-rows (found_of c.args.found.now) c.args.id.now)

pub returns : goal.returns
returns c =
    c.number_in.ensures
    ∙ ap (option_and_then number_in) (c.in_ok-get_str.ensures ∙ first_value-rows (found_of c.args.found.now) c.args.id.now)
