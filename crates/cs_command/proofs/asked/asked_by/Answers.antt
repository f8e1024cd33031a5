use Rattle.std.proofs.Common.{◌∙◌, codes}
use Rattle.clap.specs.Words.{found_of, rows_of}
use Rattle.clap.proofs.WalkLemmas.{first_value-rows}
use Rattle.cs_command.proofs.FoundLemmas.{hub_asked, tool_wanted}
use Rattle.cs_command.proofs.asked.asked_by.Goals as goal

pub returns-then-eq-clause-asked : goal.returns-then-eq-clause-asked
returns-then-eq-clause-asked c =
    let inner = found_of c.args.found.now in
    hub_asked c.args.name.now (rows_of inner) _ c.if-eq.ensures (c.get_str-file.ensures ∙ first_value-rows inner (codes "FILE"))

pub returns-in_ok-tool-clause-asked : goal.returns-in_ok-tool-clause-asked
returns-in_ok-tool-clause-asked c =
    let inner = found_of c.args.found.now in
    c.over_file.ensures.asked ∙ tool_wanted c.args.name.now (rows_of inner) c.in_ok-tool.tool _ c.if-eq.ensures c.if-eq-2.ensures c.if-eq-3.ensures c.if-eq-4.ensures c.in_ok-tool.ensures (c.get_str.ensures ∙ first_value-rows inner (codes "FILE"))
