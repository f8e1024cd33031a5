use Rattle.std.proofs.Common.{ap, ◌∙◌, codes}
use Rattle.clap.specs.Words.{found_of}
use Rattle.clap.proofs.WalkLemmas.{first_value-rows}
use Rattle.cs_command.specs.CommandLine.{tool_of_what}
use Rattle.cs_command.proofs.FoundLemmas.{blob_asked, changeset_asked, nothing_asked}
use Rattle.cs_command.proofs.asked.shown_tool.Goals as goal

pub returns-then-eq : goal.returns-then-eq
returns-then-eq c =
    changeset_asked c.in-Some.what.now c.if-eq.ensures
    ∙ ap tool_of_what (c.in-Some.ensures ∙ first_value-rows (found_of c.args.show.now) (codes "WHAT"))

pub returns-then-eq-2 : goal.returns-then-eq-2
returns-then-eq-2 c =
    blob_asked c.in-Some.what.now c.if-eq.ensures c.if-eq-2.ensures
    ∙ ap tool_of_what (c.in-Some.ensures ∙ first_value-rows (found_of c.args.show.now) (codes "WHAT"))

pub returns-else-eq-2 : goal.returns-else-eq-2
returns-else-eq-2 c =
    nothing_asked c.in-Some.what.now c.if-eq.ensures c.if-eq-2.ensures
    ∙ ap tool_of_what (c.in-Some.ensures ∙ first_value-rows (found_of c.args.show.now) (codes "WHAT"))

pub returns-in-None : goal.returns-in-None
returns-in-None c =
    ap tool_of_what (c.in-None.ensures ∙ first_value-rows (found_of c.args.show.now) (codes "WHAT"))
