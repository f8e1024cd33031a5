use Rattle.std.proofs.Common.{ap, ◌∙◌, codes, true, false}
use Rattle.std.specs.Prelude.{option_map}
use Rattle.clap.specs.Words.{found_of, rows_of}
use Rattle.clap.proofs.WalkLemmas.{first_value-rows}
use Rattle.cs_command.specs.Wanted.{wanted}
use Rattle.cs_command.proofs.FoundLemmas.{node_found, node_has_no_file}
use Rattle.cs_command.proofs.asked.node_asked.Goals as goal

pub returns-in_err-file-clause-asked : goal.returns-in_err-file-clause-asked
returns-in_err-file-clause-asked c =
    let inner = found_of c.args.found.now in
    ap (option_map wanted) c.from_residual.ensures
    ∙ node_has_no_file (rows_of inner) (c.in_err-file.ensures ∙ first_value-rows inner (codes "FILE"))

pub returns-then-is_given-clause-asked : goal.returns-then-is_given-clause-asked
returns-then-is_given-clause-asked c =
    let inner = found_of c.args.found.now in
    node_found (rows_of inner) true _ _ c.if-is_given.ensures (c.in_ok-file.ensures ∙ first_value-rows inner (codes "FILE")) c.in_ok-id.ensures.found

pub returns-else-is_given-clause-asked : goal.returns-else-is_given-clause-asked
returns-else-is_given-clause-asked c =
    let inner = found_of c.args.found.now in
    node_found (rows_of inner) false _ _ c.if-is_given.ensures (c.in_ok-file.ensures ∙ first_value-rows inner (codes "FILE")) c.in_ok-id.ensures.found
