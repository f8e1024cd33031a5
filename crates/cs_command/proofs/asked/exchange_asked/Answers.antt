use Rattle.std.proofs.Common.{ap, ◌∙◌, codes, refl}
use Rattle.std.specs.Prelude.{None, Some, option_map}
use Rattle.clap.specs.Words.{found_of, first_of, rows_of}
use Rattle.clap.proofs.WalkLemmas.{first_value-rows}
use Rattle.cs_command.specs.CommandLine.{id_at}
use Rattle.cs_command.specs.Wanted.{wanted}
use Rattle.cs_command.proofs.FoundLemmas.{exchange_by}
use Rattle.cs_command.proofs.asked.exchange_asked.Goals as goal

pub returns-in_err-wish-clause-asked : goal.returns-in_err-wish-clause-asked
returns-in_err-wish-clause-asked c =
    let rows = rows_of (found_of c.args.found.now) in
    ap (option_map wanted) c.from_residual.ensures
    ∙ exchange_by rows None (first_of (codes "HUB") rows) (first_of (codes "FILE") rows) (id_at rows) c.in_err-wish.ensures refl refl refl

pub returns-in_err-hub-clause-asked : goal.returns-in_err-hub-clause-asked
returns-in_err-hub-clause-asked c =
    let inner = found_of c.args.found.now in
    let rows = rows_of inner in
    ap (option_map wanted) c.from_residual-in_err-hub.ensures
    ∙ exchange_by rows (Some c.in_ok-wish.wish) None (first_of (codes "FILE") rows) (id_at rows) c.in_ok-wish.ensures (c.in_err-hub.ensures ∙ first_value-rows inner (codes "HUB")) refl refl

pub returns-in_err-file-clause-asked : goal.returns-in_err-file-clause-asked
returns-in_err-file-clause-asked c =
    let inner = found_of c.args.found.now in
    let rows = rows_of inner in
    ap (option_map wanted) c.from_residual-in_err-file.ensures
    ∙ exchange_by rows (Some c.in_ok-wish.wish) (Some c.in_ok-hub.hub.now) None (id_at rows) c.in_ok-wish.ensures (c.in_ok-hub.ensures ∙ first_value-rows inner (codes "HUB"))
    (c.in_err-file.ensures ∙ first_value-rows inner (codes "FILE")) refl

pub returns-in_err-id-clause-asked : goal.returns-in_err-id-clause-asked
returns-in_err-id-clause-asked c =
    let inner = found_of c.args.found.now in
    let rows = rows_of inner in
    ap (option_map wanted) c.from_residual-in_err-id.ensures
    ∙ exchange_by rows (Some c.in_ok-wish.wish) (Some c.in_ok-hub.hub.now) (Some c.in_ok-file.file.now) None c.in_ok-wish.ensures
    (c.in_ok-hub.ensures ∙ first_value-rows inner (codes "HUB")) (c.in_ok-file.ensures ∙ first_value-rows inner (codes "FILE")) c.in_err-id.ensures.found

pub returns-clause-asked : goal.returns-clause-asked
returns-clause-asked c =
    let inner = found_of c.args.found.now in
    let rows = rows_of inner in
    exchange_by rows (Some c.in_ok-wish.wish) (Some c.in_ok-hub.hub.now) (Some c.in_ok-file.file.now) (Some c.in_ok-id.id) c.in_ok-wish.ensures
    (c.in_ok-hub.ensures ∙ first_value-rows inner (codes "HUB")) (c.in_ok-file.ensures ∙ first_value-rows inner (codes "FILE")) c.in_ok-id.ensures.found
