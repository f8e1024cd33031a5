use Rattle.std.proofs.Common.{◌≡◌, ◌∙◌, Bor, List, ℕ, codes, map}
use Rattle.std.specs.Prelude.{Some}
use Rattle.clap.specs.Words.{found_of, rows_of, subcommand_rows_of}
use Rattle.clap.proofs.WalkLemmas.{raw_values-rows}
use Rattle.cs_command.proofs.FoundLemmas.{both_parts, words_or_none}
use Rattle.cs_command.proofs.asked.files_of.Goals as goal

pub returns-in-Some : goal.returns-in-Some
returns-in-Some c =
    let inner = found_of c.in-Some.found.now in
    let whole : subcommand_rows_of c.args.matches.now ≡ Some (c.in-Some.field-0-0.now, rows_of inner) =
    both_parts _ _ _ _ _ c.in-Some.ensures.name c.in-Some.ensures.rows in
    words_or_none (λ (files : Bor (List (Bor (List ℕ)))). map (λ word. word.now) files.now) (codes "FILE") _ c.in-Some.field-0-0.now (rows_of inner) c.get_strs.result whole (c.get_strs.ensures ∙ raw_values-rows inner (codes "FILE"))
