use Rattle.std.proofs.Common.{◌≡◌, [], List, ℕ, ◌∙◌, codes, subst}
use Rattle.std.specs.Prelude.{Some, IfErr, IfOk, map}
use Rattle.clap.specs.Words.{found_of, rows_of, subcommand_rows_of}
use Rattle.clap.proofs.WalkLemmas.{raw_values-rows}
use Rattle.cs_command.specs.CatalogWords.{IsCatalogOf, IsFirstRefused}
use Rattle.cs_command.specs.CommandLine.{tables_in}
use Rattle.cs_command.proofs.FoundLemmas.{both_parts, no_words_given, words_given}
use Rattle.cs_command.proofs.table.catalog_of.Goals as goal

given : (c : goal.After-catalog) → map (λ word. word.now) c.in-Some-get_strs.words.now ≡ tables_in (subcommand_rows_of c.args.matches.now)
given c =
    let inner = found_of c.in-Some.found.now in
    let whole : subcommand_rows_of c.args.matches.now ≡ Some (c.in-Some.name.now, rows_of inner) =
    both_parts _ _ _ _ _ c.in-Some.ensures.name c.in-Some.ensures.rows in
    words_given (codes "TABLE") _ c.in-Some.name.now (rows_of inner) _ whole (c.in-Some-get_strs.ensures ∙ raw_values-rows inner (codes "TABLE"))

pub returns-in-Some-get_strs-clause-ok : goal.returns-in-Some-get_strs-clause-ok
returns-in-Some-get_strs-clause-ok c =
    subst (λ (words : List (List ℕ)). IfOk c.catalog.result (λ catalog. IsCatalogOf words catalog)) (given c) c.catalog.ensures.ok

pub returns-in-Some-get_strs-clause-refused : goal.returns-in-Some-get_strs-clause-refused
returns-in-Some-get_strs-clause-refused c =
    subst (λ (words : List (List ℕ)). IfErr c.catalog.result (λ refused. IsFirstRefused refused words)) (given c) c.catalog.ensures.refused

pub returns-in-None-get_strs-clause-ok : goal.returns-in-None-get_strs-clause-ok
returns-in-None-get_strs-clause-ok c =
    let inner = found_of c.in-Some.found.now in
    let whole : subcommand_rows_of c.args.matches.now ≡ Some (c.in-Some.name.now, rows_of inner) =
    both_parts _ _ _ _ _ c.in-Some.ensures.name c.in-Some.ensures.rows in
    let none : [] ≡ tables_in (subcommand_rows_of c.args.matches.now) =
    no_words_given (codes "TABLE") _ c.in-Some.name.now (rows_of inner) whole (c.in-None-get_strs.ensures ∙ raw_values-rows inner (codes "TABLE")) in
    subst (λ (words : List (List ℕ)). IfOk c.no_tables.result (λ catalog. IsCatalogOf words catalog)) none c.no_tables.ensures.ok
