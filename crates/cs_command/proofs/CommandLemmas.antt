-- A plain command has no global arguments: the third of the tests of which `is_plain` is made.
use Rattle.std.proofs.Common.{◌≡◌, ◌&&◌, Bool, List, Result, Ok, Err, true, false, not, refl, subst}
use Rattle.std.specs.Prelude.{IfOk}
use Rattle.clap.specs.Words.{App, HasMatchesOf, Text, subcommand_of, subcommand_rows_of}
use Rattle.clap.specs.declared.parser.matches.ArgMatches.{ArgMatches}
use Rattle.cs_command.specs.CommandLine.{sync_app}

pub no_globals : (groups external globals rest : Bool) → (groups && (not external && (not globals && rest))) ≡ true → globals ≡ false
no_globals groups external false rest plain = refl
no_globals true true true rest plain = absurd (cc)
no_globals true false true rest plain = absurd (cc)
no_globals false external true rest plain = absurd (cc)

-- the command line is a simple one, whose matches are those of its words
pub found_so : {E : Type 0} (result : Result ArgMatches E) (app : App) (words : List Text) → app ≡ sync_app → IfOk result (HasMatchesOf app words)
    → IfOk result (λ matches. subcommand_rows_of matches ≡ subcommand_of sync_app words)
found_so (Err fault) app words is has = tt
found_so (Ok matches) app words is has = (subst (λ (a : App). HasMatchesOf a words matches) is has refl).1
