use Rattle.std.proofs.Common.{rules, ◌≡◌, ◌≢◌, ◌∷◌, ◌++◌, All}
use Rattle.std.specs.Prelude.{None}
use Rattle.cs_text.specs.parse.Texts.{text_in}
use Rattle.cs_command.proofs.WordLemmas.{no_table_without_colon, no_table_without_marks, no_table_without_name}
use Rattle.cs_command.proofs.table.read_table.Goals as goal

pub returns-in_default : goal.returns-in_default
returns-in_default c = no_table_without_colon _ (rw c.as_bytes.ensures.value at c.in_default.ensures)

pub returns-in_default-2 : goal.returns-in_default-2
returns-in_default-2 c =
    let cut : c.args.word.now ≡ c.in-Some.text.now ++ 58 ∷ c.in-Some.digits.now = search rules in
    let none : All (λ byte. byte ≢ 58) c.in-Some.digits.now = search rules in
    no_table_without_marks _ _ _ cut none (rw c.in_default-2.is at c.in_ok-marks.ensures)

pub returns-in_default-3 : goal.returns-in_default-3
returns-in_default-3 c =
    let cut : c.args.word.now ≡ c.in-Some.text.now ++ 58 ∷ c.in-Some.digits.now = search rules in
    let none : All (λ byte. byte ≢ 58) c.in-Some.digits.now = search rules in
    let named : text_in c.in-Some.text.now ≡ None = search rules in
    no_table_without_name _ _ _ cut none named
