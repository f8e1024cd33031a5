use Rattle.std.proofs.Common.{rules, ◌≡◌, ◌+◌, ◌++◌, ◌∷◌, ◌∙◌, [], List, ℕ, ap, arith, length}
use Rattle.cs_change.specs.Held.{overwritten}
use Rattle.cs_change.specs.Spelling.{flag_byte, update_byte}
use Rattle.cs_change.proofs.Replaced.{both_written}
use Rattle.cs_change.proofs.replacing.write_update.Goals as goal

pub returns : goal.returns
returns c =
    let bytes = c.args.bytes.now in
    let at = c.args.at in
    let old = c.args.old.now in
    let new = c.args.new.now in
    let flag : c.from.result ≡ flag_byte c.args.flag = search rules in
    let head : List ℕ = update_byte ∷ c.from.result ∷ [] in
    let one = both_written bytes head old at (at + 2) (omega arith) (omega (arith, c.requires)) in
    let two = both_written bytes (update_byte ∷ c.from.result ∷ old) new at (at + 2 + length old) (omega arith) (omega (arith, c.requires)) in
    c.write_over-3.ensures
    ∙ ap (λ (t : List ℕ). overwritten t (at + 2 + length old) new) (c.write_over-2.ensures ∙ ap (λ (t : List ℕ). overwritten t (at + 2) old) c.write_over.ensures ∙ one)
    ∙ two ∙ ap (λ (f : ℕ). overwritten bytes at (update_byte ∷ f ∷ (old ++ new))) flag
