use Rattle.std.proofs.Common.{◌≡◌, ◌∙◌, ◌+◌, ℕ, List, ◌++◌, append_assoc, ap, sym, inl, rules}
use Rattle.std.specs.Prelude.{codes, string_bytes}
use Rattle.std.specs.Fmt.{decimal}
use Rattle.cs_node_lines.specs.told.Told.{edit_fault_text}
use Rattle.cs_node_lines.proofs.following.several.refused_at.Goals as goal

pub returns-in-Ok : goal.returns-in-Ok
returns-in-Ok c =
    let number = decimal (c.args.at + 1) in
    let name = edit_fault_text c.args.fault in
    let written : string_bytes c.in-Ok.text ≡ codes "refused " ++ (number ++ (codes " " ++ (c.edit_fault_name.result.now ++ codes "\n"))) = search rules in
    let told : string_bytes c.in-Ok.text ≡ codes "refused " ++ (number ++ (codes " " ++ (name ++ codes "\n"))) = rw c.edit_fault_name.ensures at written in
    inl (told ∙ ap (λ (l : List ℕ). codes "refused " ++ l) (sym (append_assoc (number ++ codes " ") name (codes "\n") ∙ append_assoc number (codes " ") (name ++ codes "\n"))))
