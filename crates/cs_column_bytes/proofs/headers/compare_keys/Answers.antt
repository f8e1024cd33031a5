use Rattle.std.proofs.Common.{◌≡◌, ◌∙◌, ℕ, refl, rules, tests}
use Rattle.std.specs.Ordering.{nat_cmp}
use Rattle.std.proofs.lemmas.Iterator.{YieldsList-from_map, YieldsList-from_slice}
use Rattle.std.proofs.lemmas.Iterator.Search.{cmp_from_yields_List}
use Rattle.cs_change.specs.Spelling.{flag_byte, is_nonzero}
use Rattle.cs_column_bytes.proofs.Columns.{flags_at_once}
use Rattle.cs_column_bytes.proofs.headers.compare_keys.Goals as goal

pub returns : goal.returns
returns c =
    let flag = λ (column : ℕ). flag_byte (is_nonzero column) in
    cmp_from_yields_List (λ x y. y ≡ x) _ nat_cmp _ c.cmp.ensures.ran
    (YieldsList-from_map _ flag (YieldsList-from_slice c.args.left.now cc) c.map.ensures.closure (λ x r q k. search (rules, tests)))
    (λ it e. YieldsList-from_map _ flag (YieldsList-from_slice c.args.right.now cc) refl (λ x r q k. search (rules, tests)))
    (λ x y. refl)
    ∙ flags_at_once c.args.left.now c.args.right.now
