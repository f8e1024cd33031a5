use Rattle.std.proofs.Common.{◌∙◌, ap, refl, ℕ}
use Rattle.std.specs.List.{range_with_len}
use Rattle.std.proofs.lemmas.Result.{IfOk-weaker}
use Rattle.cs_normalising.proofs.AsTheyStand.{stand_written}
use Rattle.cs_normalising.proofs.written_forms.write_forms.Goals as goal

pub returns-then-all_normal : goal.returns-then-all_normal
returns-then-all_normal c =
    let stands = c.if-stands.ensures refl ∙ ap (λ (n : ℕ). range_with_len 0 n) c.requires.as_many in
    let written = stand_written c.args.marks.now c.args.changes.now c.args.keys c.args.order.now c.requires.gathered stands (c.all_normal.ensures c.if-all_normal.true) in
    IfOk-weaker c.as_they_stand.result _ _ (λ made is. is ∙ written) c.as_they_stand.ensures
