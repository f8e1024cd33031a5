use Rattle.std.proofs.Common.{◌≡◌, ◌∙◌, ◌++◌, ◌∷◌, [], List, sym, ap}
use Rattle.cs_change.specs.Listed.{listed}
use Rattle.cs_change.specs.declared.change.Change.{Change}
use Rattle.cs_normal.specs.keyed.NormalForm.{normal_form}
use Rattle.cs_normal.proofs.KeyedLemmas.OneForm.{on_ok}
use Rattle.cs_normal.proofs.keyed.one_form.push_form.Goals as goal

pub returns-then-is_normal : goal.returns-then-is_normal
returns-then-is_normal c =
    let form : c.args.change.now ∷ [] ≡ listed (normal_form c.args.marks.now c.args.change.now) = sym (ap listed (c.is_normal.ensures c.if-is_normal.true)) in
    on_ok c.push.result _ _ (λ pushed. pushed ∙ ap (λ (cs : List Change). c.args.out.now ++ cs) form) c.push.ensures.ok
