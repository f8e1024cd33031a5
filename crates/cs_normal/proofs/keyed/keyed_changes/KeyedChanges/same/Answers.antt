use Rattle.std.proofs.Common.{◌≡◌, sym, ap, ◌∙◌}
use Rattle.std.specs.Map.{keys_of, values_of}
use Rattle.cs_normal.specs.keyed.Changes.{Changes}
use Rattle.cs_normal.proofs.KeyedLemmas.Beside.{same_entries}
use Rattle.cs_normal.proofs.keyed.keyed_changes.KeyedChanges.same.Goals as goal

pub returns-then-same : goal.returns-then-same
returns-then-same c =
    let keys : keys_of c.args.self.now ≡ keys_of c.args.other.now = sym c.parts.ensures.keys ∙ c.same.ensures.0 c.if-same.true ∙ c.parts-2.ensures.keys in (
      (λ t. same_entries c.args.self.now c.args.other.now keys (sym c.parts.ensures.changes ∙ c.same-then-same.ensures.0 t ∙ c.parts-2.ensures.changes)),
      (λ e. c.same-then-same.ensures.1 (c.parts.ensures.changes ∙ ap (λ (es : Changes). values_of es) e ∙ sym c.parts-2.ensures.changes)),
    )
