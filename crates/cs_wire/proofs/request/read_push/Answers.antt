use Rattle.std.proofs.Common.{◌∷◌, List, ℕ, inl, inr, ap, rules}
use Rattle.cs_wire.specs.Requests.{push_tag}
use Rattle.cs_wire.proofs.request.read_push.Goals as goal

pub returns-then-changeset-size : goal.returns-then-changeset-size
returns-then-changeset-size c =
    inr (inr (inr (inr (inr (inl (
      record { origin = c.in-Some.origin; number = c.in-Some.number; base = c.in-Some.base },
      c.in-Some.size,
      c.in-Some.changeset.now,
      search rules,
      ap (λ (t : List ℕ). push_tag ∷ t) c.in-Some.ensures,
      c.if-changeset-size.true,
    ))))))

pub returns-then-changeset-size-2 : goal.returns-then-changeset-size-2
returns-then-changeset-size-2 c =
    inl (
      record { origin = c.in-Some.origin; number = c.in-Some.number; base = c.in-Some.base },
      c.in-Some.size,
      c.in-Some.changeset.now,
      search rules,
      ap (λ (t : List ℕ). push_tag ∷ t) c.in-Some.ensures,
      c.if-changeset-size-2.true,
    )
