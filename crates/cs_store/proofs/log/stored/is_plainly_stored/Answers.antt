use Rattle.std.proofs.Common.{rules, ◌≡◌, ◌≤◌, ◌∷◌, ℕ, length, ap, ◌∙◌}
use Rattle.cs_store.specs.declared.log.entry.TheConstants.{MAX_CHANGESET}
use Rattle.cs_store.proofs.LogLemmas.Seen.{stored_seen}
use Rattle.cs_store.proofs.log.stored.is_plainly_stored.Goals as goal

pub returns : goal.returns
returns c =
    let changeset = c.in-Some.changeset.now in
    let kind : c.in-Some.kind.now ≡ 0 = search rules in
    let short : length changeset ≤ MAX_CHANGESET = search rules in
    λ are. stored_seen c.args.catalog.now c.args.bytes.now changeset (c.in-Some.ensures.cases.0 ∙ ap (λ (first : ℕ). first ∷ changeset) kind) short (c.in_ok-are.ensures are)
