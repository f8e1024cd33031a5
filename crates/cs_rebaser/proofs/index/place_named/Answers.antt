use Rattle.std.proofs.Common.{◌≡◌, true, false, sym, ap, ◌∙◌, List, ℕ, arith}
use Rattle.std.specs.Str.{bytes_eq}
use Rattle.cs_blob.specs.declared.blob.BlobGroup.{BlobGroup}
use Rattle.cs_rebaser.proofs.Apart.{named_behind, named_here, named_nowhere}
use Rattle.cs_rebaser.proofs.index.place_named.Goals as goal

pub returns-then-eq : goal.returns-then-eq
returns-then-eq c =
    let group = c.index-groups-at.result in
    let name = c.args.name.now in
    let named : bytes_eq group.name name ≡ true = ap (λ (g : BlobGroup). bytes_eq g.name name) c.index-groups-at.is ∙ ap (λ (n : List ℕ). bytes_eq n name) (sym c.as_str.ensures) ∙ sym c.eq.ensures ∙ c.if-eq.true in
    (c.loop-at-test.true, named_here name c.args.groups.now c.loop-at.at group c.loop-at-test.true c.index-groups-at.is named c.loop-at.invariant)

pub loop-at-preserved : goal.loop-at-preserved
loop-at-preserved c =
    let group = c.index-groups-at.result in
    let name = c.args.name.now in
    let other : bytes_eq group.name name ≡ false = ap (λ (g : BlobGroup). bytes_eq g.name name) c.index-groups-at.is ∙ ap (λ (n : List ℕ). bytes_eq n name) (sym c.as_str.ensures) ∙ sym c.eq.ensures ∙ c.if-eq.false in
    named_behind name c.args.groups.now c.loop-at.at group c.loop-at-test.true c.index-groups-at.is other c.loop-at.invariant

pub returns : goal.returns
returns c = named_nowhere c.args.name.now c.args.groups.now c.loop-at.at (omega (arith, c.loop-at-test.false)) c.loop-at.invariant
