use Rattle.std.proofs.Common.{◌∙◌, List, ap, sym, arith}
use Rattle.std.specs.Prelude.{slice_get, slice_index_or}
use Rattle.cs_group.specs.Steps.Gathering.{lent_changes, lent_numbers}
use Rattle.cs_group.specs.declared.lent.Part.{Part}
use Rattle.cs_group.proofs.Placed.{behind_first, change_found, no_number, number_found, within_parts}
use Rattle.cs_group.proofs.lent.LentChanges.find.Goals as goal

pub returns-then-place-len-clause-numbers : goal.returns-then-place-len-clause-numbers
returns-then-place-len-clause-numbers c =
    ap (λ (parts : List Part). slice_index_or (lent_numbers parts) c.args.place 0) (sym c.self.view_is)
    ∙ no_number c.self.inside.parts.items c.args.place (omega (arith, c.if-place-len.true, c.len.ensures, c.self.invariant.count))

pub index-part-requires : goal.index-part-requires
index-part-requires c =
    let within = within_parts c.self.inside.parts.items c.self.inside.of.items c.args.place c.index.result.now c.self.invariant (omega (arith, c.if-place-len.false, c.len.ensures)) c.index.ensures in
    omega (arith, within)

pub overflow_sub-result : goal.overflow_sub-result
overflow_sub-result c =
    behind_first c.self.inside.parts.items c.self.inside.of.items c.args.place c.index.result.now c.self.invariant (omega (arith, c.if-place-len.false, c.len.ensures)) c.index.ensures
    c.index-part.result.now c.index-part.ensures

pub returns-clause-changes : goal.returns-clause-changes
returns-clause-changes c =
    ap (λ (parts : List Part). slice_get (lent_changes parts) c.args.place) (sym c.self.view_is)
    ∙ change_found c.self.inside.parts.items c.self.inside.of.items c.args.place c.index.result.now c.self.invariant (omega (arith, c.if-place-len.false, c.len.ensures)) c.index.ensures
    c.index-part.result.now c.index-part.ensures

pub returns-clause-numbers : goal.returns-clause-numbers
returns-clause-numbers c =
    ap (λ (parts : List Part). slice_index_or (lent_numbers parts) c.args.place 0) (sym c.self.view_is)
    ∙ number_found c.self.inside.parts.items c.self.inside.of.items c.args.place c.index.result.now c.self.invariant (omega (arith, c.if-place-len.false, c.len.ensures)) c.index.ensures
    c.index-part.result.now c.index-part.ensures
