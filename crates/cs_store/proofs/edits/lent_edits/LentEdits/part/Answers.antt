use Rattle.std.proofs.Common.{ap, ◌∙◌}
use Rattle.std.specs.List.{slice_range}
use Rattle.cs_store.proofs.EditsLemmas.EditLaws.{edits_part}
use Rattle.cs_store.proofs.edits.lent_edits.LentEdits.part.Goals as goal

pub returns : goal.returns
returns c =
    c.of_parts.ensures
    ∙ edits_part c.self.inside.pieces.now c.self.inside.spots.now c.args.from c.args.to
    ∙ ap (λ edits. slice_range edits c.args.from c.args.to) c.self.view_is
