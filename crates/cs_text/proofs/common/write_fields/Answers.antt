use Rattle.std.proofs.Common.{◌++◌, ap, sym, refl, ◌∙◌, append_assoc}
use Rattle.std.proofs.lemmas.Grind.{put_two}
use Rattle.cs_text.specs.Text.{spaced, field_text, fields_text}
use Rattle.cs_text.proofs.common.write_fields.Goals as goal

pub loop-column-preserved : goal.loop-column-preserved
loop-column-preserved g c =
    let before = c.loop-column.invariant in
    let word = spaced (field_text c.in-Some.column) in (
      before.0 ++ word,
      append_assoc before.0 word (fields_text c.in-Some.rest) ∙ ap (λ left. before.0 ++ fields_text left) (sym c.in-Some.ensures) ∙ before.1,
      λ plain. put_two _ _ _ _ before.0 word _ (before.2 plain) (c.in_ok-write.ensures.writes (before.2 plain).plain refl) refl,
    )
