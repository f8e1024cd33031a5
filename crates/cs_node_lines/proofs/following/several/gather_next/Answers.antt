use Rattle.cs_node_lines.proofs.following.several.gather_next.Goals as goal

pub returns-in-Ok-Skipped : goal.returns-in-Ok-Skipped
returns-in-Ok-Skipped g c = let skipped = rw c.in-Ok-Skipped.field-0-is at c.in-Ok-Skipped.ensures.read in (skipped.0, skipped.1, λ lines is. tt)
