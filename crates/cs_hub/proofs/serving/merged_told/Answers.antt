use Rattle.std.proofs.Common.{List, ◌++◌, ◌+◌, ◌∷◌, ◌∙◌, ℕ, ap, arith}
use Rattle.cs_normal.specs.Normal.{normal_spelling}
use Rattle.cs_wire.specs.Answers.{merged_numbers, merged_tag}
use Rattle.cs_hub.proofs.CaughtTold.{merged_more}
use Rattle.cs_hub.proofs.serving.merged_told.Goals as goal

pub overflow_cast-len : goal.overflow_cast-len
overflow_cast-len c = omega (arith, c.requires, c.most_bytes.ensures, c.in_ok-len.ensures.len)

pub returns : goal.returns
returns c =
    c.in_ok-encode.ensures.ok
    ∙ ap (λ (bytes : List ℕ). bytes ++ normal_spelling c.args.changes.now) c.in_ok-answer.ensures.items
    ∙ merged_more c.args.asker c.args.first (c.args.first + c.args.count) c.in_ok-len.len (normal_spelling c.args.changes.now)
    ∙ ap (λ (size : ℕ). merged_tag ∷ merged_numbers c.args.asker c.args.first (c.args.first + c.args.count) size (normal_spelling c.args.changes.now)) c.in_ok-len.ensures.len
