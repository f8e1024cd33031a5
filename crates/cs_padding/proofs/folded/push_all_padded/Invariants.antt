use Rattle.std.proofs.Common.{take}
use Rattle.cs_change.specs.Spelling.{marks_of}
use Rattle.cs_padding.specs.Steps.{ArePaddedBehind}
use Rattle.cs_padding.proofs.folded.push_all_padded.Given as goal

-- the edits so far are appended
abbrev pub invariant-loop-at : goal.invariant-loop-at
invariant-loop-at l = ArePaddedBehind (marks_of l.fn.marks) l.fn.columns.nulls.items l.fn.columns.undefined.items l.fn.number (take l.at l.fn.edits) l.fn.out l.out
