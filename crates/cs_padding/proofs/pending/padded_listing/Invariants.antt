use Rattle.std.proofs.Common.{take}
use Rattle.cs_change.specs.Spelling.{marks_of}
use Rattle.cs_padding.specs.Steps.{ArePadded}
use Rattle.cs_padding.proofs.pending.padded_listing.Given as goal

-- the edits are those of the bodies before
abbrev pub invariant-loop-stored : goal.invariant-loop-stored
invariant-loop-stored l = ArePadded (marks_of l.fn.marks) l.fn.columns.nulls.items l.fn.columns.undefined.items l.fn.number (take l.stored-index l.fn.listed) l.edits
