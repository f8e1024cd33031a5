use Rattle.std.proofs.Common.{◌≡◌, take}
use Rattle.cs_store.specs.Written.{pairs_of}
use Rattle.cs_padding.specs.Steps.{padded_edits}
use Rattle.cs_padding.proofs.rows.padded_rows.Given as goal

-- the edits are those of the bodies before
abbrev pub invariant-loop-stored : goal.invariant-loop-stored
invariant-loop-stored l = l.edits ≡ padded_edits l.fn.number l.fn.more (pairs_of (take l.stored-index l.fn.listed))
