use Rattle.std.proofs.Common.{take}
use Rattle.std.specs.Fmt.{HasWritten, IsPlainFormatter}
use Rattle.cs_text.specs.Text.{blob_text}
use Rattle.cs_text.proofs.blobs.BlobTextDisplay.fmt.Given as goal

abbrev pub invariant-loop-group : goal.invariant-loop-group
invariant-loop-group g l =
    IsPlainFormatter l.initial.f → HasWritten g.W.Write.write_str_gives l.initial.f (blob_text (take l.group-index l.group-items)) l.f
