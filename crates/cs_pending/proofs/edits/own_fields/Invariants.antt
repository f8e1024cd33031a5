use Rattle.std.proofs.Common.{◌≡◌, take}
use Rattle.cs_pending.proofs.edits.own_fields.Given as goal

abbrev pub invariant-loop-field : goal.invariant-loop-field
invariant-loop-field l = l.made ≡ take l.field-index l.fields
