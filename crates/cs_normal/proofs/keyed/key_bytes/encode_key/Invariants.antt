use Rattle.std.proofs.Common.{◌≡◌, take}
use Rattle.cs_normal.specs.keyed.Changes.{key_bytes}
use Rattle.cs_normal.proofs.keyed.key_bytes.encode_key.Given as goal

abbrev pub invariant-loop-value : goal.invariant-loop-value
invariant-loop-value l = l.bytes.items ≡ key_bytes (take l.value-index l.key)
