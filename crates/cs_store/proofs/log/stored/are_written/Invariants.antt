use Rattle.std.proofs.Common.{◌≡◌, length, map}
use Rattle.cs_change.specs.Spelling.{flag_byte}
use Rattle.cs_store.proofs.log.stored.are_written.Given as goal

abbrev pub decreases-loop-byte : goal.decreases-loop-byte
decreases-loop-byte l = length l.columns

-- the bytes behind those that were compared decide
abbrev pub invariant-loop-byte : goal.invariant-loop-byte
invariant-loop-byte l = map flag_byte l.marks ≡ l.columns → map flag_byte l.fn.marks ≡ l.fn.columns
