-- Counts of failures, from one call to the next.
use Rattle.std.proofs.Common.{◌≤◌, ℕ, arith}
use Rattle.cs_replica.specs.Leaves.{Counts}
use Rattle.cs_replica.specs.Holding.{Holding}
use Rattle.cs_store.specs.Calls.{MoreFailures}
use Rattle.cs_store.specs.declared.store.RowStore.{Ghosts}

more_before : (old mid new : ℕ) → old ≤ mid → MoreFailures mid new → MoreFailures old new
more_before old mid new later more = omega (arith, later, more)

module _ {S : Type 0} (g : Ghosts S) where
  -- what the last of two calls tells is told of both
  pub counts_behind : {told : Type 0} (old mid new : Holding S) → g.failed old.store ≤ g.failed mid.store → Counts g told mid new → Counts g told old new
  counts_behind old mid new later counts = record {
    later = omega (arith, later, counts.later);
    cause = λ t. more_before (g.failed old.store) (g.failed mid.store) (g.failed new.store) later (counts.cause t);
  }
