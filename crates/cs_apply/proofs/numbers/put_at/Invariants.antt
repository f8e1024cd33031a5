use Rattle.std.proofs.Common.{◌≡◌, ℕ, length, take}
use Rattle.std.specs.Prelude.{slice_index_or, Contains}
use Rattle.cs_apply.proofs.numbers.put_at.Given as goal

abbrev pub invariant-loop-place : goal.invariant-loop-place
invariant-loop-place l =
    (length l.told ≡ length l.fn.told)
    × ((at : ℕ) → Contains (take l.place-index l.fn.places) at → slice_index_or l.told at 0 ≡ l.fn.number)
    × ((at : ℕ) → (Contains (take l.place-index l.fn.places) at → ⊥)
    → slice_index_or l.told at 0 ≡ slice_index_or l.fn.told at 0)
