-- Pieces of bytes that have grown.
use Rattle.std.proofs.Common.{◌≡◌, ℕ, zero, suc, ◌<◌, List, [], ◌∷◌, ◌++◌, length, refl, sym, ap, ◌∙◌, arith, append-nil, append_assoc}
use Rattle.std.specs.Prelude.{slice_index_or}
use Rattle.std.specs.Global.{Vec}
use Rattle.cs_store.specs.edits.Pieces.{HaveGrown, pieces_of}

-- bytes more in the last piece
last_longer : (full : List (Vec ℕ)) (last more : List ℕ) (at : ℕ) → at < length (pieces_of full last)
    → (behind : List ℕ) × (slice_index_or (pieces_of full (last ++ more)) at [] ≡ slice_index_or (pieces_of full last) at [] ++ behind)
last_longer [] last more zero less = (more, refl)
last_longer [] last more (suc at) less = absurd (omega (arith, less))
last_longer (piece ∷ full) last more zero less = ([], sym (append-nil piece.items))
last_longer (piece ∷ full) last more (suc at) less = last_longer full last more at (omega (arith, less))

as_many : (full : List (Vec ℕ)) (last other : List ℕ) → length (pieces_of full last) ≡ length (pieces_of full other)
as_many [] last other = refl
as_many (piece ∷ full) last other = ap suc (as_many full last other)

pub grown_last : (full : List (Vec ℕ)) (last more : List ℕ) → HaveGrown (pieces_of full last) (pieces_of full (last ++ more))
grown_last full last more = (omega (arith, as_many full last (last ++ more)), last_longer full last more)

-- once and once more
pub grown_then : (old mid new : List (List ℕ)) → HaveGrown old mid → HaveGrown mid new → HaveGrown old new
grown_then old mid new one two = (
  omega (arith, one.0, two.0),
  λ at less.
      let first = one.1 at less in
      let second = two.1 at (omega (arith, less, one.0)) in (
        first.0 ++ second.0,
        second.1 ∙ ap (λ piece. piece ++ second.0) first.1 ∙ append_assoc (slice_index_or old at []) first.0 second.0,
      ),
)
