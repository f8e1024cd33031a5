-- Ranges by their ends alone.
use Rattle.std.proofs.Common.{◌≡◌, ℕ, zero, suc, ◌<◌, List, [], ◌∷◌, ◌++◌, length, get_or, refl, sym, ap, ◌∙◌, arith}
use Rattle.cs_order.specs.Steps.Runs.{parts, ranges_from, ranges_of}
use Rattle.std.proofs.lemmas.List.{length-map}
use Rattle.std.specs.List.{slice_range}

pub as_many_from : (start : ℕ) (ends : List ℕ) → length (ranges_from start ends) ≡ length ends
as_many_from start [] = refl
as_many_from start (e ∷ ends) = ap suc (as_many_from e ends)

pub as_many_parts : (places ends : List ℕ) → length (parts places (ranges_of ends)) ≡ length ends
as_many_parts places ends =
    length-map (ranges_of ends) (λ range. slice_range places range.0 range.1) ∙ as_many_from 0 ends

-- a range begins where the one before it ends
pub range_from : (start : ℕ) (ends : List ℕ) (at : ℕ) → at < length ends → get_or (ranges_from start ends) at (0, 0) ≡ (get_or (start ∷ ends) at 0, get_or ends at 0)
range_from start [] at less = absurd (omega (arith, less))
range_from start (e ∷ ends) zero less = refl
range_from start (e ∷ ends) (suc at) less = range_from e ends at (omega (arith, less))

-- where the last one ends
abbrev pub last_end : ℕ → List ℕ → ℕ
last_end start [] = start
last_end start (e ∷ ends) = last_end e ends

pub last_pushed : (start : ℕ) (ends : List ℕ) (end : ℕ) → last_end start (ends ++ end ∷ []) ≡ end
last_pushed start [] end = refl
last_pushed start (e ∷ ends) end = last_pushed e ends end

pub one_pushed : (start : ℕ) (ends : List ℕ) (end : ℕ) → ranges_from start (ends ++ end ∷ []) ≡ ranges_from start ends ++ (last_end start ends, end) ∷ []
one_pushed start [] end = refl
one_pushed start (e ∷ ends) end =
    ap (λ (ranges : List (ℕ × ℕ)). (start, e) ∷ ranges) (one_pushed e ends end)

-- one range more, from the last end on
pub range_pushed : (ends now : List ℕ) (start end : ℕ) → now ≡ ends ++ end ∷ [] → start ≡ last_end 0 ends → ranges_of now ≡ ranges_of ends ++ (start, end) ∷ []
range_pushed ends now start end is last =
    ap ranges_of is ∙ one_pushed 0 ends end ∙ ap (λ (s : ℕ). ranges_of ends ++ (s, end) ∷ []) (sym last)
