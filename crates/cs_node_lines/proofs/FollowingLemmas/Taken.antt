-- Lines that are taken behind lines that were taken.
use Rattle.std.proofs.Common.{◌≡◌, ◌∙◌, ℕ, List, [], ◌∷◌, ◌++◌, sym, ap, append_assoc}
use Rattle.std.specs.Prelude.{Option, Some, None}
use Rattle.cs_lines.specs.Lines.{lines_of}
use Rattle.cs_lines.specs.Reading.{AreAllBefore, AreTaken, TakesLine}
use Rattle.cs_lines.specs.Served.{AreAllLines, AreFirstLines}

pub taken_one : (input left : Option (List ℕ)) (line : List ℕ) → TakesLine [] input left line → AreTaken input left (line ∷ [])
taken_one None left line took = tt
taken_one (Some bytes) left line (rest, is, lines, cut) = (rest, is, lines)

pub taken_both : (input mid left : Option (List ℕ)) (some more : List (List ℕ)) → AreTaken input mid some → AreTaken mid left more → AreTaken input left (some ++ more)
taken_both None mid left some more taken behind = tt
taken_both (Some bytes) None left some more (rest, is, all) behind = absurd (cc)
taken_both (Some bytes) (Some between) left some more (rest, is, all) (end, left_is, last) =
    let same : between ≡ rest = cc in (
      end,
      left_is,
      all ∙ (ap (λ (l : List ℕ). some ++ lines_of l) (sym same) ∙ (ap (λ (l : List (List ℕ)). some ++ l) last ∙ sym (append_assoc some more (lines_of end)))),
    )

pub taken_to_end : (input mid : Option (List ℕ)) (some more : List (List ℕ)) → AreTaken input mid some → AreAllLines mid more → AreAllLines input (some ++ more)
taken_to_end None mid some more taken behind = tt
taken_to_end (Some bytes) None some more (rest, is, all) behind = absurd (cc)
taken_to_end (Some bytes) (Some between) some more (rest, is, all) behind =
    let same : between ≡ rest = cc in
    sym (all ∙ (ap (λ (l : List ℕ). some ++ lines_of l) (sym same) ∙ ap (λ (l : List (List ℕ)). some ++ l) (sym behind)))

pub taken_before : (input mid left : Option (List ℕ)) (some more : List (List ℕ)) → AreTaken input mid some → AreAllBefore mid left more → AreAllBefore input left (some ++ more)
taken_before input mid left some more taken (at, behind, stays) = (at, taken_both input mid at some more taken behind, stays)

pub taken_first : (input mid : Option (List ℕ)) (some more : List (List ℕ)) → AreTaken input mid some → AreFirstLines mid more → AreFirstLines input (some ++ more)
taken_first None mid some more taken behind = tt
taken_first (Some bytes) None some more (rest, is, all) behind = absurd (cc)
taken_first (Some bytes) (Some between) some more (rest, is, all) (after, last) =
    let same : between ≡ rest = cc in (
      after,
      all ∙ (ap (λ (l : List ℕ). some ++ lines_of l) (sym same) ∙ (ap (λ (l : List (List ℕ)). some ++ l) last ∙ sym (append_assoc some more after))),
    )
