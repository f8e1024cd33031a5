-- The first line of an input is what a read up to a line feed takes.
use Rattle.std.proofs.Common.{◌≡◌, ℕ, suc, ◌-◌, ◌<◌, Bool, true, false, eqb, ◌&&◌, nat_lt, List, [], ◌∷◌, ◌++◌, inl, inr, cond, length, take, get_or, refl, sym, ap, ◌∙◌, arith}
use Rattle.std.specs.Io.BufRead.{take_through, drop_through, strip_last, first_piece}
use Rattle.cs_lines.specs.Laws.{LineOrEnd}
use Rattle.cs_lines.specs.Reading.{IsCut}
use Rattle.cs_lines.specs.Lines.{lines_of, onto_first}

kept : (here there hit : Bool) (k x : ℕ) (l : List ℕ) → here ≡ true → there ≡ true
    → cond (here && hit) (take (suc k) (x ∷ l)) (x ∷ l) ≡ x ∷ cond (there && hit) (take k l) l
kept true true true k x l e d = refl
kept true true false k x l e d = refl
kept false there hit k x l e d = absurd (cc)
kept true false hit k x l e d = absurd (cc)

-- a byte in front of at least one more stays
strip_last-cons : (byte x : ℕ) (l : List ℕ) → 0 < length l → strip_last byte (x ∷ l) ≡ x ∷ strip_last byte l
strip_last-cons byte x l some =
    let n : suc (length l) - 1 ≡ suc (length l - 1) = omega arith in
    rw n (kept (nat_lt 0 (suc (length l))) (nat_lt 0 (length l)) (eqb (get_or l (length l - 1) 0) byte) (length l - 1) x l (grind arith) (grind arith))

onto_first-cons : (x : ℕ) (line : List ℕ) (lines : List (List ℕ)) → onto_first x (line ∷ lines) ≡ (x ∷ line) ∷ lines
onto_first-cons x line lines = refl

-- some bytes give a first line
nonempty : (xs : List ℕ) → 0 < length xs → 0 < length (take_through 10 xs)
nonempty [] some = some
nonempty (x ∷ xs) some = at (eqb x 10)
  where
    at : (b : Bool) → 0 < length (cond b (x ∷ []) (x ∷ take_through 10 xs))
    at true = omega arith
    at false = omega arith

lone : (b : Bool) (x : ℕ) → eqb x 10 ≡ b
    → cond b ([] ∷ []) ((x ∷ []) ∷ []) ≡ strip_last 10 (cond b (x ∷ []) (x ∷ [])) ∷ lines_of (cond b [] [])
lone true x h = rw h refl
lone false x h = rw h refl

longer : (b : Bool) (x : ℕ) (l : List ℕ) → eqb x 10 ≡ b → 0 < length l
    → lines_of l ≡ first_piece 10 l ∷ lines_of (drop_through 10 l)
    → cond b ([] ∷ lines_of l) (onto_first x (lines_of l))
    ≡ strip_last 10 (cond b (x ∷ []) (x ∷ take_through 10 l)) ∷ lines_of (cond b l (drop_through 10 l))
longer true x l h some first = rw h refl
longer false x l h some first =
    ap (onto_first x) first
    ∙ ap (λ f. f ∷ lines_of (drop_through 10 l)) (sym (strip_last-cons 10 x (take_through 10 l) (nonempty l some)))

pub lines_of-first : (xs : List ℕ) → 0 < length xs
    → lines_of xs ≡ first_piece 10 xs ∷ lines_of (drop_through 10 xs)
lines_of-first [] some = absurd (omega arith)
lines_of-first (x ∷ []) some = lone (eqb x 10) x refl
lines_of-first (x ∷ y ∷ ys) some = longer (eqb x 10) x (y ∷ ys) refl (omega arith) (lines_of-first (y ∷ ys) (omega arith))

lone_cut : (b : Bool) (x : ℕ) → eqb x 10 ≡ b → IsCut (x ∷ []) (strip_last 10 (cond b (x ∷ []) (x ∷ []))) (cond b [] [])
lone_cut true x h = let ten : x ≡ 10 = grind arith in rw ten (inl refl)
lone_cut false x h = rw h (inr (refl, refl))

longer_cut : (b : Bool) (x : ℕ) (l : List ℕ) → eqb x 10 ≡ b → 0 < length l
    → IsCut l (first_piece 10 l) (drop_through 10 l)
    → IsCut (x ∷ l) (strip_last 10 (cond b (x ∷ []) (x ∷ take_through 10 l))) (cond b l (drop_through 10 l))
longer_cut true x l h some cut = let ten : x ≡ 10 = grind arith in rw ten (inl refl)
longer_cut false x l h some cut =
    let line = strip_last-cons 10 x (take_through 10 l) (nonempty l some) in
    elim cut [
      | inl ended ↦ inl (ap (λ r. x ∷ r) ended ∙ ap (λ f. f ++ 10 ∷ drop_through 10 l) (sym line))
      | inr whole ↦ inr (ap (λ r. x ∷ r) whole.0 ∙ sym line, whole.1)
    ]

-- that read cuts off the line and its line feed
pub first_cut : (xs : List ℕ) → 0 < length xs → IsCut xs (first_piece 10 xs) (drop_through 10 xs)
first_cut [] some = absurd (omega arith)
first_cut (x ∷ []) some = lone_cut (eqb x 10) x refl
first_cut (x ∷ y ∷ ys) some = longer_cut (eqb x 10) x (y ∷ ys) refl (omega arith) (first_cut (y ∷ ys) (omega arith))

-- so there is a next line, or no byte
pub line_or_end : LineOrEnd
line_or_end [] = inr refl
line_or_end (x ∷ xs) =
    let bytes = x ∷ xs in
    let some : 0 < length bytes = omega arith in
    let rest = drop_through 10 bytes in
    inl (first_piece 10 bytes, rest, (rest, refl, lines_of-first bytes some, first_cut bytes some))
