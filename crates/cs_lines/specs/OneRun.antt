-- A run's lines have one list of answers, whatever is served. Crates above cite it.
use Rattle.std.proofs.Common.{◌≡◌, ◌≢◌, ℕ, inl, inr, List, [], ◌∷◌, refl, sym, ap₂, ◌∙◌, subst}
use Rattle.std.specs.Prelude.{Result, Ok, Err}
use Rattle.hex.specs.Hex.{decode_of}
use Rattle.hex.specs.declared.error.FromHexError.{FromHexError}
use Rattle.cs_lines.specs.Laws.{HasOneAnswer, OneRun}
use Rattle.cs_lines.specs.Served.{Answers, AnswersAll, AnswersDecoded, no_memory}

module _ {State : Type 0} (serves : State → List ℕ → List ℕ → State → Type 0) (stays : State → State → Type 0) where
  decoded_once : (old new next : State) (decoded : Result (List ℕ) FromHexError) (one other : List ℕ) → HasOneAnswer serves old
      → AnswersDecoded serves old decoded one new → AnswersDecoded serves old decoded other next → (one ≡ other) × (new ≡ next)
  decoded_once old new next (Ok request) one other once first second = once request one other new next first second
  decoded_once old new next (Err fault) one other once first second = (first.0 ∙ sym second.0, first.1 ∙ sym second.1)

  answered_once : (old new next : State) (line one other : List ℕ) → HasOneAnswer serves old → one ≢ no_memory → other ≢ no_memory
      → Answers serves stays old line one new → Answers serves stays old line other next → (one ≡ other) × (new ≡ next)
  answered_once old new next line one other once here there (inl first) (inl second) =
      decoded_once old new next (decode_of line) one other once first second
  answered_once old new next line one other once here there (inr first) second = absurd (here first.0)
  answered_once old new next line one other once here there (inl first) (inr second) = absurd (there second.0)

  pub one_run : OneRun serves stays
  one_run old new next [] [] [] once here there first second = (refl, first ∙ sym second)
  one_run old new next [] [] (b ∷ others) once here there first second = absurd second
  one_run old new next [] (a ∷ ones) others once here there first second = absurd first
  one_run old new next (line ∷ lines) [] others once here there first second = absurd first
  one_run old new next (line ∷ lines) (a ∷ ones) [] once here there first second = absurd second
  one_run old new next (line ∷ lines) (a ∷ ones) (b ∷ others) once here there first second =
      let head = answered_once old first.0 second.0 line a b once.0 here.0 there.0 first.1 second.1 in
      let tail = one_run first.0 new next lines ones others (once.1 a first.0 first.1) here.1 there.1 first.2
      (subst (λ (s : State). AnswersAll serves stays s lines others next) (sym head.1) second.2) in
      (ap₂ (λ x xs. x ∷ xs) head.0 tail.0, tail.1)
