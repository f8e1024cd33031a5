-- What a run has done so far, and one more line.
use Rattle.std.proofs.Common.{◌≡◌, ℕ, ◌+◌, ◌⊎◌, inl, inr, List, [], ◌∷◌, ◌++◌, length, refl, sym, ap, ◌∙◌, arith, append_assoc, append-nil, length-append, subst}
use Rattle.std.specs.Prelude.{Option, Some, None, Err, flat_map}
use Rattle.std.specs.Io.KnownBytes.{Appends, IsAtEnd}
use Rattle.std.proofs.lemmas.Grind.{flat_map-append}
use Rattle.std.proofs.KnownBytes.{Appends-trans, Appends-nil}
use Rattle.cs_lines.specs.Facts.{stays}
use Rattle.cs_lines.specs.Lines.{lines_of, hex_line}
use Rattle.cs_lines.specs.Reading.{AreAllBefore, AreTaken, StaysInLine, TakesLine}
use Rattle.cs_lines.specs.Served.{Answers, AnswersAll, AreAllLines, AreFirstLines, StaysSent}
use Rattle.cs_lines.specs.Turns.{HasFailed, TakesTurn}
use Rattle.cs_lines.specs.declared.serve.Stop.{Stop}
use Rattle.cs_lines.specs.declared.serve.Stop.TheVariants.{Read, Write}
use Rattle.cs_lines.specs.Writing.{AppendsBroken}

pub taken_none : (input : Option (List ℕ)) → AreTaken input input []
taken_none None = tt
taken_none (Some input) = (input, refl, refl)

pub taken_more : (input left after : Option (List ℕ)) (lines : List (List ℕ)) (line : List ℕ) → AreTaken input left lines
    → TakesLine [] left after line → AreTaken input after (lines ++ line ∷ [])
taken_more None left after lines line taken takes = tt
taken_more (Some input) left after lines line taken takes =
    let next = subst (λ (o : Option (List ℕ)). TakesLine [] o after line) taken.1 takes in (
      next.0,
      next.1,
      taken.2 ∙ ap (λ l. lines ++ l) next.2 ∙ sym (append_assoc lines (line ∷ []) (lines_of next.0)),
    )

taken_first : (input left : Option (List ℕ)) (lines : List (List ℕ)) → AreTaken input left lines → AreFirstLines input lines
taken_first None left lines taken = tt
taken_first (Some input) left lines taken = (lines_of taken.0, taken.2)

pub taken_all : (input left : Option (List ℕ)) (lines : List (List ℕ)) → AreTaken input left lines → IsAtEnd left → AreAllLines input lines
taken_all None left lines taken end = tt
taken_all (Some input) left lines taken end =
    let none : taken.0 ≡ [] = subst IsAtEnd taken.1 end in
    sym (taken.2 ∙ ap (λ l. lines ++ lines_of l) none ∙ append-nil lines)

-- what was sent before the turns so far, and through one more
pub sent_through : (T U : Type 0) (stop : Stop) (before mid after : Type 0) → (before → mid)
    → StaysSent {T = T} (Err stop) mid after → StaysSent {T = U} (Err stop) before after
sent_through T U Read before mid after so_far now = λ sent. now (so_far sent)
sent_through T U Write before mid after so_far now = tt

module _ {State : Type 0} (serves : State → List ℕ → List ℕ → State → Type 0) (keeps : State → State → Type 0) where
  AnswersAll-more : (old : State) (lines answers : List (List ℕ)) (mid : State) (line answer : List ℕ) (new : State)
      → AnswersAll serves keeps old lines answers mid → Answers serves keeps mid line answer new
      → AnswersAll serves keeps old (lines ++ line ∷ []) (answers ++ answer ∷ []) new
  AnswersAll-more old [] [] mid line answer new before now =
      (new, subst (λ (s : State). Answers serves keeps s line answer new) before now, refl)
  AnswersAll-more old (l ∷ lines) (a ∷ answers) mid line answer new before now =
      (before.0, before.1, AnswersAll-more before.0 lines answers mid line answer new before.2 now)
  AnswersAll-more old [] (a ∷ answers) mid line answer new before now = absurd before
  AnswersAll-more old (l ∷ lines) [] mid line answer new before now = absurd before

  -- so many lines of the input were taken and answered
  pub record HasServed (input left : Option (List ℕ)) (old new : State) (before after : Option (List ℕ)) (count : ℕ) : Type 0 where
    pub lines : List (List ℕ)
    pub answers : List (List ℕ)
    pub taken : AreTaken input left lines
    pub answered : AnswersAll serves keeps old lines answers new
    pub written : Appends before after (flat_map hex_line answers)
    pub counted : length lines ≡ count

  pub served_none : (input : Option (List ℕ)) (server : State) (w : Option (List ℕ)) → HasServed input input server server w w 0
  served_none input server w = record {
    lines = [];
    answers = [];
    taken = taken_none input;
    answered = refl;
    written = Appends-nil w;
    counted = refl;
  }

  pub served_more : (input left after : Option (List ℕ)) (old mid new : State) (w v u : Option (List ℕ)) (count : ℕ) (line answer : List ℕ)
      → HasServed input left old mid w v count → TakesLine [] left after line → Answers serves keeps mid line answer new
      → Appends v u (hex_line answer) → HasServed input after old new w u (count + 1)
  served_more input left after old mid new w v u count line answer has took now wrote = record {
    lines = has.lines ++ line ∷ [];
    answers = has.answers ++ answer ∷ [];
    taken = taken_more input left after has.lines line has.taken took;
    answered = AnswersAll-more old has.lines has.answers mid line answer new has.answered now;
    written = rw (flat_map-append hex_line has.answers (answer ∷ []))
        (rw (append-nil (hex_line answer)) (Appends-trans w v u (flat_map hex_line has.answers) (hex_line answer) has.written wrote));
    counted = omega (arith, length-append has.lines (line ∷ []), has.counted);
  }

  -- at the input's end all lines were answered
  pub served_all : (input left : Option (List ℕ)) (old mid new : State) (w v u : Option (List ℕ)) (count : ℕ)
      → HasServed input left old mid w v count → (new ≡ mid) × IsAtEnd left × (u ≡ v)
      → (lines : List (List ℕ)) × (answers : List (List ℕ)) × AreAllLines input lines
      × AnswersAll serves keeps old lines answers new × Appends w u (flat_map hex_line answers)
  served_all input left old mid new w v u count has turn = (
    has.lines,
    has.answers,
    taken_all input left has.lines has.taken turn.1,
    subst (λ (s : State). AnswersAll serves keeps old has.lines has.answers s) (sym turn.0) has.answered,
    subst (λ (o : Option (List ℕ)). Appends w o (flat_map hex_line has.answers)) (sym turn.2) has.written,
  )

  -- where the reader stops, the lines before were answered
  served_front : (Failed : Type 0) (asks : ℕ) (input left after : Option (List ℕ)) (old mid new : State) (w v u : Option (List ℕ)) (count : ℕ)
      → HasServed input left old mid w v count → (new ≡ mid) × (u ≡ v) → StaysInLine left after → Failed ⊎ (count ≡ asks)
      → (lines : List (List ℕ)) × (answers : List (List ℕ)) × AreAllBefore input after lines
      × AnswersAll serves keeps old lines answers new × Appends w u (flat_map hex_line answers) × (Failed ⊎ (length lines ≡ asks))
  served_front Failed asks input left after old mid new w v u count has turn stays why = (
    has.lines,
    has.answers,
    (left, has.taken, stays),
    subst (λ (s : State). AnswersAll serves keeps old has.lines has.answers s) (sym turn.0) has.answered,
    subst (λ (o : Option (List ℕ)). Appends w o (flat_map hex_line has.answers)) (sym turn.1) has.written,
    elim why [ inl failed ↦ inl failed | inr all ↦ inr (has.counted ∙ all) ],
  )

  pub served_all_asked : (Failed : Type 0) (asks : ℕ) (input left : Option (List ℕ)) (old mid : State) (w v : Option (List ℕ)) (count : ℕ)
      → HasServed input left old mid w v count → count ≡ asks
      → (lines : List (List ℕ)) × (answers : List (List ℕ)) × AreAllBefore input left lines
      × AnswersAll serves keeps old lines answers mid × Appends w v (flat_map hex_line answers) × (Failed ⊎ (length lines ≡ asks))
  served_all_asked Failed asks input left old mid w v count has all =
      served_front Failed asks input left left old mid mid w v v count has (refl, refl) (stays left) (inr all)

  pub stopped_reading : (Reader Writer : Type 0) (asks : ℕ) (stop : Stop) (input left after : Option (List ℕ)) (old mid new : State)
      (w v u : Option (List ℕ)) (count : ℕ) → HasServed input left old mid w v count
      → TakesTurn (Err stop) serves keeps mid new left after v u → HasFailed stop Reader Writer → stop ≡ Read
      → (lines : List (List ℕ)) × (answers : List (List ℕ)) × AreAllBefore input after lines
      × AnswersAll serves keeps old lines answers new × Appends w u (flat_map hex_line answers) × (Reader ⊎ (length lines ≡ asks))
  stopped_reading Reader Writer asks Read input left after old mid new w v u count has turn failed is =
      served_front Reader asks input left after old mid new w v u count has (turn.0, turn.1) turn.2 (inl failed)
  stopped_reading Reader Writer asks Write input left after old mid new w v u count has turn failed is = absurd (cc)

  -- where the writer fails, a front of the last answer's line is written
  pub stopped_writing : (Reader Writer : Type 0) (stop : Stop) (input left after : Option (List ℕ)) (old mid new : State)
      (w v u : Option (List ℕ)) (count : ℕ) → HasServed input left old mid w v count
      → TakesTurn (Err stop) serves keeps mid new left after v u → HasFailed stop Reader Writer → stop ≡ Write
      → (lines : List (List ℕ)) × (answers : List (List ℕ)) × AreFirstLines input lines
      × AnswersAll serves keeps old lines answers new × AppendsBroken w u answers × Writer
  stopped_writing Reader Writer Read input left after old mid new w v u count has turn failed is = absurd (cc)
  stopped_writing Reader Writer Write input left after old mid new w v u count has turn failed is =
      let line = turn.0 in
      let answer = turn.1 in
      let wrote = turn.4 in (
        has.lines ++ line ∷ [],
        has.answers ++ answer ∷ [],
        taken_first input after (has.lines ++ line ∷ []) (taken_more input left after has.lines line has.taken turn.2),
        AnswersAll-more old has.lines has.answers mid line answer new has.answered turn.3,
        (has.answers, answer, wrote.0, wrote.1, refl, wrote.2, Appends-trans w v u (flat_map hex_line has.answers) wrote.0 has.written wrote.3),
        failed,
      )
