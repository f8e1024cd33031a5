-- What was answered over a store that comes back, from its parts.
use Rattle.std.proofs.Common.{◌≡◌, inl, inr, ℕ, ◌<◌, ◌-◌, ◌^◌, List, [], ◌∷◌, Ok, length, refl, sym, subst}
use Rattle.std.specs.Prelude.{◌⊎◌, Option, Result, Err, flat_map}
use Rattle.std.specs.Io.KnownBytes.{Appends}
use Rattle.hex.specs.Hex.{decode_of}
use Rattle.hex.specs.declared.error.FromHexError.{FromHexError}
use Rattle.cs_hub.specs.Calls.{AnswersHub, StaysHub}
use Rattle.cs_hub.specs.Holding.{Holding}
use Rattle.cs_hub.specs.Laws.{RunsByLog}
use Rattle.cs_hub.specs.Serves.{IsSame, Serves}
use Rattle.cs_store.specs.declared.log.entry.TheConstants.{MAX_ENTRIES}
use Rattle.cs_hub.specs.judgement.Judged.{hub_of}
use Rattle.cs_lines.specs.Lines.{hex_line}
use Rattle.cs_lines.specs.Reading.{AreAllBefore}
use Rattle.cs_lines.specs.Served.{Answers, AnswersAll, AnswersDecoded, AreAllLines, AreFirstLines}
use Rattle.cs_lines.specs.Writing.{AppendsBroken}
use Rattle.cs_lines.specs.declared.serve.Stop.{Stop}
use Rattle.cs_lines.specs.declared.serve.Stop.TheVariants as stopped
use Rattle.cs_lines.specs.declared.serve.TheConstants.{ASKS}
use Rattle.cs_store.specs.declared.store.RowStore.{Ghosts}
use Rattle.cs_value.specs.declared.catalog.TableDef.{TableDef}
use Rattle.cs_node_lines.specs.hub.Endings.{AnsweredOver, EndsServingOn, IsOpenedOver, of_stop}

-- a hub that is honest behind an answer was so before it
decoded_honest : {S : Type 0} (g : Ghosts S) (request : Result (List ℕ) FromHexError) (answer : List ℕ) (old new : Holding S)
    → AnswersDecoded (AnswersHub g MAX_ENTRIES) old request answer new → g.honest new.store → g.honest old.store
decoded_honest g (Ok request) answer old new is honest = is.was_honest honest
decoded_honest {S} g (Err fault) answer old new is honest = subst (λ (h : Holding S). g.honest h.store) is.1 honest

answer_honest : {S : Type 0} (g : Ghosts S) (line answer : List ℕ) (old new : Holding S)
    → Answers (AnswersHub g MAX_ENTRIES) (StaysHub g) old line answer new → g.honest new.store → g.honest old.store
answer_honest g line answer old new (inl is) honest = decoded_honest g (decode_of line) answer old new is honest
answer_honest {S} g line answer old new (inr (told, inl same)) honest = subst (λ (h : Holding S). g.honest h.store) same honest
answer_honest g line answer old new (inr (told, inr stays)) honest = stays.was_honest honest

-- and so before all of them
answers_honest : {S : Type 0} (g : Ghosts S) (lines answers : List (List ℕ)) (first end : Holding S)
    → AnswersAll (AnswersHub g MAX_ENTRIES) (StaysHub g) first lines answers end → g.honest end.store → g.honest first.store
answers_honest {S} g [] [] first end same honest = subst (λ (h : Holding S). g.honest h.store) same honest
answers_honest g (line ∷ lines) (answer ∷ answers) first end (mid, one, more) honest =
    answer_honest g line answer first mid one (answers_honest g lines answers mid end more honest)
answers_honest g [] (answer ∷ answers) first end none honest = absurd none
answers_honest g (line ∷ lines) [] first end none honest = absurd none

module _ {S : Type 0} (g : Ghosts S) (tables : List TableDef)
    (law : RunsByLog g) (store last : S) (first end : Holding S)
    (opened : IsOpenedOver g tables store first) (left : last ≡ end.store) where
  abbrev Answered : List (List ℕ) → List (List ℕ) → Type 0
  Answered lines answers =
      AnswersAll (AnswersHub g MAX_ENTRIES) (StaysHub g) first lines answers end

  answered_over : (lines answers : List (List ℕ)) → Answered lines answers → AnsweredOver g tables store last lines answers
  answered_over lines answers all = record {
    first = first;
    end = end;
    opened = opened;
    answered = all;
    left = left;
    was_honest = λ honest. opened.was_honest (answers_honest g lines answers first end all (subst g.honest left honest));
    by_log = λ only few h log shows.
        let run = law MAX_ENTRIES first end log lines answers only (subst (λ (n : ℕ). n < 2 ^ 64 - 1) (sym opened.kept) few) (subst g.honest left h) shows all in
        (run.0, subst (λ (t : List TableDef). AnswersAll (Serves MAX_ENTRIES) IsSame (hub_of t log) lines answers (hub_of t run.0)) opened.tables_are run.1, run.2);
  }

  pub all_answered : (input old new : Option (List ℕ))
      → (lines : List (List ℕ)) × (answers : List (List ℕ)) × AreAllLines input lines × Answered lines answers × Appends old new (flat_map hex_line answers)
      → (lines : List (List ℕ)) × (answers : List (List ℕ)) × AreAllLines input lines
      × AnsweredOver g tables store last lines answers × Appends old new (flat_map hex_line answers)
  all_answered input old new (lines, answers, all, answered, appends) = (lines, answers, all, answered_over lines answers answered, appends)

  pub broken_off : (input rest old new : Option (List ℕ)) (read_failed write_failed : Type 0) (stop : Stop)
      → (stop ≡ stopped.Read → (lines : List (List ℕ)) × (answers : List (List ℕ)) × AreAllBefore input rest lines × Answered lines answers
      × Appends old new (flat_map hex_line answers) × (read_failed ⊎ (length lines ≡ ASKS)))
      → (stop ≡ stopped.Write → (lines : List (List ℕ)) × (answers : List (List ℕ)) × AreFirstLines input lines × Answered lines answers
      × AppendsBroken old new answers × write_failed)
      → EndsServingOn g tables store last input rest read_failed write_failed old new (Err (of_stop stop))
  broken_off input rest old new read_failed write_failed stopped.Read read write =
      let (lines, answers, before, answered, appends, why) = read refl in (lines, answers, before, answered_over lines answers answered, appends, why)
  broken_off input rest old new read_failed write_failed stopped.Write read write =
      let (lines, answers, front, answered, broken, failed_so) = write refl in (lines, answers, front, answered_over lines answers answered, broken, failed_so)
