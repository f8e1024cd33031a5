-- Lines that are answered over a store that doesn't fail are answered by the log that it shows.
use Rattle.std.proofs.Common.{◌≡◌, ℕ, ◌-◌, ◌<◌, ◌^◌, inl, inr, List, [], ◌∷◌, refl, sym, ap, subst, ◌∙◌, arith}
use Rattle.std.specs.Prelude.{Result, Ok, Err}
use Rattle.hex.specs.Hex.{decode_of}
use Rattle.hex.specs.declared.error.FromHexError.{FromHexError}
use Rattle.cs_value.specs.declared.catalog.TableDef.{TableDef}
use Rattle.cs_lines.specs.Served.{Answers, AnswersAll, AnswersDecoded, IsLeft}
use Rattle.cs_store.specs.declared.log.entry.LogEntry.{LogEntry}
use Rattle.cs_store.specs.Calls.{MoreFailures}
use Rattle.cs_store.specs.Contents.{Contents}
use Rattle.cs_store.specs.declared.store.RowStore.{Ghosts}
use Rattle.cs_hub.specs.log_store.Versions.{ShowsBy, Versions}
use Rattle.cs_hub.specs.judgement.Judged.{hub_of}
use Rattle.cs_hub.specs.Calls.{AnswersHub, StaysHub}
use Rattle.cs_hub.specs.Holding.{Holding, Shows, versions_of}
use Rattle.cs_hub.specs.Laws.{RunsByLog}
use Rattle.cs_hub.specs.Serves.{IsSame, Serves}
use Rattle.cs_hub.proofs.LogStoreLemmas.Versions.{versions_are}

no_more : (old new : ℕ) → new ≡ old → old < 2 ^ 64 - 1 → MoreFailures old new → ⊥
no_more old new same few more = omega (arith, same, few, more)

module _ {S : Type 0} (g : Ghosts S) where
  abbrev Serve : ℕ → Holding S → List ℕ → List ℕ → Holding S → Type 0
  Serve limit = AnswersHub g limit

  abbrev Stay : Holding S → Holding S → Type 0
  Stay = StaysHub g

  -- ---- a store that is honest after it was so before

  decoded_back : (limit : ℕ) (old new : Holding S) (decoded : Result (List ℕ) FromHexError) (answer : List ℕ) → AnswersDecoded (Serve limit) old decoded answer new → g.honest new.store → g.honest old.store
  decoded_back limit old new (Ok request) answer served h = served.was_honest h
  decoded_back limit old new (Err fault) answer (a, same) h = subst (λ (x : Holding S). g.honest x.store) same h

  left_back : (old new : Holding S) → IsLeft Stay old new → g.honest new.store → g.honest old.store
  left_back old new (inl same) h = subst (λ (x : Holding S). g.honest x.store) same h
  left_back old new (inr stays) h = stays.was_honest h

  answer_back : (limit : ℕ) (old new : Holding S) (line answer : List ℕ) → Answers (Serve limit) Stay old line answer new → g.honest new.store → g.honest old.store
  answer_back limit old new line answer (inl served) h = decoded_back limit old new (decode_of line) answer served h
  answer_back limit old new line answer (inr (a, left)) h = left_back old new left h

  all_back : (limit : ℕ) (old new : Holding S) (lines answers : List (List ℕ)) → AnswersAll (Serve limit) Stay old lines answers new → g.honest new.store → g.honest old.store
  all_back limit old new [] [] same h = subst (λ (x : Holding S). g.honest x.store) same h
  all_back limit old new [] (a ∷ answers) run h = absurd run
  all_back limit old new (line ∷ lines) [] run h = absurd run
  all_back limit old new (line ∷ lines) (a ∷ answers) (mid, here, rest) h =
      answer_back limit old mid line a here (all_back limit mid new lines answers rest h)

  -- ---- one line

  module _ (limit : ℕ) (only : (store : S) → g.failed store ≡ g.misreads store) where
    -- the hub shows the log after the line, of which the answer is, and its store hasn't failed
    record GoesOn (old : Holding S) (log : List LogEntry) (line answer : List ℕ) (new : Holding S) : Type 0 where
      next : List LogEntry
      answered : Answers (Serves limit) IsSame (hub_of old.catalog log) line answer (hub_of old.catalog next)
      shows : Shows g.contents new next
      catalog : new.catalog ≡ old.catalog
      failures : g.failed new.store ≡ g.failed old.store

    same_failures : (old new : Holding S) → g.misreads new.store ≡ g.misreads old.store → g.failed new.store ≡ g.failed old.store
    same_failures old new same = only new.store ∙ same ∙ sym (only old.store)

    stayed : (old new : Holding S) (log : List LogEntry) → new.catalog ≡ old.catalog → new.newest ≡ old.newest → new.widens ≡ old.widens → g.contents new.store ≡ g.contents old.store → Shows g.contents old log → Shows g.contents new log
    stayed old new log catalog newest widens same shows =
        subst (λ (v : Versions). ShowsBy v (g.contents new.store) log) (sym (versions_are (versions_of new) (versions_of old) catalog newest widens))
        (subst (λ (c : Contents). ShowsBy (versions_of old) c log) (sym same) shows)

    same_hub : (old new : Holding S) (log : List LogEntry) (line answer : List ℕ) → new ≡ old → Shows g.contents old log
        → Answers (Serves limit) IsSame (hub_of old.catalog log) line answer (hub_of old.catalog log) → GoesOn old log line answer new
    same_hub old new log line answer same shows is = record {
      next = log;
      answered = is;
      shows = subst (λ (x : Holding S). Shows g.contents x log) (sym same) shows;
      catalog = ap (λ (x : Holding S). x.catalog) same;
      failures = ap (λ (x : Holding S). g.failed x.store) same;
    }

    served_on : (old new : Holding S) (log : List LogEntry) (line request answer : List ℕ) → decode_of line ≡ Ok request → g.failed old.store < 2 ^ 64 - 1 → g.honest new.store → Shows g.contents old log
        → Serve limit old request answer new → GoesOn old log line answer new
    served_on old new log line request answer decoded few h shows served =
        let after = served.answered h log shows in
        let same = same_failures old new (served.as_read h log shows) in
        let right : Serves limit (hub_of old.catalog log) request answer (hub_of old.catalog after.0) =
        (elim after.1 [ inl is ↦ is | inr (more, a, s) ↦ absurd (no_more (g.failed old.store) (g.failed new.store) same few more) ]) in
        record {
          next = after.0;
          answered = inl (subst (λ (d : Result (List ℕ) FromHexError). AnswersDecoded (Serves limit) (hub_of old.catalog log) d answer (hub_of old.catalog after.0)) (sym decoded) right);
          shows = after.2;
          catalog = served.catalog;
          failures = same;
        }

    decoded_on : (old new : Holding S) (log : List LogEntry) (line answer : List ℕ) (decoded : Result (List ℕ) FromHexError) → decode_of line ≡ decoded → g.failed old.store < 2 ^ 64 - 1 → g.honest new.store → Shows g.contents old log
        → AnswersDecoded (Serve limit) old decoded answer new → GoesOn old log line answer new
    decoded_on old new log line answer (Ok request) is few h shows served = served_on old new log line request answer is few h shows served
    decoded_on old new log line answer (Err fault) is few h shows (a, same) =
        same_hub old new log line answer same shows (inl (subst (λ (d : Result (List ℕ) FromHexError). AnswersDecoded (Serves limit) (hub_of old.catalog log) d answer (hub_of old.catalog log)) (sym is) (a, refl)))

    goes_on : (old new : Holding S) (log : List LogEntry) (line answer : List ℕ) → g.failed old.store < 2 ^ 64 - 1 → g.honest new.store → Shows g.contents old log
        → Answers (Serve limit) Stay old line answer new → GoesOn old log line answer new
    goes_on old new log line answer few h shows (inl served) = decoded_on old new log line answer (decode_of line) refl few h shows served
    goes_on old new log line answer few h shows (inr (a, inl same)) = same_hub old new log line answer same shows (inr (a, inl refl))
    goes_on old new log line answer few h shows (inr (a, inr stays)) = record {
      next = log;
      answered = inr (a, inl refl);
      shows = stayed old new log stays.catalog stays.newest stays.widens (stays.same h) shows;
      catalog = stays.catalog;
      failures = same_failures old new (stays.as_read h log shows);
    }

  -- ---- all lines

  pub runs_by_log : RunsByLog g
  runs_by_log limit old new log [] [] only few h shows same = (log, refl, subst (λ (x : Holding S). Shows g.contents x log) (sym same) shows)
  runs_by_log limit old new log [] (a ∷ answers) only few h shows run = absurd run
  runs_by_log limit old new log (line ∷ lines) [] only few h shows run = absurd run
  runs_by_log limit old new log (line ∷ lines) (a ∷ answers) only few h shows (mid, here, rest) =
      let step = goes_on limit only old mid log line a few (all_back limit mid new lines answers rest h) shows here in
      let after = runs_by_log limit mid new step.next lines answers only (subst (λ (n : ℕ). n < 2 ^ 64 - 1) (sym step.failures) few) h step.shows rest in (
        after.0,
        (
          hub_of old.catalog step.next,
          step.answered,
          subst (λ (t : List TableDef). AnswersAll (Serves limit) IsSame (hub_of t step.next) lines answers (hub_of t after.0)) step.catalog after.1,
        ),
        after.2,
      )
