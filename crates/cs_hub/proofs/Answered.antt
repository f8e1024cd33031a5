-- What is answered, by the log that was shown.
use Rattle.std.proofs.Common.{◌≡◌, ◌-◌, ◌≤◌, ℕ, List, length, map, take, drop, Result, Ok, inl, inr, refl, ap, subst, ◌∙◌, min}
use Rattle.std.proofs.lemmas.List.{length-drop, take_min}
use Rattle.cs_value.specs.declared.catalog.TableDef.{TableDef}
use Rattle.cs_store.specs.declared.log.entry.LogEntry.{LogEntry}
use Rattle.cs_hub.specs.judgement.Hub.{entries_from}
use Rattle.cs_hub.specs.judgement.Judged.{hub_of}
use Rattle.cs_wire.specs.Answers.{answer_spelling}
use Rattle.cs_wire.specs.Requests.{Asked, AsksCatch, AsksPull, FitsRequest, ReadsRequest, asked_by, request_spelling}
use Rattle.cs_wire.specs.Told.{told_entry}
use Rattle.cs_wire.specs.declared.answer.Answer.TheVariants.{Entries}
use Rattle.cs_wire.specs.declared.fault.WireFault.{WireFault}
use Rattle.cs_wire.specs.declared.request.Request.{Request}
use Rattle.cs_hub.specs.Serves.{TellsCaught}
use Rattle.cs_hub.specs.Steps.{AnswersAskedIf}

-- so many entries, cut where the log ends
pub cut_entries : (log : List LogEntry) (first limit count : ℕ) → first ≤ length log → count ≡ min limit (length log - first) → take count (drop first log) ≡ entries_from first limit log
cut_entries log first limit count within is =
    let left : length (drop first log) ≡ length log - first = length-drop first log in
    let cut : count ≡ min limit (length (drop first log)) = rw left is in
    ap (λ (n : ℕ). take n (drop first log)) cut ∙ take_min limit (drop first log)

module _ (device_failed : Type 0) (limit : ℕ) (opening : List TableDef) (log : List LogEntry) where
  abbrev Answered : Result Asked WireFault → List ℕ → Type 0
  Answered asked answer = AnswersAskedIf device_failed limit (hub_of opening log) asked answer (hub_of opening log)

  -- what a replica catches up by
  pub caught_up : (asker first many : ℕ) (bytes : List ℕ) → first ≤ length log → TellsCaught (hub_of opening log) asker first many bytes → Answered (Ok (AsksCatch asker first many)) bytes
  caught_up asker first many bytes within told = inl (inr (within, told), refl)

  -- entries
  pub entries : (first many so_many : ℕ) (bytes : List ℕ) → first ≤ length log → so_many ≡ min many (length log - first)
      → bytes ≡ answer_spelling (Entries first (map told_entry (take so_many (drop first log)))) → Answered (Ok (AsksPull first many)) bytes
  entries first many so_many bytes within cut is =
      inl (inr (within, is ∙ ap (λ (es : List LogEntry). answer_spelling (Entries first (map told_entry es))) (cut_entries log first many so_many within cut)), refl)

-- a request that was read, told by its parts
pub read_as : (bytes : List ℕ) (read same : Request) → read ≡ same → FitsRequest (asked_by read) × (bytes ≡ request_spelling (asked_by read)) → ReadsRequest bytes (Ok (asked_by same))
read_as bytes read same is found = subst (λ (r : Request). ReadsRequest bytes (Ok (asked_by r))) is found
