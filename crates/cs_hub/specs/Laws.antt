-- The laws of what a hub answers.
use Rattle.std.specs.Prelude.{◌≡◌, ◌≢◌, ◌<◌, ◌-◌, ◌^◌, ℕ, List, [], ◌∷◌, ◌++◌, length}
use Rattle.cs_varint.specs.Bytes.{AreBytes}
use Rattle.cs_value.specs.Catalog.{AreTables}
use Rattle.cs_value.specs.declared.catalog.TableDef.{TableDef}
use Rattle.cs_lines.specs.Laws.{AreInMemory}
use Rattle.cs_lines.specs.Served.{AnswersAll}
use Rattle.cs_store.specs.declared.log.entry.LogEntry.{LogEntry}
use Rattle.cs_store.specs.Contents.{Contents, nothing}
use Rattle.cs_store.specs.declared.store.RowStore.{Ghosts}
use Rattle.cs_hub.specs.log_store.Shows.{ShowsLog}
use Rattle.cs_hub.specs.log_opening.Opens.{IsHubAt}
use Rattle.cs_hub.specs.judgement.Hub.{HubState, fresh}
use Rattle.cs_hub.specs.judgement.Judged.{hub_of}
use Rattle.cs_hub.specs.judgement.Laws.{IsOfHub}
use Rattle.cs_hub.specs.Calls.{AnswersHub, StaysHub}
use Rattle.cs_hub.specs.Holding.{Holding, Shows}
use Rattle.cs_hub.specs.Serves.{IsSame, Serves}
use Rattle.cs_wire.specs.Answers.{answer_spelling}
use Rattle.cs_wire.specs.declared.answer.Answer.TheVariants.{Short}
use Rattle.cs_wire.specs.declared.short_answer.ShortAnswer.TheVariants.{Stale}

-- what is opened shows the log that the store showed, or no entry where it held nothing
abbrev pub OpenedShows : Type 0
OpenedShows =
    (opening : List TableDef) (old new : Contents) (count : ℕ)
    → AreTables opening
    → IsHubAt opening old new count
    → (old ≡ nothing → ShowsLog opening new [] × (count ≡ 0))
    × ((log : List LogEntry) → ShowsLog opening old log → ShowsLog opening new log × (count ≡ length log))

-- a request has one answer, and leaves one hub: the catalog by which it is judged is one, since the hub's log is a log
abbrev pub OneService : Type 0
OneService =
    (limit : ℕ) (old new last : HubState) (request answer other : List ℕ)
    → IsOfHub old
    → Serves limit old request answer new
    → Serves limit old request other last
    → (answer ≡ other) × (new ≡ last)

-- what a hub answered it answers again, and then stays as it is
abbrev pub ServedAgain : Type 0
ServedAgain =
    (limit : ℕ) (old new : HubState) (request answer : List ℕ)
    → Serves limit old request answer new
    → Serves limit new request answer new

-- a request of which a hub would make the entry behind its log is told to be stale where another came there
abbrev pub StaleBehindAnother : Type 0
StaleBehindAnother =
    (limit : ℕ) (opening : List TableDef) (log more : List LogEntry) (entry held : LogEntry) (request answer : List ℕ)
    → Serves limit (hub_of opening log) request answer (hub_of opening (log ++ entry ∷ []))
    → held ≢ entry
    → Serves limit (hub_of opening (log ++ held ∷ more)) request (answer_spelling (Short (Stale (length (log ++ held ∷ more)))))
    (hub_of opening (log ++ held ∷ more))

-- lines that a new hub answers, none refused for want of memory, have one list of answers, and leave one hub
abbrev pub OneHubRun : ℕ → Type 0
OneHubRun limit =
    (tables : List TableDef) (new last : HubState) (lines ones others : List (List ℕ))
    → AreTables tables
    → AreInMemory ones
    → AreInMemory others
    → AnswersAll (Serves limit) IsSame (fresh tables) lines ones new
    → AnswersAll (Serves limit) IsSame (fresh tables) lines others last
    → (ones ≡ others) × (new ≡ last)

-- a request has an answer, whatever its bytes
abbrev pub RequestHasAnswer : Type 0
RequestHasAnswer =
    (limit : ℕ) (old : HubState) (request : List ℕ)
    → IsOfHub old
    → AreBytes request
    → (answer : List ℕ) × (new : HubState) × Serves limit old request answer new

-- lines over a store that never fails, but where what it gives was misread, are answered by the log that it showed. The store shows
-- the log after them
abbrev pub RunsByLog : {S : Type 0} → Ghosts S → Type 0
RunsByLog {S} g =
    (limit : ℕ) (old new : Holding S) (log : List LogEntry) (lines answers : List (List ℕ))
    → ((store : S) → g.failed store ≡ g.misreads store)
    → g.failed old.store < 2 ^ 64 - 1
    → g.honest new.store
    → Shows g.contents old log
    → AnswersAll (AnswersHub g limit) (StaysHub g) old lines answers new
    → (end : List LogEntry) × AnswersAll (Serves limit) IsSame (hub_of old.catalog log) lines answers (hub_of old.catalog end)
    × Shows g.contents new end
