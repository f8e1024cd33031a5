-- What a book answers (profile of this project).
use Rattle.std.specs.declared.alloc.Global.{Global}
use Rattle.std.specs.Prelude.{Vec, ◌≡◌, ◌≢◌, ◌⊎◌, ℕ, List, All, length, Result, Ok, Err, Some, slice_get, take}
use Rattle.cs_value.specs.declared.catalog.TableDef.{TableDef}
use Rattle.cs_store.specs.log.Log.{IsLog}
use Rattle.cs_store.specs.log.Stored.{AreEntriesOf}
use Rattle.cs_store.specs.declared.log.entry.LogEntry.{LogEntry}
use Rattle.cs_hub.specs.judgement.Judged.{hub_of}
use Rattle.cs_hub.specs.declared.judgement.fault.HubFault.TheVariants.{Device}
use Rattle.cs_wire.specs.Answers.{answer_spelling}
use Rattle.cs_wire.specs.declared.answer.Answer.TheVariants.{Short}
use Rattle.cs_wire.specs.declared.short_answer.ShortAnswer.TheVariants.{Refused}
use Rattle.cs_hub.specs.Follows.{FitsBehind}
use Rattle.cs_hub.specs.Refusals.{hub_code}
use Rattle.cs_hub.specs.Serves.{Serves}

-- the first entries that are known, as many as were taken, are a log that opened with these tables, and may be stored
pub record HasTaken (tables : List TableDef) (known : List LogEntry) (taken : ℕ) : Type 0 where
  pub is_log : IsLog tables (take taken known)
  pub fit : AreEntriesOf tables (take taken known)

-- the next entry doesn't fit behind those that were taken. It isn't one of the tables, or is larger than one may be, or a change of it
-- isn't defined on the tables there
pub record IsStuckAt (tables : List TableDef) (known : List LogEntry) (taken : ℕ) : Type 0 where
  pub front : HasTaken tables known taken
  pub entry : LogEntry
  pub here : slice_get known taken ≡ Some entry
  pub unfit : FitsBehind tables (take taken known) entry → ⊥

-- that is told by a code of its own, beside those of the hub
abbrev pub stuck_code : ℕ
stuck_code = 45

abbrev pub stuck_answer : List ℕ
stuck_answer = answer_spelling (Short (Refused stuck_code))

-- and that a device failed is told as a hub tells it
abbrev pub device_answer : List ℕ
device_answer = answer_spelling (Short (Refused (hub_code Device)))

module _ (limit : ℕ) (tables : List TableDef) (known : List LogEntry) (taken : ℕ) (request answer : List ℕ) where
  -- all that is known was taken, and it is the answer of the hub with this log, which stays as it is
  pub record AnswersAll : Type 0 where
    pub level : taken ≡ length known
    pub front : HasTaken tables known taken
    pub serves : Serves limit (hub_of tables known) request answer (hub_of tables known)

  -- or the next entry doesn't fit, and that is told, whatever was asked
  pub record AnswersStuck : Type 0 where
    pub stuck : IsStuckAt tables known taken
    pub told : answer ≡ stuck_answer

  -- the answer by the entries that are known
  abbrev pub AnswersKnown : Type 0
  AnswersKnown = AnswersAll ⊎ AnswersStuck

-- the same over a store whose device may fail: then that is told
abbrev pub AnswersOn : Type 0 → ℕ → List TableDef → List LogEntry → ℕ → List ℕ → List ℕ → Type 0
AnswersOn device_failed limit tables known taken request answer =
    AnswersKnown limit tables known taken request answer ⊎ (device_failed × (answer ≡ device_answer))

-- it is answered otherwise than that the device failed
abbrev pub IsAnswered : {E : Type 0} → Result (Vec ℕ Global) E → Type 0
IsAnswered (Ok answer) = answer.items ≢ device_answer
IsAnswered (Err fault) = ⊥
