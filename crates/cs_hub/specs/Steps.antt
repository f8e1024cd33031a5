-- What the code has found on its way: no definition that a public clause cites.
use Rattle.std.specs.Prelude.{◌≡◌, ◌⊎◌, ◌+◌, ◌<◌, ◌≤◌, ℕ, List, Result, Ok, Err}
use Rattle.cs_value.specs.declared.catalog.TableDef.{TableDef}
use Rattle.cs_store.specs.log.Stored.{IsEntryOf}
use Rattle.cs_store.specs.declared.log.entry.LogEntry.{LogEntry}
use Rattle.cs_store.specs.Contents.{Contents}
use Rattle.cs_store.specs.declared.store.RowStore.{Ghosts}
use Rattle.cs_hub.specs.log_store.Versions.{Versions, newest_tables}
use Rattle.cs_hub.specs.judgement.Hub.{HubState, with_entry}
use Rattle.cs_hub.specs.judgement.Judged.{hub_of}
use Rattle.cs_hub.specs.declared.judgement.fault.HubFault.TheVariants.{Device}
use Rattle.cs_hub.specs.declared.judgement.push.Judgement.{Judgement}
use Rattle.cs_hub.specs.declared.judgement.push.Judgement.TheVariants as judged
use Rattle.cs_hub.specs.declared.judgement.push.Pushed.TheVariants.{Accepted}
use Rattle.cs_wire.specs.Requests.{Asked}
use Rattle.cs_wire.specs.declared.fault.WireFault.{WireFault}
use Rattle.cs_wire.specs.declared.push_head.PushHead.{PushHead}
use Rattle.cs_hub.specs.Follows.{FitsBehind}
use Rattle.cs_hub.specs.judgement.Widens.{WidenAsked}
use Rattle.cs_hub.specs.Serves.{AnswersAsked, Outcome, TakesBytes, TakesWiden, refused}
use Rattle.cs_hub.specs.declared.judged.Judged.{Judged}
use Rattle.cs_hub.specs.declared.judged.Judged.TheVariants.{Reply, Append}
use Rattle.cs_hub.specs.declared.refusal.Refusal.{Refusal}
use Rattle.cs_hub.specs.declared.refusal.Refusal.TheVariants.{Memory, ByHub}

-- what becomes of the bytes of a push, or want of memory or a failed device, which change nothing
abbrev pub TakesBytesIf : Type 0 → ℕ → HubState → PushHead → List ℕ → Outcome → HubState → Type 0
TakesBytesIf device_failed limit old head changeset (Err Memory) new = new ≡ old
TakesBytesIf device_failed limit old head changeset (Err (ByHub Device)) new = device_failed × (new ≡ old)
TakesBytesIf device_failed limit old head changeset outcome new = TakesBytes limit old head changeset outcome new

-- the same of new columns
abbrev pub TakesWidenIf : Type 0 → ℕ → HubState → WidenAsked → Outcome → HubState → Type 0
TakesWidenIf device_failed limit old asked (Err Memory) new = new ≡ old
TakesWidenIf device_failed limit old asked (Err (ByHub Device)) new = device_failed × (new ≡ old)
TakesWidenIf device_failed limit old asked outcome new = TakesWiden limit old asked outcome new

-- the answer to what is asked, or a failed device, which changes nothing
abbrev pub AnswersAskedIf : Type 0 → ℕ → HubState → Result Asked WireFault → List ℕ → HubState → Type 0
AnswersAskedIf device_failed limit old asked answer new =
    AnswersAsked limit old asked answer new ⊎ (device_failed × (answer ≡ refused (ByHub Device)) × (new ≡ old))

-- what is to become of the bytes of a push: it is told so, and the hub stays as it is. Or it is accepted behind the newest version, once
-- the entry is appended
abbrev pub JudgesBytes : Type 0 → ℕ → HubState → PushHead → List ℕ → Result Judgement Refusal → Type 0
JudgesBytes device_failed limit old head changeset (Ok (judged.Told pushed)) = TakesBytes limit old head changeset (Ok pushed) old
JudgesBytes device_failed limit old head changeset (Ok (judged.Append entry batch)) =
    TakesBytes limit old head changeset (Ok (Accepted (head.base + 1))) (with_entry old entry)
JudgesBytes device_failed limit old head changeset (Err refusal) = TakesBytesIf device_failed limit old head changeset (Err refusal) old

-- what is to become of new columns, in the same way
abbrev pub JudgesWiden : Type 0 → ℕ → HubState → WidenAsked → Result Judgement Refusal → Type 0
JudgesWiden device_failed limit old asked (Ok (judged.Told pushed)) = TakesWiden limit old asked (Ok pushed) old
JudgesWiden device_failed limit old asked (Ok (judged.Append entry batch)) =
    TakesWiden limit old asked (Ok (Accepted (asked.base + 1))) (with_entry old entry)
JudgesWiden device_failed limit old asked (Err refusal) = TakesWidenIf device_failed limit old asked (Err refusal) old

-- what is to be appended is an entry of the tables, and was pushed so at the newest version; there is room for it
abbrev pub IsEntryToAppend : Versions → ℕ → PushHead → Judgement → Type 0
IsEntryToAppend versions limit head (judged.Told pushed) = Unit {0}
IsEntryToAppend versions limit head (judged.Append entry batch) =
    IsEntryOf (newest_tables versions) entry × (head.base ≡ versions.newest) × (versions.newest < limit)
    × (entry.origin ≡ head.origin) × (entry.number ≡ head.number)

-- what is asked is to be answered so
abbrev pub IsJudgedAs : Type 0 → ℕ → List TableDef → List LogEntry → Result Asked WireFault → Judged → Type 0
IsJudgedAs device_failed limit opening log asked (Reply answer) =
    AnswersAskedIf device_failed limit (hub_of opening log) asked answer.items (hub_of opening log)
IsJudgedAs device_failed limit opening log asked (Append entry batch reply) =
    FitsBehind opening log entry × AnswersAsked limit (hub_of opening log) asked reply.items (with_entry (hub_of opening log) entry)

-- a store was only read, whatever was told
pub record LooksAt {S : Type 0} (g : Ghosts S) (readable : Type 0) (old new : S) : Type 0 where
  pub was_honest : g.honest new → g.honest old
  pub same : g.honest new → g.contents new ≡ g.contents old
  pub crash : g.honest new → (left : Contents) → g.may_leave new left → g.may_leave old left
  pub later : g.failed old ≤ g.failed new
  pub as_read : g.honest new → readable → g.misreads new ≡ g.misreads old
