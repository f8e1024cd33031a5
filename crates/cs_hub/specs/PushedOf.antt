-- What a push over a store came to.
use Rattle.std.specs.Prelude.{◌≡◌, ◌⊎◌, ◌+◌, ℕ, List, Result, Ok}
use Rattle.cs_value.specs.declared.catalog.TableDef.{TableDef}
use Rattle.cs_store.specs.declared.log.entry.LogEntry.{LogEntry}
use Rattle.cs_store.specs.Contents.{Contents}
use Rattle.cs_hub.specs.log_store.Shows.{ShowsLog}
use Rattle.cs_hub.specs.log_store.Versions.{ShowsBy, Versions}
use Rattle.cs_hub.specs.appending.Appended.{IsAppendedIn}
use Rattle.cs_hub.specs.judgement.Judged.{hub_of}
use Rattle.cs_hub.specs.judgement.Pushes.{Push, Pushes, PushesIf, entry_of_push}
use Rattle.cs_hub.specs.declared.judgement.fault.HubFault.{HubFault}
use Rattle.cs_hub.specs.declared.judgement.push.Pushed.{Pushed}
use Rattle.cs_hub.specs.declared.judgement.push.Pushed.TheVariants.{Accepted}

-- the answer to a push by the log that was shown, and the log after it, of which this is said
abbrev pub IsPushedOf : ℕ → List TableDef → List LogEntry → Push → (List LogEntry → Type 0) → Result Pushed HubFault → Type 0
IsPushedOf limit opening log push shown result =
    (next : List LogEntry) × PushesIf limit (hub_of opening log) push result (hub_of opening next) × shown next

-- contents are as they were, or the push was appended. It is accepted then by the log that was shown, and the log
-- after it is shown
abbrev pub IsSameOrAppended : ℕ → Versions → Push → Contents → Contents → Type 0
IsSameOrAppended limit versions push old new =
    (new ≡ old)
    ⊎ (IsAppendedIn versions (entry_of_push push) old new
    × ((log : List LogEntry) → ShowsBy versions old log
    → (next : List LogEntry)
    × Pushes limit (hub_of versions.opening log) push (Ok (Accepted (push.head.base + 1))) (hub_of versions.opening next)
    × ShowsLog versions.opening new next))
