-- A push that is judged over the store of a hub, and not yet taken. (Profile of this project.)
use Rattle.std.specs.Prelude.{◌≡◌, ◌+◌, ◌<◌, ℕ, List, Result, Ok, Err}
use Rattle.cs_value.specs.declared.catalog.TableDef.{TableDef}
use Rattle.cs_store.specs.declared.log.entry.LogEntry.{LogEntry}
use Rattle.cs_store.specs.Contents.{Contents}
use Rattle.cs_hub.specs.appending.Versions.{Versions}
use Rattle.cs_hub.specs.appending.Appended.{AppendsEntry}
use Rattle.cs_hub.specs.judgement.Hub.{HubState, with_entry}
use Rattle.cs_hub.specs.judgement.Pushes.{Push, Pushes, PushesIf, entry_of_push}
use Rattle.cs_hub.specs.declared.judgement.fault.HubFault.{HubFault}
use Rattle.cs_hub.specs.declared.judgement.push.Judgement.{Judgement}
use Rattle.cs_hub.specs.declared.judgement.push.Judgement.TheVariants.{Told, Append}
use Rattle.cs_hub.specs.declared.judgement.push.Pushed.TheVariants.{Accepted}

-- the hub that opened with these tables and has this log
abbrev pub hub_of : List TableDef → List LogEntry → HubState
hub_of opening log = record { opening = opening; log = log }

-- its answer: it is told so, and the hub stays as it is. Or it is accepted behind the newest version, once the entry is appended
abbrev pub IsJudgement : ℕ → HubState → Push → Result Judgement HubFault → Type 0
IsJudgement limit old push (Ok (Told pushed)) = Pushes limit old push (Ok pushed) old
IsJudgement limit old push (Ok (Append entry batch)) = Pushes limit old push (Ok (Accepted (push.head.base + 1))) (with_entry old entry)
IsJudgement limit old push (Err fault) = PushesIf limit old push (Err fault) old

-- what is to be appended behind so many entries is the entry that the push becomes, which was made on the tables there. There is room
abbrev pub IsOfPush : ℕ → ℕ → Push → Judgement → Type 0
IsOfPush limit count push (Told pushed) = Unit {0}
IsOfPush limit count push (Append entry batch) = (entry ≡ entry_of_push push) × (push.head.base ≡ count) × (count < limit)

-- a commit of its batch appends it
abbrev pub CanBeAppended : Versions → Contents → Judgement → Type 0
CanBeAppended versions contents (Told pushed) = Unit {0}
CanBeAppended versions contents (Append entry batch) = AppendsEntry versions entry contents batch
