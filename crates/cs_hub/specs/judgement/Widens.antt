-- The hub's answer to a request that widens a table, and the log after it. (Profile of this project.)
use Rattle.std.specs.Prelude.{◌≡◌, ◌+◌, ◌<◌, ◌≤◌, ℕ, List, length, Some, Result, Ok, Err}
use Rattle.std.specs.List.{slice_get}
use Rattle.cs_store.specs.declared.log.body.Body.TheVariants.{Widen}
use Rattle.cs_store.specs.declared.log.entry.LogEntry.{LogEntry}
use Rattle.cs_store.specs.log.Entry.{MayWiden}
use Rattle.cs_store.specs.log.Stored.{IsEntryOf}
use Rattle.cs_hub.specs.appending.Versions.{Versions, newest_tables}
use Rattle.cs_hub.specs.judgement.Hub.{HubState, synced, with_entry}
use Rattle.cs_hub.specs.judgement.Pushes.{Case}
use Rattle.cs_hub.specs.declared.judgement.fault.HubFault.{HubFault}
use Rattle.cs_hub.specs.declared.judgement.fault.HubFault.TheVariants.{Memory, Ahead, Full, BadWiden, Device}
use Rattle.cs_hub.specs.declared.judgement.push.Judgement.{Judgement}
use Rattle.cs_hub.specs.declared.judgement.push.Judgement.TheVariants.{Told, Append}
use Rattle.cs_hub.specs.declared.judgement.push.Pushed.{Pushed}
use Rattle.cs_hub.specs.declared.judgement.push.Pushed.TheVariants.{Accepted, Stale}
use Rattle.cs_hub.specs.declared.judgement.widen.TheConstants.{WIDEN_ORIGIN}

-- on the tables of the first entries, as many as the base, this table is to have so many columns
pub record WidenAsked : Type 0 where
  pub number : ℕ
  pub base : ℕ
  pub table : List ℕ
  pub width : ℕ

-- the entry of the log that it becomes
abbrev pub entry_of_widen : WidenAsked → LogEntry
entry_of_widen asked = record { origin = WIDEN_ORIGIN; number = asked.number; body = Widen asked.table asked.width }

-- the entry at its base is this very one
abbrev pub IsWidenRepeat : List LogEntry → WidenAsked → Type 0
IsWidenRepeat log asked = slice_get log asked.base ≡ Some (entry_of_widen asked)

-- the table is there, and may get so many columns
abbrev pub CanGrow : HubState → WidenAsked → Type 0
CanGrow hub asked = MayWiden (synced hub) (Widen asked.table asked.width)

-- the answer and the hub after it, by the first guard that holds; the log has at most so many entries
abbrev pub Widens : ℕ → HubState → WidenAsked → Result Pushed HubFault → HubState → Type 0
Widens limit old asked answer new =
    Case (length old.log < asked.base) ((answer ≡ Err Ahead) × (new ≡ old))
    (Case (IsWidenRepeat old.log asked) ((answer ≡ Ok (Accepted (asked.base + 1))) × (new ≡ old))
    (Case (asked.base < length old.log) ((answer ≡ Ok (Stale (length old.log))) × (new ≡ old))
    (Case (limit ≤ length old.log) ((answer ≡ Err Full) × (new ≡ old))
    (Case (CanGrow old asked) ((answer ≡ Ok (Accepted (asked.base + 1))) × (new ≡ with_entry old (entry_of_widen asked)))
    ((answer ≡ Err BadWiden) × (new ≡ old))))))

-- the same, or want of memory or a failed device, which change nothing
abbrev pub WidensIf : ℕ → HubState → WidenAsked → Result Pushed HubFault → HubState → Type 0
WidensIf limit old asked (Err Memory) new = new ≡ old
WidensIf limit old asked (Err Device) new = new ≡ old
WidensIf limit old asked answer new = Widens limit old asked answer new

-- its answer, and the hub stays as it is. Or it is accepted behind the newest version, once the entry is appended
abbrev pub IsWidenJudgement : ℕ → HubState → WidenAsked → Result Judgement HubFault → Type 0
IsWidenJudgement limit old asked (Ok (Told pushed)) = Widens limit old asked (Ok pushed) old
IsWidenJudgement limit old asked (Ok (Append entry batch)) = Widens limit old asked (Ok (Accepted (asked.base + 1))) (with_entry old entry)
IsWidenJudgement limit old asked (Err fault) = WidensIf limit old asked (Err fault) old

-- nothing is to be appended
abbrev pub IsTold : Judgement → Type 0
IsTold (Told pushed) = Unit {0}
IsTold (Append entry batch) = ⊥

-- what is to be appended behind the log of these tables is the entry that it becomes, which is one of the newest. There is room
abbrev pub IsOfWiden : ℕ → Versions → WidenAsked → Judgement → Type 0
IsOfWiden limit versions asked (Told pushed) = Unit {0}
IsOfWiden limit versions asked (Append entry batch) =
    (entry ≡ entry_of_widen asked) × (asked.base ≡ versions.newest) × (versions.newest < limit) × IsEntryOf (newest_tables versions) entry
