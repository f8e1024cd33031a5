-- The hub's answer to a push, and the log after it. (Profile of this project.)
use Rattle.std.specs.Prelude.{◌≡◌, ◌⊎◌, ◌+◌, ◌<◌, ◌≤◌, ℕ, List, [], length, Some, Result, Ok, Err}
use Rattle.std.specs.List.{slice_get}
use Rattle.cs_conflict.specs.declared.conflict.Conflict.{Conflict}
use Rattle.cs_normal.specs.State.{IsDefinedOn}
use Rattle.cs_normal.specs.declared.normal.TableChanges.{TableChanges}
use Rattle.cs_store.specs.declared.log.body.Body.TheVariants.{Changes}
use Rattle.cs_store.specs.declared.log.entry.LogEntry.{LogEntry}
use Rattle.cs_store.specs.log.Log.{state_of}
use Rattle.cs_hub.specs.appending.Appended.{IsFirstConflict}
use Rattle.cs_hub.specs.judgement.Hub.{HubState, synced, with_entry}
use Rattle.cs_hub.specs.declared.judgement.fault.HubFault.{HubFault}
use Rattle.cs_hub.specs.declared.judgement.fault.HubFault.TheVariants.{Memory, Ahead, Conflict as OnConflict, Empty, Full, Device}
use Rattle.cs_hub.specs.declared.judgement.push.Pushed.{Pushed}
use Rattle.cs_hub.specs.declared.judgement.push.Pushed.TheVariants.{Accepted, Stale}
use Rattle.cs_wire.specs.declared.push_head.PushHead.{PushHead}

-- a changeset that was made on the tables of the first entries, as many as its base
pub record Push : Type 0 where
  pub head : PushHead
  pub changes : List TableChanges

-- the entry of the log that a push becomes
abbrev pub entry_of_push : Push → LogEntry
entry_of_push push =
    record { origin = push.head.origin; number = push.head.number; body = Changes push.changes }

-- the entry at its base is this very push
abbrev pub IsRepeat : List LogEntry → Push → Type 0
IsRepeat log push = slice_get log push.head.base ≡ Some (entry_of_push push)

-- each of its changes is defined at its place on the tables that the log makes
abbrev pub CanFollow : HubState → Push → Type 0
CanFollow hub push = IsDefinedOn (synced hub) push.changes (state_of hub.log)

-- the first of its changes that isn't is told, with what stands at its place
abbrev pub TellsConflict : HubState → Push → Result Pushed HubFault → Type 0
TellsConflict hub push answer =
    (conflict : Conflict) × IsFirstConflict (synced hub) push.changes (state_of hub.log) conflict × (answer ≡ Err (OnConflict conflict))

-- a case of a table of guards: where its guard holds it decides, else the cases below do
abbrev pub Case : Type 0 → Type 0 → Type 0 → Type 0
Case guard decided below = (guard × decided) ⊎ ((guard → ⊥) × below)

-- the answer to a push and the hub after it, by the first guard that holds; the log has at most so many entries
abbrev pub Pushes : ℕ → HubState → Push → Result Pushed HubFault → HubState → Type 0
Pushes limit old push answer new =
    Case (push.changes ≡ []) ((answer ≡ Err Empty) × (new ≡ old))
    (Case (length old.log < push.head.base) ((answer ≡ Err Ahead) × (new ≡ old))
    (Case (IsRepeat old.log push) ((answer ≡ Ok (Accepted (push.head.base + 1))) × (new ≡ old))
    (Case (push.head.base < length old.log) ((answer ≡ Ok (Stale (length old.log))) × (new ≡ old))
    (Case (limit ≤ length old.log) ((answer ≡ Err Full) × (new ≡ old))
    (Case (CanFollow old push) ((answer ≡ Ok (Accepted (push.head.base + 1))) × (new ≡ with_entry old (entry_of_push push)))
    (TellsConflict old push answer × (new ≡ old)))))))

-- the same, or want of memory or a failed device, which change nothing
abbrev pub PushesIf : ℕ → HubState → Push → Result Pushed HubFault → HubState → Type 0
PushesIf limit old push (Err Memory) new = new ≡ old
PushesIf limit old push (Err Device) new = new ≡ old
PushesIf limit old push answer new = Pushes limit old push answer new
