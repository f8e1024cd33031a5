-- What calls of a hub over a store leave of it, and what they tell (profile of this project).
use Rattle.std.specs.declared.alloc.Global.{Global}
use Rattle.std.specs.Prelude.{Vec, ◌≡◌, ◌⊎◌, ◌<◌, ◌≤◌, ℕ, List, length, Result, Ok, Err}
use Rattle.cs_store.specs.declared.log.entry.LogEntry.{LogEntry}
use Rattle.cs_store.specs.Calls.{MoreFailures}
use Rattle.cs_store.specs.Contents.{Contents}
use Rattle.cs_store.specs.declared.store.RowStore.{Ghosts}
use Rattle.cs_hub.specs.appending.Appended.{IsAppendedIn}
use Rattle.cs_hub.specs.judgement.Judged.{hub_of}
use Rattle.cs_hub.specs.declared.judgement.fault.HubFault.{HubFault}
use Rattle.cs_hub.specs.declared.judgement.fault.HubFault.TheVariants.{Memory, Ahead, Device}
use Rattle.cs_hub.specs.log_store.Shows.{ShowsLog}
use Rattle.cs_hub.specs.log_store.Versions.{ShowsBy, Versions}
use Rattle.cs_hub.specs.Holding.{Holding, Shows}
use Rattle.cs_hub.specs.Serves.{ServesIf, refused}
use Rattle.cs_hub.specs.declared.refusal.Refusal.TheVariants.{ByHub}

-- why entries aren't told
abbrev pub IsEntriesFault : List LogEntry → ℕ → HubFault → Type 0
IsEntriesFault log first Memory = Unit {0}
IsEntriesFault log first Ahead = length log < first
IsEntriesFault log first Device = Unit {0}
IsEntriesFault log first _ = ⊥

-- contents are as they were, or have one entry more
abbrev pub IsSameOrGrown : Versions → Contents → Contents → Type 0
IsSameOrGrown versions old new = (new ≡ old) ⊎ ((entry : LogEntry) × IsAppendedIn versions entry old new)

-- contents of a hub's store in which a request was served, by the log that was shown
abbrev pub IsServedIn : ℕ → Versions → List ℕ → Contents → Contents → Type 0
IsServedIn limit versions request old left =
    (log : List LogEntry) → ShowsBy versions old log
    → (answer : List ℕ) × (next : List LogEntry)
    × ServesIf (Unit {0}) limit (hub_of versions.opening log) request answer (hub_of versions.opening next)
    × ShowsLog versions.opening left next

-- it wasn't served: memory was refused, or it is told that the device failed
abbrev pub IsNotServed : {E : Type 0} → Result (Vec ℕ Global) E → Type 0
IsNotServed (Ok answer) = answer.items ≡ refused (ByHub Device)
IsNotServed (Err fault) = Unit {0}

-- `readable` says that what is read there is what its places say
module _ {S : Type 0} (g : Ghosts S) where
  -- a request was served, whatever was told: the store was only read, or one entry was appended, in one commit; `served` is what is said of
  -- contents in which the request was served
  pub record ServesStore {E : Type 0} (versions : Versions) (readable : Type 0) (served : Contents → Type 0) (old new : S) (result : Result (Vec ℕ Global) E) : Type 0 where
    pub was_honest : g.honest new → g.honest old
    pub grown : g.honest new → IsSameOrGrown versions (g.contents old) (g.contents new)
    -- where it wasn't served nothing has changed
    pub err : g.honest new → IsNotServed result → g.contents new ≡ g.contents old
    -- where it was, a stop leaves what the store holds, alone, where anything was written
    pub durable : g.honest new → (IsNotServed result → ⊥) → (left : Contents) → g.may_leave new left
        → (left ≡ g.contents new) ⊎ (g.may_leave old left × (g.contents new ≡ g.contents old))
    -- in any case a stop leaves what it could leave before, or one entry more. Of a store that shows a log, that is the one with which this
    -- request was served
    pub crash : g.honest new → (left : Contents) → g.may_leave new left
        → g.may_leave old left ⊎ (IsSameOrGrown versions (g.contents old) left × (readable → served left))
    pub later : g.failed old ≤ g.failed new
    -- nothing that can be read is told to be no such thing
    pub as_read : g.honest new → readable → g.misreads new ≡ g.misreads old

  -- the hub answered a request: by the log that its store showed, and the store shows the log after it
  pub record AnswersHub (limit : ℕ) (old : Holding S) (request answer : List ℕ) (new : Holding S) : Type 0 where
    pub was_honest : g.honest new.store → g.honest old.store
    pub catalog : new.catalog ≡ old.catalog
    pub answered : g.honest new.store → (log : List LogEntry) → Shows g.contents old log
        → (next : List LogEntry) × ServesIf (MoreFailures (g.failed old.store) (g.failed new.store)) limit (hub_of old.catalog log) request answer (hub_of old.catalog next)
        × Shows g.contents new next
    pub as_read : g.honest new.store → (log : List LogEntry) → Shows g.contents old log → g.misreads new.store ≡ g.misreads old.store

  -- memory was refused, and the hub is as it was
  pub record StaysHub (old new : Holding S) : Type 0 where
    pub was_honest : g.honest new.store → g.honest old.store
    pub catalog : new.catalog ≡ old.catalog
    pub newest : new.newest ≡ old.newest
    pub widens : new.widens ≡ old.widens
    pub same : g.honest new.store → g.contents new.store ≡ g.contents old.store
    pub as_read : g.honest new.store → (log : List LogEntry) → Shows g.contents old log → g.misreads new.store ≡ g.misreads old.store
