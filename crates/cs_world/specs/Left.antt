-- What a stop may leave of the stores of a world, and what these show then (profile of this project).
use Rattle.std.specs.Prelude.{◌≡◌, ◌⊎◌, ◌<◌, ◌++◌, ℕ, List, Option, Some, slice_get, slice_set}
use Rattle.cs_value.specs.declared.catalog.TableDef.{TableDef}
use Rattle.cs_value.specs.declared.edit.Edit.{Edit}
use Rattle.cs_conflict.specs.declared.wish.Wish.{Wish}
use Rattle.cs_hub.specs.Serves.{ServesIf}
use Rattle.cs_hub.specs.judgement.Judged.{hub_of}
use Rattle.cs_store.specs.declared.log.entry.LogEntry.{LogEntry}
use Rattle.cs_hub.specs.log_store.Shows.{ShowsLog}
use Rattle.cs_replica.specs.Step.{IsEditedBy}
use Rattle.cs_replica.specs.Accepted.{IsAccepted}
use Rattle.cs_replica.specs.Holding as replica
use Rattle.cs_exchange.specs.pulling.Listed.{IsOneMoreIn}
use Rattle.cs_exchange.specs.pulling.Merged.{IsToldTaken}
use Rattle.cs_replica.specs.Answered.{IsForIt}
use Rattle.cs_pending.specs.position.Shows.{ShowsAt}
use Rattle.cs_pending.specs.declared.position.position.Position.{Position}
use Rattle.cs_exchange.specs.pushing.Pushes.{IsConfirmedIn, IsPushMadeIn}
use Rattle.cs_store.specs.Contents.{Contents}
use Rattle.cs_store.specs.declared.store.RowStore.{Ghosts}
use Rattle.cs_wire.specs.Entries.{ToldEntry}
use Rattle.cs_wire.specs.Requests.{Asked, request_spelling}
use Rattle.cs_wire.specs.declared.answer.Answer.TheVariants.{Entries, Merged, Short}
use Rattle.cs_wire.specs.declared.short_answer.ShortAnswer.TheVariants.{Accepted}
use Rattle.cs_conflict.specs.wish_list.Wished.{IsWished}
use Rattle.cs_world.specs.Headline.{Headline}
use Rattle.cs_world.specs.Holding.{AreHonest, Holding, StandsAt}
use Rattle.cs_world.specs.Sound.{IsSound}
use Rattle.cs_world.specs.Steps.{Step}
use Rattle.cs_world.specs.World.{IsMessage, IsRequest, Member, Sent, Tells, World}
use Rattle.cs_world.specs.declared.event.Event.{Event}
use Rattle.cs_world.specs.declared.event.Event.TheVariants.{Deliver, MakePush, OnEdit}
use Rattle.cs_world.specs.declared.outcome.Outcome.{Outcome}

-- ---- stores

-- whose store it is: the hub's, or that of the replica with this number
pub data Place : Type 0 where
  AtHub : Place
  AtReplica : (r : ℕ) → Place

-- what such a store keeps: the log, or the replica
abbrev pub Kept : Place → Type 0
Kept AtHub = List LogEntry
Kept (AtReplica r) = Member

-- what it keeps in a world; none where there is no such replica
abbrev pub kept_at : (place : Place) → World → Option (Kept place)
kept_at AtHub world = Some world.log
kept_at (AtReplica r) world = slice_get world.members r

-- the world in which it keeps this, and in which these messages were sent too
abbrev pub turned : (place : Place) → World → Kept place → List Sent → World
turned AtHub world log sent = record world { log = log; messages = world.messages ++ sent }
turned (AtReplica r) world member sent =
    record world { members = slice_set world.members r member; messages = world.messages ++ sent }

-- contents of such a store show that it keeps this; the hub opened with these tables
abbrev pub ShowsKept : List TableDef → (place : Place) → Contents → Kept place → Type 0
ShowsKept tables AtHub contents log = ShowsLog tables contents log
ShowsKept tables (AtReplica r) contents member = ShowsAt member.tables contents member.position member.view

-- contents that would be left where a request was served, by the log that was shown
abbrev pub IsServedBy : ℕ → List TableDef → List ℕ → Contents → Contents → Type 0
IsServedBy limit opening request old left =
    (log : List LogEntry) → ShowsLog opening old log
    → (answer : List ℕ) × (next : List LogEntry) × ServesIf (Unit {0}) limit (hub_of opening log) request answer (hub_of opening next)
    × ShowsLog opening left next

-- ---- what a failed commit may have left

-- what the commit of an event would have left in the store of replica number r, which has these tables. Where the event is a delivery,
-- that is of the message which reaches it
pub data WouldLeave (world : World) (r : ℕ) (tables : List TableDef) (position : Position) (old left : Contents) : Event → Type 0 where
  edited : {asked : Edit} → IsEditedBy tables asked position old left
      → WouldLeave world r tables position old left (OnEdit r asked)
  pushed : IsPushMadeIn tables position old left
      → WouldLeave world r tables position old left (MakePush r)
  confirmed : {k origin number version : ℕ} {wishes : List Wish}
      → IsMessage world k (Tells r (Short (Accepted origin number version)))
      → IsAccepted position origin number version → IsConfirmedIn tables position old left
      → WouldLeave world r tables position old left (Deliver k wishes)
  pulled : {k first : ℕ} {entries : List ToldEntry} {wishes : List Wish}
      → IsMessage world k (Tells r (Entries first entries))
      → IsOneMoreIn IsWished first entries tables position old wishes left
      → WouldLeave world r tables position old left (Deliver k wishes)
  merged : {k origin first next : ℕ} {changeset : List ℕ} {wishes : List Wish}
      → IsMessage world k (Tells r (Merged origin first next changeset))
      → IsForIt position origin first → first < next → IsToldTaken IsWished tables next changeset position wishes old left
      → WouldLeave world r tables position old left (Deliver k wishes)

-- of the hub's store, a request that was sent
pub record WouldServe (limit : ℕ) (world : World) (old left : Contents) : Type 0 where
  pub message : ℕ
  pub asked : Asked
  pub sent : IsRequest world message asked
  pub served : IsServedBy limit world.tables (request_spelling asked) old left

-- ---- what a stop leaves

module _ {S : Type 0} (g : Ghosts S) where
  -- replica number r has these tables, and stands at this position. A stop now leaves of its store what it holds, or what the commit of
  -- an event would have left
  abbrev pub LeavesReplica : World → ℕ → List TableDef → Position → S → Type 0
  LeavesReplica world r tables position store =
      (left : Contents) → g.may_leave store left
      → (left ≡ g.contents store) ⊎ ((event : Event) × WouldLeave world r tables position (g.contents store) left event)

  -- and of the hub's store what it holds, or that with a request served that was sent
  abbrev pub LeavesHub : ℕ → World → S → Type 0
  LeavesHub limit world store =
      (left : Contents) → g.may_leave store left → (left ≡ g.contents store) ⊎ WouldServe limit world (g.contents store) left

  -- so of each store of a world
  pub record Leaves (limit : ℕ) (world : World) (held : Holding S) : Type 0 where
    pub hub : LeavesHub limit world held.hub.store
    pub replicas : (r : ℕ) (one : replica.Holding S) → slice_get held.replicas r ≡ Some one → LeavesReplica world r one.catalog one.position one.store

  -- a stop now may leave this of the store there
  abbrev pub MayLeaveAt : Holding S → Place → Contents → Type 0
  MayLeaveAt held AtHub left = g.may_leave held.hub.store left
  MayLeaveAt held (AtReplica r) left =
      (one : replica.Holding S) × (slice_get held.replicas r ≡ Some one) × g.may_leave one.store left

-- ---- the headline, stops included

-- what was left of a store shows what it keeps in a sound world that has the headline, the other stores as they are. That is the world
-- before the stop, or a step leads there
pub record Survives (limit : ℕ) (world : World) (place : Place) (left : Contents) : Type 0 where
  pub kept : Kept place
  pub sent : List Sent
  pub shows : ShowsKept world.tables place left kept
  pub sound : IsSound limit (turned place world kept sent)
  pub headline : Headline (turned place world kept sent)
  pub by : (turned place world kept sent ≡ world)
      ⊎ ((event : Event) × (outcome : Outcome) × Step limit world event outcome (turned place world kept sent))

-- where the stores are honest, so is it of whatever a stop now leaves of one of them
abbrev pub StopsHaveHeadline : {S : Type 0} → Ghosts S → ℕ → Holding S → Type 0
StopsHaveHeadline g limit held =
    AreHonest g held → (world : World) → StandsAt g limit held world
    → (place : Place) (left : Contents) → MayLeaveAt g held place left → Survives limit world place left
