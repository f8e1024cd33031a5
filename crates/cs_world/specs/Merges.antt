-- How a replica pulls the entries of the log, one by one or taken together. They are merged with its own rows over the log's
-- tables. (Profile of this project.)
use Rattle.std.specs.Prelude.{◌≡◌, ◌⊎◌, ◌+◌, ℕ, zero, suc, List, [], ◌∷◌, Some, None, Contains, slice_get}
use Rattle.cs_value.specs.declared.catalog.TableDef.{TableDef}
use Rattle.cs_tasks.specs.Tasks.{tasks}
use Rattle.cs_change.specs.Action.{action_any}
use Rattle.cs_change.specs.Net.{net}
use Rattle.cs_conflict.specs.declared.conflict.Resolution.{Resolution}
use Rattle.cs_conflict.specs.declared.wish.Wish.{Wish}
use Rattle.cs_store.specs.log.Log.{catalog_at, tables_at}
use Rattle.cs_store.specs.declared.log.body.Body.{Body}
use Rattle.cs_store.specs.declared.log.body.Body.TheVariants.{Changes, Widen}
use Rattle.cs_store.specs.declared.log.entry.LogEntry.{LogEntry}
use Rattle.cs_normal.specs.State.{AreSame}
use Rattle.cs_widening.specs.Widening.{widened}
use Rattle.cs_hub.specs.catching.Told.{AreOthersAsOne}
use Rattle.cs_replica.specs.Same.{IsSameMember, IsSameView}
use Rattle.cs_normal.specs.Normal.{change_of, groups_of}
use Rattle.cs_normal.specs.declared.normal.TableChanges.{TableChanges}
use Rattle.cs_pending.specs.View.{View}
use Rattle.cs_pending.specs.declared.position.position.Position.{Position}
use Rattle.cs_exchange.specs.pulling.Pulls.{IsOwn}
use Rattle.cs_exchange.specs.declared.pulling.fault.AnswerFault.{AnswerFault}
use Rattle.cs_exchange.specs.declared.pulling.fault.AnswerFault.TheVariants as fault
use Rattle.cs_rebaser.specs.Merge.{merge}
use Rattle.cs_replica.specs.declared.told.Told.{Told}
use Rattle.cs_replica.specs.declared.told.Told.TheVariants as what
use Rattle.cs_exchange.specs.taking.Takes.{TakeAll, taken}
use Rattle.cs_conflict.specs.wish_list.Wished.{IsWished}
use Rattle.cs_wire.specs.Entries.{ToldEntry}
use Rattle.cs_wire.specs.declared.answer.Answer.TheVariants.{Entries, Merged}
use Rattle.cs_world.specs.Steps.{Step}
use Rattle.cs_world.specs.World.{IsMember, IsMessage, Member, Tells, World}
use Rattle.cs_world.specs.declared.event.Event.{Event}
use Rattle.cs_world.specs.declared.event.Event.TheVariants.{Deliver}
use Rattle.cs_world.specs.declared.outcome.Outcome.{Outcome}
use Rattle.cs_world.specs.declared.outcome.Outcome.TheVariants.{Done, Heard, Memory, NoMessage, NoReplica, NotEdited, NotHeard, NotPushed, NotReloaded, Sent}

-- at each place the own row has become a three-way merge of the log's rows at the two versions and itself. At the places of the changes
-- from the one version to the other the merges go in order, by the wishes for their conflicts. Each other own row is as it was
pub record IsMerged (world : World) (from to : ℕ) (changes : List TableChanges) (before after : View) (wishes unused : List Wish) : Type 0 where
  pub each : (name key : List ℕ) → (answer : Resolution)
      × (after.tables name key ≡ merge answer (tables_at world.log from name key) (before.tables name key) (tables_at world.log to name key))
  pub by_wishes : TakeAll IsWished (tables_at world.log from) before.tables (tables_at world.log to) after.tables
      (tasks (catalog_at world.tables world.log from) (groups_of changes)) wishes unused
  pub others : (name key : List ℕ) → change_of name key changes ≡ None → after.tables name key ≡ before.tables name key

-- what is pending is the net change from the log's tables at a version to the own rows
abbrev pub IsPendingFrom : World → ℕ → View → Type 0
IsPendingFrom world version view =
    (table : TableDef) (key : List ℕ) → Contains (catalog_at world.tables world.log version) table
    → action_any (view.pending table.name key) ≡ net table.key_marks (tables_at world.log version table.name key) (view.tables table.name key)

-- ---- one by one

-- the entry is the push that was under way: the own rows are as they were, and no wish is used
pub record IsConfirmed (position : Position) (entry : LogEntry) (before after : View) (wishes unused : List Wish) : Type 0 where
  pub own : IsOwn position entry
  pub rows : after ≡ before
  pub unasked : unused ≡ wishes

-- the entry widened a table: the own rows have its columns, nobody was asked, and no wish is used
pub record IsWidenedTo (table : List ℕ) (width : ℕ) (before after : View) (wishes unused : List Wish) : Type 0 where
  pub rows : AreSame (widened table width before.tables) after.tables
  pub unasked : unused ≡ wishes

-- what the entry at a version does was taken: its changes were merged, or it widened a table
abbrev pub TakesBody : World → ℕ → Body → View → View → List Wish → List Wish → Type 0
TakesBody world version (Changes changes) before after wishes unused =
    IsMerged world version (version + 1) changes before after wishes unused
TakesBody world version (Widen table width) before after wishes unused = IsWidenedTo table width before after wishes unused

-- the log's entry at the replica's version was pulled: it is the replica's own, or was taken
pub record PullsEntry (world : World) (position : Position) (before after : View) (wishes unused : List Wish) : Type 0 where
  pub entry : LogEntry
  pub there : slice_get world.log position.version ≡ Some entry
  pub pulled : IsConfirmed position entry before after wishes unused
      ⊎ ((IsOwn position entry → ⊥) × TakesBody world position.version entry.body before after wishes unused)
  pub pending : IsPendingFrom world (position.version + 1) after

-- so many entries were, one behind another
abbrev pub PullEntries : World → ℕ → Position → View → List Wish → Position → View → List Wish → Type 0
PullEntries world zero position before wishes other after unused = (other ≡ position) × (after ≡ before) × (unused ≡ wishes)
PullEntries world (suc count) position before wishes other after unused =
    (pending : ℕ) × (next : View) × (between : List Wish)
    × PullsEntry world position before next wishes between
    × PullEntries world count (taken position pending) next between other after unused

-- so many make the one replica of the other
pub record PullsAsMerges (world : World) (count : ℕ) (wishes : List Wish) (before after : Member) : Type 0 where
  pub end : View
  pub unused : List Wish
  pub pulls : PullEntries world count before.position before.view wishes after.position end unused
  pub same : IsSameView after.tables end after.view

-- ---- taken together

-- entries of others from the replica's version on, so many, were taken together: they were merged, and it stands behind them
pub record TakesMerged (world : World) (next count : ℕ) (changeset : List ℕ) (wishes : List Wish) (before after : Member) : Type 0 where
  pub told : AreOthersAsOne (catalog_at world.tables world.log before.position.version) world.log before.position.id before.position.version next changeset
  pub moved : after.position.version ≡ next
  pub all : next ≡ before.position.version + count
  pub end : View
  pub unused : List Wish
  pub merged : IsMerged world before.position.version next told.changes before.view end wishes unused
  pub pending : IsPendingFrom world next end
  pub same : IsSameView before.tables end after.view

-- so many were, or none: then it is as it was
abbrev pub CatchesAsMerge : World → ℕ → ℕ → List ℕ → List Wish → Member → Member → Type 0
CatchesAsMerge world next zero changeset wishes before after = IsSameMember before after
CatchesAsMerge world next (suc count) changeset wishes before after = TakesMerged world next (suc count) changeset wishes before after

-- ---- how many entries an outcome tells

abbrev pub count_in_fault : AnswerFault → ℕ
count_in_fault (fault.Memory count) = count
count_in_fault (fault.Device count) = count
count_in_fault (fault.BadEntry count) = count

abbrev pub count_in_told : Told → ℕ
count_in_told (what.Confirmed version) = 0
count_in_told what.Ignored = 0
count_in_told (what.Stale newest) = 0
count_in_told (what.Refused code) = 0
count_in_told (what.Taken count) = count
count_in_told (what.Stopped count) = count

abbrev pub count_in : Outcome → ℕ
count_in Done = 0
count_in (Sent number) = 0
count_in (Heard told) = count_in_told told
count_in NoReplica = 0
count_in NoMessage = 0
count_in (NotEdited why) = 0
count_in (NotPushed why) = 0
count_in (NotHeard why) = count_in_fault why
count_in (NotReloaded why) = 0
count_in Memory = 0

-- ---- each event

-- where the event hands entries to a replica, these are pulled as merges of the log's tables with its own rows
abbrev pub StepMerges : World → Event → Outcome → World → Type 0
StepMerges old event outcome new =
    (k r first : ℕ) (entries : List ToldEntry) (wishes : List Wish) (before after : Member)
    → event ≡ Deliver k wishes
    → IsMessage old k (Tells r (Entries first entries))
    → IsMember old r before
    → IsMember new r after
    → PullsAsMerges old (count_in outcome) wishes before after

-- where it hands entries to it that were taken together, these are merged at once, or none is
abbrev pub StepCatches : World → Event → Outcome → World → Type 0
StepCatches old event outcome new =
    (k r origin first next : ℕ) (changeset : List ℕ) (wishes : List Wish) (before after : Member)
    → event ≡ Deliver k wishes
    → IsMessage old k (Tells r (Merged origin first next changeset))
    → IsMember old r before
    → IsMember new r after
    → CatchesAsMerge old next (count_in outcome) changeset wishes before after

-- so does each of the events, where they make their steps one behind another
abbrev pub EachMerges : ℕ → World → List Event → List Outcome → Type 0
EachMerges limit old [] outcomes = Unit {0}
EachMerges limit old (event ∷ events) [] = Unit {0}
EachMerges limit old (event ∷ events) (outcome ∷ outcomes) =
    (between : World) → Step limit old event outcome between
    → StepMerges old event outcome between × StepCatches old event outcome between × EachMerges limit between events outcomes
