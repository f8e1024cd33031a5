-- The headline: what is so of every world that began with nothing, after whatever happened in it (profile of this project).
use Rattle.std.specs.Prelude.{◌≡◌, ◌≢◌, ◌<◌, ◌≤◌, ℕ, List, Contains, length, Some, None, slice_get}
use Rattle.cs_value.specs.declared.catalog.TableDef.{TableDef}
use Rattle.cs_change.specs.Action.{action_any, after_any}
use Rattle.cs_store.specs.log.Log.{catalog_at, tables_at}
use Rattle.cs_store.specs.declared.log.entry.LogEntry.{LogEntry}
use Rattle.cs_normal.specs.State.{State, IsApplied}
use Rattle.cs_pending.specs.View.{Changed}
use Rattle.cs_pending.specs.position.Shows.{flown}
use Rattle.cs_exchange.specs.declared.pulling.fault.AnswerFault.TheVariants.{BadEntry}
use Rattle.cs_wire.specs.declared.answer.Answer.TheVariants.{Short}
use Rattle.cs_wire.specs.declared.short_answer.ShortAnswer.TheVariants.{Accepted, Refused}
use Rattle.cs_hub.specs.declared.judgement.widen.TheConstants.{WIDEN_ORIGIN}
use Rattle.cs_world.specs.Sound.{IsAcceptedIn, conflict_code}
use Rattle.cs_world.specs.World.{IsMember, IsMessage, Member, Tells, World}
use Rattle.cs_world.specs.declared.outcome.Outcome.{Outcome}
use Rattle.cs_world.specs.declared.outcome.Outcome.TheVariants.{NotHeard}

-- at each place of the tables the change there, if any, leads from what the first state has there to what the second has
abbrev pub LeadTo : List TableDef → Changed → State → State → Type 0
LeadTo tables changed before after =
    (table : TableDef) (key : List ℕ) → Contains tables table
    → after_any (action_any (changed table.name key)) (before table.name key) ≡ Some (after table.name key)

-- its version is one of the log's. The push that is under way is defined on the log's tables at that version. What is pending is defined
-- on what that leaves, and leaves its own rows
pub record HasHubsRows (world : World) (member : Member) : Type 0 where
  pub within : member.position.version ≤ length world.log
  pub middle : State
  pub flight : IsApplied (catalog_at world.tables world.log member.position.version) (flown member.position.flight)
      (tables_at world.log member.position.version) middle
  pub pending : LeadTo (catalog_at world.tables world.log member.position.version) member.view.pending middle member.view.tables

-- nothing is under way, and nothing pending
abbrev pub IsAtRest : Member → Type 0
IsAtRest member = (member.position.flight ≡ None) × (member.position.pending ≡ 0)

-- the same rows at each place of the tables that the catalog has at the version of the first
abbrev pub HaveSameRows : World → Member → Member → Type 0
HaveSameRows world one other =
    (table : TableDef) (key : List ℕ) → Contains (catalog_at world.tables world.log one.position.version) table
    → one.view.tables table.name key ≡ other.view.tables table.name key

pub record Headline (world : World) : Type 0 where
  -- each replica's tables are the hub's at its version, with what is under way and what is pending on top
  pub stands : (r : ℕ) (member : Member) → IsMember world r member → HasHubsRows world member
  -- no push was answered as a conflict
  pub no_conflict : (k r : ℕ) → IsMessage world k (Tells r (Short (Refused conflict_code))) → ⊥
  -- no two entries of one replica have one number
  pub counts_once : (at other : ℕ) (entry its : LogEntry) → slice_get world.log at ≡ Some entry → slice_get world.log other ≡ Some its
      → entry.origin < WIDEN_ORIGIN → entry.origin ≡ its.origin → entry.number ≡ its.number → at ≡ other
  -- a push that is told to be accepted is the entry before the version that is told
  pub accepted : (k r origin number version : ℕ) → IsMessage world k (Tells r (Short (Accepted origin number version)))
      → IsAcceptedIn world.log origin number version
  -- replicas that are at rest at one version have the same rows
  pub equal : (r s : ℕ) (one other : Member) → IsMember world r one → IsMember world s other
      → one.position.version ≡ other.position.version → IsAtRest one → IsAtRest other → HaveSameRows world one other

-- no replica was handed an entry that isn't defined on the hub's tables at its version
abbrev pub IsGood : Outcome → Type 0
IsGood outcome = (count : ℕ) → outcome ≢ NotHeard (BadEntry count)
