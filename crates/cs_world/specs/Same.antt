-- Two worlds that are the same, and outcomes that say nothing of their event (profile of this project).
use Rattle.std.specs.Prelude.{◌≡◌, ◌⊎◌, ℕ, Err, length}
use Rattle.cs_replica.specs.Same.{IsSameMember}
use Rattle.cs_opening.specs.declared.fault.OpenFault.TheVariants as opening
use Rattle.cs_pending.specs.Edits.{IsOfStore}
use Rattle.cs_exchange.specs.declared.pushing.fault.PushFault.TheVariants as pushing
use Rattle.cs_replica.specs.Laws.{IsOfAnswer}
use Rattle.cs_wire.specs.declared.answer.Answer.TheVariants.{Short}
use Rattle.cs_wire.specs.declared.short_answer.ShortAnswer.TheVariants.{Refused}
use Rattle.cs_world.specs.World.{IsMember, IsMessage, Member, Replies, Tells, World}
use Rattle.cs_world.specs.declared.outcome.Outcome.{Outcome}
use Rattle.cs_world.specs.declared.outcome.Outcome.TheVariants.{Done, Heard, Memory, NoMessage, NoReplica, NotEdited, NotHeard, NotPushed, NotReloaded, Sent}

-- the same tables, log and messages, and replica for replica the same
pub record IsSameWorld (world other : World) : Type 0 where
  pub tables : other.tables ≡ world.tables
  pub log : other.log ≡ world.log
  pub messages : other.messages ≡ world.messages
  pub count : length other.members ≡ length world.members
  pub members : (r : ℕ) (member its : Member) → IsMember world r member → IsMember other r its → IsSameMember member its

-- the code by which a hub tells that its device failed
abbrev pub device_code : ℕ
device_code = 44

-- the outcome, in the world after it, says nothing of the event. Memory was refused, or a device failed, a replica's or the hub's, which
-- its answer tells
abbrev pub IsRefused : Outcome → World → Type 0
IsRefused Done world = ⊥
IsRefused (Sent number) world =
    ((r : ℕ) × IsMessage world number (Tells r (Short (Refused device_code))))
    ⊎ IsMessage world number (Replies (Short (Refused device_code)))
IsRefused (Heard told) world = ⊥
IsRefused NoReplica world = ⊥
IsRefused NoMessage world = ⊥
IsRefused (NotEdited fault) world = IsOfStore fault
IsRefused (NotPushed fault) world = (fault ≡ pushing.Memory) ⊎ (fault ≡ pushing.Device)
IsRefused (NotHeard fault) world = IsOfAnswer (Err fault) → ⊥
IsRefused (NotReloaded fault) world = (fault ≡ opening.Memory) ⊎ (fault ≡ opening.Device)
IsRefused Memory world = Unit {0}
