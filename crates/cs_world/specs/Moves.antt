-- What an event makes of a world over stores: no definition that a public clause cites.
use Rattle.std.specs.Prelude.{◌≡◌, ℕ}
use Rattle.cs_store.specs.declared.store.RowStore.{Ghosts}
use Rattle.cs_world.specs.Steps.{Step}
use Rattle.cs_world.specs.World.{IsMessage, Sent, World}
use Rattle.cs_world.specs.declared.event.Event.{Event}
use Rattle.cs_world.specs.declared.outcome.Outcome.{Outcome}
use Rattle.cs_world.specs.Fails.{CountsOn, SaysDevice}
use Rattle.cs_world.specs.Holding.{AreHonest, Holding, ShowsWorld, StandsAt}
use Rattle.cs_world.specs.Left.{Leaves}

-- the same tables, and what was sent was sent
pub record HasGoneOn (world next : World) : Type 0 where
  pub tables : next.tables ≡ world.tables
  pub messages : (k : ℕ) (message : Sent) → IsMessage world k message → IsMessage next k message

module _ {S : Type 0} (g : Ghosts S) where
  -- what a stop may leave of its stores goes on with the world
  abbrev pub KeepsLeft : ℕ → Holding S → Holding S → Type 0
  KeepsLeft limit old new =
      AreHonest g new → (world : World) → StandsAt g limit old world
      → (next : World) → HasGoneOn world next → Leaves g limit world old → Leaves g limit next new

  -- where the stores are honest, the world at which it stood made the step of the event, with this outcome
  pub record Moves (limit : ℕ) (old : Holding S) (event : Event) (outcome : Outcome) (new : Holding S) : Type 0 where
    pub was_honest : AreHonest g new → AreHonest g old
    pub moved : AreHonest g new → (world : World) → StandsAt g limit old world
        → (next : World) × Step limit world event outcome next × ShowsWorld g new next
    pub left : KeepsLeft limit old new
    pub counts : CountsOn g (SaysDevice outcome) old new
