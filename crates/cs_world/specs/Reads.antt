-- What is read of a world over stores (profile of this project).
use Rattle.std.specs.Prelude.{ℕ, Option, Some, None}
pub use Rattle.cs_replica.specs.Step.{AreRowsIn}
use Rattle.cs_store.specs.declared.store.RowStore.{Ghosts}
use Rattle.cs_world.specs.World.{World}
use Rattle.cs_world.specs.declared.letter.Letter.{Letter}
use Rattle.cs_world.specs.declared.letter.Letter.TheVariants as letter
use Rattle.cs_world.specs.Holding.{AreHonest, Holding, StandsAt}

-- the replica to which a letter is the hub's answer, if it is one
abbrev pub letter_receiver : Option Letter → Option ℕ
letter_receiver (Some (letter.Tells r bytes)) = Some r
letter_receiver (Some (letter.Asks r request)) = None
letter_receiver (Some (letter.Orders request)) = None
letter_receiver (Some (letter.Replies bytes)) = None
letter_receiver None = None

module _ {S : Type 0} (g : Ghosts S) where
  -- where the stores are honest, it stands at each world at which it stood
  pub record Reads (limit : ℕ) (old new : Holding S) : Type 0 where
    pub was_honest : AreHonest g new → AreHonest g old
    pub stands : AreHonest g new → (world : World) → StandsAt g limit old world → StandsAt g limit new world
