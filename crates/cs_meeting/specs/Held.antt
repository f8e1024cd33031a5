-- What a meeting of a hub and a replica holds, and in which worlds it is (profile of this project).
use Rattle.std.specs.Prelude.{◌≡◌, ℕ}
use Rattle.cs_hub.specs.Holding as hub
use Rattle.cs_replica.specs.Holding as replica
use Rattle.cs_store.specs.declared.store.RowStore.{Ghosts}
use Rattle.cs_world.specs.Holding.{ShowsMember}
use Rattle.cs_world.specs.Sound.{IsSound}
use Rattle.cs_world.specs.World.{IsMember, Member, World}

-- the hub and the replica
pub record Held (S : Type 0) : Type 0 where
  pub hub : hub.Holding S
  pub replica : replica.Holding S

module _ {S : Type 0} (g : Ghosts S) where
  -- both stores are honest
  pub record AreHonest (held : Held S) : Type 0 where
    pub hub : g.honest held.hub.store
    pub replica : g.honest held.replica.store

  -- the stores show the world's log and, of its replicas, number r
  pub record ShowsIn (r : ℕ) (held : Held S) (world : World) : Type 0 where
    pub catalog : held.hub.catalog ≡ world.tables
    pub log : hub.Shows g.contents held.hub world.log
    pub member : Member
    pub is : IsMember world r member
    pub shows : ShowsMember g held.replica member

  -- and the world is sound, as each is that began with nothing
  abbrev pub StandsIn : ℕ → ℕ → Held S → World → Type 0
  StandsIn limit r held world = ShowsIn r held world × IsSound limit world

  -- where the stores are honest, each such world went on by `step` to one that they then show
  pub record GoesOn (limit r : ℕ) (step : World → World → Type 0) (old new : Held S) : Type 0 where
    pub was_honest : AreHonest new → AreHonest old
    pub went : AreHonest new → (world : World) → StandsIn limit r old world → (next : World) × step world next × StandsIn limit r new next
