-- What a list of events makes of a world over stores, and the headline of it (profile of this project).
use Rattle.std.specs.Prelude.{◌≡◌, ℕ, List, [], ◌∷◌, length}
use Rattle.cs_value.specs.declared.catalog.TableDef.{TableDef}
use Rattle.cs_store.specs.declared.store.RowStore.{Ghosts}
use Rattle.cs_world.specs.Headline.{Headline, IsGood}
use Rattle.cs_world.specs.Laws.{IsFirstMember}
use Rattle.cs_world.specs.Merges.{EachMerges}
use Rattle.cs_world.specs.Steps.{Steps}
use Rattle.cs_world.specs.World.{IsMember, Member, World, first_world}
use Rattle.cs_world.specs.declared.event.Event.{Event}
use Rattle.cs_world.specs.declared.outcome.Outcome.{Outcome}
use Rattle.cs_world.specs.Holding.{AreHonest, Holding, StandsAt}

-- none of the outcomes is that a replica was handed an entry that isn't defined on the hub's tables at its version
abbrev pub AllGood : List Outcome → Type 0
AllGood [] = Unit {0}
AllGood (outcome ∷ outcomes) = IsGood outcome × AllGood outcomes

module _ {S : Type 0} (g : Ghosts S) where
  -- where the stores are honest, the world at which it stood made the steps of the events, one behind another, with these outcomes. It
  -- stands at what they left
  pub record Runs (limit : ℕ) (old : Holding S) (events : List Event) (outcomes : List Outcome) (new : Holding S) : Type 0 where
    pub was_honest : AreHonest g new → AreHonest g old
    pub ran : AreHonest g new → (world : World) → StandsAt g limit old world
        → (next : World) × Steps limit world events outcomes next × AllGood outcomes × StandsAt g limit new next

  -- where the stores are honest, it stands at a world that has the headline
  abbrev pub HasHeadline : ℕ → Holding S → Type 0
  HasHeadline limit held =
      AreHonest g held → (world : World) × StandsAt g limit held world × Headline world

  -- where the stores are honest, it stands at a world in which nothing has happened, of so many replicas
  abbrev pub IsNew : ℕ → List TableDef → ℕ → Holding S → Type 0
  IsNew limit tables count held =
      AreHonest g held
      → (members : List Member) × (length members ≡ count)
      × ((r : ℕ) (member : Member) → IsMember (first_world tables members) r member → IsFirstMember tables r member)
      × StandsAt g limit held (first_world tables members)

  -- each of the events pulls as merges, from the world at which it stood on
  abbrev pub RunMerges : ℕ → Holding S → List Event → List Outcome → Type 0
  RunMerges limit old events outcomes =
      (world : World) → StandsAt g limit old world → EachMerges limit world events outcomes
