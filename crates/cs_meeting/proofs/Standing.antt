-- Worlds that a hub and a replica show, and how they go on.
use Rattle.std.proofs.Common.{◌≡◌, ◌<◌, ◌^◌, ◌∙◌, ℕ, List, refl, sym, ap, subst}
use Rattle.cs_hub.specs.Holding as hub
use Rattle.cs_pending.specs.position.Laws.{FitsPosition}
use Rattle.cs_pending.specs.declared.position.position.Position.{Position}
use Rattle.cs_replica.specs.Holding as replica
use Rattle.cs_replica.specs.Step.{Member, Turns, member_of}
use Rattle.cs_store.specs.declared.log.entry.TheConstants.{MAX_ENTRIES}
use Rattle.cs_store.specs.declared.store.RowStore.{Ghosts}
use Rattle.cs_value.specs.Catalog.{AreTables}
use Rattle.cs_value.specs.declared.catalog.TableDef.{TableDef}
use Rattle.cs_world.specs.Holding.{ShowsMember}
use Rattle.cs_world.specs.Laws.{StepsAreSound}
use Rattle.cs_world.specs.Steps.{Step}
use Rattle.cs_world.specs.World.{Sent, World, with_member, with_message}
use Rattle.cs_world.specs.declared.event.Event.{Event}
use Rattle.cs_world.specs.declared.outcome.Outcome.{Outcome}
use Rattle.cs_meeting.specs.Held.{Held, ShowsIn, StandsIn}
use Rattle.cs_meeting.proofs.Places.{set_there}

module _ {S : Type 0} (g : Ghosts S) where
  abbrev pub both : hub.Holding S → replica.Holding S → Held S
  both h one = record { hub = h; replica = one }

  -- a message more is no other log and no other replica
  pub shows_more : (r : ℕ) (held : Held S) (world : World) (message : Sent) → ShowsIn g r held world → ShowsIn g r held (with_message world message)
  shows_more r held world message shows =
      record { catalog = shows.catalog; log = shows.log; member = shows.member; is = shows.is; shows = shows.shows }

  -- the replica is another
  pub shows_turned : (r : ℕ) (h : hub.Holding S) (old new : replica.Holding S) (world : World) (after : Member) → ShowsIn g r (both h old) world → ShowsMember g new after
      → ShowsIn g r (both h new) (with_member world r after)
  shows_turned r h old new world after shows there = record {
    catalog = shows.catalog;
    log = shows.log;
    member = after;
    is = set_there world.members r after shows.member shows.is;
    shows = there;
  }

  -- what a call of the replica makes of it
  pub turned : (r : ℕ) (h : hub.Holding S) (old new : replica.Holding S) (world : World) (turn : Member → Member → Type 0) → g.honest new.store
      → (stands : StandsIn g MAX_ENTRIES r (both h old) world) → Turns g turn old new
      → (after : Member) × turn stands.0.member after × ShowsMember g new after
  turned r h old new world turn honest stands turns =
      let m = stands.0.member in
      let s = stands.0.shows in
      let placed = stands.1.placed r m stands.0.is in
      let before : member_of old m.view ≡ m =
      ap (λ (ts : List TableDef). record { tables = ts; position = old.position; view = m.view }) s.catalog
      ∙ ap (λ (p : Position). record { tables = m.tables; position = p; view = m.view }) s.position in
      let t = turns.turned honest (subst AreTables (sym s.catalog) placed.are) (subst FitsPosition (sym s.position) placed.fits) m.view s.shows in (
        member_of new t.0,
        subst (λ (b : Member). turn b (member_of new t.0)) before t.3,
        record { catalog = refl; position = refl; shows = t.1 },
      )

  -- a step of a sound world leads to one
  pub stands_behind : (sound : StepsAreSound) → MAX_ENTRIES < 2 ^ 32 → (r : ℕ) (old new : Held S) (world next : World) (event : Event) (outcome : Outcome)
      → StandsIn g MAX_ENTRIES r old world → Step MAX_ENTRIES world event outcome next → ShowsIn g r new next → StandsIn g MAX_ENTRIES r new next
  stands_behind sound small r old new world next event outcome stands step shows =
      (shows, (sound MAX_ENTRIES world next event outcome small stands.1 step).0)
