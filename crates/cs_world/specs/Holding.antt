-- What a world over stores holds, and which world that is (profile of this project).
use Rattle.std.specs.Prelude.{◌≡◌, ℕ, List, length, Some, slice_get}
use Rattle.cs_hub.specs.Holding as hub
use Rattle.cs_replica.specs.Holding as replica
use Rattle.cs_store.specs.declared.store.RowStore.{Ghosts}
use Rattle.cs_wire.specs.Answers.{answer_spelling}
use Rattle.cs_world.specs.Sound.{IsSound}
use Rattle.cs_world.specs.World.{Asks, IsMember, IsMessage, Member, Orders, Replies, Sent, Tells, World}
use Rattle.cs_world.specs.declared.letter.Letter.{Letter}
use Rattle.cs_world.specs.declared.letter.Letter.TheVariants as letter

-- the hub, the replicas, and the messages
pub record Holding (S : Type 0) : Type 0 where
  pub hub : hub.Holding S
  pub replicas : List (replica.Holding S)
  pub letters : List Letter

-- a letter says this: what is asked, or an answer that its bytes spell
abbrev pub Says : Letter → Sent → Type 0
Says (letter.Asks r request) (Asks other asked) = (r ≡ other) × (request ≡ asked)
Says (letter.Tells r bytes) (Tells other answer) = (r ≡ other) × (bytes.items ≡ answer_spelling answer)
Says (letter.Orders request) (Orders asked) = request ≡ asked
Says (letter.Replies bytes) (Replies answer) = bytes.items ≡ answer_spelling answer
Says _ _ = ⊥

module _ {S : Type 0} (g : Ghosts S) where
  -- each of its stores is honest
  pub record AreHonest (held : Holding S) : Type 0 where
    pub hub : g.honest held.hub.store
    pub replicas : (r : ℕ) (one : replica.Holding S) → slice_get held.replicas r ≡ Some one → g.honest one.store

  -- a replica's store shows it: where it stands, its rows, and what is pending
  pub record ShowsMember (one : replica.Holding S) (member : Member) : Type 0 where
    pub catalog : one.catalog ≡ member.tables
    pub position : one.position ≡ member.position
    pub shows : replica.Shows g.contents one member.view

  -- the stores show the log and the replicas, number by number, and the letters say the messages
  pub record ShowsWorld (held : Holding S) (world : World) : Type 0 where
    pub catalog : held.hub.catalog ≡ world.tables
    pub log : hub.Shows g.contents held.hub world.log
    pub members_count : length held.replicas ≡ length world.members
    pub members : (r : ℕ) (one : replica.Holding S) → slice_get held.replicas r ≡ Some one
        → (member : Member) × IsMember world r member × ShowsMember one member
    pub messages_count : length held.letters ≡ length world.messages
    pub messages : (k : ℕ) (one : Letter) → slice_get held.letters k ≡ Some one
        → (message : Sent) × IsMessage world k message × Says one message

  -- it stands at a world that is sound; the hub's log has at most so many entries
  abbrev pub StandsAt : ℕ → Holding S → World → Type 0
  StandsAt limit held world = ShowsWorld held world × IsSound limit world
