-- Runs of a world in which processes stop (profile of this project).
use Rattle.std.specs.Prelude.{◌≡◌, ◌≢◌, ◌⊎◌, ◌↔◌, ◌<◌, ◌≤◌, ◌++◌, ℕ, List, [], ◌∷◌, Contains, Option, Some, None, IsSome, length, slice_get}
use Rattle.cs_value.specs.declared.catalog.TableDef.{TableDef}
use Rattle.cs_conflict.specs.declared.wish.Wish.{Wish}
use Rattle.cs_exchange.specs.declared.pulling.fault.AnswerFault.TheVariants as fault
use Rattle.cs_exchange.specs.pulling.Listed.{PullsMany}
use Rattle.cs_pending.specs.View.{View}
use Rattle.cs_pending.specs.declared.position.position.Position.{Position}
use Rattle.cs_wire.specs.Entries.{ToldEntry}
use Rattle.cs_wire.specs.declared.answer.Answer.TheVariants.{Entries}
use Rattle.cs_conflict.specs.wish_list.Wished.{IsWished}
use Rattle.cs_world.specs.Left.{AtHub, AtReplica, Kept, Place, kept_at, turned}
use Rattle.cs_world.specs.Merges.{count_in}
use Rattle.cs_world.specs.Same.{IsRefused}
use Rattle.cs_world.specs.Steps.{Step}
use Rattle.cs_world.specs.World.{Asks, IsMember, IsMessage, Member, Orders, Replies, Sent, Tells, World}
use Rattle.cs_world.specs.declared.event.Event.{Event}
use Rattle.cs_world.specs.declared.event.Event.TheVariants.{AskCatch, AskPull, AskWiden, Deliver, MakePush, OnEdit, Resend, Restart}
use Rattle.cs_world.specs.declared.outcome.Outcome.{Outcome}
use Rattle.cs_world.specs.declared.outcome.Outcome.TheVariants.{NotHeard}

-- ---- places

-- whom a message reaches
abbrev pub reader_of : Option Sent → Option Place
reader_of (Some (Asks r asked)) = Some AtHub
reader_of (Some (Tells r answer)) = Some (AtReplica r)
reader_of (Some (Orders asked)) = Some AtHub
reader_of (Some (Replies answer)) = None
reader_of None = None

-- in which store an event writes, if it writes
abbrev pub place_of : World → Event → Option Place
place_of world (OnEdit r asked) = Some (AtReplica r)
place_of world (MakePush r) = Some (AtReplica r)
place_of world (Resend r) = Some (AtReplica r)
place_of world (AskPull r limit) = Some (AtReplica r)
place_of world (AskCatch r limit) = Some (AtReplica r)
place_of world (Deliver k wishes) = reader_of (slice_get world.messages k)
place_of world (Restart r) = Some (AtReplica r)
place_of world (AskWiden wider) = None

-- ---- what a stop may leave

-- a commit that failed: of which event it was, what the store would keep, and what would have been sent
pub record Late (place : Place) : Type 0 where
  pub event : Event
  pub left : Kept place
  pub sent : List Sent

-- a world, the commits that failed in each store since one succeeded, and the numbers of the messages that were never sent. Any of
-- these commits may yet be found made once that store stops. The event of such a message was stopped when its commit was made
pub record Standing : Type 0 where
  pub world : World
  pub late : (place : Place) → List (Late place)
  pub lost : List ℕ

-- each store was opened just now: a stop leaves what it keeps, alone
abbrev pub opened : World → Standing
opened world = record { world = world; late = λ place. []; lost = [] }

-- what is left there of the failed commits: none, where one succeeded since; or those that there were, where what it keeps stays
abbrev pub Remain : Standing → World → (place : Place) → List (Late place) → Type 0
Remain old world place late = (late ≡ []) ⊎ ((late ≡ old.late place) × (kept_at place world ≡ kept_at place old.world))

-- no commit failed there
abbrev pub GoesOn : Standing → Standing → Place → Type 0
GoesOn old new place = Remain old new.world place (new.late place)

-- these wishes are left where so many entries of a message were taken
abbrev pub AreLeft : World → ℕ → ℕ → List Wish → List Wish → Type 0
AreLeft world k count wishes left =
    ((count ≡ 0) × (left ≡ wishes))
    ⊎ ((r : ℕ) × (first : ℕ) × (entries : List ToldEntry) × (before : Member) × (other : Position) × (end : View)
    × IsMessage world k (Tells r (Entries first entries)) × IsMember world r before
    × (others : List TableDef)
    × PullsMany IsWished first entries count before.tables before.position before.view wishes others other end left)

-- the event once more; a message with the wishes that are left, where so many of its entries were taken
abbrev pub IsAgain : World → ℕ → Event → Event → Type 0
IsAgain world count (Deliver k wishes) again = (left : List Wish) × AreLeft world k count wishes left × (again ≡ Deliver k left)
IsAgain world count (OnEdit r asked) again = again ≡ OnEdit r asked
IsAgain world count (MakePush r) again = again ≡ MakePush r
IsAgain world count (Resend r) again = again ≡ Resend r
IsAgain world count (AskPull r limit) again = again ≡ AskPull r limit
IsAgain world count (AskCatch r limit) again = again ≡ AskCatch r limit
IsAgain world count (Restart r) again = again ≡ Restart r
IsAgain world count (AskWiden wider) again = again ≡ AskWiden wider

-- by a step of this event the store would keep what the failed commit would have left, in this world
pub record WouldStep (limit : ℕ) (world : World) (place : Place) (late : Late place) : Type 0 where
  pub there : IsSome (kept_at place world)
  pub by : place_of world late.event ≡ Some place
  pub outcome : Outcome
  pub step : Step limit world late.event outcome (turned place world late.left late.sent)

-- the event was refused, with so many entries taken, since the commit of what is left of it failed there
pub record FailsAt (limit : ℕ) (old new : Standing) (event : Event) (count : ℕ) (place : Place) : Type 0 where
  pub late : Late place
  pub earlier : List (Late place)
  pub one_more : new.late place ≡ late ∷ earlier
  pub remain : Remain old new.world place earlier
  pub again : IsAgain old.world count event late.event
  pub would : WouldStep limit new.world place late
  pub others : (other : Place) → other ≢ place → GoesOn old new other

-- the message that the event delivers was sent
abbrev pub IsNotLost : Standing → Event → Type 0
IsNotLost old (Deliver k wishes) = Contains old.lost k → ⊥
IsNotLost old (OnEdit r asked) = Unit {0}
IsNotLost old (MakePush r) = Unit {0}
IsNotLost old (Resend r) = Unit {0}
IsNotLost old (AskPull r limit) = Unit {0}
IsNotLost old (AskCatch r limit) = Unit {0}
IsNotLost old (Restart r) = Unit {0}
IsNotLost old (AskWiden wider) = Unit {0}

-- the store there was stopped and opened again: it holds what it keeps, alone; and what would have been sent never is
pub record StopsAt (old new : Standing) (place : Place) : Type 0 where
  pub alone : new.late place ≡ []
  pub others : (other : Place) → other ≢ place → GoesOn old new other
  pub lost : (k : ℕ) → Contains new.lost k
      ↔ (Contains old.lost k ⊎ ((length old.world.messages ≤ k) × (k < length new.world.messages)))

-- ---- runs with stops

-- what became of an event
pub data Mark : Type 0 where
  -- it happened, and its store went on
  Whole : Mark
  -- its store stopped before anything of it was committed
  Before : Mark
  -- the same, and an earlier event, whose commit had failed, was found made
  BeforeBut : (late : Event) → Mark
  -- its store stopped behind its commit, before what it sends was sent
  After : Mark
  -- its store stopped behind the commits of so many entries
  AfterEntries : (count : ℕ) → Mark

pub record Marked : Type 0 where
  pub event : Event
  pub mark : Mark

-- the event was refused behind so many entries
abbrev pub IsRefusedAfter : ℕ → Outcome → Type 0
IsRefusedAfter count outcome = (outcome ≡ NotHeard (fault.Memory count)) ⊎ (outcome ≡ NotHeard (fault.Device count))

-- one case a mark, and one more for a commit that failed without a stop
pub data Happens (limit : ℕ) (old new : Standing) (event : Event) : Mark → Type 0 where
  whole : (outcome : Outcome) → IsNotLost old event → Step limit old.world event outcome new.world
      → ((place : Place) → GoesOn old new place) → new.lost ≡ old.lost
      → Happens limit old new event Whole
  fails : (outcome : Outcome) (place : Place) → IsNotLost old event → Step limit old.world event outcome new.world
      → IsRefused outcome new.world → FailsAt limit old new event (count_in outcome) place → new.lost ≡ old.lost
      → Happens limit old new event Whole
  before : (place : Place) → place_of old.world event ≡ Some place
      → new.world ≡ old.world → StopsAt old new place
      → Happens limit old new event Before
  before_but : (place : Place) (late : Late place) → place_of old.world event ≡ Some place
      → Contains (old.late place) late → new.world ≡ turned place old.world late.left late.sent → StopsAt old new place
      → Happens limit old new event (BeforeBut late.event)
  after : (outcome : Outcome) (place : Place) → IsNotLost old event → place_of old.world event ≡ Some place
      → Step limit old.world event outcome new.world → StopsAt old new place
      → Happens limit old new event After
  after_entries : (count : ℕ) (outcome : Outcome) (place : Place) → IsNotLost old event → place_of old.world event ≡ Some place
      → Step limit old.world event outcome new.world → IsRefusedAfter count outcome → StopsAt old new place
      → Happens limit old new event (AfterEntries count)

-- one behind another
abbrev pub RunsWithStops : ℕ → Standing → List Marked → Standing → Type 0
RunsWithStops limit old [] new = new ≡ old
RunsWithStops limit old (one ∷ list) new =
    (between : Standing) × Happens limit old between one.event one.mark × RunsWithStops limit between list new

-- ---- the run without stops that it is

-- which event is left of one
abbrev pub left_of : Event → Mark → List Event
left_of event Whole = event ∷ []
left_of event Before = []
left_of event (BeforeBut late) = late ∷ []
left_of event After = event ∷ []
left_of event (AfterEntries count) = event ∷ []

abbrev pub left_events : List Marked → List Event
left_events [] = []
left_events (one ∷ list) = left_of one.event one.mark ++ left_events list

-- what is told of an event that stopped behind so many entries is that it was refused there
abbrev pub ToldBy : Mark → List Outcome → List Outcome → Type 0
ToldBy Whole outcomes rest = (outcome : Outcome) × (outcomes ≡ outcome ∷ rest)
ToldBy Before outcomes rest = outcomes ≡ rest
ToldBy (BeforeBut late) outcomes rest = (outcome : Outcome) × (outcomes ≡ outcome ∷ rest)
ToldBy After outcomes rest = (outcome : Outcome) × (outcomes ≡ outcome ∷ rest)
ToldBy (AfterEntries count) outcomes rest = (outcome : Outcome) × (outcomes ≡ outcome ∷ rest) × IsRefusedAfter count outcome

abbrev pub AreTold : List Marked → List Outcome → Type 0
AreTold [] outcomes = outcomes ≡ []
AreTold (one ∷ list) outcomes = (rest : List Outcome) × ToldBy one.mark outcomes rest × AreTold list rest
