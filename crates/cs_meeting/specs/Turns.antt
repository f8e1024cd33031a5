-- What a replica and its hub make of a world turn by turn, and what is printed of it (profile of this project).
use Rattle.std.specs.Prelude.{◌≡◌, ◌≢◌, ◌⊎◌, ◌<◌, ℕ, suc, Bool, true, false, List, [], ◌∷◌, ◌++◌, Option, Some, None, Result, Ok, Err, length, replicate}
use Rattle.cs_conflict.specs.declared.clash.Clash.{Clash}
use Rattle.cs_conflict.specs.declared.wish.Wish.{Wish}
use Rattle.cs_exchange.specs.declared.pulling.fault.AnswerFault.{AnswerFault}
use Rattle.cs_node_lines.specs.following.Seen.{HearsSeeing, IsSeenText}
use Rattle.cs_node_lines.specs.told.Told.{push_fault_text}
use Rattle.cs_node_lines.specs.working.LineStep.{SaysMemory}
use Rattle.cs_node_lines.specs.working.Texts.{refused_text}
use Rattle.cs_replica.specs.declared.told.Told.{Told}
use Rattle.cs_wire.specs.declared.answer.Answer.{Answer}
use Rattle.cs_world.specs.Steps.{Step}
use Rattle.cs_world.specs.World.{IsMember, IsMessage, Member, Tells, World}
use Rattle.cs_world.specs.declared.event.Event.TheVariants.{Deliver}
use Rattle.cs_world.specs.declared.outcome.Outcome.{Outcome}
use Rattle.cs_world.specs.declared.outcome.Outcome.TheVariants.{Heard, Memory, NotHeard, NotPushed, Sent}
use Rattle.cs_meeting.specs.Asks.{asked_event, next_ask, own_count}
use Rattle.cs_meeting.specs.declared.ask.Ask.{Ask}
use Rattle.cs_meeting.specs.declared.ask.TheConstants.{TURNS}

module _ (r : ℕ) (wishes : List Wish) where
  -- replica number r heard the hub's answer by these wishes, and this is what is printed of it, with the clash at which a wish
  -- stopped
  pub record Hearing (result : Result Told AnswerFault) (old new : World) (text : List ℕ) : Type 0 where
    pub before : Member
    pub after : Member
    pub number : ℕ
    pub answer : Answer
    pub seen : Option Clash
    pub was : IsMember old r before
    pub is : IsMember new r after
    pub told : IsMessage old number (Tells r answer)
    pub hears : HearsSeeing before answer wishes result seen after
    pub says : IsSeenText old.tables result seen after.position.version text

  -- the text of what an answer came to that was delivered
  abbrev pub SaysHeard : Outcome → World → World → List ℕ → Type 0
  SaysHeard (Heard told) old new text = Hearing (Ok told) old new text
  SaysHeard (NotHeard fault) old new text = Hearing (Err fault) old new text
  SaysHeard Memory old new text = SaysMemory text
  SaysHeard _ old new text = ⊥

  -- of what a request came to that was delivered, and then its answer
  abbrev pub SaysServed : Outcome → Outcome → World → World → List ℕ → Type 0
  SaysServed (Sent number) heard old new text = SaysHeard heard old new text
  SaysServed Memory heard old new text = SaysMemory text
  SaysServed _ heard old new text = ⊥

  -- of what asking came to, and then the deliveries of the request and its answer
  abbrev pub SaysTurn : Outcome → Outcome → Outcome → World → World → List ℕ → Type 0
  SaysTurn (Sent number) served heard old new text = SaysServed served heard old new text
  SaysTurn (NotPushed fault) served heard old new text = text ≡ refused_text (push_fault_text fault)
  SaysTurn _ served heard old new text = ⊥

  -- it asked, the hub answered, and it heard the answer. These are three events of the world; one of a message that wasn't sent
  -- comes to nothing
  pub record IsMeetingTurn (limit : ℕ) (ask : Ask) (old new : World) (text : List ℕ) : Type 0 where
    pub asked : World
    pub served : World
    pub asking : Outcome
    pub serving : Outcome
    pub hearing : Outcome
    pub asks : Step limit old (asked_event r ask) asking asked
    pub serves : Step limit asked (Deliver (length old.messages) []) serving served
    pub hears : Step limit served (Deliver (suc (length old.messages)) wishes) hearing new
    pub says : SaysTurn asking serving hearing served new text

-- replica number r, as it stands, took a turn: it asked for what is next, and the same was wished at each clash, as often as it
-- had changes of its own
pub record TakesMeetingTurn (limit r : ℕ) (wish : Wish) (old new : World) (text : List ℕ) : Type 0 where
  pub before : Member
  pub after : Member
  pub ask : Ask
  pub was : IsMember old r before
  pub is : IsMember new r after
  pub next : next_ask (length old.log) before.position ≡ Some ask
  pub turns : IsMeetingTurn r (replicate (own_count before.position) wish) limit ask old new text

module _ (limit r : ℕ) (wish : Wish) where
  -- turns one behind another, with these texts
  abbrev pub TakesMeetingTurns : World → List (List ℕ) → World → Type 0
  TakesMeetingTurns old [] new = new ≡ old
  TakesMeetingTurns old (text ∷ texts) new = (between : World) × TakesMeetingTurn limit r wish old between text × TakesMeetingTurns between texts new

  -- each of which brought it to another version
  abbrev pub MovesOn : World → List (List ℕ) → World → Type 0
  MovesOn old [] new = new ≡ old
  MovesOn old (text ∷ texts) new =
      (between : World) × (turn : TakesMeetingTurn limit r wish old between text) × (turn.after.position.version ≢ turn.before.position.version)
      × MovesOn between texts new

  -- there is nothing to ask for
  abbrev pub IsSettled : World → Type 0
  IsSettled world = (member : Member) × IsMember world r member × (next_ask (length world.log) member.position ≡ None)

  -- but for the last, which left it at its version; there are at most so many
  abbrev pub StaysAtLast : World → List (List ℕ) → World → Type 0
  StaysAtLast old texts new =
      (front : List (List ℕ)) × (text : List ℕ) × (between : World) × (texts ≡ front ++ text ∷ []) × (length front < TURNS) × MovesOn old front between
      × (turn : TakesMeetingTurn limit r wish between new text) × (turn.after.position.version ≡ turn.before.position.version)

  -- turns were taken, fewer than so many, until it was at rest; or until one left it at its version, or there were so many
  abbrev pub Meets : Bool → World → List (List ℕ) → World → Type 0
  Meets true old texts new = MovesOn old texts new × IsSettled new × (length texts < TURNS)
  Meets false old texts new = StaysAtLast old texts new ⊎ (MovesOn old texts new × (length texts ≡ TURNS))
