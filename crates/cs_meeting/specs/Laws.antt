-- The laws of meetings.
use Rattle.std.proofs.Common.{inl, inr}
use Rattle.std.specs.Prelude.{◌≡◌, ◌<◌, ◌^◌, ⊤, ℕ, suc, Bool, true, false, List, [], ◌∷◌, length, IsUtf8}
use Rattle.std.specs.List.{AllByRecursion}
use Rattle.cs_conflict.specs.declared.wish.Wish.{Wish}
use Rattle.cs_replica.specs.Laws.{IsInBytes}
use Rattle.cs_wire.specs.declared.answer.Answer.{Answer}
use Rattle.cs_world.specs.Same.{IsRefused, IsSameWorld}
use Rattle.cs_world.specs.Sound.{IsSound}
use Rattle.cs_world.specs.Steps.{Step}
use Rattle.cs_world.specs.World.{IsMessage, Tells, World}
use Rattle.cs_world.specs.declared.event.Event.TheVariants.{Deliver}
use Rattle.cs_world.specs.declared.outcome.Outcome.{Outcome}
use Rattle.cs_meeting.specs.Asks.{asked_event}
use Rattle.cs_meeting.specs.Turns.{Meets, MovesOn, TakesMeetingTurn}
use Rattle.cs_meeting.specs.declared.ask.Ask.{Ask}

-- none of the turn's outcomes is want of memory or a failed device
pub record IsWhole {limit r : ℕ} {wish : Wish} {old new : World} {text : List ℕ} (turn : TakesMeetingTurn limit r wish old new text) : Type 0 where
  pub asking : IsRefused turn.turns.asking turn.turns.asked → ⊥
  pub serving : IsRefused turn.turns.serving turn.turns.served → ⊥
  pub hearing : IsRefused turn.turns.hearing new → ⊥

-- in the same world the same turn is next. It comes to the same, and leaves the same world
abbrev pub OneTurn : Type 0
OneTurn =
    (limit r : ℕ) (wish : Wish) (old its new last : World) (some other : List ℕ)
    → limit < 2 ^ 32
    → IsSound limit old
    → IsSound limit its
    → IsSameWorld old its
    → (turn : TakesMeetingTurn limit r wish old new some)
    → (its_turn : TakesMeetingTurn limit r wish its last other)
    → IsWhole turn
    → IsWhole its_turn
    → (turn.ask ≡ its_turn.ask) × (turn.turns.hearing ≡ its_turn.turns.hearing) × IsSameWorld new last

-- so is each of turns that moved
abbrev pub AreWhole : (limit r : ℕ) (wish : Wish) (texts : List (List ℕ)) (old new : World) → MovesOn limit r wish old texts new → Type 0
AreWhole limit r wish [] old new same = ⊤
AreWhole limit r wish (text ∷ texts) old new (between, turn, moved, more) = IsWhole turn × AreWhole limit r wish texts between new more

-- and each of a meeting
abbrev pub IsWholeMeeting : (limit r : ℕ) (wish : Wish) (at_rest : Bool) (texts : List (List ℕ)) (old new : World) → Meets limit r wish at_rest old texts new → Type 0
IsWholeMeeting limit r wish true texts old new (moves, settled, few) = AreWhole limit r wish texts old new moves
IsWholeMeeting limit r wish false texts old new (inl (front, text, between, is, few, moves, turn, still)) = AreWhole limit r wish front old between moves × IsWhole turn
IsWholeMeeting limit r wish false texts old new (inr (moves, all)) = AreWhole limit r wish texts old new moves

-- meetings of one world by the same wish have one end: as many turns, at rest or not, and the same world then
abbrev pub OneMeeting : Type 0
OneMeeting =
    (limit r : ℕ) (wish : Wish) (at_rest its_rest : Bool) (old its new last : World) (texts others : List (List ℕ))
    → limit < 2 ^ 32
    → IsSound limit old
    → IsSound limit its
    → IsSameWorld old its
    → (met : Meets limit r wish at_rest old texts new)
    → (its_met : Meets limit r wish its_rest its others last)
    → IsWholeMeeting limit r wish at_rest texts old new met
    → IsWholeMeeting limit r wish its_rest others its last its_met
    → (at_rest ≡ its_rest) × (length texts ≡ length others) × IsSameWorld new last

-- a turn keeps its world sound
abbrev pub TurnIsSound : Type 0
TurnIsSound =
    (limit r : ℕ) (wish : Wish) (old new : World) (text : List ℕ)
    → limit < 2 ^ 32
    → IsSound limit old
    → TakesMeetingTurn limit r wish old new text
    → IsSound limit new

-- ---- a turn for each world

-- the three events of a turn have outcomes that are no refusals
pub record HasTurn (limit r : ℕ) (wishes : List Wish) (ask : Ask) (old : World) : Type 0 where
  pub asked : World
  pub served : World
  pub new : World
  pub asking : Outcome
  pub serving : Outcome
  pub hearing : Outcome
  pub asks : Step limit old (asked_event r ask) asking asked
  pub serves : Step limit asked (Deliver (length old.messages) []) serving served
  pub hears : Step limit served (Deliver (suc (length old.messages)) wishes) hearing new
  pub is_asked : IsRefused asking asked → ⊥
  pub is_served : IsRefused serving served → ⊥
  pub is_heard : IsRefused hearing new → ⊥

-- of entries that are told the bodies are bytes
abbrev pub TellsBytes : World → Type 0
TellsBytes world = (k r : ℕ) (answer : Answer) → IsMessage world k (Tells r answer) → IsInBytes answer

-- they are so, whatever asking comes to, and the delivery of what is asked
abbrev pub TurnTellsBytes : ℕ → ℕ → Ask → World → Type 0
TurnTellsBytes limit r ask world =
    (asked : World) (asking : Outcome) → Step limit world (asked_event r ask) asking asked
    → TellsBytes asked × ((served : World) (serving : Outcome) → Step limit asked (Deliver (length world.messages) []) serving served → TellsBytes served)

-- in a sound world, whose tables have names that are text, there are such events for each request and all wishes
abbrev pub SomeTurn : Type 0
SomeTurn =
    (limit r : ℕ) (wishes : List Wish) (ask : Ask) (world : World)
    → limit < 2 ^ 32
    → IsSound limit world
    → AllByRecursion (λ table. IsUtf8 table.name) world.tables
    → TurnTellsBytes limit r ask world
    → HasTurn limit r wishes ask world
