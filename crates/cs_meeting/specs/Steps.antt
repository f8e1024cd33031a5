-- On the way from a request to a meeting: no definition that a public clause cites.
use Rattle.std.specs.Prelude.{◌≡◌, ◌≢◌, ◌⊎◌, ⊤, ℕ, suc, Bool, true, false, List, [], ◌∷◌, ◌++◌, Option, Result, Ok, Err, length}
use Rattle.std.specs.Io.KnownBytes.{Appends, Keeps}
use Rattle.std.specs.declared.alloc.AllocError.{AllocError}
use Rattle.cs_conflict.specs.declared.wish.Wish.{Wish}
use Rattle.cs_exchange.specs.declared.pushing.fault.PushFault.{PushFault}
use Rattle.cs_lines.specs.Writing.{AppendsFront}
use Rattle.cs_node_lines.specs.declared.working.reply.Reply.{Reply}
use Rattle.cs_node_lines.specs.told.Dump.{replica_text}
use Rattle.cs_node_lines.specs.working.Endings.{printed}
use Rattle.cs_node_lines.specs.working.Steps.{Says}
use Rattle.cs_pending.specs.declared.position.position.Position.{Position}
use Rattle.cs_store.specs.declared.log.entry.TheConstants.{MAX_ENTRIES}
use Rattle.cs_store.specs.declared.store.RowStore.{Ghosts}
use Rattle.cs_text.specs.Text.{line}
use Rattle.cs_wire.specs.Requests.{Asked, asked_by_owned}
use Rattle.cs_wire.specs.declared.request.RequestBuf.{RequestBuf}
use Rattle.cs_world.specs.Steps.{Step}
use Rattle.cs_world.specs.World.{Asks as Asking, IsMessage, World}
use Rattle.cs_world.specs.declared.event.Event.TheVariants.{Deliver}
use Rattle.cs_world.specs.declared.outcome.Outcome.{Outcome}
use Rattle.cs_world.specs.declared.outcome.Outcome.TheVariants.{NotPushed, Sent}
use Rattle.cs_meeting.specs.Asks.{asked_event}
use Rattle.cs_meeting.specs.Ends.{BreaksOff, IsCutText}
use Rattle.cs_meeting.specs.Held.{AreHonest, GoesOn, Held, StandsIn}
use Rattle.cs_meeting.specs.Turns.{IsMeetingTurn, Meets, SaysServed, TakesMeetingTurn, TakesMeetingTurns}
use Rattle.cs_meeting.specs.declared.ask.Ask.{Ask}
use Rattle.cs_meeting.specs.declared.fault.MeetingFault.{MeetingFault}
use Rattle.cs_meeting.specs.declared.fault.MeetingFault.TheVariants as fault

-- the request was sent as the last message; or none was
abbrev pub IsAsked : ℕ → Ask → Result RequestBuf PushFault → World → World → Type 0
IsAsked r ask (Ok request) old new =
    Step MAX_ENTRIES old (asked_event r ask) (Sent (length old.messages)) new × IsMessage new (length old.messages) (Asking r (asked_by_owned request))
    × (length new.messages ≡ suc (length old.messages))
IsAsked r ask (Err why) old new = Step MAX_ENTRIES old (asked_event r ask) (NotPushed why) new × (length new.messages ≡ length old.messages)

-- message number k was delivered to the hub, and the message behind it to the replica
pub record IsDelivered (r k : ℕ) (wishes : List Wish) (old new : World) (text : List ℕ) : Type 0 where
  pub served : World
  pub serving : Outcome
  pub hearing : Outcome
  pub serves : Step MAX_ENTRIES old (Deliver k []) serving served
  pub hears : Step MAX_ENTRIES served (Deliver (suc k) wishes) hearing new
  pub says : SaysServed r wishes serving hearing served new text

-- the replica came to another version, or not
abbrev pub HasMoved : Bool → Position → Position → Type 0
HasMoved true before after = after.version ≢ before.version
HasMoved false before after = after.version ≡ before.version

module _ {S : Type 0} (g : Ghosts S) where
  -- whichever replica it is
  abbrev pub Goes : (ℕ → World → World → Type 0) → Held S → Held S → Type 0
  Goes step old new = (r : ℕ) → GoesOn g MAX_ENTRIES r (step r) old new

  abbrev pub Asks : Ask → Result RequestBuf PushFault → Held S → Held S → Type 0
  Asks ask result old new = Goes (λ r. IsAsked r ask result) old new

  -- the last message that was sent, a request, was delivered, and its answer
  pub record GoesBehind (r : ℕ) (asked : Asked) (wishes : List Wish) (text : List ℕ) (old new : Held S) : Type 0 where
    pub was_honest : AreHonest g new → AreHonest g old
    pub went : AreHonest g new → (world : World) → StandsIn g MAX_ENTRIES r old world → (k : ℕ) → IsMessage world k (Asking r asked) → length world.messages ≡ suc k
        → (next : World) × IsDelivered r k wishes world next text × StandsIn g MAX_ENTRIES r new next

  abbrev pub Delivers : Asked → List Wish → Result Reply AllocError → Held S → Held S → Type 0
  Delivers asked wishes result old new = (text : List ℕ) × Says result text × ((r : ℕ) → GoesBehind r asked wishes text old new)

  abbrev pub MakesTurn : Ask → List Wish → Result Reply AllocError → Held S → Held S → Type 0
  MakesTurn ask wishes result old new =
      (text : List ℕ) × Says result text × Goes (λ r world next. IsMeetingTurn r wishes MAX_ENTRIES ask world next text) old new

  -- a turn, and whether it left the replica at its version
  abbrev pub TurnTo : Bool → Wish → List ℕ → Held S → Held S → Type 0
  TurnTo moved wish text old new =
      Goes (λ r world next. (turn : TakesMeetingTurn MAX_ENTRIES r wish world next text) × HasMoved moved turn.before.position turn.after.position) old new

  abbrev pub TurnMade : Wish → List ℕ → Held S → Held S → Type 0
  TurnMade wish text old new = Goes (λ r world next. TakesMeetingTurn MAX_ENTRIES r wish world next text) old new

  -- and its text was printed; or memory was refused for the wishes, and nothing done
  abbrev pub TurnTold : Wish → Result Bool MeetingFault → Type 0 → Option (List ℕ) → Option (List ℕ) → Held S → Held S → Type 0
  TurnTold wish (Ok moved) write_failed before after old new = (text : List ℕ) × TurnTo moved wish text old new × Appends before after text
  TurnTold wish (Err fault.Memory) write_failed before after old new = Keeps before after × ((new ≡ old) ⊎ ((text : List ℕ) × TurnMade wish text old new))
  TurnTold wish (Err fault.Write) write_failed before after old new = (text : List ℕ) × TurnMade wish text old new × AppendsFront before after text × write_failed
  TurnTold wish (Err (fault.Hub why)) write_failed before after old new = ⊥
  TurnTold wish (Err (fault.Replica why)) write_failed before after old new = ⊥

  -- so were turns, to the end or early
  abbrev pub AllMet : Wish → Result Bool MeetingFault → Type 0 → Option (List ℕ) → Option (List ℕ) → Held S → Held S → Type 0
  AllMet wish (Ok at_rest) write_failed before after old new =
      (texts : List (List ℕ)) × Goes (λ r world next. Meets MAX_ENTRIES r wish at_rest world texts next) old new × Appends before after (printed texts)
  AllMet wish (Err why) write_failed before after old new =
      (told : List (List ℕ)) × (untold : List (List ℕ)) × (text : List ℕ)
      × Goes (λ r world next. TakesMeetingTurns MAX_ENTRIES r wish world (told ++ untold) next) old new
      × ((untold ≡ text ∷ []) ⊎ ((untold ≡ []) × (why ≡ fault.Memory))) × BreaksOff why write_failed before after (printed told) text

  -- and where the replica then stands
  abbrev pub MetTold : Wish → Result Bool MeetingFault → Type 0 → Option (List ℕ) → Option (List ℕ) → Held S → Held S → Type 0
  MetTold wish (Ok at_rest) write_failed before after old new =
      (texts : List (List ℕ)) × Goes (λ r world next. Meets MAX_ENTRIES r wish at_rest world texts next) old new
      × Appends before after (printed (texts ++ line (replica_text new.replica.position.id new.replica.position) ∷ []))
  MetTold wish (Err why) write_failed before after old new =
      (told : List (List ℕ)) × (untold : List (List ℕ)) × (text : List ℕ)
      × Goes (λ r world next. TakesMeetingTurns MAX_ENTRIES r wish world (told ++ untold) next) old new
      × IsCutText why untold text (line (replica_text new.replica.position.id new.replica.position)) × BreaksOff why write_failed before after (printed told) text

-- a text is printed, or a front of it where the writer failed, or nothing
abbrev pub TellsPlace : Result ⊤ MeetingFault → Type 0 → Option (List ℕ) → Option (List ℕ) → List ℕ → Type 0
TellsPlace (Ok done) write_failed before after text = Appends before after text
TellsPlace (Err fault.Memory) write_failed before after text = Keeps before after
TellsPlace (Err fault.Write) write_failed before after text = AppendsFront before after text × write_failed
TellsPlace (Err (fault.Hub why)) write_failed before after text = ⊥
TellsPlace (Err (fault.Replica why)) write_failed before after text = ⊥
