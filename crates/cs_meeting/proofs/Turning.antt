-- Turns of a world.
use Rattle.std.proofs.Common.{◌≡◌, ◌≢◌, ◌∙◌, ◌++◌, ℕ, suc, Bool, true, false, List, [], ◌∷◌, Some, Result, Ok, Err, length, refl, ap, subst, arith}
use Rattle.std.specs.Prelude.{replicate}
use Rattle.std.specs.declared.alloc.AllocError.{AllocError}
use Rattle.std.proofs.lemmas.Option.{slice_get_past}
use Rattle.cs_conflict.specs.declared.wish.Wish.{Wish}
use Rattle.cs_exchange.specs.declared.pushing.fault.PushFault.{PushFault}
use Rattle.cs_node_lines.specs.declared.working.reply.Reply.{Reply}
use Rattle.cs_node_lines.specs.told.Told.{push_fault_text}
use Rattle.cs_node_lines.specs.working.Texts.{refused_text}
use Rattle.cs_pending.specs.declared.position.position.Position.{Position}
use Rattle.cs_store.specs.declared.log.entry.TheConstants.{MAX_ENTRIES}
use Rattle.cs_store.specs.declared.store.RowStore.{Ghosts}
use Rattle.cs_wire.specs.Requests.{asked_by_owned}
use Rattle.cs_wire.specs.declared.request.RequestBuf.{RequestBuf}
use Rattle.cs_world.specs.Steps as step
use Rattle.cs_world.specs.World.{World}
use Rattle.cs_world.specs.declared.outcome.Outcome.TheVariants as told
use Rattle.cs_meeting.specs.Asks.{next_ask, own_count}
use Rattle.cs_meeting.specs.Held.{Held}
use Rattle.cs_meeting.specs.Steps.{Asks, Delivers, Goes, HasMoved, MakesTurn, TurnMade, TurnTo}
use Rattle.cs_meeting.specs.Turns.{IsMeetingTurn, MovesOn, TakesMeetingTurn, TakesMeetingTurns}
use Rattle.cs_meeting.specs.declared.ask.Ask.{Ask}

module _ {S : Type 0} (g : Ghosts S) where
  -- asked, and delivered
  pub turn_of_request : (what : Ask) (request : RequestBuf) (wishes : List Wish) (result : Result Reply AllocError) (old mid new : Held S)
      → Asks g what (Ok request) old mid → Delivers g (asked_by_owned request) wishes result mid new → MakesTurn g what wishes result old new
  turn_of_request what request wishes result old mid new asks (text, says, delivers) = (
    text,
    says,
    λ r. record {
      was_honest = λ all. (asks r).was_honest ((delivers r).was_honest all);
      went = λ all world stands.
          let a = (asks r).went ((delivers r).was_honest all) world stands in
          let d = (delivers r).went all a.0 a.2 (length world.messages) a.1.1 a.1.2 in (
            d.0,
            record {
              asked = a.0;
              served = d.1.served;
              asking = told.Sent (length world.messages);
              serving = d.1.serving;
              hearing = d.1.hearing;
              asks = a.1.0;
              serves = d.1.serves;
              hears = d.1.hears;
              says = d.1.says;
            },
            d.2,
          );
    },
  )

  -- nothing was asked
  pub goes_refused : (what : Ask) (fault : PushFault) (wishes : List Wish) (old new : Held S) → Asks g what (Err fault) old new
      → Goes g (λ r world next. IsMeetingTurn r wishes MAX_ENTRIES what world next (refused_text (push_fault_text fault))) old new
  goes_refused what fault wishes old new asks r = record {
    was_honest = (asks r).was_honest;
    went = λ all world stands.
        let a = (asks r).went all world stands in
        let count : length a.0.messages ≡ length world.messages = a.1.1 in (
          a.0,
          record {
            asked = a.0;
            served = a.0;
            asking = told.NotPushed fault;
            serving = told.NoMessage;
            hearing = told.NoMessage;
            asks = a.1.0;
            serves = step.no_message (slice_get_past a.0.messages (length world.messages) (omega (arith, count)));
            hears = step.no_message (slice_get_past a.0.messages (suc (length world.messages)) (omega (arith, count)));
            says = refl;
          },
          a.2,
        );
  }

  -- the turn that was next, between the places where the replica stood
  abbrev PlacedTurn : Wish → List ℕ → Held S → Held S → Type 0
  PlacedTurn wish text old new = Goes g (λ r world next. (turn : TakesMeetingTurn MAX_ENTRIES r wish world next text)
      × (old.replica.position ≡ turn.before.position) × (new.replica.position ≡ turn.after.position)) old new

  pub next_turn : (what : Ask) (wish : Wish) (wishes : List Wish) (text : List ℕ) (old new : Held S) → next_ask old.hub.newest old.replica.position ≡ Some what
      → wishes ≡ replicate (own_count old.replica.position) wish
      → Goes g (λ r world next. IsMeetingTurn r wishes MAX_ENTRIES what world next text) old new → PlacedTurn wish text old new
  next_turn what wish wishes text old new is_next are goes r = record {
    was_honest = (goes r).was_honest;
    went = λ all world stands.
        let n = (goes r).went all world stands in
        let place = stands.0.shows.position in
        let asked_for : next_ask (length world.log) stands.0.member.position ≡ Some what =
        subst (λ (p : Position). next_ask (length world.log) p ≡ Some what) place (subst (λ (k : ℕ). next_ask k old.replica.position ≡ Some what) stands.0.log.1 is_next) in
        let wished : wishes ≡ replicate (own_count stands.0.member.position) wish = are ∙ ap (λ (p : Position). replicate (own_count p) wish) place in
        let turn : TakesMeetingTurn MAX_ENTRIES r wish world n.0 text = record {
          before = stands.0.member;
          after = n.2.0.member;
          ask = what;
          was = stands.0.is;
          is = n.2.0.is;
          next = asked_for;
          turns = subst (λ (ws : List Wish). IsMeetingTurn r ws MAX_ENTRIES what world n.0 text) wished n.1;
        } in (n.0, (turn, place, n.2.0.shows.position), n.2);
  }

  -- ---- one behind another

  pub one_moved : (limit r : ℕ) (wish : Wish) (texts : List (List ℕ)) (text : List ℕ) (old mid new : World) → MovesOn limit r wish old texts mid → (turn : TakesMeetingTurn limit r wish mid new text)
      → turn.after.position.version ≢ turn.before.position.version → MovesOn limit r wish old (texts ++ text ∷ []) new
  one_moved limit r wish [] text old mid new same turn moved =
      subst (λ (w : World). MovesOn limit r wish w (text ∷ []) new) same (new, turn, moved, refl)
  one_moved limit r wish (first ∷ texts) text old mid new (between, now, on, more) turn moved =
      (between, now, on, one_moved limit r wish texts text between mid new more turn moved)

  -- whether or not they moved
  pub turns_of : (limit r : ℕ) (wish : Wish) (texts : List (List ℕ)) (old new : World) → MovesOn limit r wish old texts new → TakesMeetingTurns limit r wish old texts new
  turns_of limit r wish [] old new same = same
  turns_of limit r wish (text ∷ texts) old new (between, turn, moved, more) = (between, turn, turns_of limit r wish texts between new more)

  pub one_more : (limit r : ℕ) (wish : Wish) (texts : List (List ℕ)) (text : List ℕ) (old mid new : World) → TakesMeetingTurns limit r wish old texts mid → TakesMeetingTurn limit r wish mid new text
      → TakesMeetingTurns limit r wish old (texts ++ text ∷ []) new
  one_more limit r wish [] text old mid new same turn = (new, subst (λ (w : World). TakesMeetingTurn limit r wish w new text) same turn, refl)
  one_more limit r wish (first ∷ texts) text old mid new (between, now, more) turn = (between, now, one_more limit r wish texts text between mid new more turn)

  -- one went on and then the other
  pub goes_on : (one other step : ℕ → World → World → Type 0) (old mid new : Held S) → Goes g one old mid → Goes g other mid new
      → ((r : ℕ) (world between next : World) → one r world between → other r between next → step r world next) → Goes g step old new
  goes_on one other step old mid new first second joins r = record {
    was_honest = λ all. (first r).was_honest ((second r).was_honest all);
    went = λ all world stands.
        let a = (first r).went ((second r).was_honest all) world stands in
        let b = (second r).went all a.0 a.2 in (b.0, joins r world a.0 b.0 a.1 b.1, b.2);
  }

  pub goes_none : (step : ℕ → World → World → Type 0) (held : Held S) → ((r : ℕ) (world : World) → step r world world) → Goes g step held held
  goes_none step held stays r = record { was_honest = λ all. all; went = λ all world stands. (world, stays r world, stands) }

  pub goes_so : (one step : ℕ → World → World → Type 0) (old new : Held S) → Goes g one old new → ((r : ℕ) (world next : World) → one r world next → step r world next) → Goes g step old new
  goes_so one step old new goes weakens r = record {
    was_honest = (goes r).was_honest;
    went = λ all world stands. let n = (goes r).went all world stands in (n.0, weakens r world n.0 n.1, n.2);
  }

  -- whether or not it moved
  pub made_of : (wish : Wish) (text : List ℕ) (old new : Held S) → PlacedTurn wish text old new → TurnMade g wish text old new
  made_of wish text old new turn = goes_so _ (λ r world next. TakesMeetingTurn MAX_ENTRIES r wish world next text) old new turn (λ r world next t. t.0)

  moved_so : (moved : Bool) (before its after last : Position) → before ≡ its → after ≡ last → (moved ≡ false → after.version ≡ before.version) → (moved ≡ true → after.version ≢ before.version)
      → HasMoved moved its last
  moved_so true before its after last was is still other = rw (← was, ← is) (other refl)
  moved_so false before its after last was is still other = rw (← was, ← is) (still refl)

  pub turned_to : (moved : Bool) (wish : Wish) (text : List ℕ) (old new : Held S) → PlacedTurn wish text old new
      → (moved ≡ false → new.replica.position.version ≡ old.replica.position.version) → (moved ≡ true → new.replica.position.version ≢ old.replica.position.version)
      → TurnTo g moved wish text old new
  turned_to moved wish text old new turn still other =
      goes_so _ (λ r world next. (turn : TakesMeetingTurn MAX_ENTRIES r wish world next text) × HasMoved moved turn.before.position turn.after.position) old new turn (λ r world next t. (
        t.0,
        moved_so moved old.replica.position t.0.before.position new.replica.position t.0.after.position t.1 t.2 still other,
      ))
