-- What asking makes of a world.
use Rattle.std.proofs.Common.{◌≡◌, ◌<◌, ◌^◌, ◌∙◌, ℕ, suc, List, Option, Some, None, Result, Ok, Err, length, slice_get, refl, sym, ap, subst}
use Rattle.std.specs.Prelude.{IsSome}
use Rattle.cs_exchange.specs.declared.pushing.fault.PushFault.{PushFault}
use Rattle.cs_exchange.specs.pushing.Pushes.{IsResendFault, pushed, request_of}
use Rattle.cs_hub.specs.Holding as hub
use Rattle.cs_normal.specs.declared.normal.TableChanges.{TableChanges}
use Rattle.cs_pending.specs.declared.position.position.Position.{Position}
use Rattle.cs_pending.specs.position.Shows.{flown}
use Rattle.cs_replica.specs.Holding as replica
use Rattle.cs_replica.specs.Step.{IsPushedTo, IsResent, Member, Turns}
use Rattle.cs_store.specs.declared.log.entry.TheConstants.{MAX_ENTRIES}
use Rattle.cs_store.specs.declared.store.RowStore.{Ghosts}
use Rattle.cs_wire.specs.Requests.{Asked, AsksCatch, asked_by_owned}
use Rattle.cs_wire.specs.declared.request.RequestBuf.{RequestBuf}
use Rattle.cs_world.specs.Laws.{StepsAreSound}
use Rattle.cs_world.specs.Steps as step
use Rattle.cs_world.specs.Steps.{Step}
use Rattle.cs_world.specs.World.{Asks as Asking, Sent, World, with_member, with_message}
use Rattle.cs_world.specs.declared.event.Event.TheVariants.{AskCatch, MakePush, Resend}
use Rattle.cs_world.specs.declared.outcome.Outcome.TheVariants as told
use Rattle.cs_meeting.specs.Asks.{asked_event}
use Rattle.cs_meeting.specs.Held.{Held, ShowsIn, StandsIn}
use Rattle.cs_meeting.specs.Steps.{Asks, IsAsked}
use Rattle.cs_meeting.specs.declared.ask.Ask.{Ask}
use Rattle.cs_meeting.specs.declared.ask.Ask.TheVariants as ask
use Rattle.cs_meeting.specs.declared.ask.TheConstants.{AT_ONCE}
use Rattle.cs_meeting.proofs.Places.{added, one_longer}
use Rattle.cs_meeting.proofs.Standing.{both, shows_more, shows_turned, stands_behind, turned}

module _ {S : Type 0} (g : Ghosts S) (sound : StepsAreSound) (small : MAX_ENTRIES < 2 ^ 32) where
  -- a request was sent as the last message, whatever became of the replica
  sent : (r : ℕ) (what : Ask) (request : RequestBuf) (old new : Held S) (world turned_to : World) → StandsIn g MAX_ENTRIES r old world → length turned_to.messages ≡ length world.messages
      → Step MAX_ENTRIES world (asked_event r what) (told.Sent (length world.messages)) (with_message turned_to (Asking r (asked_by_owned request)))
      → ShowsIn g r new turned_to
      → (next : World) × IsAsked r what (Ok request) world next × StandsIn g MAX_ENTRIES r new next
  sent r what request old new world turned_to stands count made shows =
      let message : Sent = Asking r (asked_by_owned request) in
      let next : World = with_message turned_to message in
      let there : slice_get next.messages (length world.messages) ≡ Some message = subst (λ (n : ℕ). slice_get next.messages n ≡ Some message) count (added turned_to.messages message) in (
        next,
        (made, there, one_longer turned_to.messages message ∙ ap (λ (n : ℕ). suc n) count),
        stands_behind g sound small r old new world next (asked_event r what) (told.Sent (length world.messages)) stands made (shows_more g r new turned_to message shows),
      )

  -- entries
  pub asks_catch : (h : hub.Holding S) (one : replica.Holding S) (request : RequestBuf) → asked_by_owned request ≡ AsksCatch one.position.id one.position.version AT_ONCE → AT_ONCE < 2 ^ 32
      → Asks g ask.Catch (Ok request) (both g h one) (both g h one)
  asks_catch h one request is few r = record {
    was_honest = λ all. all;
    went = λ all world stands.
        let m = stands.0.member in
        let its : AsksCatch m.position.id m.position.version AT_ONCE ≡ asked_by_owned request = ap (λ (p : Position). AsksCatch p.id p.version AT_ONCE) (sym stands.0.shows.position) ∙ sym is in
        let made : Step MAX_ENTRIES world (AskCatch r AT_ONCE) (told.Sent (length world.messages)) (with_message world (Asking r (asked_by_owned request))) =
        subst (λ (a : Asked). Step MAX_ENTRIES world (AskCatch r AT_ONCE) (told.Sent (length world.messages)) (with_message world (Asking r a))) its (step.catches few stands.0.is) in
        sent r ask.Catch request (both g h one) (both g h one) world world stands refl made stands.0;
  }

  -- the push under way, once more
  resent : (position : Position) (flight : Option (List TableChanges)) → position.flight ≡ flight → IsSome flight
      → (changes : List TableChanges) × (position.flight ≡ Some changes) × (request_of position (flown position.flight) ≡ request_of position changes)
  resent position None is some = let e = some in absurd (cc)
  resent position (Some changes) is some = (changes, is, ap (λ (f : Option (List TableChanges)). request_of position (flown f)) is)

  pub asks_resend : (h : hub.Holding S) (one : replica.Holding S) (result : Result RequestBuf PushFault) → IsResent result one.position
      → Asks g ask.Resend result (both g h one) (both g h one)
  asks_resend h one (Ok request) (some, is) r = record {
    was_honest = λ all. all;
    went = λ all world stands.
        let m = stands.0.member in
        let f = resent one.position one.position.flight refl some in
        let flight : m.position.flight ≡ Some f.0 = ap (λ (p : Position). p.flight) (sym stands.0.shows.position) ∙ f.1 in
        let its : request_of m.position f.0 ≡ asked_by_owned request = sym (is ∙ (f.2 ∙ ap (λ (p : Position). request_of p f.0) stands.0.shows.position)) in
        let made : Step MAX_ENTRIES world (Resend r) (told.Sent (length world.messages)) (with_message world (Asking r (asked_by_owned request))) =
        subst (λ (a : Asked). Step MAX_ENTRIES world (Resend r) (told.Sent (length world.messages)) (with_message world (Asking r a))) its (step.resends stands.0.is flight) in
        sent r ask.Resend request (both g h one) (both g h one) world world stands refl made stands.0;
  }
  asks_resend h one (Err fault) why r = record {
    was_honest = λ all. all;
    went = λ all world stands. (
      world,
      (step.resends_not stands.0.is (subst (IsResendFault fault) stands.0.shows.position why), refl),
      stands,
    );
  }

  -- what is pending
  pub asks_push : (h : hub.Holding S) (old new : replica.Holding S) (result : Result RequestBuf PushFault) → Turns g (IsPushedTo result) old new
      → Asks g ask.Push result (both g h old) (both g h new)
  asks_push h old new (Ok request) turns r = record {
    was_honest = λ all. record { hub = all.hub; replica = turns.was_honest all.replica };
    went = λ all world stands.
        let t = turned g r h old new world (IsPushedTo (Ok request)) all.replica stands turns in
        let p = t.1 in
        let after : World = with_member world r t.0 in
        let made : Step MAX_ENTRIES world (MakePush r) (told.Sent (length world.messages)) (with_message after (Asking r (asked_by_owned request))) =
        subst (λ (a : Asked). Step MAX_ENTRIES world (MakePush r) (told.Sent (length world.messages)) (with_message after (Asking r a))) (sym p.4)
        (subst (λ (m : Member). Step MAX_ENTRIES world (MakePush r) (told.Sent (length world.messages)) (with_message (with_member world r m) (Asking r (request_of (pushed stands.0.member.position p.0) p.0)))) (sym p.2) (step.pushes {left = p.1} stands.0.is p.3)) in
        sent r ask.Push request (both g h old) (both g h new) world after stands refl made (shows_turned g r h old new world t.0 stands.0 t.2);
  }
  asks_push h old new (Err fault) turns r = record {
    was_honest = λ all. record { hub = all.hub; replica = turns.was_honest all.replica };
    went = λ all world stands.
        let t = turned g r h old new world (IsPushedTo (Err fault)) all.replica stands turns in
        let made : Step MAX_ENTRIES world (MakePush r) (told.NotPushed fault) world = step.pushes_not stands.0.is t.1.1 in (
          world,
          (made, refl),
          (record { catalog = stands.0.catalog; log = stands.0.log; member = t.0; is = stands.0.is ∙ ap (λ (m : Member). Some m) (sym t.1.0); shows = t.2 }, stands.1),
        );
  }
