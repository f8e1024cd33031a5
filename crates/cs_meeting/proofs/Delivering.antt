-- What the hub's answer to the last request, and hearing it, make of a world.
use Rattle.std.proofs.Common.{◌≡◌, ◌<◌, ◌^◌, ◌∙◌, ℕ, suc, List, [], Some, None, Result, Ok, Err, length, slice_get, refl, sym, ap, subst, inl, inr, arith}
use Rattle.std.proofs.lemmas.Option.{slice_get_past}
use Rattle.cs_conflict.specs.declared.wish.Wish.{Wish}
use Rattle.cs_exchange.specs.declared.pulling.fault.AnswerFault.{AnswerFault}
use Rattle.cs_hub.specs.Calls.{AnswersHub, StaysHub}
use Rattle.cs_hub.specs.Holding as hub
use Rattle.cs_hub.specs.Serves.{ServesIf}
use Rattle.cs_hub.specs.judgement.Judged.{hub_of}
use Rattle.cs_node_lines.specs.declared.asks.ask.Ask.TheVariants.{Answer as AnswerLine}
use Rattle.cs_node_lines.specs.following.FollowStep.{AskStep}
use Rattle.cs_node_lines.specs.following.Laws.{SeenIsHeard}
use Rattle.cs_node_lines.specs.following.Seen.{HearsSeeing, SeesAnswer}
use Rattle.cs_node_lines.specs.working.LineStep.{SaysMemory}
use Rattle.cs_node_lines.specs.working.Steps.{Stepped}
use Rattle.cs_replica.specs.Holding as replica
use Rattle.cs_replica.specs.Step.{Member}
use Rattle.cs_replica.specs.declared.told.Told.{Told}
use Rattle.cs_store.specs.Calls.{MoreFailures}
use Rattle.cs_store.specs.declared.log.entry.TheConstants.{MAX_ENTRIES}
use Rattle.cs_store.specs.declared.store.RowStore.{Ghosts}
use Rattle.cs_value.specs.declared.catalog.TableDef.{TableDef}
use Rattle.cs_wire.specs.Answers.{FitsAnswer, answer_spelling}
use Rattle.cs_wire.specs.Laws.{OneToldAnswer}
use Rattle.cs_wire.specs.Requests.{Asked, request_spelling}
use Rattle.cs_wire.specs.declared.answer.Answer.{Answer}
use Rattle.cs_world.specs.Holding.{ShowsMember}
use Rattle.cs_world.specs.Laws.{AnswersFit, StepsAreSound}
use Rattle.cs_world.specs.Steps as step
use Rattle.cs_world.specs.Steps.{Step, heard}
use Rattle.cs_world.specs.World.{Asks as Asking, IsMessage, Tells, World, with_log, with_member, with_message}
use Rattle.cs_world.specs.declared.event.Event.TheVariants.{Deliver}
use Rattle.cs_world.specs.declared.outcome.Outcome.{Outcome}
use Rattle.cs_world.specs.declared.outcome.Outcome.TheVariants as told
use Rattle.cs_meeting.specs.Held.{Held, ShowsIn, StandsIn}
use Rattle.cs_meeting.specs.Steps.{GoesBehind, IsDelivered}
use Rattle.cs_meeting.specs.Turns.{Hearing, SaysHeard}
use Rattle.cs_meeting.proofs.Places.{added, set_there}
use Rattle.cs_meeting.proofs.Standing.{both, shows_more, shows_turned, stands_behind, turned}

module _ {S : Type 0} (g : Ghosts S) (sound : StepsAreSound) (small : MAX_ENTRIES < 2 ^ 32) where
  -- ---- memory was refused before the hub answered

  -- no message stands behind the last
  none_behind : (world : World) (k : ℕ) → length world.messages ≡ suc k → slice_get world.messages (suc k) ≡ None
  none_behind world k count = slice_get_past world.messages (suc k) (omega (arith, count))

  unserved : (r k : ℕ) (wishes : List Wish) (world : World) (text : List ℕ) → length world.messages ≡ suc k → SaysMemory text → IsDelivered r k wishes world world text
  unserved r k wishes world text count says = record {
    served = world;
    serving = told.Memory;
    hearing = told.NoMessage;
    serves = step.no_memory;
    hears = step.no_message (none_behind world k count);
    says = says;
  }

  pub goes_unasked : (held : Held S) (asked : Asked) (wishes : List Wish) (text : List ℕ) → SaysMemory text → (r : ℕ) → GoesBehind g r asked wishes text held held
  goes_unasked held asked wishes text memory r =
      record { was_honest = λ all. all; went = λ all world stands k there count. (world, unserved r k wishes world text count memory, stands) }

  pub goes_unserved : (h new : hub.Holding S) (one : replica.Holding S) (asked : Asked) (wishes : List Wish) (text : List ℕ) → SaysMemory text
      → StaysHub g h new → (r : ℕ) → GoesBehind g r asked wishes text (both g h one) (both g new one)
  goes_unserved h new one asked wishes text memory kept r = record {
    was_honest = λ all. record { hub = kept.was_honest all.hub; replica = all.replica };
    went = λ all world stands k there count. (
      world,
      unserved r k wishes world text count memory,
      (
        record {
          catalog = kept.catalog ∙ stands.0.catalog;
          log = (rw (kept.catalog, kept.same all.hub) stands.0.log.0, kept.newest ∙ stands.0.log.1, kept.widens ∙ stands.0.log.2);
          member = stands.0.member;
          is = stands.0.is;
          shows = stands.0.shows;
        },
        stands.1,
      ),
    );
  }

  -- ---- the hub answered

  module _ (fit : AnswersFit) (seen_heard : SeenIsHeard) (one_told : OneToldAnswer) where
    weaker : (device : Type 0) (old new : _) (asked answer : List ℕ) → ServesIf device MAX_ENTRIES old asked answer new → ServesIf (Unit {0}) MAX_ENTRIES old asked answer new
    weaker device old new asked answer (inl serves) = inl serves
    weaker device old new asked answer (inr (failed_so, is, same)) = inr (tt, is, same)

    -- as an answer that is sent as the next message
    served_so : (r k : ℕ) (asked : Asked) (h new : hub.Holding S) (one : replica.Holding S) (bytes : List ℕ) → g.honest new.store → AnswersHub g MAX_ENTRIES h (request_spelling asked) bytes new
        → (world : World) → StandsIn g MAX_ENTRIES r (both g h one) world → IsMessage world k (Asking r asked)
        → (answer : Answer) × (served : World) × FitsAnswer answer × (bytes ≡ answer_spelling answer)
        × Step MAX_ENTRIES world (Deliver k []) (told.Sent (length world.messages)) served
        × IsMessage served (length world.messages) (Tells r answer) × (served.tables ≡ world.tables)
        × StandsIn g MAX_ENTRIES r (both g new one) served
    served_so r k asked h new one bytes honest answers world stands there =
        let s = answers.answered honest world.log stands.0.log in
        let by_bytes = weaker (MoreFailures (g.failed h.store) (g.failed new.store)) (hub_of h.catalog world.log) (hub_of h.catalog s.0) (request_spelling asked) bytes s.1 in
        let by_tables : ServesIf (Unit {0}) MAX_ENTRIES (hub_of world.tables world.log) (request_spelling asked) bytes (hub_of world.tables s.0) =
        subst (λ (t : List TableDef). ServesIf (Unit {0}) MAX_ENTRIES (hub_of t world.log) (request_spelling asked) bytes (hub_of t s.0)) stands.0.catalog by_bytes in
        let f = fit MAX_ENTRIES world k asked bytes s.0 small stands.1 (inl (r, there)) by_tables in
        let next : World = with_log world s.0 in
        let served : World = with_message next (Tells r f.0) in
        let made : Step MAX_ENTRIES world (Deliver k []) (told.Sent (length world.messages)) served =
        step.serves f.0 there f.1 (subst (λ (b : List ℕ). ServesIf (Unit {0}) MAX_ENTRIES (hub_of world.tables world.log) (request_spelling asked) b (hub_of world.tables s.0)) f.2 by_tables) in
        let shows : ShowsIn g r (both g new one) next = record {
          catalog = answers.catalog ∙ stands.0.catalog;
          log = s.2;
          member = stands.0.member;
          is = stands.0.is;
          shows = stands.0.shows;
        } in (
          f.0,
          served,
          f.1,
          f.2,
          made,
          added world.messages (Tells r f.0),
          refl,
          stands_behind g sound small r (both g h one) (both g new one) world served (Deliver k []) (told.Sent (length world.messages)) stands made (shows_more g r (both g new one) next (Tells r f.0) shows),
        )

    -- the text of hearing it
    says_so : (r : ℕ) (wishes : List Wish) (result : Result Told AnswerFault) (old new : World) (text : List ℕ) → Hearing r wishes result old new text → SaysHeard r wishes (heard result) old new text
    says_so r wishes (Ok some) old new text hearing = hearing
    says_so r wishes (Err fault) old new text hearing = hearing

    -- hearing it, or not for want of memory
    heard_so : (r k : ℕ) (wishes : List Wish) (h : hub.Holding S) (old new : replica.Holding S) (answer : Answer) (text : List ℕ) (had has : ℕ) (served : World) (after : Member)
        → (stands : StandsIn g MAX_ENTRIES r (both g h old) served) → IsMessage served k (Tells r answer) → FitsAnswer answer
        → SeesAnswer served.tables had has stands.0.member (answer_spelling answer) wishes text after → ShowsMember g new after
        → (hearing : Outcome) × (next : World) × Step MAX_ENTRIES served (Deliver k wishes) hearing next × SaysHeard r wishes hearing served next text × StandsIn g MAX_ENTRIES r (both g h new) next
    heard_so r k wishes h old new answer text had has served after stands there fits (inl (its, result, seen, its_fits, spelled, hears, device, says)) shown =
        let same : Ok its ≡ Ok answer = one_told (answer_spelling answer) (Ok its) (Ok answer) (its_fits, spelled) (fits, refl) in
        let is : its ≡ answer = cc in
        let by_answer : HearsSeeing stands.0.member answer wishes result seen after = subst (λ (a : Answer). HearsSeeing stands.0.member a wishes result seen after) is hears in
        let next : World = with_member served r after in
        let made : Step MAX_ENTRIES served (Deliver k wishes) (heard result) next =
        step.hears there stands.0.is (seen_heard stands.0.member after answer wishes result seen by_answer) in
        let shows = shows_turned g r h old new served after stands.0 shown in (
          heard result,
          next,
          made,
          says_so r wishes result served next text (record {
            before = stands.0.member;
            after = after;
            number = k;
            answer = answer;
            seen = seen;
            was = stands.0.is;
            is = set_there served.members r after stands.0.member stands.0.is;
            told = there;
            hears = by_answer;
            says = says;
          }),
          stands_behind g sound small r (both g h old) (both g h new) served next (Deliver k wishes) (heard result) stands made shows,
        )
    heard_so r k wishes h old new answer text had has served after stands there fits (inr (same, inl (fault, bad, says))) shown =
        let never : Err fault ≡ Ok answer = one_told (answer_spelling answer) (Err fault) (Ok answer) bad (fits, refl) in absurd (cc)
    heard_so r k wishes h old new answer text had has served after stands there fits (inr (same, inr memory)) shown = (
      told.Memory,
      served,
      step.no_memory,
      memory,
      (
        record { catalog = stands.0.catalog; log = stands.0.log; member = after; is = stands.0.is ∙ ap (λ (m : Member). Some m) (sym same); shows = shown },
        stands.1,
      ),
    )

    pub goes_served : (tables : List TableDef) (h new : hub.Holding S) (old one : replica.Holding S) (asked : Asked) (wishes : List Wish) (request bytes text : List ℕ) → h.catalog ≡ tables → request ≡ request_spelling asked
        → AnswersHub g MAX_ENTRIES h request bytes new → Stepped g (AskStep tables) (AnswerLine bytes wishes) text old one
        → (r : ℕ) → GoesBehind g r asked wishes text (both g h old) (both g new one)
    goes_served tables h new old one asked wishes request bytes text by_these spelled answered stepped r = record {
      was_honest = λ all. record { hub = answers.was_honest all.hub; replica = stepped.turns.was_honest all.replica };
      went = λ all world stands k there count.
          let v = served_so r k asked h new old bytes all.hub answers world stands there in
          let t = turned g r new old one v.1 (λ before after. AskStep tables (g.failed old.store) (g.failed one.store) before (AnswerLine bytes wishes) text after) all.replica v.7 stepped.turns in
          let same : tables ≡ v.1.tables = sym by_these ∙ (stands.0.catalog ∙ sym v.6) in
          let sees : SeesAnswer v.1.tables (g.failed old.store) (g.failed one.store) v.7.0.member (answer_spelling v.0) wishes text t.0 =
          subst (λ (ts : List TableDef). SeesAnswer ts (g.failed old.store) (g.failed one.store) v.7.0.member (answer_spelling v.0) wishes text t.0) same
          (subst (λ (b : List ℕ). SeesAnswer tables (g.failed old.store) (g.failed one.store) v.7.0.member b wishes text t.0) v.3 t.1) in
          let at_next : IsMessage v.1 (suc k) (Tells r v.0) = subst (λ (n : ℕ). IsMessage v.1 n (Tells r v.0)) count v.5 in
          let n = heard_so r (suc k) wishes new old one v.0 text (g.failed old.store) (g.failed one.store) v.1 t.0 v.7 at_next v.2 sees t.2 in (
            n.1,
            record {
              served = v.1;
              serving = told.Sent (length world.messages);
              hearing = n.0;
              serves = v.4;
              hears = n.2;
              says = n.3;
            },
            n.4,
          );
    }
      where
        answers : AnswersHub g MAX_ENTRIES h (request_spelling asked) bytes new
        answers = subst (λ (q : List ℕ). AnswersHub g MAX_ENTRIES h q bytes new) spelled answered
