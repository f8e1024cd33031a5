-- Turns one behind another, as they are printed, and what a meeting comes to.
use Rattle.std.proofs.Common.{◌≡◌, ◌+◌, ◌<◌, ◌∙◌, ◌++◌, ℕ, Bool, true, false, List, [], ◌∷◌, Some, None, Ok, Err, length, refl, sym, ap, subst, inl, inr, arith, append_assoc, append-nil}
use Rattle.std.specs.Prelude.{Option}
use Rattle.std.specs.Io.KnownBytes.{Appends, Keeps}
use Rattle.std.proofs.KnownBytes.{Appends-kept, Appends-trans}
use Rattle.cs_conflict.specs.declared.wish.Wish.{Wish}
use Rattle.cs_node_lines.specs.told.Dump.{replica_text}
use Rattle.cs_node_lines.specs.working.Endings.{printed}
use Rattle.cs_pending.specs.declared.position.position.Position.{Position}
use Rattle.cs_store.specs.declared.log.entry.TheConstants.{MAX_ENTRIES}
use Rattle.cs_store.specs.declared.store.RowStore.{Ghosts}
use Rattle.cs_text.specs.Text.{line}
use Rattle.cs_world.specs.World.{World}
use Rattle.cs_meeting.specs.Asks.{next_ask}
use Rattle.cs_meeting.specs.Ends.{BreaksOff}
use Rattle.cs_meeting.specs.Held.{Held}
use Rattle.cs_meeting.specs.Steps.{AllMet, Goes, MetTold, TellsPlace, TurnMade, TurnTold}
use Rattle.cs_meeting.specs.Turns.{Meets, MovesOn, TakesMeetingTurn, TakesMeetingTurns}
use Rattle.cs_meeting.specs.declared.ask.TheConstants.{TURNS}
use Rattle.cs_meeting.specs.declared.fault.MeetingFault.{MeetingFault}
use Rattle.cs_meeting.specs.declared.fault.MeetingFault.TheVariants as fault
use Rattle.cs_meeting.proofs.Places.{one_longer}
use Rattle.cs_meeting.proofs.Turning.{goes_none, goes_on, goes_so, one_more, one_moved, turns_of}

printed_more : (texts : List (List ℕ)) (text : List ℕ) → printed (texts ++ text ∷ []) ≡ printed texts ++ text
printed_more [] text = append-nil text
printed_more (first ∷ texts) text = ap (λ l. first ++ l) (printed_more texts text) ∙ sym (append_assoc first (printed texts) text)

pub prints_more : (a b c : Option (List ℕ)) (texts : List (List ℕ)) (text : List ℕ) → Appends a b (printed texts) → Appends b c text
    → Appends a c (printed (texts ++ text ∷ []))
prints_more a b c texts text before now = rw (printed_more texts text) (Appends-trans a b c (printed texts) text before now)

prints_none : (a : Option (List ℕ)) → Appends a a []
prints_none None = tt
prints_none (Some xs) = sym (append-nil xs)

pub keeps_itself : (a : Option (List ℕ)) → Keeps a a
keeps_itself None = tt
keeps_itself (Some xs) = refl

module _ {S : Type 0} (g : Ghosts S) (wish : Wish) where
  -- so many turns were taken, each of which moved, and their texts are printed
  pub record MetSo (count : ℕ) (before after : Option (List ℕ)) (old new : Held S) : Type 0 where
    pub texts : List (List ℕ)
    pub counted : length texts ≡ count
    pub goes : Goes g (λ r world next. MovesOn MAX_ENTRIES r wish world texts next) old new
    pub printed_so : Appends before after (printed texts)

  pub met_none : (before : Option (List ℕ)) (held : Held S) → MetSo 0 before before held held
  met_none before held = record { texts = []; counted = refl; goes = goes_none g (λ r world next. next ≡ world) held (λ r world. refl); printed_so = prints_none before }

  -- one turn more, whether or not it moved
  more : (texts : List (List ℕ)) (text : List ℕ) (old mid new : Held S) → Goes g (λ r world next. MovesOn MAX_ENTRIES r wish world texts next) old mid → TurnMade g wish text mid new
      → Goes g (λ r world next. TakesMeetingTurns MAX_ENTRIES r wish world (texts ++ text ∷ []) next) old new
  more texts text old mid new goes turn =
      goes_on g (λ r world next. MovesOn MAX_ENTRIES r wish world texts next) (λ r world next. TakesMeetingTurn MAX_ENTRIES r wish world next text) (λ r world next. TakesMeetingTurns MAX_ENTRIES r wish world (texts ++ text ∷ []) next)
      old mid new goes turn (λ r world between next a b. one_more g MAX_ENTRIES r wish texts text world between next (turns_of g MAX_ENTRIES r wish texts world between a) b)

  pub met_more : (count : ℕ) (write_failed : Type 0) (before between after : Option (List ℕ)) (old mid new : Held S) → MetSo count before between old mid
      → TurnTold g wish (Ok true) write_failed between after mid new → MetSo (count + 1) before after old new
  met_more count write_failed before between after old mid new met (text, turn, prints) = record {
    texts = met.texts ++ text ∷ [];
    counted = let longer = one_longer met.texts text in let counted = met.counted in omega (arith, longer, counted);
    goes = goes_on g (λ r world next. MovesOn MAX_ENTRIES r wish world met.texts next) _ (λ r world next. MovesOn MAX_ENTRIES r wish world (met.texts ++ text ∷ []) next)
        old mid new met.goes turn (λ r world among next a b. one_moved g MAX_ENTRIES r wish met.texts text world among next a b.0 b.1);
    printed_so = prints_more before between after met.texts text met.printed_so prints;
  }

  pub met_still : (count : ℕ) → count < TURNS → (write_failed : Type 0) (before between after : Option (List ℕ)) (old mid new : Held S) → MetSo count before between old mid
      → TurnTold g wish (Ok false) write_failed between after mid new → AllMet g wish (Ok false) write_failed before after old new
  met_still count few write_failed before between after old mid new met (text, turn, prints) = (
    met.texts ++ text ∷ [],
    goes_on g (λ r world next. MovesOn MAX_ENTRIES r wish world met.texts next) _ (λ r world next. Meets MAX_ENTRIES r wish false world (met.texts ++ text ∷ []) next)
        old mid new met.goes turn (λ r world among next a b. inl (met.texts, text, among, refl, subst (λ (n : ℕ). n < TURNS) (sym met.counted) few, a, b.0, b.1)),
    prints_more before between after met.texts text met.printed_so prints,
  )

  pub met_rest : (count : ℕ) → count < TURNS → (write_failed : Type 0) (before after : Option (List ℕ)) (old new : Held S) → MetSo count before after old new
      → next_ask new.hub.newest new.replica.position ≡ None → AllMet g wish (Ok true) write_failed before after old new
  met_rest count few write_failed before after old new met none = (
    met.texts,
    λ r. record {
      was_honest = (met.goes r).was_honest;
      went = λ all world stands.
          let n = (met.goes r).went all world stands in
          let at_rest : next_ask (length n.0.log) n.2.0.member.position ≡ None =
          subst (λ (p : Position). next_ask (length n.0.log) p ≡ None) n.2.0.shows.position (subst (λ (k : ℕ). next_ask k new.replica.position ≡ None) n.2.0.log.1 none) in
          (n.0, (n.1, (n.2.0.member, n.2.0.is, at_rest), subst (λ (k : ℕ). k < TURNS) (sym met.counted) few), n.2);
    },
    met.printed_so,
  )

  pub met_all : (count : ℕ) (write_failed : Type 0) (before after : Option (List ℕ)) (old new : Held S) → MetSo count before after old new → count ≡ TURNS
      → AllMet g wish (Ok false) write_failed before after old new
  met_all count write_failed before after old new met all = (
    met.texts,
    goes_so g (λ r world next. MovesOn MAX_ENTRIES r wish world met.texts next) (λ r world next. Meets MAX_ENTRIES r wish false world met.texts next) old new met.goes (λ r world next t. inr (t, met.counted ∙ all)),
    met.printed_so,
  )

  -- none more
  no_more : (texts : List (List ℕ)) (old new : Held S) → Goes g (λ r world next. MovesOn MAX_ENTRIES r wish world texts next) old new
      → Goes g (λ r world next. TakesMeetingTurns MAX_ENTRIES r wish world (texts ++ []) next) old new
  no_more texts old new goes =
      goes_so g (λ r world next. MovesOn MAX_ENTRIES r wish world texts next) (λ r world next. TakesMeetingTurns MAX_ENTRIES r wish world (texts ++ []) next) old new goes
      (λ r world next t. subst (λ (ts : List (List ℕ)). TakesMeetingTurns MAX_ENTRIES r wish world ts next) (sym (append-nil texts)) (turns_of g MAX_ENTRIES r wish texts world next t))

  pub met_fault : (why : MeetingFault) (count : ℕ) (write_failed : Type 0) (before between after : Option (List ℕ)) (old mid new : Held S) → MetSo count before between old mid
      → TurnTold g wish (Err why) write_failed between after mid new → AllMet g wish (Err why) write_failed before after old new
  met_fault fault.Memory count write_failed before between after old mid new met (kept, inl same) = (
    met.texts,
    [],
    [],
    subst (λ (h : Held S). Goes g (λ r world next. TakesMeetingTurns MAX_ENTRIES r wish world (met.texts ++ []) next) old h) (sym same) (no_more met.texts old mid met.goes),
    inr (refl, refl),
    Appends-kept before between after (printed met.texts) met.printed_so kept,
  )
  met_fault fault.Memory count write_failed before between after old mid new met (kept, inr (text, turn)) = (
    met.texts,
    text ∷ [],
    text,
    more met.texts text old mid new met.goes turn,
    inl refl,
    Appends-kept before between after (printed met.texts) met.printed_so kept,
  )
  met_fault fault.Write count write_failed before between after old mid new met (text, turn, front, failed) = (
    met.texts,
    text ∷ [],
    text,
    more met.texts text old mid new met.goes turn,
    inl refl,
    (front.0, front.1, front.2, Appends-trans before between after (printed met.texts) front.0 met.printed_so front.3, failed),
  )
  met_fault (fault.Hub why) count write_failed before between after old mid new met told = absurd told
  met_fault (fault.Replica why) count write_failed before between after old mid new met told = absurd told

  -- ---- and where the replica stands then

  pub told_place : (at_rest : Bool) (write_failed : Type 0) (before between after : Option (List ℕ)) (old new : Held S) (place : List ℕ) → AllMet g wish (Ok at_rest) write_failed before between old new
      → Appends between after place → (texts : List (List ℕ)) × Goes g (λ r world next. Meets MAX_ENTRIES r wish at_rest world texts next) old new × Appends before after (printed (texts ++ place ∷ []))
  told_place at_rest write_failed before between after old new place (texts, goes, prints) now =
      (texts, goes, prints_more before between after texts place prints now)

  meets_turns : (at_rest : Bool) (r : ℕ) (world next : World) (texts : List (List ℕ)) → Meets MAX_ENTRIES r wish at_rest world texts next → TakesMeetingTurns MAX_ENTRIES r wish world texts next
  meets_turns true r world next texts meets = turns_of g MAX_ENTRIES r wish texts world next meets.0
  meets_turns false r world next texts (inl (front, text, between, is, few, moves, turn, still)) =
      subst (λ (ts : List (List ℕ)). TakesMeetingTurns MAX_ENTRIES r wish world ts next) (sym is) (one_more g MAX_ENTRIES r wish front text world between next (turns_of g MAX_ENTRIES r wish front world between moves) turn)
  meets_turns false r world next texts (inr meets) = turns_of g MAX_ENTRIES r wish texts world next meets.0

  place_breaks : (why : MeetingFault) (write_failed : Type 0) (before between after : Option (List ℕ)) (done place : List ℕ) → Appends before between done
      → TellsPlace (Err why) write_failed between after place → BreaksOff why write_failed before after done place
  place_breaks fault.Memory write_failed before between after done place wrote kept = Appends-kept before between after done wrote kept
  place_breaks fault.Write write_failed before between after done place wrote (front, failed) =
      (front.0, front.1, front.2, Appends-trans before between after done front.0 wrote front.3, failed)
  place_breaks (fault.Hub reason) write_failed before between after done place wrote tells = absurd tells
  place_breaks (fault.Replica reason) write_failed before between after done place wrote tells = absurd tells

  pub untold_place : (at_rest : Bool) (why : MeetingFault) (its_failed write_failed : Type 0) (before between after : Option (List ℕ)) (old new : Held S)
      → AllMet g wish (Ok at_rest) its_failed before between old new
      → TellsPlace (Err why) write_failed between after (line (replica_text new.replica.position.id new.replica.position)) → MetTold g wish (Err why) write_failed before after old new
  untold_place at_rest why its_failed write_failed before between after old new (texts, goes, prints) tells =
      let place = line (replica_text new.replica.position.id new.replica.position) in (
        texts,
        [],
        place,
        goes_so g (λ r world next. Meets MAX_ENTRIES r wish at_rest world texts next) (λ r world next. TakesMeetingTurns MAX_ENTRIES r wish world (texts ++ []) next) old new goes
            (λ r world next meets. subst (λ (ts : List (List ℕ)). TakesMeetingTurns MAX_ENTRIES r wish world ts next) (sym (append-nil texts)) (meets_turns at_rest r world next texts meets)),
        inr (refl, inl refl),
        place_breaks why write_failed before between after (printed texts) place prints tells,
      )
