-- From the step of a line to a run.
use Rattle.std.proofs.Common.{◌≡◌, ◌≤◌, ℕ, List, [], ◌∷◌, ◌++◌, refl, sym, ap, ◌∙◌, append_assoc, append-nil, subst, inr, length, arith}
use Rattle.std.specs.Prelude.{⊤, Option, Result, Ok, Err}
use Rattle.std.specs.Io.KnownBytes.{Appends}
use Rattle.std.proofs.KnownBytes.{Appends-nil}
use Rattle.cs_node_lines.specs.declared.asks.ask.Ask.{Ask}
use Rattle.cs_replica.specs.Step.{Member, member_of}
use Rattle.cs_opening.specs.Wider.{IsOpenedBy}
use Rattle.cs_pending.specs.View.{View}
use Rattle.cs_pending.specs.position.Laws.{FitsPosition}
use Rattle.cs_replica.specs.Holding.{Holding, Shows}
use Rattle.cs_store.specs.declared.store.RowStore.{Ghosts}
use Rattle.cs_value.specs.Catalog.{AreTables}
use Rattle.cs_value.specs.declared.catalog.TableDef.{TableDef}
use Rattle.cs_node_lines.specs.working.Endings.{EndsWorking, Worked, printed}
use Rattle.cs_node_lines.specs.working.LineStep.{InTurn, LineStep}
use Rattle.cs_node_lines.specs.working.Steps.{AllStepped, Stepped, Tells, TellsAll}
use Rattle.cs_node_lines.specs.declared.working.fault.NodeFault.{NodeFault}
use Rattle.cs_node_lines.proofs.WorkingLemmas.Printing.{breaks_off, prints_more}

-- one step more
turn_behind : {A : Type 0} (step : ℕ → ℕ → Member → A → List ℕ → Member → Type 0) (asked : List A) (texts : List (List ℕ)) (one : A) (text : List ℕ) (had mid has : ℕ) (before between after : Member)
    → InTurn step had mid before asked texts between → mid ≤ has → step mid has between one text after
    → InTurn step had has before (asked ++ one ∷ []) (texts ++ text ∷ []) after
turn_behind step [] [] one text had mid has before between after (same, count) later goes = (
  after,
  has,
  subst (λ (n : ℕ). n ≤ has) count later,
  subst (λ (n : ℕ). step n has before one text after) count (subst (λ (m : Member). step mid has m one text after) same goes),
  (refl, refl),
)
turn_behind step [] (t ∷ texts) one text had mid has before between after turns later goes = absurd turns
turn_behind step (a ∷ asked) [] one text had mid has before between after turns later goes = absurd turns
turn_behind step (a ∷ asked) (t ∷ texts) one text had mid has before between after turns later goes =
    (turns.0, turns.1, turns.2, turns.3, turn_behind step asked texts one text turns.1 mid has turns.0 between after turns.4 later goes)

module _ {S A : Type 0} (g : Ghosts S) (step : ℕ → ℕ → Member → A → List ℕ → Member → Type 0) where
  pub steps_none : (held : Holding S) → AllStepped g step [] [] held held
  steps_none held = record {
    later = omega arith;
    turns = record {
      was_honest = λ h. h;
      turned = λ h are fits view shows. (view, shows, fits, (refl, refl));
    };
  }

  pub steps_more : (old mid new : Holding S) (asked : List A) (texts : List (List ℕ)) (one : A) (text : List ℕ)
      → AreTables mid.catalog → AllStepped g step asked texts old mid → Stepped g step one text mid new → AllStepped g step (asked ++ one ∷ []) (texts ++ text ∷ []) old new
  steps_more old mid new asked texts one text its some last = record {
    later = omega (arith, some.later, last.later);
    turns = record {
      was_honest = λ h. some.turns.was_honest (last.turns.was_honest h);
      turned = λ h are fits view shows.
          let s = some.turns.turned (last.turns.was_honest h) are fits view shows in
          let o = last.turns.turned h its s.2 s.0 s.1 in
          let had = g.failed old.store in
          let count = g.failed mid.store in
          let has = g.failed new.store in (
            o.0,
            o.1,
            o.2,
            turn_behind step asked texts one text had count has (member_of old view) (member_of mid s.0) (member_of new o.0) s.3 last.later o.3,
          );
    };
  }

  -- ---- a run

  -- of all that is asked this is left, and what that before made of the replica, and printed
  abbrev pub IsGoing : List A → List A → Option (List ℕ) → Option (List ℕ) → Holding S → Holding S → Type 0
  IsGoing asked rest before after old now =
      (done : List A) × (texts : List (List ℕ)) × (asked ≡ done ++ rest) × AllStepped g step done texts old now
      × Appends before after (printed texts)

  pub going_first : (asked : List A) (before : Option (List ℕ)) (old : Holding S) → IsGoing asked asked before before old old
  going_first asked before old = ([], [], refl, steps_none old, Appends-nil before)

  pub going_on : (asked rest more : List A) (one : A) (failed : Type 0) (before between after : Option (List ℕ)) (old now next : Holding S)
      → rest ≡ one ∷ more → AreTables now.catalog → IsGoing asked rest before between old now → Tells g step one (Ok tt) failed between after now next
      → IsGoing asked more before after old next
  going_on asked rest more one failed before between after old now next is its (done, texts, all, turns, wrote) (text, goes, prints) = (
    done ++ one ∷ [],
    texts ++ text ∷ [],
    all ∙ ap (λ l. done ++ l) is ∙ sym (append_assoc done (one ∷ []) more),
    steps_more old now next done texts one text its turns goes,
    prints_more before between after texts text wrote prints,
  )

  pub going_ends : (asked rest more : List A) (one : A) (fault : NodeFault) (failed : Type 0) (before between after : Option (List ℕ)) (old now next : Holding S)
      → rest ≡ one ∷ more → AreTables now.catalog → IsGoing asked rest before between old now → Tells g step one (Err fault) failed between after now next
      → TellsAll g step asked (Err fault) failed before after old next
  going_ends asked rest more one fault failed before between after old now next is its (done, texts, all, turns, wrote) (text, goes, prints) = (
    done,
    one,
    more,
    texts,
    text,
    all ∙ ap (λ l. done ++ l) is,
    steps_more old now next done texts one text its turns goes,
    breaks_off fault failed before between after (printed texts) text wrote prints,
  )

  pub going_last : (asked rest : List A) (failed : Type 0) (before after : Option (List ℕ)) (old now : Holding S) → length rest ≡ 0
      → IsGoing asked rest before after old now → TellsAll g step asked (Ok tt) failed before after old now
  going_last asked [] failed before after old now none (done, texts, all, turns, wrote) =
      (texts, subst (λ (a : List A). AllStepped g step a texts old now) (sym (all ∙ append-nil done)) turns, wrote)
  going_last asked (one ∷ rest) failed before after old now none going = absurd (omega (arith, none))

module _ {S : Type 0} (g : Ghosts S) (id : ℕ) where
  -- ---- behind an opening

  -- the replica with the id over a store that was opened
  pub record Opened (tables : List TableDef) (store : S) (held : Holding S) : Type 0 where
    pub was_honest : g.honest held.store → g.honest store
    pub count : g.failed held.store ≡ g.failed store
    pub opened : g.honest held.store → IsOpenedBy tables id (g.contents store) (g.contents held.store) held.catalog held.position
    pub shown : g.honest held.store → (view : View) × Shows g.contents held view
    pub are : AreTables held.catalog
    pub fits : FitsPosition held.position

  pub worked : {A : Type 0} (step : ℕ → ℕ → Member → A → List ℕ → Member → Type 0) (tables : List TableDef) (store : S) (old new : Holding S) (asked : List A) (texts : List (List ℕ))
      → Opened tables store old → AllStepped g step asked texts old new → Worked g tables id step store new.store asked texts
  worked step tables store old new asked texts o counted = record {
    was_honest = λ h. o.was_honest (counted.turns.was_honest h);
    later = subst (λ (n : ℕ). n ≤ g.failed new.store) o.count counted.later;
    worked = λ h.
        let was = counted.turns.was_honest h in
        let seen = o.shown was in
        let t = counted.turns.turned h o.are o.fits seen.0 seen.1 in (
          g.contents old.store,
          member_of old seen.0,
          member_of new t.0,
          o.opened was,
          seen.1,
          subst (λ (n : ℕ). InTurn step n (g.failed new.store) (member_of old seen.0) asked texts (member_of new t.0)) o.count t.3,
          t.1,
        );
  }

  pub ends_working : (tables : List TableDef) (store last : S) (asks : List Ask) (result : Result ⊤ NodeFault) (failed : Type 0) (before after : Option (List ℕ)) (old new : Holding S)
      → last ≡ new.store → Opened tables store old → TellsAll g LineStep asks result failed before after old new
      → EndsWorking g tables id asks store last failed before after result
  ends_working tables store last asks (Ok done) failed before after old new is o (texts, turns, wrote) =
      rw is (texts, worked LineStep tables store old new asks texts o turns, wrote)
  ends_working tables store last asks (Err fault) failed before after old new is o (done, ask, later, texts, text, all, turns, breaks) =
      rw is (inr (done, ask, later, texts, text, all, worked LineStep tables store old new (done ++ ask ∷ []) (texts ++ text ∷ []) o turns, breaks))
