-- A picker that another stands for makes of a replica what the other does.
use Rattle.std.proofs.Common.{◌≡◌, ℕ, zero, suc, List, [], ◌∷◌, Result, Ok, Err, refl, sym, subst, inl, inr}
use Rattle.std.specs.Prelude.{Option}
use Rattle.cs_conflict.specs.declared.clash.Clash.{Clash}
use Rattle.cs_conflict.specs.declared.conflict.Conflict.{Conflict}
use Rattle.cs_conflict.specs.declared.wish.Wish.{Wish}
use Rattle.cs_conflict.specs.declared.wish.Wish.TheVariants.{Stop}
use Rattle.cs_exchange.specs.declared.pulling.fault.AnswerFault.{AnswerFault}
use Rattle.cs_exchange.specs.declared.pulling.fault.AnswerFault.TheVariants as fault
use Rattle.cs_exchange.specs.declared.pulling.listing.Pulled.{Pulled}
use Rattle.cs_exchange.specs.declared.pulling.listing.Pulled.TheVariants as pulled
use Rattle.cs_exchange.specs.pulling.Listed.{Ends, PullsList, PullsMany, count_of}
use Rattle.cs_exchange.specs.pulling.Merged.{TakesTold}
use Rattle.cs_exchange.specs.pulling.Pulls.{IsPulledBody, PullsOne}
use Rattle.cs_exchange.specs.taking.Takes.{Asks, IsTaken, StopsAt, StopsTaking, TakeAll}
use Rattle.cs_normal.specs.State.{State}
use Rattle.cs_normal.specs.declared.normal.TableChanges.{TableChanges}
use Rattle.cs_pending.specs.View.{View}
use Rattle.cs_pending.specs.declared.position.position.Position.{Position}
use Rattle.cs_replica.specs.Answered.{Answers, TellsMerged, told_of}
use Rattle.cs_replica.specs.declared.told.Told.{Told}
use Rattle.cs_replica.specs.declared.told.Told.TheVariants.{Stopped}
use Rattle.cs_store.specs.Contents.{Contents}
use Rattle.cs_store.specs.declared.log.body.Body.{Body}
use Rattle.cs_store.specs.declared.log.body.Body.TheVariants.{Changes, Widen}
use Rattle.cs_store.specs.declared.log.entry.LogEntry.{LogEntry}
use Rattle.cs_store.specs.log.Log.{catalog_after}
use Rattle.cs_tasks.specs.Tasks.{Task}
use Rattle.cs_value.specs.Key.{Place}
use Rattle.cs_value.specs.declared.catalog.TableDef.{TableDef}
use Rattle.cs_wire.specs.Entries.{ToldEntry}
use Rattle.cs_wire.specs.declared.answer.Answer.{Answer}
use Rattle.cs_wire.specs.declared.answer.Answer.TheVariants.{Short, Entries, Merged}
use Rattle.cs_wire.specs.declared.short_answer.ShortAnswer.TheVariants as short

-- `stands` says that a state of the one stands for one of the other, and each answer of the first is one of the second
module _ {P Q : Type 0} (picks : P → Clash → Wish → P → Type 0) (sees : Q → Clash → Wish → Q → Type 0) (stands : P → Q → Type 0)
    (follows : (p after : P) (q : Q) (clash : Clash) (wish : Wish) → stands p q → picks p clash wish after → (next : Q) × sees q clash wish next × stands after next) where
  kept : (p after : P) (q : Q) → stands p q → after ≡ p → stands after q
  kept p after q so same = subst (λ x. stands x q) (sym same) so

  asks_so : (task : Task) (log own : Place) (p after : P) (q : Q) (wish : Wish) → stands p q → Asks picks task log own p wish after
      → (next : Q) × Asks sees task log own q wish next × stands after next
  asks_so task log own p after q wish so (inl (none, same)) = (q, inl (none, refl), kept p after q so same)
  asks_so task log own p after q wish so (inr (clash, is, picked)) =
      let n = follows p after q clash wish so picked in
      (n.0, inr (clash, is, n.1), n.2)

  take_so : (log own theirs merged : State) (ts : List Task) (p after : P) (q : Q) → stands p q → TakeAll picks log own theirs merged ts p after
      → (next : Q) × TakeAll sees log own theirs merged ts q next × stands after next
  unfolding TakeAll
  take_so log own theirs merged [] p after q so same = (q, refl, kept p after q so same)
  take_so log own theirs merged (t ∷ ts) p after q so (wish, between, on, asks, is, rest) =
      let a = asks_so t (log t.name t.key) (own t.name t.key) p between q wish so asks in
      let b = take_so log own theirs merged ts between after a.0 a.2 rest in
      (b.0, (wish, a.0, on, a.1, is, b.1), b.2)

  stops_so : (log own : State) (ts : List Task) (p after : P) (q : Q) (conflict : Conflict) → stands p q → StopsAt picks log own ts p conflict after
      → (next : Q) × StopsAt sees log own ts q conflict next × stands after next
  unfolding StopsAt
  stops_so log own [] p after q conflict so stops = absurd stops
  stops_so log own (t ∷ ts) p after q conflict so (inl (clash, is, picked, of)) =
      let n = follows p after q clash Stop so picked in
      (n.0, inl (clash, is, n.1, of), n.2)
  stops_so log own (t ∷ ts) p after q conflict so (inr (wish, between, on, asks, rest)) =
      let a = asks_so t (log t.name t.key) (own t.name t.key) p between q wish so asks in
      let b = stops_so log own ts between after a.0 conflict a.2 rest in
      (b.0, inr (wish, a.0, on, a.1, b.1), b.2)

  module _ (tables : List TableDef) where
    taken_so : (flight : Option (List TableChanges)) (entry : List TableChanges) (before after : View) (p r : P) (q : Q) → stands p q → IsTaken picks tables flight entry before after p r
        → (next : Q) × IsTaken sees tables flight entry before after q next × stands r next
    taken_so flight entry before after p r q so taken =
        let n = take_so _ _ _ _ _ p r q so taken.takes in
        (n.0, record { takes = n.1; applied = taken.applied; others = taken.others; pending = taken.pending }, n.2)

    stopping_so : (flight : Option (List TableChanges)) (entry : List TableChanges) (before : View) (p r : P) (q : Q) (conflict : Conflict) → stands p q → StopsTaking picks tables flight entry before p conflict r
        → (next : Q) × StopsTaking sees tables flight entry before q conflict next × stands r next
    stopping_so flight entry before p r q conflict so stopping =
        let n = stops_so _ _ _ p r q conflict so stopping.stops in
        (n.0, record { defined = stopping.defined; stops = n.1 }, n.2)

    body_so : (flight : Option (List TableChanges)) (body : Body) (before after : View) (p r : P) (q : Q) → stands p q → IsPulledBody picks tables flight body before after p r
        → (next : Q) × IsPulledBody sees tables flight body before after q next × stands r next
    body_so flight (Changes changes) before after p r q so taken = taken_so flight changes before after p r q so taken
    body_so flight (Widen name width) before after p r q so (widened, same) = (q, (widened, refl), kept p r q so same)

    pulls_so : (position : Position) (entry : LogEntry) (before after : View) (p r : P) (q : Q) → stands p q → PullsOne picks tables position entry before p after r
        → (next : Q) × PullsOne sees tables position entry before q after next × stands r next
    pulls_so position entry before after p r q so (room, inl (own, same, none)) = (q, (room, inl (own, same, refl)), kept p r q so none)
    pulls_so position entry before after p r q so (room, inr (others, pulled)) =
        let n = body_so position.flight entry.body before after p r q so pulled in
        (n.0, (room, inr (others, n.1)), n.2)

  -- ---- the entries of an answer

  many_so : (first : ℕ) (entries : List ToldEntry) (count : ℕ) (tables others : List TableDef) (position other : Position) (view end : View) (p r : P) (q : Q) → stands p q
      → PullsMany picks first entries count tables position view p others other end r
      → (next : Q) × PullsMany sees first entries count tables position view q others other end next × stands r next
  unfolding PullsMany
  many_so first entries zero tables others position other view end p r q so (wide, here, still, none) = (q, (wide, here, still, refl), kept p r q so none)
  many_so first entries (suc count) tables others position other view end p r q so (told, entry, pending, left, middle, between, at, read, pulls, shown, more) =
      let a = pulls_so tables position entry view middle p between q so pulls in
      let b = many_so first entries count (catalog_after tables entry.body) others _ other middle end between r a.0 a.2 more in
      (b.0, (told, entry, pending, left, middle, a.0, at, read, a.1, shown, b.1), b.2)

  -- what a list leaves, but where it failed
  abbrev pub Left : Result Pulled AnswerFault → P → Q → Type 0
  Left (Ok done) p q = stands p q
  Left (Err failed) p q = Unit {0}

  ends_so : (tables : List TableDef) (first : ℕ) (entries : List ToldEntry) (result : Result Pulled AnswerFault) (position : Position) (view : View) (p r : P) (q : Q) → stands p q
      → Ends picks first entries result tables position view p r
      → (next : Q) × Ends sees first entries result tables position view q next × Left result r next
  ends_so tables first entries (Ok (pulled.Taken count)) position view p r q so (none, same) = (q, (none, refl), kept p r q so same)
  ends_so tables first entries (Ok (pulled.Stopped count)) position view p r q so stopped =
      let n = stopping_so tables position.flight _ view p r q stopped.conflict so stopped.stops.stops in (
        n.0,
        record {
          told = stopped.told;
          entry = stopped.entry;
          conflict = stopped.conflict;
          there = stopped.there;
          read = stopped.read;
          stops = record { room = stopped.stops.room; others = stopped.stops.others; stops = n.1 };
        },
        n.2,
      )
  ends_so tables first entries (Err (fault.Memory count)) position view p r q so ends = (q, tt, tt)
  ends_so tables first entries (Err (fault.Device count)) position view p r q so ends = (q, tt, tt)
  ends_so tables first entries (Err (fault.BadEntry count)) position view p r q so (bad, same) =
      (q, (record { told = bad.told; there = bad.there; bad = bad.bad }, refl), tt)

  list_so : (tables others : List TableDef) (first : ℕ) (entries : List ToldEntry) (result : Result Pulled AnswerFault) (position other : Position) (view : View) (new : Contents) (p r : P) (q : Q) → stands p q
      → PullsList picks first entries result tables position view p others other new r
      → (next : Q) × PullsList sees first entries result tables position view q others other new next × Left result r next
  list_so tables others first entries result position other view new p r q so (end, between, many, shows, ends) =
      let m = many_so first entries (count_of result) tables others position other view end p between q so many in
      let e = ends_so others first entries result other end between r m.0 m.2 ends in
      (e.0, (end, m.0, m.1, shows, e.1), e.2)

  -- ---- entries that are told together

  told_so : (tables : List TableDef) (last : ℕ) (bytes : List ℕ) (result : Result Pulled AnswerFault) (position other : Position) (before : View) (new : Contents) (p r : P) (q : Q) → stands p q
      → TakesTold picks tables last bytes result position before p other new r
      → (next : Q) × TakesTold sees tables last bytes result position before q other new next × Left result r next
  told_so tables last bytes (Ok (pulled.Taken count)) position other before new p r q so (to, changes, after, form, is, shows, taken) =
      let n = taken_so tables position.flight changes before after p r q so taken in
      (n.0, (to, changes, after, form, is, shows, n.1), n.2)
  told_so tables last bytes (Ok (pulled.Stopped count)) position other before new p r q so (none, changes, conflict, form, stops, stays) =
      let n = stopping_so tables position.flight changes before p r q conflict so stops in
      (n.0, (none, changes, conflict, form, n.1, stays), n.2)
  told_so tables last bytes (Err (fault.Memory count)) position other before new p r q so told = (q, told, tt)
  told_so tables last bytes (Err (fault.Device count)) position other before new p r q so told = (q, told, tt)
  told_so tables last bytes (Err (fault.BadEntry count)) position other before new p r q so (none, bad, same, stays) = (q, (none, bad, refl, stays), tt)

  -- ---- an answer

  -- where it is told that a wish stopped
  abbrev pub Stands : Result Told AnswerFault → P → Q → Type 0
  Stands result p q = (count : ℕ) → result ≡ Ok (Stopped count) → stands p q

  left_so : (result : Result Told AnswerFault) (done : Result Pulled AnswerFault) (p : P) (q : Q) → result ≡ told_of done → Left done p q → Stands result p q
  left_so result (Ok some) p q is left = λ count stopped. left
  left_so result (Err failed) p q is left = λ count stopped. absurd (cc)

  merged_so : (tables : List TableDef) (origin first last : ℕ) (bytes : List ℕ) (result : Result Told AnswerFault) (position other : Position) (before : View) (new : Contents) (p r : P) (q : Q) → stands p q
      → TellsMerged picks tables origin first last bytes result position before p other new r
      → (next : Q) × TellsMerged sees tables origin first last bytes result position before q other new next × Stands result r next
  merged_so tables origin first last bytes result position other before new p r q so (inl (not, is, keeps)) =
      (q, inl (not, is, (keeps.0, (keeps.1.0, refl))), λ count stopped. kept p r q so keeps.1.1)
  merged_so tables origin first last bytes result position other before new p r q so (inr (inl (its, none, is, keeps))) =
      (q, inr (inl (its, none, is, (keeps.0, (keeps.1.0, refl)))), λ count stopped. kept p r q so keeps.1.1)
  merged_so tables origin first last bytes result position other before new p r q so (inr (inr (inl (its, less, is, keeps)))) =
      (q, inr (inr (inl (its, less, is, (keeps.0, (keeps.1.0, refl))))), λ count stopped. kept p r q so keeps.1.1)
  merged_so tables origin first last bytes result position other before new p r q so (inr (inr (inr (its, more, done, is, told)))) =
      let n = told_so tables last bytes done position other before new p r q so told in
      (n.0, inr (inr (inr (its, more, done, is, n.1))), left_so result done r n.0 is n.2)

  pub answers_so : (tables others : List TableDef) (answer : Answer) (result : Result Told AnswerFault) (position other : Position) (before : View) (new : Contents) (p r : P) (q : Q) → stands p q
      → Answers picks tables answer result position before p others other new r
      → (next : Q) × Answers sees tables answer result position before q others other new next × Stands result r next
  answers_so tables others (Short (short.Accepted origin number version)) result position other before new p r q so (wide, tells, keeps) =
      (q, (wide, tells, (keeps.0, refl)), λ count stopped. kept p r q so keeps.1)
  answers_so tables others (Short (short.Stale newest)) result position other before new p r q so (wide, is, keeps) =
      (q, (wide, is, (keeps.0, (keeps.1.0, refl))), λ count stopped. kept p r q so keeps.1.1)
  answers_so tables others (Short (short.Refused code)) result position other before new p r q so (wide, is, keeps) =
      (q, (wide, is, (keeps.0, (keeps.1.0, refl))), λ count stopped. kept p r q so keeps.1.1)
  answers_so tables others (Entries first entries) result position other before new p r q so (done, is, pulls) =
      let n = list_so tables others first entries done position other before new p r q so pulls in
      (n.0, (done, is, n.1), left_so result done r n.0 is n.2)
  answers_so tables others (Merged origin first last bytes) result position other before new p r q so (wide, told) =
      let n = merged_so tables origin first last bytes result position other before new p r q so told in
      (n.0, (wide, n.1), n.2)
