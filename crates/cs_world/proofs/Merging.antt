-- Entries that a replica of a sound world pulls are merges over the log's tables.
use Rattle.std.proofs.Common.{◌≡◌, ◌<◌, ◌^◌, ◌+◌, ◌∙◌, ℕ, zero, suc, List, [], ◌∷◌, Option, Some, None, Result, Ok, Err, slice_get, slice_set, refl, sym, ap, subst, inl, inr, arith}
use Rattle.std.specs.Prelude.{◌⊎◌, Contains, if◌then◌else◌}
use Rattle.std.specs.Str.{bytes_eq}
use Rattle.cs_value.specs.Catalog.{AreTables}
use Rattle.cs_value.specs.declared.catalog.TableDef.{TableDef}
use Rattle.cs_value.specs.Facts.{by_test}
use Rattle.cs_value.specs.Key.{Place}
use Rattle.cs_apply.specs.NormalTasks.{found_at, found_is, of_one, tasks_are}
use Rattle.cs_apply.specs.Spots.{same_spot, spot_is}
use Rattle.cs_tasks.specs.Tasks.{Task, tasks}
use Rattle.cs_change.specs.Action.{action_any, after_any}
use Rattle.cs_change.specs.Net.{net}
use Rattle.cs_change.specs.declared.change.Change.{Change}
use Rattle.cs_conflict.specs.Wishes.{resolution_of}
use Rattle.cs_conflict.specs.declared.conflict.Resolution.{Resolution}
use Rattle.cs_conflict.specs.declared.conflict.Resolution.TheVariants.{Omit}
use Rattle.cs_conflict.specs.declared.wish.Wish.{Wish}
use Rattle.cs_store.specs.log.Entry.{changes_of_body}
use Rattle.cs_store.specs.log.Log.{IsMade, catalog_after, catalog_at, tables_at}
use Rattle.cs_store.specs.log.Stored.{AreChangesOf}
use Rattle.cs_store.specs.declared.log.body.Body.{Body}
use Rattle.cs_store.specs.declared.log.body.Body.TheVariants.{Changes, Widen}
use Rattle.cs_store.specs.declared.log.entry.LogEntry.{LogEntry}
use Rattle.cs_widening.specs.Widening.{widened_place}
use Rattle.cs_normal.specs.Normal.{change_of, groups_of}
use Rattle.cs_normal.specs.State.{State}
use Rattle.cs_normal.specs.declared.normal.TableChanges.{TableChanges}
use Rattle.cs_pending.specs.Laws.{OneView}
use Rattle.cs_pending.specs.Nets.{undo_none}
use Rattle.cs_pending.specs.View.{View, middle}
use Rattle.cs_pending.specs.position.Shows.{ShowsAt, base}
use Rattle.cs_pending.specs.declared.position.position.Position.{Position}
use Rattle.cs_exchange.specs.pulling.Listed.{PullsMany, count_of}
use Rattle.cs_exchange.specs.pulling.Merged.{TakesTold}
use Rattle.cs_hub.specs.catching.Told.{AreOthersAsOne}
use Rattle.cs_exchange.specs.pulling.Pulls.{IsOwn, IsPulledBody, PullsOne}
use Rattle.cs_exchange.specs.pulling.Told.{IsFormOf, IsReadAs}
use Rattle.cs_exchange.specs.declared.pulling.fault.AnswerFault.{AnswerFault}
use Rattle.cs_exchange.specs.declared.pulling.fault.AnswerFault.TheVariants as fault
use Rattle.cs_exchange.specs.declared.pulling.listing.Pulled.{Pulled}
use Rattle.cs_exchange.specs.declared.pulling.listing.Pulled.TheVariants as pulled
use Rattle.cs_rebaser.specs.Merge.{MergesOneSide, merge}
use Rattle.cs_replica.specs.Answered.{TellsMerged, told_of}
use Rattle.cs_replica.specs.Stands.{StandsOn}
use Rattle.cs_replica.specs.declared.told.Told.{Told}
use Rattle.cs_store.specs.Contents.{Contents}
use Rattle.cs_exchange.specs.taking.Takes.{IsTaken, TakeAll, brought, taken}
use Rattle.cs_wire.specs.Entries.{ToldEntry}
use Rattle.cs_wire.specs.declared.answer.Answer.{Answer}
use Rattle.cs_wire.specs.declared.answer.Answer.TheVariants.{Entries, Merged}
use Rattle.cs_conflict.specs.wish_list.Wished.{IsWished}
use Rattle.cs_world.specs.Laws.{CatchesMerge, EventsMerge, PullsMerge, StepsAreSound}
use Rattle.cs_replica.specs.Same.{IsSameMember}
use Rattle.cs_world.specs.Merges.{CatchesAsMerge, IsConfirmed, IsMerged, IsPendingFrom, PullEntries, PullsAsMerges, PullsEntry, TakesBody, count_in}
use Rattle.cs_world.specs.Sound.{ArePartOf, IsSound}
use Rattle.cs_world.specs.Steps.{Hears, Step, heard, receiver}
use Rattle.cs_world.specs.World.{IsMember, IsMessage, Member, Tells, World}
use Rattle.cs_world.specs.declared.event.Event.{Event}
use Rattle.cs_world.specs.declared.event.Event.TheVariants.{Deliver}
use Rattle.cs_world.specs.declared.outcome.Outcome.{Outcome}
use Rattle.cs_world.specs.declared.outcome.Outcome.TheVariants.{Memory}
use Rattle.cs_wire.specs.Requests.{Asked}
use Rattle.cs_world.proofs.Came.{Comes, asks_for, came}
use Rattle.cs_world.proofs.Found.{set_there}
use Rattle.cs_world.proofs.Heard as answers

-- the laws below
pub record Below : Type 0 where
  pub answers : answers.Below
  pub view : OneView
  pub side : MergesOneSide

-- at a change's place the own row is the merge
merged_at : (log own theirs left : State) (all : List Task) (p q : List Wish) → TakeAll IsWished log own theirs left all p q → (name key : List ℕ) (change : Change) → found_at (name, key) all ≡ Some change
    → (answer : Resolution) × (left name key ≡ merge answer (log name key) (own name key) (theirs name key))
unfolding TakeAll found_at
merged_at log own theirs left [] p q takes name key change found = absurd (let no = found in cc)
merged_at log own theirs left (t ∷ ts) p q (wish, between, going, asks, is, more) name key change found =
    by_test (same_spot (name, key) (t.name, t.key)) _
    (λ same. let at = spot_is (name, key) (t.name, t.key) same in (
      resolution_of wish,
      subst (λ (n : List ℕ). left n key ≡ merge (resolution_of wish) (log n key) (own n key) (theirs n key)) (sym at.0)
          (subst (λ (k : List ℕ). left t.name k ≡ merge (resolution_of wish) (log t.name k) (own t.name k) (theirs t.name k)) (sym at.1) is),
    ))
    (λ other. merged_at log own theirs left ts between q more name key change (rw other at found))

module _ (laws : Below) (limit : ℕ) (small : limit < 2 ^ 32) (world : World) (s : IsSound limit world) where
  -- the catalog at a version
  abbrev at_version : ℕ → List TableDef
  at_version version = catalog_at world.tables world.log version

  are_at : (version : ℕ) → AreTables (at_version version)
  are_at version = laws.answers.catalogs world.tables world.log version s.tables s.log

  -- ---- changes that lead from the replica's version to a later one

  module _ (position : Position) (next : ℕ) (changes : List TableChanges) (fits : AreChangesOf (at_version position.version) changes) (before after : View) (wishes unused : List Wish) (stood : StandsOn world.log position before) (pending : ℕ)
      (stands : StandsOn world.log (brought position next pending) after) where
    abbrev tables : List TableDef
    tables = at_version position.version

    log_is : (name key : List ℕ) → base position.flight before name key ≡ tables_at world.log position.version name key
    log_is name key = stood.on_tables name key

    next_is : (name key : List ℕ) → middle after name key ≡ tables_at world.log next name key
    next_is name key = sym (undo_none (middle after name key)) ∙ stands.on_tables name key

    -- where they have none the log's row stays
    log_stays : IsTaken IsWished tables position.flight changes before after wishes unused → (name key : List ℕ) → change_of name key changes ≡ None
        → tables_at world.log next name key ≡ tables_at world.log position.version name key
    log_stays t name key none =
        let left : Some (base position.flight before name key) ≡ Some (middle after name key) =
        ap (λ (c : Option Change). after_any (action_any c) (base position.flight before name key)) (sym none) ∙ t.applied.1 name key in
        let same : base position.flight before name key ≡ middle after name key = (let e = left in cc) in
        sym (next_is name key) ∙ (sym same ∙ log_is name key)

    each_merged : IsTaken IsWished tables position.flight changes before after wishes unused
        → TakeAll IsWished (tables_at world.log position.version) before.tables (middle after) after.tables (tasks tables (groups_of changes)) wishes unused → (name key : List ℕ) → (answer : Resolution)
        × (after.tables name key ≡ merge answer (tables_at world.log position.version name key) (before.tables name key) (tables_at world.log next name key))
    each_merged t over name key = by_change (change_of name key changes) refl
      where
        by_change : (found : Option Change) → change_of name key changes ≡ found → (answer : Resolution)
            × (after.tables name key ≡ merge answer (tables_at world.log position.version name key) (before.tables name key) (tables_at world.log next name key))
        by_change None is = (
          Omit,
          t.others name key is
              ∙ sym (ap (λ (theirs : Place). merge Omit (tables_at world.log position.version name key) (before.tables name key) theirs) (log_stays t name key is)
              ∙ (laws.side Omit (tables_at world.log position.version name key) (before.tables name key)).1),
        )
        by_change (Some change) is =
            let found : found_at (name, key) (tasks tables (groups_of changes)) ≡ Some change =
            ap (λ (all : List Task). found_at (name, key) all) (tasks_are tables changes (of_one tables changes fits.1) fits.0)
            ∙ found_is tables name key changes fits.0 ∙ is in
            let at = merged_at (tables_at world.log position.version) before.tables (middle after) after.tables (tasks tables (groups_of changes)) wishes unused over name key change found in
            (at.0, at.1 ∙ ap (λ (theirs : Place). merge at.0 (tables_at world.log position.version name key) (before.tables name key) theirs) (next_is name key))

    merged : IsTaken IsWished tables position.flight changes before after wishes unused → IsMerged world position.version next changes before after wishes unused
    merged t =
        let all = tasks tables (groups_of changes) in
        let over : TakeAll IsWished (tables_at world.log position.version) before.tables (middle after) after.tables all wishes unused =
        subst (λ (log : State). TakeAll IsWished log before.tables (middle after) after.tables all wishes unused) (λ i n k. log_is n k i) t.takes in
        record {
          each = each_merged t over;
          by_wishes =
              subst (λ (theirs : State). TakeAll IsWished (tables_at world.log position.version) before.tables theirs after.tables all wishes unused) (λ i n k. next_is n k i) over;
          others = t.others;
        }

  -- what is pending leads there from the log's rows
  pending_from : (position : Position) (next pending : ℕ) (after : View) (others : List TableDef) (left : Contents) → others ≡ at_version next → StandsOn world.log (brought position next pending) after → ShowsAt others left (brought position next pending) after
      → IsPendingFrom world next after
  pending_from position next pending after others left are stands shows table key inside =
      let next_is : middle after table.name key ≡ tables_at world.log next table.name key = sym (undo_none (middle after table.name key)) ∙ stands.on_tables table.name key in
      shows.rows.sound.net_of table key (subst (λ (ts : List TableDef). Contains ts table) (sym are) inside) ∙ ap (λ (b : Place). net table.key_marks b (after.tables table.name key)) next_is

  -- ---- one entry

  module _ (position : Position) (entry : LogEntry) (before after : View) (wishes unused : List Wish) (stood : StandsOn world.log position before) (pending : ℕ) (stands : StandsOn world.log (taken position pending) after)
      (there : slice_get world.log position.version ≡ Some entry) where
    abbrev here : List TableDef
    here = at_version position.version

    -- what it does was taken
    takes_body : (body : Body) → AreChangesOf here (changes_of_body body) → IsPulledBody IsWished here position.flight body before after wishes unused → TakesBody world position.version body before after wishes unused
    takes_body (Changes changes) fits t = merged position (position.version + 1) changes fits before after wishes unused stood pending stands t
    takes_body (Widen table width) fits (wide, asked) = record {
      rows = λ n k.
          ap (λ (v : View). v.tables n k) wide.wide
          ∙ ap (λ (place : Place). if bytes_eq n table then widened_place width place else place) (wide.taken.others n k refl);
      unasked = asked;
    }

    pulls_so : PullsOne IsWished here position entry before wishes after unused
        → IsConfirmed position entry before after wishes unused ⊎ ((IsOwn position entry → ⊥) × TakesBody world position.version entry.body before after wishes unused)
    pulls_so (room, inl (own, rows, asked)) = inl (record { own = own; rows = rows; unasked = asked })
    pulls_so (room, inr (others, t)) = inr (others, takes_body entry.body (s.entries position.version entry there).0.changes t)

    pulls_entry : (others : List TableDef) (left : Contents) → others ≡ at_version (position.version + 1) → PullsOne IsWished here position entry before wishes after unused → ShowsAt others left (taken position pending) after
        → PullsEntry world position before after wishes unused
    pulls_entry others left are pulls shows = record {
      entry = entry;
      there = there;
      pulled = pulls_so pulls;
      pending = pending_from position (position.version + 1) pending after others left are stands shows;
    }

  -- ---- one behind another

  module _ (first : ℕ) (entries : List ToldEntry) (part : ArePartOf world.log first entries) where
    pull_entries : (count : ℕ) (contents : Contents) (tables : List TableDef) (position : Position) (view : View) (p : List Wish) (others : List TableDef) (other : Position) (end : View) (q : List Wish)
        → tables ≡ at_version position.version → ShowsAt tables contents position view → StandsOn world.log position view
        → PullsMany IsWished first entries count tables position view p others other end q
        → PullEntries world count position view p other end q
    unfolding PullsMany
    pull_entries zero contents tables position view p others other end q are shows stands (wide, here, still, none) = (here, still, none)
    pull_entries (suc count) contents tables position view p others other end q are shows stands (told, entry, pending, left, next, between, at, read, pulls, shown, more) =
        let there = answers.read_there laws.answers limit small world s first entries part position.version told entry at (subst (λ (ts : List TableDef). IsReadAs ts told entry) are read) in
        let made = laws.answers.leads tables contents position entry view next p between (subst AreTables (sym are) (are_at position.version)) shows pulls in
        let stood = laws.answers.entry world.tables world.log entry position (taken position pending) view next there refl
        (subst (λ (ts : List TableDef). IsMade ts entry.body (base position.flight view) (base None next)) are made) stands in
        let are_next : catalog_after tables entry.body ≡ at_version (position.version + 1) =
        ap (λ (ts : List TableDef). catalog_after ts entry.body) are ∙ sym (laws.answers.next world.tables world.log position.version entry there) in (
          pending,
          next,
          between,
          pulls_entry position entry view next p between stands pending stood there (catalog_after tables entry.body) left are_next
              (subst (λ (ts : List TableDef). PullsOne IsWished ts position entry view p next between) are pulls) shown,
          pull_entries count left (catalog_after tables entry.body) (taken position pending) next between others other end q are_next shown stood more,
        )

  counted : (list : Result Pulled AnswerFault) → count_of list ≡ count_in (heard (told_of list))
  counted (Ok (pulled.Taken count)) = refl
  counted (Ok (pulled.Stopped count)) = refl
  counted (Err (fault.Memory count)) = refl
  counted (Err (fault.Device count)) = refl
  counted (Err (fault.BadEntry count)) = refl

  -- ---- an answer

  -- what came of an answer that was delivered to a replica: memory was refused, or it heard it
  module _ (k r : ℕ) (answer : Answer) (wishes : List Wish) (before after : Member) (said : IsMessage world k (Tells r answer)) (was : IsMember world r before) where
    abbrev IsHeard : Outcome → Type 0
    IsHeard outcome = ((outcome ≡ Memory) × (after ≡ before)) ⊎ ((result : Result Told AnswerFault) × (outcome ≡ heard result) × Hears before answer wishes result after)

    asks_not_told : (to : Option ℕ) (asked : Asked) → asks_for to asked ≡ Tells r answer → ⊥
    asks_not_told None asked is = cc
    asks_not_told (Some q) asked is = cc

    is_heard : (outcome : Outcome) (new : World) → Comes limit world (Deliver k wishes) outcome new → IsMember new r after → IsHeard outcome
    is_heard outcome new (inl (is, stays)) now =
        let at : slice_get world.members r ≡ Some after = subst (λ (w : World). IsMember w r after) stays now in
        inl (is, (let e = sym at ∙ was in cc))
    is_heard outcome new (inr (inl lacks)) now =
        absurd (let both : Some lacks.r ≡ Some r = sym lacks.to ∙ ap receiver said in
        let same : lacks.r ≡ r = (let e = both in cc) in
        let none : slice_get world.members r ≡ None = subst (λ (i : ℕ). slice_get world.members i ≡ None) same lacks.none in
        let no = sym none ∙ was in cc)
    is_heard outcome new (inr (inr (inl missed))) now = absurd (let no = sym missed.none ∙ said in cc)
    is_heard outcome new (inr (inr (inr (inl served)))) now =
        absurd (asks_not_told served.to served.asked (let e : Some (asks_for served.to served.asked) ≡ Some (Tells r answer) = sym served.there ∙ said in cc))
    is_heard outcome new (inr (inr (inr (inr (inl ignored))))) now = absurd (let no = sym ignored.there ∙ said in cc)
    is_heard outcome new (inr (inr (inr (inr (inr h))))) now =
        let both : Some (Tells h.r h.answer) ≡ Some (Tells r answer) = sym h.there ∙ said in
        let to : h.r ≡ r = (let e = both in cc) in
        let what : h.answer ≡ answer = (let e = both in cc) in
        let mine_at : slice_get world.members r ≡ Some h.before = subst (λ (i : ℕ). slice_get world.members i ≡ Some h.before) to h.was in
        let mine_is : h.before ≡ before = (let e = sym mine_at ∙ was in cc) in
        let new_at : slice_get (slice_set world.members h.r h.after) r ≡ Some after = subst (λ (w : World). IsMember w r after) h.new_is now in
        let now_at : slice_get (slice_set world.members r h.after) r ≡ Some after = subst (λ (i : ℕ). slice_get (slice_set world.members i h.after) r ≡ Some after) to new_at in
        let after_is : h.after ≡ after = (let e = sym (set_there world.members r h.after before was) ∙ now_at in cc) in
        inr (
          h.result,
          h.outcome_is,
          subst (λ (m : Member). Hears before answer wishes h.result m) after_is
              (subst (λ (m : Member). Hears m answer wishes h.result h.after) mine_is
              (subst (λ (a : Answer). Hears h.before a wishes h.result h.after) what h.goes)),
        )

  -- ---- entries, one by one

  module _ (k r first : ℕ) (entries : List ToldEntry) (wishes : List Wish) (before after : Member) (said : IsMessage world k (Tells r (Entries first entries))) (was : IsMember world r before) where
    hears_so : (result : Result Told AnswerFault) → Hears before (Entries first entries) wishes result after → PullsAsMerges world (count_in (heard result)) wishes before after
    hears_so result hears =
        let p = s.placed r before was in
        let list = hears.answers in
        let pulls = list.2 in
        let count : count_of list.0 ≡ count_in (heard result) = counted list.0 ∙ ap (λ (x : Result Told AnswerFault). count_in (heard x)) (sym list.1) in
        let all = pull_entries first entries (s.true k (Tells r (Entries first entries)) said) (count_of list.0) p.contents before.tables before.position before.view wishes after.tables after.position pulls.0 pulls.1 p.tables p.shown p.stands pulls.2 in
        let one = laws.view after.tables hears.left pulls.0 after.view pulls.3.rows hears.shows.rows in
        record {
          end = pulls.0;
          unused = pulls.1;
          pulls = subst (λ (n : ℕ). PullEntries world n before.position before.view wishes after.position pulls.0 pulls.1) count all;
          same = record { rows = one.0; pending = one.1 };
        }

    -- where memory was refused nothing was pulled
    nothing_so : after ≡ before → PullsAsMerges world 0 wishes before after
    nothing_so same = record {
      end = before.view;
      unused = wishes;
      pulls = (ap (λ (m : Member). m.position) same, refl, refl);
      same = record { rows = λ n k. ap (λ (m : Member). m.view.tables n k) same; pending = λ table key inside. ap (λ (m : Member). m.view.pending table.name key) same };
    }

    pulls_so_far : (outcome : Outcome) → IsHeard k r (Entries first entries) wishes before after said was outcome → PullsAsMerges world (count_in outcome) wishes before after
    pulls_so_far outcome (inl (is, same)) = subst (λ (o : Outcome). PullsAsMerges world (count_in o) wishes before after) (sym is) (nothing_so same)
    pulls_so_far outcome (inr (result, is, hears)) = subst (λ (o : Outcome). PullsAsMerges world (count_in o) wishes before after) (sym is) (hears_so result hears)

  -- ---- entries, taken together

  module _ (k r origin first next : ℕ) (changeset : List ℕ) (wishes : List Wish) (before after : Member) (said : IsMessage world k (Tells r (Merged origin first next changeset))) (was : IsMember world r before) where
    same_so : after ≡ before → IsSameMember before after
    same_so same = record {
      tables = ap (λ (m : Member). m.tables) same;
      position = ap (λ (m : Member). m.position) same;
      view = record { rows = λ n q. ap (λ (m : Member). m.view.tables n q) same; pending = λ table q inside. ap (λ (m : Member). m.view.pending table.name q) same };
    }

    -- what the store shows of the replica as it was is the replica after
    stays_so : (left : Contents) → after.tables ≡ before.tables → after.position ≡ before.position → ShowsAt before.tables left after.position before.view → ShowsAt before.tables left after.position after.view → IsSameMember before after
    stays_so left wide same shows now =
        let one = laws.view before.tables left before.view after.view shows.rows now.rows in
        record { tables = wide; position = same; view = record { rows = one.0; pending = one.1 } }

    nothing_taken : (left : Contents) (count : ℕ) → after.tables ≡ before.tables → count ≡ 0 → ShowsAt before.tables left after.position after.view → after.position ≡ before.position → ShowsAt before.tables left before.position before.view
        → CatchesAsMerge world next count changeset wishes before after
    nothing_taken left count wide none now same shows =
        subst (λ (n : ℕ). CatchesAsMerge world next n changeset wishes before after) (sym none)
        (stays_so left wide same (subst (λ (o : Position). ShowsAt before.tables left o before.view) (sym same) shows) now)

    takes_so : (left : Contents) (unused : List Wish) (result : Result Pulled AnswerFault) → after.tables ≡ before.tables → AreOthersAsOne before.tables world.log before.position.id before.position.version next changeset → before.position.version < next
        → ShowsAt before.tables left after.position after.view
        → TakesTold IsWished before.tables next changeset result before.position before.view wishes after.position left unused
        → CatchesAsMerge world next (count_in (heard (told_of result))) changeset wishes before after
    takes_so left unused (Ok (pulled.Taken zero)) wide is above now (sum, changes, end, read, moved, shows, takes) = absurd (omega (arith, above, sum))
    takes_so left unused (Ok (pulled.Taken (suc count))) wide is above now (sum, changes, end, read, moved, shows, takes) =
        let p = s.placed r before was in
        let its : AreOthersAsOne (at_version before.position.version) world.log before.position.id before.position.version next changeset =
        subst (λ (ts : List TableDef). AreOthersAsOne ts world.log before.position.id before.position.version next changeset) p.tables is in
        let read_so = subst (λ (ts : List TableDef). IsFormOf ts changeset changes) p.tables read in
        let takes_its = subst (λ (ts : List TableDef). IsTaken IsWished ts before.position.flight changes before.view end wishes unused) p.tables takes in
        let same : changes ≡ its.changes = answers.form_is laws.answers limit small world s before.position.id next changeset before.position before.view its p.stands changes read_so in
        let stands = answers.taken_on laws.answers limit small world s before.position.id next changeset before.position before.view its p.stands changes after.position.pending end wishes unused read_so takes_its in
        let takes_told = subst (λ (c : List TableChanges). IsTaken IsWished (at_version before.position.version) before.position.flight c before.view end wishes unused) same takes_its in
        let shows_moved = subst (λ (o : Position). ShowsAt before.tables left o end) moved shows in
        let stays = p.tables ∙ sym (answers.kept_tables laws.answers limit small world s before.position.id next changeset before.position before.view its p.stands) in
        let one = laws.view before.tables left end after.view shows.rows now.rows in
        record {
          told = its;
          moved = ap (λ (o : Position). o.version) moved;
          all = sym sum;
          end = end;
          unused = unused;
          merged = merged before.position next its.changes its.together.of_tables before.view end wishes unused p.stands after.position.pending stands takes_told;
          pending = pending_from before.position next after.position.pending end before.tables left stays stands shows_moved;
          same = record { rows = one.0; pending = one.1 };
        }
    takes_so left unused (Ok (pulled.Stopped count)) wide is above now (none, changes, conflict, read, stops, (same, shows)) = nothing_taken left count wide none now same shows
    takes_so left unused (Err (fault.Memory count)) wide is above now (none, (same, shows)) = nothing_taken left count wide none now same shows
    takes_so left unused (Err (fault.Device count)) wide is above now (none, (same, shows)) = nothing_taken left count wide none now same shows
    takes_so left unused (Err (fault.BadEntry count)) wide is above now (none, bad, unasked, (same, shows)) = nothing_taken left count wide none now same shows

    tells_so : (left : Contents) (unused : List Wish) (result : Result Told AnswerFault) → after.tables ≡ before.tables → ShowsAt before.tables left after.position after.view
        → TellsMerged IsWished before.tables origin first next changeset result before.position before.view wishes after.position left unused
        → CatchesAsMerge world next (count_in (heard result)) changeset wishes before after
    tells_so left unused result wide now (inl (away, is, (same, (shows, asked)))) = rw is (stays_so left wide same shows now)
    tells_so left unused result wide now (inr (inl (mine, none, is, (same, (shows, asked))))) = rw is (stays_so left wide same shows now)
    tells_so left unused result wide now (inr (inr (inl (mine, below, is, (same, (shows, asked)))))) = rw is (stays_so left wide same shows now)
    tells_so left unused result wide now (inr (inr (inr (mine, above, outcome, is, takes)))) =
        let p = s.placed r before was in
        let there =
        subst (λ (ts : List TableDef). AreOthersAsOne ts world.log before.position.id before.position.version next changeset) (sym p.tables)
        (subst (λ (o : ℕ). AreOthersAsOne (at_version before.position.version) world.log o before.position.version next changeset) mine.0
        (subst (λ (v : ℕ). AreOthersAsOne (at_version v) world.log origin v next changeset) mine.1 (s.true k (Tells r (Merged origin first next changeset)) said))) in
        let at = mine.1 in
        rw is (takes_so left unused outcome wide there (omega (arith, at, above)) now takes)

    catches_so_far : (outcome : Outcome) → IsHeard k r (Merged origin first next changeset) wishes before after said was outcome → CatchesAsMerge world next (count_in outcome) changeset wishes before after
    catches_so_far outcome (inl (is, same)) = subst (λ (o : Outcome). CatchesAsMerge world next (count_in o) changeset wishes before after) (sym is) (same_so same)
    catches_so_far outcome (inr (result, is, hears)) =
        subst (λ (o : Outcome). CatchesAsMerge world next (count_in o) changeset wishes before after) (sym is) (tells_so hears.left hears.unused result hears.answers.0 (subst (λ (ts : List TableDef). ShowsAt ts hears.left after.position after.view) hears.answers.0 hears.shows) hears.answers.1)

pub pulls_merge : Below → PullsMerge
pulls_merge laws limit k r first entries wishes outcome old new before after small s said was now step =
    pulls_so_far laws limit small old s k r first entries wishes before after said was outcome
    (is_heard laws limit small old s k r (Entries first entries) wishes before after said was outcome new (came limit old step) now)

pub catches_merge : Below → CatchesMerge
catches_merge laws limit k r origin first next changeset wishes outcome old new before after small s said was now step =
    catches_so_far laws limit small old s k r origin first next changeset wishes before after said was outcome
    (is_heard laws limit small old s k r (Merged origin first next changeset) wishes before after said was outcome new (came limit old step) now)

-- ---- events one behind another

pub events_merge : PullsMerge → CatchesMerge → StepsAreSound → EventsMerge
events_merge pulls catches sound limit world [] outcomes small is = tt
events_merge pulls catches sound limit world (event ∷ events) [] small is = tt
events_merge pulls catches sound limit world (event ∷ events) (outcome ∷ outcomes) small is = λ between step. (
  λ k r first entries wishes before after same said was now.
      pulls limit k r first entries wishes outcome world between before after small is said was now (subst (λ (e : Event). Step limit world e outcome between) same step),
  λ k r origin first next changeset wishes before after same said was now.
      catches limit k r origin first next changeset wishes outcome world between before after small is said was now (subst (λ (e : Event). Step limit world e outcome between) same step),
  events_merge pulls catches sound limit between events outcomes small (sound limit world between event outcome small is step).0,
)
