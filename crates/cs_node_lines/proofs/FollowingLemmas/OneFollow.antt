-- A request that is answered as it comes has one text at the same replica, and leaves the same replica.
use Rattle.std.proofs.Common.{◌≡◌, ◌∙◌, ◌<◌, ◌≤◌, ℕ, List, [], ◌∷◌, length, arith, Result, Ok, Err, Bool, true, false, refl, sym, ap, subst, inl, inr}
use Rattle.std.specs.Prelude.{Option, Some, None}
use Rattle.std.specs.FinMap.{len}
use Rattle.cs_conflict.specs.declared.clash.Clash.{Clash}
use Rattle.cs_conflict.specs.declared.wish.Wish.{Wish}
use Rattle.cs_exchange.specs.declared.pulling.fault.AnswerFault.{AnswerFault}
use Rattle.cs_exchange.specs.declared.pulling.fault.AnswerFault.TheVariants as hearing
use Rattle.cs_exchange.specs.taking.Laws.{OneContents, PicksOnce}
use Rattle.cs_normal.specs.Normal.{groups_of, normal_spelling}
use Rattle.cs_normal.specs.declared.normal.TableChanges.{TableChanges}
use Rattle.cs_normal.specs.State.{State}
use Rattle.cs_normal.specs.keyed.Changes.{key_bytes}
use Rattle.cs_pending.specs.Laws.{OneView}
use Rattle.cs_pending.specs.View.{View}
use Rattle.cs_pending.specs.declared.fault.EditsFault.{EditsFault}
use Rattle.cs_pending.specs.declared.fault.EditsFault.TheVariants as several
use Rattle.cs_pending.specs.declared.outgoing.gathering.Outgoing.{Outgoing}
use Rattle.cs_pending.specs.declared.outgoing.gathering.Outgoing.TheVariants.{Changes, Nothing, TooLarge}
use Rattle.cs_pending.specs.declared.position.position.Position.{Position}
use Rattle.cs_pending.specs.outgoing.Outgoing.{IsOutgoing, IsPendingOf, OnePending}
use Rattle.cs_pending.specs.position.Shows.{ShowsAt}
use Rattle.cs_pending.specs.rows.Rows.{AreRowsOf, OneTableOfRows}
use Rattle.cs_replica.specs.Answered.{Answers}
use Rattle.cs_replica.specs.Laws.{IsOfAnswer, OneAnswered}
use Rattle.cs_replica.specs.Same.{IsSameMember, IsShown}
use Rattle.cs_replica.specs.Step.{Member}
use Rattle.cs_replica.specs.StepLaws.{AreOfEdits, OneEditedAll}
use Rattle.cs_replica.specs.declared.told.Told.{Told}
use Rattle.cs_store.specs.Contents.{Contents}
use Rattle.cs_store.specs.declared.log.entry.TheConstants.{MAX_CHANGESET}
use Rattle.cs_text.specs.Text.{changeset_text, line, tables_text}
use Rattle.cs_value.specs.Catalog.{AreTables}
use Rattle.cs_value.specs.declared.catalog.TableDef.{TableDef}
use Rattle.cs_value.specs.declared.edit.Edit.{Edit}
use Rattle.cs_wire.specs.Laws.{OneToldAnswer}
use Rattle.cs_wire.specs.declared.answer.Answer.{Answer as Told_by}
use Rattle.cs_wire.specs.declared.fault.WireFault.{WireFault}
use Rattle.cs_node_lines.specs.asks.Asked.{ask_in}
use Rattle.cs_node_lines.specs.asks.Looked.{look_in}
use Rattle.cs_node_lines.specs.asks.Several.{several_in}
use Rattle.cs_node_lines.specs.declared.asks.ask.Ask.{Ask}
use Rattle.cs_node_lines.specs.declared.asks.ask.Ask.TheVariants.{Answer, Catch, Dump, OnEdit, Pull, Push, Resend}
use Rattle.cs_node_lines.specs.declared.asks.look.Look.{Look}
use Rattle.cs_node_lines.specs.declared.asks.look.Look.TheVariants as look
use Rattle.cs_node_lines.specs.following.FollowStep.{AskStep, FollowStep, LookStep, ReadStep, RequestStep, Shown, TellsRows, has_table, outgoing_text, row_told}
use Rattle.cs_node_lines.specs.following.Laws.{OneFollowRun, OneFollowStep, SaysNothing}
use Rattle.cs_node_lines.specs.following.Seen.{HearsSeeing, IsSeen, Seeing, SeesAnswer, seen_by, seen_text}
use Rattle.cs_node_lines.specs.following.Several.{EditsStep, ReadEditsStep, all_edited_text, all_edits_in}
use Rattle.cs_node_lines.specs.told.Dump.{replica_text, rows_text}
use Rattle.cs_node_lines.specs.working.Laws.{OneLineStep}
use Rattle.cs_node_lines.specs.working.Texts.{refused_text, wire_fault_text}
use Rattle.cs_node_lines.proofs.WorkingLemmas.OneLine.{Stands, one_run, stands_after, stays_same, store_tells}
use Rattle.cs_node_lines.proofs.WorkingLemmas.Tables.{answered_tables}
use Rattle.cs_widening.specs.Laws.{WidenedAreTables}

-- the laws below
pub record Beneath : Type 0 where
  pub line : OneLineStep
  pub edited : OneEditedAll
  pub rows : OneTableOfRows
  pub answer : OneToldAnswer
  pub contents : OneContents
  pub views : OneView
  pub answered : OneAnswered IsSeen
  pub pending : OnePending

sees_once_each : PicksOnce IsSeen
sees_once_each p clash some other q r one two =
    let same : some ≡ other = one.wished.is ∙ sym two.wished.is in
    let left : q.wishes ≡ r.wishes = one.wished.left ∙ sym two.wished.left in
    let seen : q.seen ≡ r.seen = one.shown ∙ (ap (λ (w : Wish). seen_by w clash p.seen) same ∙ sym two.shown) in
    (same, λ i. record { wishes = left i; seen = seen i })

-- with as many changes pending as it holds
as_many : (tables : List TableDef) (position : Position) (contents : Contents) (view : View) → ShowsAt tables contents position view
    → ShowsAt tables contents (record position { pending = len contents.pending }) view
as_many tables position contents view shows = subst (λ (n : ℕ). ShowsAt tables contents (record position { pending = n }) view) shows.counted shows

not_both : (changes others : List TableChanges) → changes ≡ others → MAX_CHANGESET < length (normal_spelling changes) → length (normal_spelling others) ≤ MAX_CHANGESET → ⊥
not_both changes others same large fits =
    let fits_here = subst (λ (c : List TableChanges). length (normal_spelling c) ≤ MAX_CHANGESET) (sym same) fits in omega (arith, large, fits_here)

not_large : (changes : List TableChanges) → changes ≡ [] → MAX_CHANGESET < length (normal_spelling changes) → ⊥
not_large changes none large = not_both changes [] none large (omega arith)

-- a text that says something is of a result that does
seen_tells : (tables : List TableDef) (result : Result Told AnswerFault) (seen : Option Clash) (version : ℕ) (text : List ℕ) → text ≡ seen_text tables result seen version
    → (SaysNothing text → ⊥) → IsOfAnswer result
seen_tells tables (Ok told) seen version text is not = tt
seen_tells tables (Err (hearing.Memory count)) seen version text is not = not (inl (inr (inr (hearing.Memory count, λ of. of, is))))
seen_tells tables (Err (hearing.Device count)) seen version text is not = not (inl (inr (inr (hearing.Device count, λ of. of, is))))
seen_tells tables (Err (hearing.BadEntry count)) seen version text is not = tt

-- so is one of several edits
edits_tell : (result : Result (Unit {0}) EditsFault) (text : List ℕ) → text ≡ all_edited_text result → (SaysNothing text → ⊥) → AreOfEdits result
edits_tell (Ok done) text is not = tt
edits_tell (Err several.Memory) text is not = not (inl (inl is))
edits_tell (Err several.Device) text is not = not (inl (inr (inl is)))
edits_tell (Err (several.Refused at fault)) text is not = tt

module _ (laws : Beneath) (tables : List TableDef) (had has its_had its_has : ℕ) (before its : Member) (are : AreTables before.tables) (shown : IsShown before) (sees : IsShown its) (same : IsSameMember before its) where
  -- ---- an answer

  hears_once : (wishes : List Wish) (some other : List ℕ) (one last : Member) (answer : Told_by) (result outcome : Result Told AnswerFault) (seen clash : Option Clash) → (SaysNothing some → ⊥) → (SaysNothing other → ⊥)
      → HearsSeeing before answer wishes result seen one → some ≡ seen_text tables result seen one.position.version
      → HearsSeeing its answer wishes outcome clash last → other ≡ seen_text tables outcome clash last.position.version
      → (some ≡ other) × IsSameMember one last
  hears_once wishes some other one last answer result outcome seen clash not never hears is again so =
      let own = before.tables in
      let begins : Seeing = record { wishes = wishes; seen = None } in
      let ends : Seeing = record { wishes = again.unused; seen = clash } in
      let here = subst (λ (p : Position). ShowsAt own sees.contents p its.view) same.position
      (subst (λ (ts : List TableDef). ShowsAt ts sees.contents its.position its.view) same.tables sees.shows) in
      let held : shown.contents ≡ sees.contents =
      laws.contents own before.position shown.contents sees.contents before.view its.view
      (as_many own before.position shown.contents before.view shown.shows) (as_many own before.position sees.contents its.view here) same.view.rows same.view.pending in
      let its_shown = subst (λ (c : Contents). ShowsAt own c before.position its.view) (sym held) here in
      let its_answers = subst (λ (p : Position). Answers IsSeen own answer outcome p its.view begins last.tables last.position again.left ends) same.position
      (subst (λ (ts : List TableDef). Answers IsSeen ts answer outcome its.position its.view begins last.tables last.position again.left ends) same.tables again.answers) in
      let all = laws.answered own one.tables last.tables answer shown.contents hears.left again.left before.position one.position last.position before.view its.view result outcome begins
      (record { wishes = hears.unused; seen = seen }) ends are sees_once_each
      shown.shows its_shown (seen_tells tables result seen one.position.version some is not) (seen_tells tables outcome clash last.position.version other so never) hears.answers its_answers in
      let last_shown = subst (λ (c : Contents). ShowsAt one.tables c one.position last.view) (sym all.3) (subst (λ (p : Position). ShowsAt one.tables again.left p last.view) (sym all.2)
      (subst (λ (ts : List TableDef). ShowsAt ts again.left last.position last.view) (sym all.1) again.shows)) in
      let alike = laws.views one.tables hears.left one.view last.view hears.shows.rows last_shown.rows in
      let clashes : seen ≡ clash = ap (λ (s : Seeing). s.seen) all.4 in (
        is
            ∙ (ap (λ (r : Result Told AnswerFault). seen_text tables r seen one.position.version) all.0
            ∙ (ap (λ (c : Option Clash). seen_text tables outcome c one.position.version) clashes
            ∙ (ap (λ (p : Position). seen_text tables outcome clash p.version) all.2 ∙ sym so))),
        record { tables = sym all.1; position = sym all.2; view = record { rows = alike.0; pending = alike.1 } },
      )

  sees_once : (bytes : List ℕ) (wishes : List Wish) (some other : List ℕ) (one last : Member) → (SaysNothing some → ⊥) → (SaysNothing other → ⊥) → SeesAnswer tables had has before bytes wishes some one → SeesAnswer tables its_had its_has its bytes wishes other last
      → (some ≡ other) × IsSameMember one last
  sees_once bytes wishes some other one last not never (inl (answer, result, seen, fits, spelled, hears, device, inl is)) (inl (told, outcome, clash, suits, spells, again, failed, inl so)) =
      let both : Ok answer ≡ Ok told = laws.answer bytes (Ok answer) (Ok told) (fits, spelled) (suits, spells) in
      let answers : told ≡ answer = (let e = sym both in cc) in
      hears_once wishes some other one last answer result outcome seen clash not never hears is (subst (λ (a : Told_by). HearsSeeing its a wishes outcome clash last) answers again) so
  sees_once bytes wishes some other one last not never (inl (answer, result, seen, fits, spelled, hears, device, inr (count, stopped, is))) taken = absurd (not (inr (count, one.position.version, is)))
  sees_once bytes wishes some other one last not never (inl (answer, result, seen, fits, spelled, hears, device, inl is)) (inl (told, outcome, clash, suits, spells, again, failed, inr (count, stopped, so))) =
      absurd (never (inr (count, last.position.version, so)))
  sees_once bytes wishes some other one last not never (inl (answer, result, seen, fits, spelled, hears, device, inl is)) (inr (stays, inl (fault, wrong, so))) =
      let both : Ok answer ≡ Err fault = laws.answer bytes (Ok answer) (Err fault) (fits, spelled) wrong in
      absurd cc
  sees_once bytes wishes some other one last not never (inl (answer, result, seen, fits, spelled, hears, device, inl is)) (inr (stays, inr memory)) = absurd (never (inl (inl memory)))
  sees_once bytes wishes some other one last not never (inr (still, inl (fault, wrong, is))) (inl (told, outcome, clash, suits, spells, again, failed, says)) =
      let both : Err fault ≡ Ok told = laws.answer bytes (Err fault) (Ok told) wrong (suits, spells) in
      absurd cc
  sees_once bytes wishes some other one last not never (inr (still, inl (fault, wrong, is))) (inr (stays, inl (why, bad, so))) =
      let both : Err fault ≡ Err why = laws.answer bytes (Err fault) (Err why) wrong bad in
      let faults : fault ≡ why = cc in
      (is ∙ (ap (λ (f : WireFault). refused_text (wire_fault_text f)) faults ∙ sym so), stays_same before its one last still stays same)
  sees_once bytes wishes some other one last not never (inr (still, inl (fault, wrong, is))) (inr (stays, inr memory)) = absurd (never (inl (inl memory)))
  sees_once bytes wishes some other one last not never (inr (still, inr memory)) taken = absurd (not (inl (inl memory)))

  ask_once : (ask : Ask) (some other : List ℕ) (one last : Member) → (SaysNothing some → ⊥) → (SaysNothing other → ⊥) → AskStep tables had has before ask some one → AskStep tables its_had its_has its ask other last
      → (some ≡ other) × IsSameMember one last
  ask_once (OnEdit edit) some other one last not never goes went = laws.line (OnEdit edit) some other had has its_had its_has before its one last are shown sees same (λ says. not (inl says)) (λ says. never (inl says)) goes went
  ask_once Push some other one last not never goes went = laws.line Push some other had has its_had its_has before its one last are shown sees same (λ says. not (inl says)) (λ says. never (inl says)) goes went
  ask_once Resend some other one last not never goes went = laws.line Resend some other had has its_had its_has before its one last are shown sees same (λ says. not (inl says)) (λ says. never (inl says)) goes went
  ask_once (Pull limit) some other one last not never goes went = laws.line (Pull limit) some other had has its_had its_has before its one last are shown sees same (λ says. not (inl says)) (λ says. never (inl says)) goes went
  ask_once (Catch limit) some other one last not never goes went = laws.line (Catch limit) some other had has its_had its_has before its one last are shown sees same (λ says. not (inl says)) (λ says. never (inl says)) goes went
  ask_once (Answer bytes wishes) some other one last not never goes went = sees_once bytes wishes some other one last not never goes went
  ask_once Dump some other one last not never goes went = laws.line Dump some other had has its_had its_has before its one last are shown sees same (λ says. not (inl says)) (λ says. never (inl says)) goes went

  -- ---- what is shown

  rows_once : (there : Bool) (name some other : List ℕ) → TellsRows there before.view.tables name some → TellsRows there its.view.tables name other → some ≡ other
  rows_once true name some other (rows, lists, is) (others, listed, so) =
      let states : its.view.tables ≡ before.view.tables = λ i n k. same.view.rows n k i in
      let all = laws.rows (before.view.tables name) rows others lists (subst (λ (s : State). AreRowsOf (s name) others) states listed) in
      is ∙ (ap (rows_text name) all ∙ sym so)
  rows_once false name some other is so = is ∙ sym so

  changes_once : (some other : List TableChanges) → IsPendingOf before.tables before.view.pending some → IsPendingOf before.tables its.view.pending other → some ≡ other
  changes_once some other are_some are_other =
      laws.pending before.tables before.view.pending some other are are_some (record {
        fits = are_other.fits;
        normal = are_other.normal;
        changes_are = λ table key has_it. are_other.changes_are table key has_it ∙ same.view.pending table key has_it;
      })

  outgoing_once : (some other : Outgoing) → IsOutgoing before.tables before.view.pending some → IsOutgoing before.tables its.view.pending other → outgoing_text some ≡ outgoing_text other
  outgoing_once Nothing Nothing one two = refl
  outgoing_once Nothing TooLarge one (changes, of, large) =
      let none = changes_once [] changes one of in absurd (not_large changes (sym none) large)
  outgoing_once Nothing (Changes changes) one (of, some, fits) = absurd (some (sym (changes_once [] changes one of)))
  outgoing_once TooLarge Nothing (changes, of, large) two = absurd (not_large changes (changes_once changes [] of two) large)
  outgoing_once TooLarge TooLarge one two = refl
  outgoing_once TooLarge (Changes others) (changes, of, large) (its_of, some, fits) =
      absurd (not_both changes others (changes_once changes others of its_of) large fits)
  outgoing_once (Changes changes) Nothing (of, some, fits) two = absurd (some (changes_once changes [] of two))
  outgoing_once (Changes changes) TooLarge (of, some, fits) (others, its_of, large) =
      absurd (not_both others changes (sym (changes_once changes others of its_of)) large fits)
  outgoing_once (Changes changes) (Changes others) (of, some, fits) (its_of, more, suits) =
      ap (λ (c : List TableChanges). changeset_text (groups_of c)) (changes_once changes others of its_of)

  shown_once : (asked : Look) (some other : List ℕ) → Shown before asked some → Shown its asked other → some ≡ other
  shown_once look.Place some other is so = is ∙ (ap (λ (p : Position). line (replica_text p.id p)) (sym same.position) ∙ sym so)
  shown_once look.Tables some other is so = is ∙ (ap tables_text (sym same.tables) ∙ sym so)
  shown_once (look.Rows name) some other one two =
      rows_once (has_table before.tables name) name some other one (subst (λ (ts : List TableDef). TellsRows (has_table ts name) its.view.tables name other) same.tables two)
  shown_once (look.Row name key) some other is so =
      let states : its.view.tables ≡ before.view.tables = λ i n k. same.view.rows n k i in
      is
      ∙ (ap (λ (s : State). row_told (has_table before.tables name) s name (key_bytes key)) (sym states)
      ∙ (ap (λ (ts : List TableDef). row_told (has_table ts name) its.view.tables name (key_bytes key)) (sym same.tables) ∙ sym so))
  shown_once look.Pending some other (outgoing, of, is) (others, its_of, so) = is ∙ (outgoing_once outgoing others of (subst (λ (ts : List TableDef). IsOutgoing ts its.view.pending others) same.tables its_of) ∙ sym so)

  look_once : (asked : Look) (some other : List ℕ) (one last : Member) → (SaysNothing some → ⊥) → (SaysNothing other → ⊥) → LookStep had has before asked some one → LookStep its_had its_has its asked other last
      → (some ≡ other) × IsSameMember one last
  look_once asked some other one last not never (still, inl shows) (stays, inl seen) = (shown_once asked some other shows seen, stays_same before its one last still stays same)
  look_once asked some other one last not never (still, inl shows) (stays, inr (fault, device, so)) = absurd (store_tells fault other so (λ says. never (inl says)))
  look_once asked some other one last not never (still, inr (fault, device, is)) goes = absurd (store_tells fault some is (λ says. not (inl says)))

  -- ---- a request

  edits_once : (edits : List Edit) (some other : List ℕ) (one last : Member) → (SaysNothing some → ⊥) → (SaysNothing other → ⊥) → EditsStep had has before edits some one → EditsStep its_had its_has its edits other last
      → (some ≡ other) × IsSameMember one last
  edits_once edits some other one last not never (result, goes, device, is) (outcome, went, failed, so) =
      let all = laws.edited edits result outcome before its one last same (edits_tell result some is not) (edits_tell outcome other so never) goes went in
      (is ∙ (ap all_edited_text all.0 ∙ sym so), all.1)

  all_once : (edits : Option (List Edit)) (some other : List ℕ) (one last : Member) → (SaysNothing some → ⊥) → (SaysNothing other → ⊥)
      → ReadEditsStep had has before edits some one → ReadEditsStep its_had its_has its edits other last
      → (some ≡ other) × IsSameMember one last
  all_once (Some edits) some other one last not never goes went = edits_once edits some other one last not never goes went
  all_once None some other one last not never (still, is) (stays, so) = (is ∙ sym so, stays_same before its one last still stays same)

  read_once : (ask : Option Ask) (asked : Option Look) (some other : List ℕ) (one last : Member) → (SaysNothing some → ⊥) → (SaysNothing other → ⊥)
      → ReadStep tables had has before ask asked some one → ReadStep tables its_had its_has its ask asked other last
      → (some ≡ other) × IsSameMember one last
  read_once (Some ask) asked some other one last not never goes went = ask_once ask some other one last not never goes went
  read_once None (Some asked) some other one last not never goes went = look_once asked some other one last not never goes went
  read_once None None some other one last not never (still, is) (stays, so) = (is ∙ sym so, stays_same before its one last still stays same)

  request_once : (count : Option ℕ) (first : List ℕ) (more : List (List ℕ)) (some other : List ℕ) (one last : Member) → (SaysNothing some → ⊥) → (SaysNothing other → ⊥)
      → RequestStep tables had has before count first more some one → RequestStep tables its_had its_has its count first more other last
      → (some ≡ other) × IsSameMember one last
  request_once None first more some other one last not never goes went = read_once (ask_in tables first) (look_in first) some other one last not never goes went
  request_once (Some count) first more some other one last not never goes went = all_once (all_edits_in tables count more) some other one last not never goes went

  follow_once : (asked : List (List ℕ)) (some other : List ℕ) (one last : Member) → (SaysNothing some → ⊥) → (SaysNothing other → ⊥) → FollowStep tables had has before asked some one → FollowStep tables its_had its_has its asked other last
      → (some ≡ other) × IsSameMember one last
  follow_once [] some other one last not never goes went = absurd goes
  follow_once (first ∷ more) some other one last not never (inl goes) (inl went) = request_once (several_in first) first more some other one last not never goes went
  follow_once (first ∷ more) some other one last not never (inl goes) (inr (stays, memory)) = absurd (never (inl (inl memory)))
  follow_once (first ∷ more) some other one last not never (inr (still, memory)) went = absurd (not (inl (inl memory)))

pub one_follow_step : Beneath → OneFollowStep
one_follow_step laws tables asked some other had has its_had its_has before its one last are shown sees same not never goes went =
    follow_once laws tables had has its_had its_has before its are shown sees same asked some other one last not never goes went

-- ---- requests one behind another

module _ (law : WidenedAreTables) (tables : List TableDef) (had has : ℕ) (before after : Member) (stood : Stands before) where
  still_stands : after ≡ before → Stands after
  still_stands still = subst Stands (sym still) stood

  seen_stands : (bytes : List ℕ) (wishes : List Wish) (text : List ℕ) → SeesAnswer tables had has before bytes wishes text after → Stands after
  seen_stands bytes wishes text (inl (answer, result, seen, fits, spelled, hears, device, is)) = (
    answered_tables law IsSeen answer result before.tables after.tables before.position after.position before.view hears.left
        (record { wishes = wishes; seen = None }) (record { wishes = hears.unused; seen = seen }) stood.0 hears.answers,
    record { contents = hears.left; shows = hears.shows },
  )
  seen_stands bytes wishes text (inr (still, why)) = still_stands still

  ask_stands : (ask : Ask) (text : List ℕ) → AskStep tables had has before ask text after → Stands after
  ask_stands (OnEdit edit) text goes = stands_after law had has before after stood (OnEdit edit) text goes
  ask_stands Push text goes = stands_after law had has before after stood Push text goes
  ask_stands Resend text goes = stands_after law had has before after stood Resend text goes
  ask_stands (Pull limit) text goes = stands_after law had has before after stood (Pull limit) text goes
  ask_stands (Catch limit) text goes = stands_after law had has before after stood (Catch limit) text goes
  ask_stands (Answer bytes wishes) text goes = seen_stands bytes wishes text goes
  ask_stands Dump text goes = stands_after law had has before after stood Dump text goes

  read_stands : (ask : Option Ask) (asked : Option Look) (text : List ℕ) → ReadStep tables had has before ask asked text after → Stands after
  read_stands (Some ask) asked text goes = ask_stands ask text goes
  read_stands None (Some asked) text (still, shows) = still_stands still
  read_stands None None text (still, is) = still_stands still

  all_stands : (edits : Option (List Edit)) (text : List ℕ) → ReadEditsStep had has before edits text after → Stands after
  all_stands (Some edits) text (Ok done, (count, next, left, is, made, shows), device, says) = subst Stands (sym is) (stood.0, record { contents = left; shows = shows })
  all_stands (Some edits) text (Err fault, (still, why), device, says) = still_stands still
  all_stands None text (still, is) = still_stands still

  request_stands : (count : Option ℕ) (first : List ℕ) (more : List (List ℕ)) (text : List ℕ) → RequestStep tables had has before count first more text after → Stands after
  request_stands None first more text goes = read_stands (ask_in tables first) (look_in first) text goes
  request_stands (Some count) first more text goes = all_stands (all_edits_in tables count more) text goes

  follow_stands : (asked : List (List ℕ)) (text : List ℕ) → FollowStep tables had has before asked text after → Stands after
  follow_stands [] text goes = absurd goes
  follow_stands (first ∷ more) text (inl goes) = request_stands (several_in first) first more text goes
  follow_stands (first ∷ more) text (inr (still, memory)) = still_stands still

pub one_follow_run : WidenedAreTables → OneFollowStep → OneFollowRun
one_follow_run widened law tables =
    one_run (FollowStep tables) SaysNothing (law tables) (λ had has before after asked text stood goes. follow_stands widened tables had has before after stood asked text goes)
