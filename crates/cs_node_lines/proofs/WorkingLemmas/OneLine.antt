-- A line has one text at the same replica, and leaves the same replica.
use Rattle.std.proofs.Common.{◌≡◌, ◌∙◌, ◌++◌, ℕ, List, [], ◌∷◌, Result, Ok, Err, refl, sym, ap, subst, inl, inr}
use Rattle.cs_node_lines.specs.declared.asks.ask.Ask.{Ask}
use Rattle.cs_node_lines.specs.declared.asks.ask.Ask.TheVariants.{Answer, Catch, Dump, OnEdit, Pull, Push, Resend}
use Rattle.cs_conflict.specs.declared.wish.Wish.{Wish}
use Rattle.cs_lines.specs.Lines.{hex_line}
use Rattle.cs_replica.specs.StepLaws.{IsOfEdit, IsOfPushed, OneEdited, OneHeard, OnePushed, OneResent}
use Rattle.cs_replica.specs.Step.{Hears, Member, asked_in}
use Rattle.cs_replica.specs.Same.{IsSameMember, IsShown}
use Rattle.cs_normal.specs.State.{State}
use Rattle.cs_pending.specs.declared.fault.EditFault.{EditFault}
use Rattle.cs_pending.specs.declared.position.position.Position.{Position}
use Rattle.cs_exchange.specs.declared.pulling.fault.AnswerFault.{AnswerFault}
use Rattle.cs_exchange.specs.declared.pulling.fault.AnswerFault.TheVariants as hearing
use Rattle.cs_exchange.specs.declared.pushing.fault.PushFault.{PushFault}
use Rattle.cs_replica.specs.Laws.{IsOfAnswer}
use Rattle.cs_replica.specs.declared.told.Told.{Told}
use Rattle.cs_pending.specs.rows.Rows.{OneTableOfRows}
use Rattle.cs_store.specs.declared.fault.StoreFault.{StoreFault}
use Rattle.cs_store.specs.declared.fault.StoreFault.TheVariants as store
use Rattle.cs_text.specs.Text.{line}
use Rattle.std.specs.List.{AllByRecursion}
use Rattle.cs_node_lines.specs.told.Told.{edit_fault_text, push_fault_text}
use Rattle.cs_value.specs.Catalog.{AreTables}
use Rattle.cs_conflict.specs.wish_list.Wished.{IsWished}
use Rattle.cs_widening.specs.Laws.{WidenedAreTables}
use Rattle.cs_node_lines.proofs.WorkingLemmas.Tables.{answered_tables}
use Rattle.cs_value.specs.declared.catalog.TableDef.{TableDef}
use Rattle.cs_value.specs.declared.value.Value.{Value}
use Rattle.cs_wire.specs.Laws.{OneToldAnswer}
use Rattle.cs_wire.specs.Requests.{Asked, AsksCatch, AsksPull, request_spelling}
use Rattle.cs_wire.specs.declared.answer.Answer.{Answer as Told_by}
use Rattle.cs_wire.specs.declared.fault.WireFault.{WireFault}
use Rattle.cs_wire.specs.declared.request.RequestBuf.{RequestBuf}
use Rattle.cs_node_lines.specs.working.Laws.{OneLineRun, OneLineStep, SaysRefused}
use Rattle.cs_node_lines.specs.told.Dump.{AreRowLines, replica_text, rows_text}
use Rattle.cs_node_lines.specs.working.LineStep.{InTurn, IsDumped, LineStep, TakesAnswer}
use Rattle.cs_node_lines.specs.working.Texts.{edited_text, heard_text, pushed_text, refused_text, store_fault_text, wire_fault_text}

-- the laws below
pub record Below : Type 0 where
  pub edited : OneEdited
  pub pushed : OnePushed
  pub resent : OneResent
  pub heard : OneHeard
  pub rows : OneTableOfRows
  pub answer : OneToldAnswer

-- ---- what says something

edit_tells : (result : Result (Unit {0}) EditFault) (text : List ℕ) → text ≡ edited_text result → (SaysRefused text → ⊥) → IsOfEdit result
edit_tells (Ok done) text is not = tt
edit_tells (Err fault) text is not = elim [
  | inl memory ↦ not (inl (is ∙ ap (λ (f : EditFault). refused_text (edit_fault_text f)) memory))
  | inr device ↦ not (inr (inl (is ∙ ap (λ (f : EditFault). refused_text (edit_fault_text f)) device)))
]

push_tells : (result : Result RequestBuf PushFault) (text : List ℕ) → text ≡ pushed_text result → (SaysRefused text → ⊥) → IsOfPushed (asked_in result)
push_tells (Ok request) text is not = tt
push_tells (Err fault) text is not = (
  λ memory. not (inl (is ∙ ap (λ (f : PushFault). refused_text (push_fault_text f)) memory)),
  λ device. not (inr (inl (is ∙ ap (λ (f : PushFault). refused_text (push_fault_text f)) device))),
)

answer_tells : (result : Result Told AnswerFault) (version : ℕ) (text : List ℕ) → text ≡ heard_text result version → (SaysRefused text → ⊥) → IsOfAnswer result
answer_tells (Ok told) version text is not = tt
answer_tells (Err (hearing.Memory count)) version text is not = not (inr (inr (hearing.Memory count, λ of. of, is)))
answer_tells (Err (hearing.Device count)) version text is not = not (inr (inr (hearing.Device count, λ of. of, is)))
answer_tells (Err (hearing.BadEntry count)) version text is not = tt

-- a store's fault says nothing of a look at the rows
pub store_tells : (fault : StoreFault) (text : List ℕ) → text ≡ refused_text (store_fault_text fault) → (SaysRefused text → ⊥) → ⊥
store_tells store.Memory text is not = not (inl is)
store_tells store.Device text is not = not (inr (inl is))

-- ---- texts

asked_text : Result Asked PushFault → List ℕ
asked_text (Ok asked) = hex_line (request_spelling asked)
asked_text (Err fault) = refused_text (push_fault_text fault)

asked_there : (result : Result RequestBuf PushFault) → pushed_text result ≡ asked_text (asked_in result)
unfolding asked_text
asked_there (Ok request) = refl
asked_there (Err fault) = refl

pushed_alike : (some other : Result RequestBuf PushFault) → asked_in some ≡ asked_in other → pushed_text some ≡ pushed_text other
pushed_alike some other same = asked_there some ∙ (ap asked_text same ∙ sym (asked_there other))

heard_alike : (some other : Result Told AnswerFault) (version number : ℕ) → some ≡ other → number ≡ version → heard_text some version ≡ heard_text other number
heard_alike some other version number same is = ap (λ (r : Result Told AnswerFault). heard_text r version) same ∙ ap (λ (v : ℕ). heard_text other v) (sym is)

-- the lines of the rows of tables
lines_once : OneTableOfRows → (tables : List TableDef) (state : State) (some other : List ℕ) → AreRowLines tables state some → AreRowLines tables state other → some ≡ other
lines_once law [] state some other is so = is ∙ sym so
lines_once law (table ∷ tables) state some other (rows, rest, are, more, is) (others, later, were, further, so) =
    let one : rows ≡ others = law (state table.name) rows others are were in
    let two : rest ≡ later = lines_once law tables state rest later more further in
    is ∙ (ap (λ (r : List (List ℕ × List Value)). rows_text table.name r ++ rest) one ∙ (ap (λ (l : List ℕ). rows_text table.name others ++ l) two ∙ sym so))

-- ---- one line

-- a replica that is as it was
pub stays_same : (before its one last : Member) → one ≡ before → last ≡ its → IsSameMember before its → IsSameMember one last
stays_same before its one last is so same =
    subst (λ (m : Member). IsSameMember m last) (sym is) (subst (λ (m : Member). IsSameMember before m) (sym so) same)

module _ (laws : Below) (had has its_had its_has : ℕ) (before its : Member) (are : AreTables before.tables) (shown : IsShown before) (sees : IsShown its) (same : IsSameMember before its) where
  dumped_once : (some other : List ℕ) → IsDumped before some → IsDumped its other → some ≡ other
  dumped_once some other (rows, lines, is) (others, more, so) =
      let states : its.view.tables ≡ before.view.tables = λ i name key. same.view.rows name key i in
      let one : rows ≡ others = lines_once laws.rows before.tables before.view.tables rows others lines
      (subst (λ (s : State). AreRowLines before.tables s others) states (subst (λ (ts : List TableDef). AreRowLines ts its.view.tables others) same.tables more)) in
      is
      ∙ (ap (λ (p : Position). line (replica_text p.id p) ++ rows) (sym same.position)
      ∙ (ap (λ (l : List ℕ). line (replica_text its.position.id its.position) ++ l) one ∙ sym so))

  -- one answer is told by bytes, or one fault
  heard_once : (bytes : List ℕ) (wishes : List Wish) (some other : List ℕ) (one last : Member) (answer : Told_by) (result outcome : Result Told AnswerFault) → (SaysRefused some → ⊥) → (SaysRefused other → ⊥)
      → Hears before answer wishes result one → some ≡ heard_text result one.position.version → Hears its answer wishes outcome last → other ≡ heard_text outcome last.position.version
      → (some ≡ other) × IsSameMember one last
  heard_once bytes wishes some other one last answer result outcome not never hears is again so =
      let all =
      laws.heard answer wishes result outcome before its one last are shown sees same
      (answer_tells result one.position.version some is not) (answer_tells outcome last.position.version other so never) hears again in
      let versions : last.position.version ≡ one.position.version = ap (λ (p : Position). p.version) all.1.position in
      (is ∙ (heard_alike result outcome one.position.version last.position.version all.0 versions ∙ sym so), all.1)

  taken_once : (bytes : List ℕ) (wishes : List Wish) (some other : List ℕ) (one last : Member) → (SaysRefused some → ⊥) → (SaysRefused other → ⊥) → TakesAnswer had has before bytes wishes some one → TakesAnswer its_had its_has its bytes wishes other last
      → (some ≡ other) × IsSameMember one last
  taken_once bytes wishes some other one last not never (inl (answer, result, fits, spelled, hears, device, is)) (inl (told, outcome, suits, spells, again, failed, so)) =
      let both : Ok answer ≡ Ok told = laws.answer bytes (Ok answer) (Ok told) (fits, spelled) (suits, spells) in
      let answers : told ≡ answer = (let e = sym both in cc) in
      heard_once bytes wishes some other one last answer result outcome not never hears is (subst (λ (a : Told_by). Hears its a wishes outcome last) answers again) so
  taken_once bytes wishes some other one last not never (inl (answer, result, fits, spelled, hears, device, is)) (inr (stays, inl (fault, wrong, so))) =
      let both : Ok answer ≡ Err fault = laws.answer bytes (Ok answer) (Err fault) (fits, spelled) wrong in
      absurd cc
  taken_once bytes wishes some other one last not never (inl (answer, result, fits, spelled, hears, device, is)) (inr (stays, inr memory)) = absurd (never (inl memory))
  taken_once bytes wishes some other one last not never (inr (still, inl (fault, wrong, is))) (inl (told, outcome, suits, spells, again, failed, so)) =
      let both : Err fault ≡ Ok told = laws.answer bytes (Err fault) (Ok told) wrong (suits, spells) in
      absurd cc
  taken_once bytes wishes some other one last not never (inr (still, inl (fault, wrong, is))) (inr (stays, inl (why, bad, so))) =
      let both : Err fault ≡ Err why = laws.answer bytes (Err fault) (Err why) wrong bad in
      let faults : fault ≡ why = cc in
      (is ∙ (ap (λ (f : WireFault). refused_text (wire_fault_text f)) faults ∙ sym so), stays_same before its one last still stays same)
  taken_once bytes wishes some other one last not never (inr (still, inl (fault, wrong, is))) (inr (stays, inr memory)) = absurd (never (inl memory))
  taken_once bytes wishes some other one last not never (inr (still, inr memory)) taken = absurd (not (inl memory))

  pub line_once : (ask : Ask) (some other : List ℕ) (one last : Member) → (SaysRefused some → ⊥) → (SaysRefused other → ⊥) → LineStep had has before ask some one → LineStep its_had its_has its ask other last
      → (some ≡ other) × IsSameMember one last
  line_once (OnEdit asked) some other one last not never (result, goes, device, is) (outcome, went, failed, so) =
      let all = laws.edited asked result outcome before its one last same (edit_tells result some is not) (edit_tells outcome other so never) goes went in
      (is ∙ (ap edited_text all.0 ∙ sym so), all.1)
  line_once Push some other one last not never (result, goes, device, is) (outcome, went, failed, so) =
      let all = laws.pushed (asked_in result) (asked_in outcome) before its one last are same (push_tells result some is not) (push_tells outcome other so never) goes went in
      (is ∙ (pushed_alike result outcome all.0 ∙ sym so), all.1)
  line_once Resend some other one last not never (still, inl (result, goes, is)) (stays, inl (outcome, went, so)) =
      let results = laws.resent (asked_in result) (asked_in outcome) before its shown same (push_tells result some is not) (push_tells outcome other so never) goes went in
      (is ∙ (pushed_alike result outcome results ∙ sym so), stays_same before its one last still stays same)
  line_once Resend some other one last not never (still, inl goes) (stays, inr memory) = absurd (never (inl memory))
  line_once Resend some other one last not never (still, inr memory) went = absurd (not (inl memory))
  line_once (Pull limit) some other one last not never (still, inl is) (stays, inl so) = (
    is ∙ (ap (λ (p : Position). hex_line (request_spelling (AsksPull p.version limit))) (sym same.position) ∙ sym so),
    stays_same before its one last still stays same,
  )
  line_once (Pull limit) some other one last not never (still, inl is) (stays, inr memory) = absurd (never (inl memory))
  line_once (Pull limit) some other one last not never (still, inr memory) went = absurd (not (inl memory))
  line_once (Catch limit) some other one last not never (still, inl is) (stays, inl so) = (
    is ∙ (ap (λ (p : Position). hex_line (request_spelling (AsksCatch p.id p.version limit))) (sym same.position) ∙ sym so),
    stays_same before its one last still stays same,
  )
  line_once (Catch limit) some other one last not never (still, inl is) (stays, inr memory) = absurd (never (inl memory))
  line_once (Catch limit) some other one last not never (still, inr memory) went = absurd (not (inl memory))
  line_once (Answer bytes wishes) some other one last not never goes went = taken_once bytes wishes some other one last not never goes went
  line_once Dump some other one last not never (still, inl dumped) (stays, inl looked) = (dumped_once some other dumped looked, stays_same before its one last still stays same)
  line_once Dump some other one last not never (still, inl dumped) (stays, inr (fault, failed, so)) = absurd (store_tells fault other so never)
  line_once Dump some other one last not never (still, inr (fault, device, is)) went = absurd (store_tells fault some is not)

pub one_line_step : Below → OneLineStep
one_line_step laws ask some other had has its_had its_has before its one last are shown sees same not never goes went = line_once laws had has its_had its_has before its are shown sees same ask some other one last not never goes went

-- ---- lines one behind another

-- some store shows the replica, and its tables are a catalog's
abbrev pub Stands : Member → Type 0
Stands member = AreTables member.tables × IsShown member

-- so it is after a line
module _ (law : WidenedAreTables) (had has : ℕ) (before after : Member) (stood : Stands before) where
  still_stands : after ≡ before → Stands after
  still_stands still = subst Stands (sym still) stood

  taken_stands : (bytes : List ℕ) (wishes : List Wish) (text : List ℕ) → TakesAnswer had has before bytes wishes text after → Stands after
  taken_stands bytes wishes text (inl (answer, result, fits, spelled, hears, device, is)) = (
    answered_tables law IsWished answer result before.tables after.tables before.position after.position before.view hears.left wishes hears.unused stood.0 hears.answers,
    record { contents = hears.left; shows = hears.shows },
  )
  taken_stands bytes wishes text (inr (still, why)) = still_stands still

  pub stands_after : (ask : Ask) (text : List ℕ) → LineStep had has before ask text after → Stands after
  stands_after (OnEdit asked) text (Ok done, (count, next, left, is, made, shows), device, says) = subst Stands (sym is) (stood.0, record { contents = left; shows = shows })
  stands_after (OnEdit asked) text (Err fault, (still, why), device, says) = still_stands still
  stands_after Push text (Ok request, (changes, left, is, made, asks), device, says) = subst Stands (sym is) (stood.0, record { contents = left; shows = made.shows })
  stands_after Push text (Err fault, (still, why), device, says) = still_stands still
  stands_after Resend text (still, says) = still_stands still
  stands_after (Pull limit) text (still, says) = still_stands still
  stands_after (Catch limit) text (still, says) = still_stands still
  stands_after (Answer bytes wishes) text goes = taken_stands bytes wishes text goes
  stands_after Dump text (still, says) = still_stands still

-- steps one behind another have one list of texts, where each has one and leaves a replica that some store shows
module _ {A : Type 0} (step : ℕ → ℕ → Member → A → List ℕ → Member → Type 0) (Says : List ℕ → Type 0) where
  abbrev pub OneStep : Type 0
  OneStep =
      (asked : A) (some other : List ℕ) (had has its_had its_has : ℕ) (before its one last : Member)
      → AreTables before.tables → IsShown before → IsShown its → IsSameMember before its → (Says some → ⊥) → (Says other → ⊥)
      → step had has before asked some one → step its_had its_has its asked other last
      → (some ≡ other) × IsSameMember one last

  abbrev pub StandsAfter : Type 0
  StandsAfter = (had has : ℕ) (before after : Member) (asked : A) (text : List ℕ) → Stands before → step had has before asked text after → Stands after

  pub one_run : OneStep → StandsAfter → (all : List A) (some other : List (List ℕ)) (had has its_had its_has : ℕ) (before its one last : Member)
      → AreTables before.tables → IsShown before → IsShown its → IsSameMember before its
      → AllByRecursion (λ (text : List ℕ). Says text → ⊥) some → AllByRecursion (λ (text : List ℕ). Says text → ⊥) other
      → InTurn step had has before all some one → InTurn step its_had its_has its all other last
      → (some ≡ other) × IsSameMember one last
  one_run law after [] [] [] had has its_had its_has before its one last are shown sees same not never (is, kept) (so, stood) = (refl, stays_same before its one last is so same)
  one_run law after (asked ∷ all) (some ∷ more) (other ∷ others) had has its_had its_has before its one last are shown sees same (not, nots) (never, nos)
      (between, count, later, goes, on) (among, number, grown, went, further) =
      let first = law asked some other had count its_had number before its between among are shown sees same not never goes went in
      let stands : Stands between = after had count before between asked some (are, shown) goes in
      let its_are : AreTables its.tables = subst AreTables (sym same.tables) are in
      let stood : Stands among = after its_had number its among asked other (its_are, sees) went in
      let rest = one_run law after all more others count has number its_has between among one last stands.0 stands.1 stood.1 first.1 nots nos on further in
      (ap (λ (t : List ℕ). t ∷ more) first.0 ∙ ap (λ (ts : List (List ℕ)). other ∷ ts) rest.0, rest.1)
  one_run law after [] (some ∷ more) others had has its_had its_has before its one last are shown sees same not never is so = absurd is
  one_run law after [] [] (other ∷ others) had has its_had its_has before its one last are shown sees same not never is so = absurd so
  one_run law after (asked ∷ all) [] others had has its_had its_has before its one last are shown sees same not never is so = absurd is
  one_run law after (asked ∷ all) (some ∷ more) [] had has its_had its_has before its one last are shown sees same not never is so = absurd so

pub one_line_run : WidenedAreTables → OneLineStep → OneLineRun
one_line_run widened law = one_run LineStep SaysRefused law (λ had has before after ask text stood goes. stands_after widened had has before after stood ask text goes)
