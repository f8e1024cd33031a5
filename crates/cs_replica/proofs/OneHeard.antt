-- An answer has one result at the same replica, and leaves the same replica.
use Rattle.std.proofs.Common.{◌≡◌, ◌∙◌, List, Result, sym, subst}
use Rattle.cs_value.specs.Catalog.{AreTables}
use Rattle.cs_value.specs.declared.catalog.TableDef.{TableDef}
use Rattle.cs_conflict.specs.declared.wish.Wish.{Wish}
use Rattle.cs_pending.specs.View.{View}
use Rattle.cs_exchange.specs.declared.pulling.fault.AnswerFault.{AnswerFault}
use Rattle.cs_replica.specs.Same.{IsSameMember, IsSameView, IsShown}
use Rattle.cs_replica.specs.Step.{Hears, Member}
use Rattle.cs_replica.specs.declared.told.Told.{Told}
use Rattle.cs_wire.specs.declared.answer.Answer.{Answer}
use Rattle.cs_replica.proofs.OneEdit.{at_tables, with_tables}
use Rattle.cs_pending.specs.Laws.{OneView}
use Rattle.cs_pending.specs.position.Shows.{ShowsAt}
use Rattle.cs_pending.specs.declared.position.position.Position.{Position}
use Rattle.cs_replica.specs.Answered.{Answers}
use Rattle.cs_replica.specs.Laws.{IsOfAnswer, OneAnswered}
use Rattle.cs_store.specs.Contents.{Contents}
use Rattle.cs_exchange.specs.taking.Laws.{OneContents, PicksOnce}
use Rattle.cs_conflict.specs.wish_list.Wished.{IsWished}
use Rattle.cs_replica.specs.StepLaws.{OneHeard}
use Rattle.cs_replica.proofs.OneAnswer.{counted}

wishes_pick_once : PicksOnce IsWished
wishes_pick_once p clash some other q r one two = (one.is ∙ sym two.is, one.left ∙ sym two.left)

module _ (before : Member) (place : Position) (seen : View) (one last : Member) (is_at : place ≡ before.position) (same : IsSameView before.tables before.view seen) where
  abbrev its : Member
  its = with_tables before place seen

  heard_there : OneContents → OneView → OneAnswered IsWished → (answer : Answer) (wishes : List Wish) (some other : Result Told AnswerFault) → AreTables before.tables → IsShown before → IsShown its → IsOfAnswer some → IsOfAnswer other
      → Hears before answer wishes some one → Hears its answer wishes other last → (some ≡ other) × IsSameMember one last
  heard_there contents views answered answer wishes some other are shown sees of so hears again =
      let tables = before.tables in
      let here = subst (λ (p : Position). ShowsAt tables sees.contents p seen) is_at sees.shows in
      let held : shown.contents ≡ sees.contents =
      contents tables before.position shown.contents sees.contents before.view seen
      (counted tables before.position shown.contents before.view shown.shows) (counted tables before.position sees.contents seen here) same.rows same.pending in
      let its_shown = subst (λ (c : Contents). ShowsAt tables c before.position seen) (sym held) here in
      let its_answers = subst (λ (p : Position). Answers IsWished tables answer other p seen wishes last.tables last.position again.left again.unused) is_at again.answers in
      let all = answered tables one.tables last.tables answer shown.contents hears.left again.left before.position one.position last.position before.view seen some other wishes hears.unused again.unused are wishes_pick_once
      shown.shows its_shown of so hears.answers its_answers in
      let last_shown = subst (λ (ts : List TableDef). ShowsAt ts hears.left one.position last.view) (sym all.1)
      (subst (λ (c : Contents). ShowsAt last.tables c one.position last.view) (sym all.3) (subst (λ (p : Position). ShowsAt last.tables again.left p last.view) (sym all.2) again.shows)) in
      let alike = views one.tables hears.left one.view last.view hears.shows.rows last_shown.rows in
      (all.0, record { tables = sym all.1; position = sym all.2; view = record { rows = alike.0; pending = alike.1 } })

pub one_heard : OneContents → OneView → OneAnswered IsWished → OneHeard
one_heard contents views answered answer wishes some other before its one last are shown sees same of so hears again =
    let path = at_tables before its same in
    heard_there before its.position its.view one last same.position same.view contents views answered answer wishes some other are shown
    (subst (λ (m : Member). IsShown m) path sees) of so hears (subst (λ (m : Member). Hears m answer wishes other last) path again)
