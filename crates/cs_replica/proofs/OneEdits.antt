-- Edits of the same replica, one behind another, have one result, and leave the same replica.
use Rattle.std.proofs.Common.{◌≡◌, ◌∙◌, ℕ, zero, suc, List, [], ◌∷◌, Some, Ok, Err, Result, refl, sym, ap, subst, take}
use Rattle.std.specs.Prelude.{slice_get}
use Rattle.cs_value.specs.Facts.{some_same}
use Rattle.cs_value.specs.declared.catalog.TableDef.{TableDef}
use Rattle.cs_value.specs.declared.edit.Edit.{Edit}
use Rattle.cs_exchange.specs.taking.Laws.{OneContents}
use Rattle.cs_pending.specs.EditLists.{AreEdited, asked_of_edit, table_of_edit}
use Rattle.cs_pending.specs.Edits.{edit}
use Rattle.cs_pending.specs.View.{View}
use Rattle.cs_pending.specs.declared.fault.EditFault.{EditFault}
use Rattle.cs_pending.specs.declared.fault.EditsFault.TheVariants.{Memory, Device, Refused}
use Rattle.cs_replica.specs.Edited.{with_pending}
use Rattle.cs_replica.specs.Same.{IsSameMember, IsSameView}
use Rattle.cs_replica.specs.StepLaws.{AreOfEdits, OneEditedAll}
use Rattle.cs_replica.specs.Step.{AreEditedTo, Member}
use Rattle.cs_pending.specs.declared.fault.EditsFault.{EditsFault}
use Rattle.cs_pending.specs.declared.position.position.Position.{Position}
use Rattle.cs_replica.proofs.OneEdit.{EndAlike, at_tables, counts_alike, edit_alike, ends_as, same_as, same_there, with_tables}

module _ (tables : List TableDef) where
  abbrev made : Edit → View → Result View EditFault
  made asked view = edit tables (table_of_edit asked) (asked_of_edit asked) view

  alike : (asked : Edit) (view seen : View) (some other : Result View EditFault) → IsSameView tables view seen → made asked view ≡ some → made asked seen ≡ other → EndAlike tables some other
  alike asked view seen some other same is so =
      ends_as tables (made asked view) (made asked seen) some other is so (edit_alike tables view seen same (table_of_edit asked) (asked_of_edit asked))

  edits_alike : (edits : List Edit) (view seen end last : View) → IsSameView tables view seen → AreEdited tables edits view end → AreEdited tables edits seen last → IsSameView tables end last
  edits_alike [] view seen end last same is so =
      subst (λ (v : View). IsSameView tables v last) (sym is) (subst (λ (v : View). IsSameView tables view v) (sym so) same)
  edits_alike (asked ∷ edits) view seen end last same (next, led, held, rest) (reached, so, sound, others) =
      edits_alike edits next reached end last (alike asked view seen (Ok next) (Ok reached) same led so) rest others

  -- an edit that is made isn't refused
  apart : (edits : List Edit) (at : ℕ) (asked : Edit) (view seen end between : View) (fault : EditFault) → IsSameView tables view seen → AreEdited tables edits view end
      → AreEdited tables (take at edits) seen between → slice_get edits at ≡ Some asked → made asked between ≡ Err fault → ⊥
  apart [] at asked view seen end between fault same done front there refused = absurd cc
  apart (first ∷ edits) zero asked view seen end between fault same (next, led, held, rest) front there refused =
      let one : made first seen ≡ Err fault = ap (λ (e : Edit). made e seen) (some_same there) ∙ ap (made asked) (sym front) ∙ refused in
      alike first view seen (Ok next) (Err fault) same led one
  apart (first ∷ edits) (suc at) asked view seen end between fault same (next, led, held, rest) (reached, so, sound, others) there refused =
      apart edits at asked next reached end between fault (alike first view seen (Ok next) (Ok reached) same led so) rest others there refused

  -- two refusals are one
  one_refusal : (edits : List Edit) (at place : ℕ) (asked also : Edit) (view seen between middle : View) (fault other : EditFault) → IsSameView tables view seen
      → AreEdited tables (take at edits) view between → slice_get edits at ≡ Some asked → made asked between ≡ Err fault
      → AreEdited tables (take place edits) seen middle → slice_get edits place ≡ Some also → made also middle ≡ Err other
      → (at ≡ place) × (fault ≡ other)
  one_refusal [] at place asked also view seen between middle fault other same front there refused before here denied = absurd cc
  one_refusal (first ∷ edits) zero zero asked also view seen between middle fault other same front there refused before here denied =
      let one : made first view ≡ Err fault = ap (λ (e : Edit). made e view) (some_same there) ∙ ap (made asked) (sym front) ∙ refused in
      let two : made first seen ≡ Err other = ap (λ (e : Edit). made e seen) (some_same here) ∙ ap (made also) (sym before) ∙ denied in
      (refl, alike first view seen (Err fault) (Err other) same one two)
  one_refusal (first ∷ edits) zero (suc place) asked also view seen between middle fault other same front there refused (reached, so, sound, others) here denied =
      let one : made first view ≡ Err fault = ap (λ (e : Edit). made e view) (some_same there) ∙ ap (made asked) (sym front) ∙ refused in
      absurd (alike first view seen (Err fault) (Ok reached) same one so)
  one_refusal (first ∷ edits) (suc at) zero asked also view seen between middle fault other same (next, led, held, rest) there refused before here denied =
      let two : made first seen ≡ Err other = ap (λ (e : Edit). made e seen) (some_same here) ∙ ap (made also) (sym before) ∙ denied in
      absurd (alike first view seen (Ok next) (Err other) same led two)
  one_refusal (first ∷ edits) (suc at) (suc place) asked also view seen between middle fault other same (next, led, held, rest) there refused (reached, so, sound, others) here denied =
      let one = one_refusal edits at place asked also next reached between middle fault other (alike first view seen (Ok next) (Ok reached) same led so) rest there refused others here denied in
      (ap suc one.0, one.1)

module _ (before : Member) (place : Position) (seen : View) (one last : Member) (is_at : place ≡ before.position) (same : IsSameView before.tables before.view seen) where
  abbrev its : Member
  its = with_tables before place seen

  all_edited_there : OneContents → (edits : List Edit) (some other : Result (Unit {0}) EditsFault) → AreOfEdits some → AreOfEdits other → AreEditedTo edits some before one → AreEditedTo edits other its last
      → (some ≡ other) × IsSameMember one last
  all_edited_there contents edits (Ok done) (Ok also) of so (count, next, left, is, led, shows) (number, end, held, was, done_so, sees) =
      let tables = before.tables in
      let alike : IsSameView tables next end = edits_alike tables edits before.view seen next end same led done_so in (
        refl,
        same_as (record before { position = with_pending before.position count; view = next }) (record its { position = with_pending place number; view = end }) one last is was
            (record { tables = refl; position = counts_alike contents tables before.position place count number left held next end is_at alike shows sees; view = alike }),
      )
  all_edited_there contents edits (Ok done) (Err (Refused at fault)) of so (count, next, left, is, led, shows) (still, why) =
      absurd (apart before.tables edits at why.asked before.view seen next why.between fault same led why.edited why.there why.refused)
  all_edited_there contents edits (Err (Refused at fault)) (Ok done) of so (still, why) (count, next, left, is, led, shows) =
      let back : IsSameView before.tables seen before.view = record { rows = λ n k. sym (same.rows n k); pending = λ table key there. sym (same.pending table key there) } in
      absurd (apart before.tables edits at why.asked seen before.view next why.between fault back led why.edited why.there why.refused)
  all_edited_there contents edits (Err (Refused at fault)) (Err (Refused place_of other)) of so (still, why) (stays, because) =
      let refusal = one_refusal before.tables edits at place_of why.asked because.asked before.view seen why.between because.between fault other same why.edited why.there why.refused because.edited because.there because.refused in (
        ap (λ (n : ℕ). Err (Refused n fault)) refusal.0 ∙ ap (λ (f : EditFault). Err (Refused place_of f)) refusal.1,
        same_as before its one last still stays (same_there before place seen one last is_at same),
      )
  all_edited_there contents edits (Err Memory) other of so first second = absurd of
  all_edited_there contents edits (Err Device) other of so first second = absurd of
  all_edited_there contents edits some (Err Memory) of so first second = absurd so
  all_edited_there contents edits some (Err Device) of so first second = absurd so

pub one_edited_all : OneContents → OneEditedAll
one_edited_all contents edits some other before its one last same of so is was =
    all_edited_there before its.position its.view one last same.position same.view contents edits some other of so is
    (subst (λ (m : Member). AreEditedTo edits other m last) (at_tables before its same) was)
