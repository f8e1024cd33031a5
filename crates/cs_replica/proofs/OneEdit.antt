-- An edit of the same replica has one result, and leaves the same replica.
use Rattle.std.proofs.Common.{◌≡◌, ◌∙◌, ℕ, suc, Bool, true, false, not, List, [], ◌∷◌, Option, Some, None, Result, Ok, Err, refl, sym, ap, subst, inl, inr, arith}
use Rattle.std.specs.Prelude.{Contains, if◌then◌else◌}
use Rattle.std.specs.FinMap.{len}
use Rattle.std.specs.Str.{bytes_eq}
use Rattle.cs_change.specs.Action.{action_any}
use Rattle.cs_change.specs.declared.change.Change.{Change}
use Rattle.cs_normal.specs.keyed.Changes.{key_bytes}
use Rattle.cs_pending.specs.Edits.{Asked, after_edit, asked_key, edit, edit_at, edit_found, edit_table, has_set_key, has_widths, leaves_key, left_in, named, wanted_of}
use Rattle.cs_pending.specs.View.{View, direct_net, edited, middle, put_at, settled, undo}
use Rattle.cs_pending.specs.declared.fault.EditFault.{EditFault}
use Rattle.cs_pending.specs.declared.fault.EditFault.TheVariants.{KeyColumn, NullKey, Width}
use Rattle.cs_pending.specs.position.Shows.{ShowsAt}
use Rattle.cs_pending.specs.declared.position.position.Position.{Position}
use Rattle.cs_replica.specs.Edited.{with_pending}
use Rattle.cs_store.specs.Contents.{Contents}
use Rattle.cs_exchange.specs.taking.Laws.{OneContents}
use Rattle.cs_value.specs.Key.{Place}
use Rattle.cs_value.specs.Same.{same_place}
use Rattle.cs_value.specs.declared.catalog.TableDef.{TableDef}
use Rattle.cs_replica.specs.StepLaws.{IsOfEdit, OneEdited}
use Rattle.cs_value.specs.declared.edit.Edit.{Edit}
use Rattle.cs_pending.specs.EditLists.{asked_of_edit, table_of_edit}
use Rattle.cs_replica.specs.Step.{IsEditedTo, Member}
use Rattle.cs_replica.specs.Same.{IsSameMember, IsSameView}

-- ---- the table with a name is one of the tables

by_found : (here : Bool) (first table : TableDef) (behind : Option TableDef) (P : Type 0) → (if here then Some first else behind) ≡ Some table → (first ≡ table → P) → (behind ≡ Some table → P) → P
by_found true first table behind P e is later = is cc
by_found false first table behind P e is later = later e

pub named_inside : (name : List ℕ) (tables : List TableDef) (table : TableDef) → named name tables ≡ Some table → Contains tables table
unfolding named
named_inside name [] table e = absurd cc
named_inside name (first ∷ tables) table e =
    by_found (bytes_eq first.name name) first table (named name tables) (Contains (first ∷ tables) table) e
    (λ is. (0, omega arith, is))
    (λ later. let behind = named_inside name tables table later in (suc behind.0, omega (arith, behind.1), behind.2))

-- ---- what stands at a place

-- the same is put where the same was held
put_alike : {A : Type 0} (name key : List ℕ) (x y : A) (held others : List ℕ → List ℕ → A) (n k : List ℕ) → y ≡ x → others n k ≡ held n k → put_at name key y others n k ≡ put_at name key x held n k
put_alike {A = A} name key x y held others n k put same =
    ap (λ (z : A). put_at name key z others n k) put ∙ ap (λ (h : A). put_at name key x (λ a b. h) n k) same

module _ (tables : List TableDef) where
  -- both leave the same view, or both have one fault
  abbrev pub EndAlike : Result View EditFault → Result View EditFault → Type 0
  EndAlike (Ok view) (Ok other) = IsSameView tables view other
  EndAlike (Err fault) (Err other) = fault ≡ other
  EndAlike (Ok view) (Err other) = ⊥
  EndAlike (Err fault) (Ok other) = ⊥

  if_alike : (test : Bool) (some other one last : Result View EditFault) → EndAlike some other → EndAlike one last → EndAlike (if test then some else one) (if test then other else last)
  if_alike true some other one last first second = first
  if_alike false some other one last first second = second

  pub ends_as : (some other one last : Result View EditFault) → some ≡ one → other ≡ last → EndAlike some other → EndAlike one last
  ends_as some other one last is so alike =
      subst (λ (r : Result View EditFault). EndAlike one r) so (subst (λ (r : Result View EditFault). EndAlike r other) is alike)

  module _ (view seen : View) (one : IsSameView tables view seen) where
    test_alike : (test other : Bool) (next last : View) → test ≡ other → IsSameView tables next last → IsSameView tables (if test then view else next) (if other then seen else last)
    test_alike true true next last e same = one
    test_alike false false next last e same = same
    test_alike true false next last e same = absurd cc
    test_alike false true next last e same = absurd cc

    middle_alike : (table : TableDef) (key : List ℕ) → Contains tables table → middle seen table.name key ≡ middle view table.name key
    middle_alike table key inside =
        ap (λ (change : Option Change). undo (action_any change) (seen.tables table.name key)) (one.pending table key inside)
        ∙ ap (undo (action_any (view.pending table.name key))) (one.rows table.name key)

    settled_alike : (table : TableDef) (key : List ℕ) (mine : Place) → Contains tables table
        → IsSameView tables (settled table key (middle view table.name key) mine view) (settled table key (middle seen table.name key) mine seen)
    settled_alike table key mine inside = record {
      rows = λ n k. put_alike table.name key mine mine view.tables seen.tables n k refl (one.rows n k);
      pending = λ other k there.
          put_alike table.name key (direct_net table (middle view table.name key) mine) (direct_net table (middle seen table.name key) mine) view.pending seen.pending other.name k
          (ap (λ (base : Place). direct_net table base mine) (middle_alike table key inside)) (one.pending other k there);
    }

    edited_alike : (table : TableDef) (key : List ℕ) (mine : Place) → Contains tables table → IsSameView tables (edited table key mine view) (edited table key mine seen)
    edited_alike table key mine inside =
        test_alike (same_place (view.tables table.name key) mine) (same_place (seen.tables table.name key) mine)
        (settled table key (middle view table.name key) mine view) (settled table key (middle seen table.name key) mine seen)
        (ap (λ (row : Place). same_place row mine) (sym (one.rows table.name key))) (settled_alike table key mine inside)

    left_alike : (table : TableDef) (key : List ℕ) (left : Result Place EditFault) → Contains tables table → EndAlike (left_in table key view left) (left_in table key seen left)
    left_alike table key (Ok mine) inside = edited_alike table key mine inside
    left_alike table key (Err fault) inside = refl

    at_alike : (table : TableDef) (key : List ℕ) (asked : Asked) → Contains tables table → EndAlike (edit_at table key (wanted_of asked) view) (edit_at table key (wanted_of asked) seen)
    at_alike table key asked inside =
        subst (λ (row : Place). EndAlike (edit_at table key (wanted_of asked) view) (left_in table key seen (after_edit (wanted_of asked) row))) (sym (one.rows table.name key))
        (left_alike table key (after_edit (wanted_of asked) (view.tables table.name key)) inside)

    -- ---- the tests before that

    abbrev kept : TableDef → Asked → View → Result View EditFault
    kept table asked at = if not (leaves_key table asked) then Err KeyColumn else edit_at table (key_bytes (asked_key table asked)) (wanted_of asked) at

    abbrev keyed : TableDef → Asked → View → Result View EditFault
    keyed table asked at = if not (has_set_key table asked) then Err NullKey else kept table asked at

    table_alike : (table : TableDef) (asked : Asked) → Contains tables table → EndAlike (edit_table table asked view) (edit_table table asked seen)
    table_alike table asked inside =
        if_alike (not (has_widths table asked)) (Err Width) (Err Width) (keyed table asked view) (keyed table asked seen) refl
        (if_alike (not (has_set_key table asked)) (Err NullKey) (Err NullKey) (kept table asked view) (kept table asked seen) refl
        (if_alike (not (leaves_key table asked)) (Err KeyColumn) (Err KeyColumn) (edit_at table (key_bytes (asked_key table asked)) (wanted_of asked) view) (edit_at table (key_bytes (asked_key table asked)) (wanted_of asked) seen) refl
        (at_alike table (key_bytes (asked_key table asked)) asked inside)))

    found_alike : (asked : Asked) (found : Option TableDef) → ((table : TableDef) → found ≡ Some table → Contains tables table) → EndAlike (edit_found found asked view) (edit_found found asked seen)
    found_alike asked None inside = refl
    found_alike asked (Some table) inside = table_alike table asked (inside table refl)

    pub edit_alike : (name : List ℕ) (asked : Asked) → EndAlike (edit tables name asked view) (edit tables name asked seen)
    edit_alike name asked = found_alike asked (named name tables) (λ table is. named_inside name tables table is)

-- ---- how many changes are pending

counted : (tables : List TableDef) (position : Position) (count : ℕ) (left : Contents) (view : View) → ShowsAt tables left (with_pending position count) view → ShowsAt tables left (with_pending position (len left.pending)) view
counted tables position count left view shows = subst (λ (n : ℕ). ShowsAt tables left (with_pending position n) view) shows.counted shows

pub counts_alike : OneContents → (tables : List TableDef) (position other : Position) (count number : ℕ) (left held : Contents) (view seen : View) → other ≡ position → IsSameView tables view seen
    → ShowsAt tables left (with_pending position count) view → ShowsAt tables held (with_pending other number) seen → with_pending other number ≡ with_pending position count
counts_alike contents tables position other count number left held view seen is same shows sees =
    let there = subst (λ (p : Position). ShowsAt tables held (with_pending p (len held.pending)) seen) is (counted tables other number held seen sees) in
    let one : left ≡ held = contents tables position left held view seen (counted tables position count left view shows) there same.rows same.pending in
    let numbers : number ≡ count = sees.counted ∙ (sym (ap (λ (c : Contents). len c.pending) one) ∙ sym shows.counted) in
    ap (λ (p : Position). with_pending p number) is ∙ ap (with_pending position) numbers

-- ---- replicas

pub same_as : (some other one last : Member) → one ≡ some → last ≡ other → IsSameMember some other → IsSameMember one last
same_as some other one last is so same =
    subst (λ (m : Member). IsSameMember m last) (sym is) (subst (λ (m : Member). IsSameMember some m) (sym so) same)

-- the same replica, by the one's tables
abbrev pub with_tables : Member → Position → View → Member
with_tables before place seen = record { tables = before.tables; position = place; view = seen }

pub at_tables : (before its : Member) → IsSameMember before its → its ≡ with_tables before its.position its.view
at_tables before its same = ap (λ (ts : List TableDef). record { tables = ts; position = its.position; view = its.view }) same.tables

module _ (before : Member) (place : Position) (seen : View) (one last : Member) (is_at : place ≡ before.position) (same : IsSameView before.tables before.view seen) where
  abbrev its : Member
  its = with_tables before place seen

  pub same_there : IsSameMember before its
  same_there = record { tables = refl; position = is_at; view = same }

  one_edited_there : OneContents → (asked : Edit) (some other : Result (Unit {0}) EditFault) → IsOfEdit some → IsOfEdit other → IsEditedTo asked some before one → IsEditedTo asked other its last
      → (some ≡ other) × IsSameMember one last
  one_edited_there contents asked (Ok done) (Ok also) of so (count, next, left, is, made, shows) (number, end, held, was, done_so, sees) =
      let tables = before.tables in
      let alike : IsSameView tables next end =
      ends_as tables (edit tables (table_of_edit asked) (asked_of_edit asked) before.view) (edit tables (table_of_edit asked) (asked_of_edit asked) seen) (Ok next) (Ok end) made done_so
      (edit_alike tables before.view seen same (table_of_edit asked) (asked_of_edit asked)) in (
        refl,
        same_as (record before { position = with_pending before.position count; view = next }) (record its { position = with_pending place number; view = end }) one last is was
            (record { tables = refl; position = counts_alike contents tables before.position place count number left held next end is_at alike shows sees; view = alike }),
      )
  one_edited_there contents asked (Ok done) (Err fault) of so (count, next, left, is, made, shows) (still, inl store) = absurd (so store)
  one_edited_there contents asked (Ok done) (Err fault) of so (count, next, left, is, made, shows) (still, inr refused) =
      let tables = before.tables in
      absurd (ends_as tables (edit tables (table_of_edit asked) (asked_of_edit asked) before.view) (edit tables (table_of_edit asked) (asked_of_edit asked) seen) (Ok next) (Err fault) made refused
      (edit_alike tables before.view seen same (table_of_edit asked) (asked_of_edit asked)))
  one_edited_there contents asked (Err fault) (Ok done) of so (still, inl store) (count, next, left, is, made, shows) = absurd (of store)
  one_edited_there contents asked (Err fault) (Ok done) of so (still, inr refused) (count, next, left, is, made, shows) =
      let tables = before.tables in
      absurd (ends_as tables (edit tables (table_of_edit asked) (asked_of_edit asked) before.view) (edit tables (table_of_edit asked) (asked_of_edit asked) seen) (Err fault) (Ok next) refused made
      (edit_alike tables before.view seen same (table_of_edit asked) (asked_of_edit asked)))
  one_edited_there contents asked (Err fault) (Err other) of so (still, inl store) (stays, why) = absurd (of store)
  one_edited_there contents asked (Err fault) (Err other) of so (still, inr refused) (stays, inl store) = absurd (so store)
  one_edited_there contents asked (Err fault) (Err other) of so (still, inr refused) (stays, inr denied) =
      let tables = before.tables in
      let faults : fault ≡ other =
      ends_as tables (edit tables (table_of_edit asked) (asked_of_edit asked) before.view) (edit tables (table_of_edit asked) (asked_of_edit asked) seen) (Err fault) (Err other) refused denied
      (edit_alike tables before.view seen same (table_of_edit asked) (asked_of_edit asked)) in
      (ap (λ (f : EditFault). Err f) faults, same_as before its one last still stays same_there)

pub one_edited : OneContents → OneEdited
one_edited contents asked some other before its one last same of so is was =
    one_edited_there before its.position its.view one last same.position same.view contents asked some other of so is
    (subst (λ (m : Member). IsEditedTo asked other m last) (at_tables before its same) was)
