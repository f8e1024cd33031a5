-- An edit of a replica that some store shows has a result that says something of it, and some store shows what it leaves.
use Rattle.std.proofs.Common.{◌≡◌, ◌∙◌, ◌&&◌, ℕ, suc, Bool, true, false, not, cond, List, [], ◌∷◌, length, Option, Some, None, option_map, Result, Ok, Err, slice_get, refl, sym, ap, ap₂, subst, inl, inr, arith}
use Rattle.std.specs.Prelude.{Contains, if◌then◌else◌, nat_eq, pos}
use Rattle.std.specs.Cmp.{Equal-is, IsTotalOrder}
use Rattle.std.specs.Cmp.Lexicographic.{slice_cmp}
use Rattle.std.specs.FinMap.{IsAntisymmetric, get, get-insert, get-remove, len}
use Rattle.std.specs.List.{AllByRecursion, list_all}
use Rattle.std.specs.Ordering.{eq_by_cmp, int_cmp, nat_cmp}
use Rattle.std.proofs.lemmas.Bool.Decides.{Decides-eqb}
use Rattle.std.proofs.lemmas.Cmp.{eq_by_cmp_equiv, int_cmp_total, nat_list_cmp_total, on_total, then_total}
use Rattle.std.proofs.lemmas.Map.Lookups.{exact_bytes, exact_pairs, exact_signed}
use Rattle.std.proofs.lemmas.Option.{slice_get-get_or, slice_get_within}
use Rattle.cs_value.specs.Facts.{by_test}
use Rattle.cs_apply.specs.NormalTasks.{one_table}
use Rattle.cs_apply.specs.Spots.{both_true, key_is, key_refl, same_spot}
use Rattle.cs_change.specs.Columns.{set_columns}
use Rattle.cs_change.specs.Spelling.{change_spelling}
use Rattle.cs_normal.specs.keyed.Changes.{key_bytes}
use Rattle.cs_normal.specs.Laws.{SetColumnsFit}
use Rattle.cs_normal.specs.State.{IsRowOf, MayStandAt, State}
use Rattle.cs_order.specs.Order.{same_bytes}
use Rattle.cs_pending.specs.Edits.{Asked, AskDelete, AskInsert, AskUpdate, IsOfStore, IsWantedAt, after_edit, asked_key, edit, edit_at, edit_found, edit_table, has_set_key, has_widths, keeps_key, key_width, leaves_key, left_in, named, wanted_of}
use Rattle.cs_pending.specs.OnePlace.{by_spot, tests_agree}
use Rattle.cs_pending.specs.Settled.{Catalogs, middle_put, settled_fits, settled_sound}
use Rattle.cs_pending.specs.Shows.{IsElsewhere, IsSoundOf}
use Rattle.cs_pending.specs.Steps.{not_not, through}
use Rattle.cs_pending.specs.View.{View, direct_net, edited, middle, settled}
use Rattle.cs_pending.specs.declared.fault.EditFault.{EditFault}
use Rattle.cs_pending.specs.declared.fault.EditFault.TheVariants.{KeyColumn, NoTable, NullKey, Width}
use Rattle.cs_pending.specs.position.Shows.{ShowsAt, changes_at, flown}
use Rattle.cs_pending.specs.position.Values.{value_of}
use Rattle.cs_pending.specs.declared.position.position.Position.{Position}
use Rattle.cs_record.specs.Spelling.{Fits, row_bytes}
use Rattle.cs_replica.specs.Edited.{with_pending}
use Rattle.cs_store.specs.Contents.{Bodies, Contents, StorePlace, place_cmp}
use Rattle.cs_store.specs.Written.{with_body}
use Rattle.cs_store.specs.declared.names.MetaName.{MetaName}
use Rattle.cs_store.specs.declared.names.MetaName.TheVariants.{Catalog, Flight, Id, Number, Pending, Version}
use Rattle.cs_value.specs.Catalog.{AreTables, is_set, marked}
use Rattle.cs_value.specs.Key.{Place}
use Rattle.cs_value.specs.Same.{same_place}
use Rattle.cs_value.specs.declared.catalog.TableDef.{TableDef}
use Rattle.cs_value.specs.declared.edit.Edit.{Edit}
use Rattle.cs_value.specs.declared.edit.Edit.TheVariants as edits
use Rattle.cs_value.specs.declared.value.Field.{Field}
use Rattle.cs_value.specs.declared.value.Field.TheVariants.{Is, Undefined}
use Rattle.cs_value.specs.declared.value.Value.{Value}
use Rattle.cs_replica.specs.StepLaws.{EditHasResult, IsInRange, IsOfEdit}
use Rattle.cs_pending.specs.EditLists.{asked_of_edit, table_of_edit}
use Rattle.cs_replica.specs.Step.{IsEditedTo, Member}
use Rattle.cs_replica.proofs.OneEdit.{named_inside}

-- ---- a body at a place of a store

place_total : IsTotalOrder place_cmp
place_total = then_total (on_total (λ (p : StorePlace). p.0) int_cmp_total) (on_total (λ (p : StorePlace). p.1) nat_list_cmp_total)

place_exact : IsAntisymmetric place_cmp
place_exact = exact_pairs int_cmp (slice_cmp nat_cmp) exact_signed exact_bytes

place_is : (some other : StorePlace) → eq_by_cmp place_cmp some other ≡ true → some ≡ other
place_is some other e = place_exact some other ((Equal-is (place_cmp some other)).0 e)

get_with : (bodies : Bodies) (place q : StorePlace) (body : Option (List ℕ)) → get (with_body bodies place body) q ≡ cond (eq_by_cmp place_cmp q place) body (get bodies q)
get_with bodies place q None = get-remove place_total bodies place q
get_with bodies place q (Some body) = get-insert place_total bodies place body q

module _ (tables : List TableDef) (law : Catalogs tables) (number : ℕ) (table : TableDef) (key : List ℕ) (stands : slice_get tables number ≡ Some table) where
  -- the tests of places and of spots agree
  places_agree : (n : ℕ) (t : TableDef) (k : List ℕ) → slice_get tables n ≡ Some t → eq_by_cmp place_cmp (pos n, k) (pos number, key) ≡ same_spot (t.name, k) (table.name, key)
  places_agree n t k found =
      let agree = tests_agree tables law.are law.one number n table t k key stands found in
      by_test (nat_eq n number && same_bytes k key) _
      (λ e. let both = both_true (nat_eq n number) (same_bytes k key) e in
      let same : (pos n, k) ≡ (pos number, key) = ap₂ (λ (m : ℕ) (j : List ℕ). (pos m, j)) ((Decides-eqb n number).0 both.0) (key_is k key both.1) in
      ap (λ (p : StorePlace). eq_by_cmp place_cmp p (pos number, key)) same ∙ (eq_by_cmp_equiv place_total).refl (pos number, key) ∙ sym e ∙ sym agree)
      (λ e. by_test (eq_by_cmp place_cmp (pos n, k) (pos number, key)) _
      (λ f. let same = place_is (pos n, k) (pos number, key) f in
      let numbers : n ≡ number = (let g = ap (λ (p : StorePlace). p.0) same in cc) in
      let keys : k ≡ key = ap (λ (p : StorePlace). p.1) same in
      let yes : (nat_eq n number && same_bytes k key) ≡ true =
      ap₂ (λ (m : ℕ) (j : List ℕ). nat_eq m number && same_bytes j key) numbers keys
      ∙ ap₂ (λ (a b : Bool). a && b) ((Decides-eqb number number).1 refl) (key_refl key) in
      absurd (let no = sym yes ∙ e in cc))
      (λ f. f ∙ sym e ∙ sym agree))

  put_there : (bodies : Bodies) (body : Option (List ℕ)) (n : ℕ) (t : TableDef) (k : List ℕ) → slice_get tables n ≡ Some t
      → get (with_body bodies (pos number, key) body) (pos n, k) ≡ cond (same_spot (t.name, k) (table.name, key)) body (get bodies (pos n, k))
  put_there bodies body n t k found =
      get_with bodies (pos number, key) (pos n, k) body ∙ ap (λ (b : Bool). cond b body (get bodies (pos n, k))) (places_agree n t k found)

  put_elsewhere : (bodies : Bodies) (body : Option (List ℕ)) (place : StorePlace) → IsElsewhere tables place → get (with_body bodies (pos number, key) body) place ≡ get bodies place
  put_elsewhere bodies body place elsewhere =
      get_with bodies (pos number, key) place body
      ∙ by_test (eq_by_cmp place_cmp place (pos number, key)) _
      (λ e. let out = elsewhere number (ap (λ (p : StorePlace). p.0) (place_is place (pos number, key) e)) in
      let within = slice_get_within tables number table stands in
      absurd (omega (arith, out, within)))
      (λ e. ap (λ (b : Bool). cond b body (get bodies place)) e)

-- how many changes are pending is no value of a store
value_same : (tables : List TableDef) (position : Position) (count : ℕ) (name : MetaName) → value_of tables position name ≡ value_of tables (with_pending position count) name
value_same tables position count Id = refl
value_same tables position count Version = refl
value_same tables position count Number = refl
value_same tables position count Flight = refl
value_same tables position count Pending = refl
value_same tables position count Catalog = refl

-- a table that is there has a number
numbered : (tables : List TableDef) (table : TableDef) → Contains tables table → (number : ℕ) × (slice_get tables number ≡ Some table)
numbered tables table there = (there.0, slice_get-get_or tables there.0 table there.1 ∙ ap Some there.2)

-- ---- a store that shows a view where a place is settled

module _ (tables : List TableDef) (law : Catalogs tables) (old : Contents) (position : Position) (view : View) (shows : ShowsAt tables old position view) where
  -- some store shows it where the replica stands, with as many changes pending as there are
  abbrev pub CanShow : View → Type 0
  CanShow next = (new : Contents) × ShowsAt tables new (with_pending position (len new.pending)) next

  as_it_was : CanShow view
  as_it_was = (old, subst (λ (n : ℕ). ShowsAt tables old (with_pending position n) view) shows.counted shows)

  if_shown : (test : Bool) (some other : View) → CanShow some → CanShow other → CanShow (if test then some else other)
  if_shown true some other one two = one
  if_shown false some other one two = two

  module _ (table : TableDef) (inside : Contains tables table) (key : List ℕ) (mine : Place) (mine_stands : MayStandAt tables table.name key mine) where
    abbrev base : Place
    base = middle view table.name key

    abbrev next : View
    next = settled table key base mine view

    abbrev spot : ℕ
    spot = (numbered tables table inside).0

    abbrev new : Contents
    new = record old {
      rows = with_body old.rows (pos spot, key) (option_map row_bytes mine);
      pending = with_body old.pending (pos spot, key) (option_map change_spelling (direct_net table base mine));
    }

    next_sound : IsSoundOf tables next.pending next.tables
    next_sound = settled_sound tables law view table key base mine inside shows.rows.sound (shows.rows.sound.before_state table.name key) mine_stands

    -- the rows before what is pending are what they were
    middle_same : (n k : List ℕ) → middle next n k ≡ middle view n k
    middle_same n k =
        middle_put tables law view table key base mine inside shows.rows.sound (shows.rows.sound.before_state table.name key) mine_stands n k
        ∙ by_spot n k table.name key _
        (λ e same_n same_k. simp e (ap₂ (λ (m j : List ℕ). middle view m j) (sym same_n) (sym same_k)))
        (λ e. simp e refl)

    settled_shown : CanShow next
    settled_shown = (
      new,
      record {
        rows = record {
          rows = record {
            rows = next_sound.after_state;
            stored = λ n t k found.
                put_there tables law spot table key (numbered tables table inside).1 old.rows (option_map row_bytes mine) n t k found
                ∙ ap (λ (b : Option (List ℕ)). cond (same_spot (t.name, k) (table.name, key)) (option_map row_bytes mine) b) (shows.rows.rows.stored n t k found)
                ∙ through (option_map row_bytes) (same_spot (t.name, k) (table.name, key)) mine (view.tables t.name k);
          };
          pends = record {
            stored = λ n t k found.
                put_there tables law spot table key (numbered tables table inside).1 old.pending (option_map change_spelling (direct_net table base mine)) n t k found
                ∙ ap (λ (b : Option (List ℕ)). cond (same_spot (t.name, k) (table.name, key)) (option_map change_spelling (direct_net table base mine)) b) (shows.rows.pends.stored n t k found)
                ∙ through (option_map change_spelling) (same_spot (t.name, k) (table.name, key)) (direct_net table base mine) (view.pending t.name k);
            fits = settled_fits tables law view table key base mine inside shows.rows.sound (shows.rows.sound.before_state table.name key) mine_stands shows.rows.pends.fits;
          };
          sound = next_sound;
        };
        values = λ name. shows.values name ∙ value_same tables position (len new.pending) name;
        alone = record {
          rows = λ place elsewhere. put_elsewhere tables law spot table key (numbered tables table inside).1 old.rows (option_map row_bytes mine) place elsewhere ∙ shows.alone.rows place elsewhere;
          pending = λ place elsewhere.
              put_elsewhere tables law spot table key (numbered tables table inside).1 old.pending (option_map change_spelling (direct_net table base mine)) place elsewhere ∙ shows.alone.pending place elsewhere;
          log = shows.alone.log;
          names = shows.alone.names;
        };
        under_way = record {
          fits = shows.under_way.fits;
          normal = shows.under_way.normal;
          size = shows.under_way.size;
          sound = subst (λ (s : State). IsSoundOf tables (changes_at (flown position.flight)) s) (λ i n k. sym (middle_same n k) i) shows.under_way.sound;
        };
        counted = refl;
        numbered = shows.numbered;
      },
    )

    edited_shown : CanShow (edited table key mine view)
    edited_shown = if_shown (same_place (view.tables table.name key) mine) view next as_it_was settled_shown

-- ---- what an edit leaves may stand

set_wide : (fields : List Field) (row : List Value) → length (set_columns fields row) ≡ length row
unfolding set_columns
set_wide [] row = refl
set_wide (field ∷ fields) [] = refl
set_wide (field ∷ fields) (v ∷ row) = ap suc (set_wide fields row)

set_keeps : (marks : List Bool) (fields : List Field) (row : List Value) → keeps_key marks fields ≡ true → marked marks (set_columns fields row) ≡ marked marks row
unfolding set_columns keeps_key
set_keeps [] fields row k = refl
set_keeps (m ∷ marks) [] row k = refl
set_keeps (m ∷ marks) (field ∷ fields) [] k = refl
set_keeps (true ∷ marks) (Undefined ∷ fields) (v ∷ row) k = ap (λ (r : List Value). v ∷ r) (set_keeps marks fields row k)
set_keeps (true ∷ marks) (Is u ∷ fields) (v ∷ row) k = absurd cc
set_keeps (false ∷ marks) (Undefined ∷ fields) (v ∷ row) k = set_keeps marks fields row k
set_keeps (false ∷ marks) (Is u ∷ fields) (v ∷ row) k = set_keeps marks fields row k

module _ (tables : List TableDef) (law : Catalogs tables) (set_fits : SetColumnsFit) (table : TableDef) (key : List ℕ) (inside : Contains tables table) where
  row_of : (row : List Value) → MayStandAt tables table.name key (Some row) → IsRowOf table key row
  row_of row (other, among, named, is) =
      subst (λ (t : TableDef). IsRowOf t key row) (one_table law.one tables other table law.are among inside named) is

  updated_row : (fields : List Field) (row : List Value) → length fields ≡ length table.key_marks → AllByRecursion Fits fields → keeps_key table.key_marks fields ≡ true → IsRowOf table key row → IsRowOf table key (set_columns fields row)
  updated_row fields row wide ranged keeps is =
      let kept : marked table.key_marks (set_columns fields row) ≡ marked table.key_marks row = set_keeps table.key_marks fields row keeps in
      record {
        fits = (set_wide fields row ∙ is.fits.0, set_fits fields row ranged is.fits.1);
        set = ap (list_all is_set) kept ∙ is.set;
        keyed = is.keyed ∙ ap key_bytes (sym kept);
      }

  left_stands : (asked : Asked) (stood mine : Place) → IsWantedAt table key (wanted_of asked) → MayStandAt tables table.name key stood → after_edit (wanted_of asked) stood ≡ Ok mine → MayStandAt tables table.name key mine
  left_stands (AskInsert row) None mine is stands e =
      subst (λ (p : Place). MayStandAt tables table.name key p) (let f : Some row ≡ mine = cc in f) (table, inside, refl, is)
  left_stands (AskInsert row) (Some other) mine is stands e = absurd cc
  left_stands (AskUpdate of fields) None mine is stands e = absurd cc
  left_stands (AskUpdate of fields) (Some row) mine is stands e =
      subst (λ (p : Place). MayStandAt tables table.name key p) (let f : Some (set_columns fields row) ≡ mine = cc in f) (table, inside, refl, updated_row fields row is.0 is.1 is.2 (row_of row stands))
  left_stands (AskDelete of) None mine is stands e = absurd cc
  left_stands (AskDelete of) (Some row) mine is stands e = subst (λ (p : Place). MayStandAt tables table.name key p) (let f : None ≡ mine = cc in f) tt

-- no fault of a place is one of the store
place_fault : (asked : Asked) (stood : Place) (fault : EditFault) → after_edit (wanted_of asked) stood ≡ Err fault → IsOfStore fault → ⊥
place_fault (AskInsert row) None fault e store = absurd cc
place_fault (AskInsert row) (Some other) fault e (inl store) = cc
place_fault (AskInsert row) (Some other) fault e (inr store) = cc
place_fault (AskUpdate key fields) None fault e (inl store) = cc
place_fault (AskUpdate key fields) None fault e (inr store) = cc
place_fault (AskUpdate key fields) (Some row) fault e store = absurd cc
place_fault (AskDelete key) None fault e (inl store) = cc
place_fault (AskDelete key) None fault e (inr store) = cc
place_fault (AskDelete key) (Some row) fault e store = absurd cc

no_table : IsOfStore NoTable → ⊥
no_table (inl e) = cc
no_table (inr e) = cc

no_width : IsOfStore Width → ⊥
no_width (inl e) = cc
no_width (inr e) = cc

no_key : IsOfStore NullKey → ⊥
no_key (inl e) = cc
no_key (inr e) = cc

no_column : IsOfStore KeyColumn → ⊥
no_column (inl e) = cc
no_column (inr e) = cc

-- what an edit asks is in range
abbrev pub AreInRange : Asked → Type 0
AreInRange (AskInsert row) = AllByRecursion (λ (v : Value). Fits (Is v)) row
AreInRange (AskUpdate key fields) = AllByRecursion Fits fields
AreInRange (AskDelete key) = Unit {0}

wanted_there : (table : TableDef) (asked : Asked) → AreInRange asked → has_widths table asked ≡ true → has_set_key table asked ≡ true → leaves_key table asked ≡ true
    → IsWantedAt table (key_bytes (asked_key table asked)) (wanted_of asked)
wanted_there table (AskInsert row) ranged wide set leaves = record { fits = ((Decides-eqb (length row) (length table.key_marks)).0 wide, ranged); set = set; keyed = refl }
wanted_there table (AskUpdate key fields) ranged wide set leaves =
    let both = both_true (nat_eq (length key) (key_width table.key_marks)) (nat_eq (length fields) (length table.key_marks)) wide in
    ((Decides-eqb (length fields) (length table.key_marks)).0 both.1, ranged, leaves)
wanted_there table (AskDelete key) ranged wide set leaves = tt

-- ---- how an edit can end

module _ (tables : List TableDef) (law : Catalogs tables) (set_fits : SetColumnsFit) (old : Contents) (position : Position) (view : View) (shows : ShowsAt tables old position view) where
  -- some store shows what it leaves, or its fault says something of it
  abbrev pub CanEnd : Result View EditFault → Type 0
  CanEnd (Ok next) = CanShow tables law old position view shows next
  CanEnd (Err fault) = IsOfStore fault → ⊥

  if_ends : (test : Bool) (some other : Result View EditFault) → (test ≡ true → CanEnd some) → (test ≡ false → CanEnd other) → CanEnd (if test then some else other)
  if_ends true some other one two = one refl
  if_ends false some other one two = two refl

  module _ (table : TableDef) (inside : Contains tables table) where
    left_ends : (key : List ℕ) (asked : Asked) → IsWantedAt table key (wanted_of asked) → (left : Result Place EditFault) → after_edit (wanted_of asked) (view.tables table.name key) ≡ left → CanEnd (left_in table key view left)
    left_ends key asked is (Ok mine) e =
        edited_shown tables law old position view shows table inside key mine
        (left_stands tables law set_fits table key inside asked (view.tables table.name key) mine is (shows.rows.sound.after_state table.name key) e)
    left_ends key asked is (Err fault) e = place_fault asked (view.tables table.name key) fault e

    at_ends : (key : List ℕ) (asked : Asked) → IsWantedAt table key (wanted_of asked) → CanEnd (edit_at table key (wanted_of asked) view)
    at_ends key asked is = left_ends key asked is (after_edit (wanted_of asked) (view.tables table.name key)) refl

    abbrev in_place : Asked → Result View EditFault
    in_place asked = edit_at table (key_bytes (asked_key table asked)) (wanted_of asked) view

    abbrev with_kept_key : Asked → Result View EditFault
    with_kept_key asked = if not (leaves_key table asked) then Err KeyColumn else in_place asked

    abbrev with_set_key : Asked → Result View EditFault
    with_set_key asked = if not (has_set_key table asked) then Err NullKey else with_kept_key asked

    table_ends : (asked : Asked) → AreInRange asked → CanEnd (edit_table table asked view)
    table_ends asked ranged =
        if_ends (not (has_widths table asked)) (Err Width) (with_set_key asked) (λ t. no_width)
        (λ w. if_ends (not (has_set_key table asked)) (Err NullKey) (with_kept_key asked) (λ t. no_key)
        (λ s. if_ends (not (leaves_key table asked)) (Err KeyColumn) (in_place asked) (λ t. no_column)
        (λ k. at_ends (key_bytes (asked_key table asked)) asked
        (wanted_there table asked ranged (not_not (has_widths table asked) w) (not_not (has_set_key table asked) s) (not_not (leaves_key table asked) k)))))

  found_ends : (asked : Asked) (found : Option TableDef) → ((table : TableDef) → found ≡ Some table → Contains tables table) → AreInRange asked → CanEnd (edit_found found asked view)
  found_ends asked None inside ranged = no_table
  found_ends asked (Some table) inside ranged = table_ends table (inside table refl) asked ranged

  pub edit_ends : (name : List ℕ) (asked : Asked) → AreInRange asked → CanEnd (edit tables name asked view)
  edit_ends name asked ranged = found_ends asked (named name tables) (λ table is. named_inside name tables table is) ranged

  -- so it has a result
  ends_so : (asked : Edit) (result : Result View EditFault) → edit tables (table_of_edit asked) (asked_of_edit asked) view ≡ result → CanEnd result
      → (told : Result (Unit {0}) EditFault) × (after : Member) × IsOfEdit told × IsEditedTo asked told (record { tables = tables; position = position; view = view }) after
  ends_so asked (Ok next) is (new, shown) =
      (Ok tt, record { tables = tables; position = with_pending position (len new.pending); view = next }, tt, (len new.pending, next, new, refl, is, shown))
  ends_so asked (Err fault) is not = (Err fault, record { tables = tables; position = position; view = view }, not, (refl, inr is))

asked_ranged : (asked : Edit) → IsInRange asked → AreInRange (asked_of_edit asked)
asked_ranged (edits.Insert table row) ranged = ranged
asked_ranged (edits.Update table key fields) ranged = ranged
asked_ranged (edits.Delete table key) ranged = tt

pub edit_has_result : ((tables : List TableDef) → AreTables tables → Catalogs tables) → SetColumnsFit → EditHasResult
edit_has_result law set_fits asked before are ranged shown =
    ends_so before.tables (law before.tables are) set_fits shown.contents before.position before.view shown.shows asked (edit before.tables (table_of_edit asked) (asked_of_edit asked) before.view) refl
    (edit_ends before.tables (law before.tables are) set_fits shown.contents before.position before.view shown.shows (table_of_edit asked) (asked_of_edit asked) (asked_ranged asked ranged))
