-- Records column by column, and the changes that they are of.
use Rattle.std.proofs.Common.{◌≡◌, ℕ, suc, ◌+◌, Bool, List, [], ◌∷◌, ◌++◌, length, refl, sym, ap, ◌∙◌, append_assoc, arith, inl, inr, subst, length-append}
use Rattle.std.specs.Prelude.{◌⊎◌}
use Rattle.std.specs.List.{flat_map, AllByRecursion}
use Rattle.cs_value.specs.declared.value.Value.{Value}
use Rattle.cs_value.specs.declared.value.Field.{Field}
use Rattle.cs_value.specs.declared.value.Field.TheVariants.{Undefined, Is}
use Rattle.cs_record.specs.Spelling.{field, record_of, row_bytes}
use Rattle.cs_record.specs.Reading.{FaultBehind}
use Rattle.cs_change.specs.declared.change.Change.{Change}
use Rattle.cs_change.specs.declared.change.Change.TheVariants.{Insert, Delete, Update}
use Rattle.cs_change.specs.Spelling.{flag_byte, change_spelling, changes_spelling, changeset_spelling, FitsChange, FitsRow}
use Rattle.cs_changeset.specs.Facts.{flag_small, right_columns}
use Rattle.cs_changeset.specs.Records.{Rule, IsRight, AreRight, row_rules, old_rules}
use Rattle.cs_changeset.specs.Reading.{IsChangeFault, IsGroupsFault, IsUpdateFault}
use Rattle.cs_changeset.specs.declared.fault.Fault.{Fault}
use Rattle.cs_feed.specs.Steps.{ChangesAhead, ChangesWrong, ColumnsAhead, ColumnsWrong, RowAhead, RowWrong, NewWrong, OldAhead, OldWrong}

-- ---- one column more

pub column_ahead : (rule : Rule) (rules : List Rule) (next : Field) (Next Next' : List Field → List ℕ → Type 0) → IsRight rule next
    → ((fields : List Field) (rest : List ℕ) → Next' fields rest → Next (next ∷ fields) rest)
    → (rest : List ℕ) → ColumnsAhead rules Next' rest → ColumnsAhead (rule ∷ rules) Next (field next ++ rest)
column_ahead rule rules next Next Next' right on rest (fields, more, are, e, ahead) =
    (next ∷ fields, more, (right, are), ap (λ (t : List ℕ). field next ++ t) e ∙ sym (append_assoc (field next) (record_of fields) more), on fields more ahead)

pub column_wrong : (rule : Rule) (rules : List Rule) (next : Field) (Next Next' : List Field → Fault → ℕ → List ℕ → Type 0) → IsRight rule next
    → ((fields : List Field) (fault : Fault) (offset : ℕ) (rest : List ℕ) → Next' fields fault offset rest → Next (next ∷ fields) fault offset rest)
    → (fault : Fault) (offset : ℕ) (rest : List ℕ) → ColumnsWrong rules Next' fault offset rest → ColumnsWrong (rule ∷ rules) Next fault (length (field next) + offset) (field next ++ rest)
column_wrong rule rules next Next Next' right on fault offset rest (inl told) =
    inl (inr (record {
      before = next;
      rest = rest;
      inner = offset;
      whole = right;
      parts = refl;
      wrong = told;
      there = refl;
    }))
column_wrong rule rules next Next Next' right on fault offset rest (inr told) =
    inr (record {
      before = next ∷ told.before;
      rest = told.rest;
      inner = told.inner;
      whole = (right, told.whole);
      parts = ap (λ (t : List ℕ). field next ++ t) told.parts ∙ sym (append_assoc (field next) (record_of told.before) told.rest);
      wrong = on told.before fault told.inner told.rest told.wrong;
      there = omega (arith, told.there, length-append (field next) (record_of told.before));
    })

-- ---- no column more

pub none_ahead : (Next : List Field → List ℕ → Type 0) (rest : List ℕ) → Next [] rest → ColumnsAhead [] Next rest
none_ahead Next rest ahead = ([], rest, tt, refl, ahead)

pub none_wrong : (Next : List Field → Fault → ℕ → List ℕ → Type 0) (fault : Fault) (offset : ℕ) (rest : List ℕ) → Next [] fault offset rest → ColumnsWrong [] Next fault offset rest
none_wrong Next fault offset rest told =
    inr (record {
      before = [];
      rest = rest;
      inner = offset;
      whole = tt;
      parts = refl;
      wrong = told;
      there = omega arith;
    })

-- ---- one thing more

pub behind_more : {X : Type 0} (sp : X → List ℕ) (IsWhole : X → Type 0) (IsWrong : Fault → ℕ → List ℕ → Type 0) (x : X) (fault : Fault) (offset : ℕ) (rest : List ℕ) → IsWhole x
    → FaultBehind (flat_map sp) (AllByRecursion IsWhole) (λ _. IsWrong) fault offset rest
    → FaultBehind (flat_map sp) (AllByRecursion IsWhole) (λ _. IsWrong) fault (length (sp x) + offset) (sp x ++ rest)
behind_more sp IsWhole IsWrong x fault offset rest whole told = record {
  before = x ∷ told.before;
  rest = told.rest;
  inner = told.inner;
  whole = (whole, told.whole);
  parts = ap (λ (t : List ℕ). sp x ++ t) told.parts ∙ sym (append_assoc (sp x) (flat_map sp told.before) told.rest);
  wrong = told.wrong;
  there = omega (arith, told.there, length-append (sp x) (flat_map sp told.before));
}

pub at_once : {X : Type 0} (sp : X → List ℕ) (IsWhole : X → Type 0) (IsWrong : Fault → ℕ → List ℕ → Type 0) (fault : Fault) (offset : ℕ) (rest : List ℕ) → IsWrong fault offset rest
    → FaultBehind (flat_map sp) (AllByRecursion IsWhole) (λ _. IsWrong) fault offset rest
at_once sp IsWhole IsWrong fault offset rest told = record {
  before = [];
  rest = rest;
  inner = offset;
  whole = tt;
  parts = refl;
  wrong = told;
  there = omega arith;
}

pub change_ahead : (keys : List Bool) (change : Change) (rest : List ℕ) → FitsChange keys change → ChangesAhead keys rest → ChangesAhead keys (change_spelling change ++ rest)
change_ahead keys change rest fits (changes, groups, are, groups_are, e) =
    (change ∷ changes, groups, (fits, are), groups_are, ap (λ (t : List ℕ). change_spelling change ++ t) e ∙ sym (append_assoc (change_spelling change) (changes_spelling changes) (changeset_spelling groups)))

pub change_wrong : (keys : List Bool) (change : Change) (fault : Fault) (offset : ℕ) (rest : List ℕ) → FitsChange keys change → ChangesWrong keys fault offset rest → ChangesWrong keys fault (length (change_spelling change) + offset) (change_spelling change ++ rest)
change_wrong keys change fault offset rest fits (inl told) = inl (behind_more change_spelling (FitsChange keys) (IsChangeFault keys) change fault offset rest fits told)
change_wrong keys change fault offset rest fits (inr told) = inr (behind_more change_spelling (FitsChange keys) IsGroupsFault change fault offset rest fits told)

-- what is wrong with the change at the front
pub wrong_change : (keys : List Bool) (fault : Fault) (offset : ℕ) (rest : List ℕ) → IsChangeFault keys fault offset rest → ChangesWrong keys fault offset rest
wrong_change keys fault offset rest told = inl (at_once change_spelling (FitsChange keys) (IsChangeFault keys) fault offset rest told)

-- ---- the row of an INSERT or a DELETE

pub row_of : (keys : List Bool) (fields : List Field) → AreRight (row_rules keys) fields → (row : List Value) × FitsRow (length keys) row × (record_of fields ≡ row_bytes row)
row_of [] [] right = ([], (refl, tt), refl)
row_of (k ∷ keys) (Is v ∷ fields) right =
    let rest = row_of keys fields right.1 in
    (v ∷ rest.0, (ap suc rest.1.0, (right.0.0, rest.1.1)), ap (λ (t : List ℕ). field (Is v) ++ t) rest.2)
row_of (k ∷ keys) (Undefined ∷ fields) right = let e = right.0.1 in cc
row_of [] (f ∷ fields) right = absurd right
row_of (k ∷ keys) [] right = absurd right

-- an INSERT or a DELETE
abbrev pub HasRow : ℕ → Type 0
HasRow operation = (operation ≡ 18) ⊎ (operation ≡ 9)

row_change : (operation : ℕ) → HasRow operation → (flag : Bool) (row : List Value) → (change : Change) × (change_spelling change ≡ operation ∷ flag_byte flag ∷ row_bytes row) × ((keys : List Bool) → FitsRow (length keys) row → FitsChange keys change)
row_change operation (inl is) flag row = (Insert flag row, ap (λ (n : ℕ). n ∷ flag_byte flag ∷ row_bytes row) (sym is), λ keys fits. fits)
row_change operation (inr is) flag row = (Delete flag row, ap (λ (n : ℕ). n ∷ flag_byte flag ∷ row_bytes row) (sym is), λ keys fits. fits)

pub row_ahead : (keys : List Bool) (operation : ℕ) → HasRow operation → (flag : Bool) (rest : List ℕ) → RowAhead keys keys rest → ChangesAhead keys (operation ∷ flag_byte flag ∷ rest)
row_ahead keys operation is flag rest (fields, more, right, e, ahead) =
    let row = row_of keys fields right in
    let made = row_change operation is flag row.0 in
    let same : change_spelling made.0 ++ more ≡ operation ∷ flag_byte flag ∷ rest =
    ap (λ (t : List ℕ). t ++ more) made.1 ∙ ap (λ (t : List ℕ). operation ∷ flag_byte flag ∷ (t ++ more)) (sym row.2) ∙ ap (λ (t : List ℕ). operation ∷ flag_byte flag ∷ t) (sym e) in
    subst (ChangesAhead keys) same (change_ahead keys made.0 more (made.2 keys row.1) ahead)

operation_row : (operation : ℕ) → HasRow operation → (operation ≡ 18) ⊎ (operation ≡ 9) ⊎ (operation ≡ 23)
operation_row operation (inl is) = inl is
operation_row operation (inr is) = inr (inl is)

pub row_wrong : (keys : List Bool) (operation : ℕ) → HasRow operation → (flag : Bool) (fault : Fault) (offset : ℕ) (rest : List ℕ) → RowWrong keys keys fault offset rest → ChangesWrong keys fault (2 + offset) (operation ∷ flag_byte flag ∷ rest)
row_wrong keys operation is flag fault offset rest (inl told) =
    wrong_change keys fault (2 + offset) (operation ∷ flag_byte flag ∷ rest) (inl (operation_row operation is, inr (flag_small flag, (offset, inl (is, told), refl))))
row_wrong keys operation is flag fault offset rest (inr told) =
    let row = row_of keys told.before told.whole in
    let made = row_change operation is flag row.0 in
    let spelled : change_spelling made.0 ≡ operation ∷ flag_byte flag ∷ record_of told.before = made.1 ∙ ap (λ (t : List ℕ). operation ∷ flag_byte flag ∷ t) (sym row.2) in
    let same : change_spelling made.0 ++ told.rest ≡ operation ∷ flag_byte flag ∷ rest =
    ap (λ (t : List ℕ). t ++ told.rest) spelled ∙ ap (λ (t : List ℕ). operation ∷ flag_byte flag ∷ t) (sym told.parts) in
    let far : length (change_spelling made.0) + told.inner ≡ 2 + offset = omega (arith, ap length spelled, told.there) in
    subst (λ (n : ℕ). ChangesWrong keys fault n (operation ∷ flag_byte flag ∷ rest)) far (subst (ChangesWrong keys fault (length (change_spelling made.0) + told.inner)) same (change_wrong keys made.0 fault told.inner told.rest (made.2 keys row.1) told.wrong))

-- ---- the records of an UPDATE

update_same : (flag : Bool) (old new : List Field) (rest middle more : List ℕ) → rest ≡ record_of old ++ middle → middle ≡ record_of new ++ more → change_spelling (Update flag old new) ++ more ≡ 23 ∷ flag_byte flag ∷ rest
update_same flag old new rest middle more e f =
    ap (λ (t : List ℕ). 23 ∷ flag_byte flag ∷ t) (append_assoc (record_of old) (record_of new) more ∙ ap (λ (t : List ℕ). record_of old ++ t) (sym f) ∙ sym e)

pub old_ahead : (keys : List Bool) (flag : Bool) (rest : List ℕ) → OldAhead keys keys [] rest → ChangesAhead keys (23 ∷ flag_byte flag ∷ rest)
old_ahead keys flag rest (old, middle, right, e, (new, more, right', e', ahead)) =
    subst (ChangesAhead keys) (update_same flag old new rest middle more e e') (change_ahead keys (Update flag old new) more (right_columns keys old new right right') ahead)

-- what is wrong with the records is wrong with the UPDATE
update_fault : (keys : List Bool) (flag : Bool) (fault : Fault) (offset : ℕ) (rest : List ℕ) → IsUpdateFault keys fault offset rest → ChangesWrong keys fault (2 + offset) (23 ∷ flag_byte flag ∷ rest)
update_fault keys flag fault offset rest told =
    wrong_change keys fault (2 + offset) (23 ∷ flag_byte flag ∷ rest) (inl (inr (inr refl), inr (flag_small flag, (offset, inr (refl, told), refl))))

-- the old record is right, and what is wrong stands behind it
old_right : (keys : List Bool) (flag : Bool) (fault : Fault) (offset : ℕ) (rest : List ℕ) (old : List Field) (middle : List ℕ) (inner : ℕ) → AreRight (old_rules keys) old → rest ≡ record_of old ++ middle → offset ≡ length (record_of old) + inner
    → NewWrong keys keys old fault inner middle → ChangesWrong keys fault (2 + offset) (23 ∷ flag_byte flag ∷ rest)
old_right keys flag fault offset rest old middle inner right e there (inl told) =
    update_fault keys flag fault offset rest (inr (record {
      before = old;
      rest = middle;
      inner = inner;
      whole = right;
      parts = e;
      wrong = told;
      there = there;
    }))
old_right keys flag fault offset rest old middle inner right e there (inr told) =
    let update = Update flag old told.before in
    let same : change_spelling update ++ told.rest ≡ 23 ∷ flag_byte flag ∷ rest = update_same flag old told.before rest middle told.rest e told.parts in
    let far : length (change_spelling update) + told.inner ≡ 2 + offset = omega (arith, length-append (record_of old) (record_of told.before), told.there, there) in
    subst (λ (n : ℕ). ChangesWrong keys fault n (23 ∷ flag_byte flag ∷ rest)) far (subst (ChangesWrong keys fault (length (change_spelling update) + told.inner)) same (change_wrong keys update fault told.inner told.rest (right_columns keys old told.before right told.whole) told.wrong))

pub old_wrong : (keys : List Bool) (flag : Bool) (fault : Fault) (offset : ℕ) (rest : List ℕ) → OldWrong keys keys [] fault offset rest → ChangesWrong keys fault (2 + offset) (23 ∷ flag_byte flag ∷ rest)
old_wrong keys flag fault offset rest (inl told) = update_fault keys flag fault offset rest (inl told)
old_wrong keys flag fault offset rest (inr told) =
    old_right keys flag fault offset rest told.before told.rest told.inner told.whole told.parts told.there told.wrong
