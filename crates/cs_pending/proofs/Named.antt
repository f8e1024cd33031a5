-- Edits by the name of a table: from what was tested to what the edit is.
use Rattle.std.proofs.Common.{◌≡◌, ◌≢◌, ◌<◌, ◌⊎◌, ℕ, suc, true, false, ◌&&◌, List, [], ◌∷◌, length, Option, Some, None, Result, Ok, Err, refl, sym, ap, subst, ◌∙◌, arith, inl, inr, get_or, nat_eq}
use Rattle.std.specs.Prelude.{All, Contains, IfErr, OnOk, slice_get}
use Rattle.std.specs.List.{AllByRecursion, HoldsAt, list_all}
use Rattle.std.specs.Str.{bytes_eq}
use Rattle.std.proofs.lemmas.Bool.Decides.{Decides-eqb}
use Rattle.std.proofs.lemmas.List.Elements.{All-contains, All-from_recursion, recursion_from_All}
use Rattle.std.proofs.lemmas.Option.{slice_get-get_or}
use Rattle.cs_value.specs.Facts.{by_test}
use Rattle.cs_value.specs.Catalog.{AreTables, is_set, key_of, marked}
use Rattle.cs_value.specs.Laws.{OnePlaceOfName}
use Rattle.cs_value.specs.declared.catalog.TableDef.{TableDef}
use Rattle.cs_value.specs.declared.value.Value.{Value}
use Rattle.cs_normal.specs.Changes.{key_bytes}
use Rattle.cs_store.specs.Contents.{Contents}
use Rattle.cs_apply.specs.NormalTasks.{one_table}
use Rattle.cs_apply.specs.Spots.{both_true, name_is, name_other, name_refl}
use Rattle.cs_pending.specs.Edits.{Asked, asked_key, edit, edit_at, edit_found, edit_table, IsOfStore, has_set_key, has_widths, leaves_key, named, wanted_of}
use Rattle.cs_pending.specs.Seeking.{IsRefused}
use Rattle.cs_pending.specs.Settling.{IsStaged}
use Rattle.cs_pending.specs.View.{View}
use Rattle.cs_pending.specs.declared.settling.Settling.{Settling}
use Rattle.cs_pending.specs.declared.fault.EditFault.{EditFault}
use Rattle.cs_pending.specs.declared.fault.EditFault.TheVariants.{Device, NoTable, Width, NullKey, KeyColumn}

-- ---- the table with a name

pub first_named : (name : List ℕ) (tables : List TableDef) (table : TableDef) → named name tables ≡ Some table → Contains tables table × (table.name ≡ name)
unfolding named
first_named name [] table e = absurd cc
first_named name (first ∷ tables) table e =
    by_test (bytes_eq first.name name) _
    (λ t. let is : first ≡ table = (let f = rw t at e in cc) in ((0, omega arith, is), ap (λ (u : TableDef). u.name) (sym is) ∙ name_is first.name name t))
    (λ t. let behind = first_named name tables table (rw t at e) in ((suc behind.0.0, omega (arith, behind.0.1), behind.0.2), behind.1))

none_named : (name : List ℕ) (tables : List TableDef) → named name tables ≡ None → AllByRecursion (λ (table : TableDef). bytes_eq table.name name ≡ false) tables
unfolding named
none_named name [] e = tt
none_named name (first ∷ tables) e =
    by_test (bytes_eq first.name name) _ (λ t. absurd (let f = rw t at e in cc)) (λ t. (t, none_named name tables (rw t at e)))

pub is_named : OnePlaceOfName → (tables : List TableDef) → AreTables tables → (name : List ℕ) (table : TableDef) → Contains tables table → table.name ≡ name → named name tables ≡ Some table
is_named one tables are name table inside is =
    let split : (o : Option TableDef) → named name tables ≡ o → named name tables ≡ Some table = elim [
      | None ↦ λ e. (let other = All-contains (λ (t : TableDef). bytes_eq t.name name ≡ false) tables table (All-from_recursion (λ (t : TableDef). bytes_eq t.name name ≡ false) tables (none_named name tables e)) inside in
          let same : bytes_eq table.name name ≡ true = ap (λ (n : List ℕ). bytes_eq n name) is ∙ name_refl name in
          absurd (let no = sym same ∙ other in cc))
      | Some found ↦ λ e. (let first = first_named name tables found e in e ∙ ap Some (one_table one tables found table are first.0 inside (first.1 ∙ sym is)))
    ] in
    split (named name tables) refl

never_named : (name : List ℕ) (tables : List TableDef) → AllByRecursion (λ (table : TableDef). table.name ≢ name) tables → named name tables ≡ None
unfolding named
never_named name [] all = refl
never_named name (first ∷ tables) all = let e = name_other first.name name all.0 in simp e (never_named name tables all.1)

pub not_named : (name : List ℕ) (tables : List TableDef) → All (λ (table : TableDef). table.name ≢ name) tables → named name tables ≡ None
not_named name tables all = never_named name tables (recursion_from_All (λ (table : TableDef). table.name ≢ name) tables all)

-- the table that was found at a place
pub found_there : (tables shown : List TableDef) (name : List ℕ) (place : ℕ) (table : TableDef) → shown ≡ tables → place < length tables → table ≡ get_or shown place table → HoldsAt (λ t. t.name ≡ name) tables place
    → (slice_get tables place ≡ Some table) × Contains tables table × (table.name ≡ name)
found_there tables shown name place table same within is holds =
    let at : get_or tables place table ≡ table = ap (λ (ts : List TableDef). get_or ts place table) (sym same) ∙ sym is in
    (slice_get-get_or tables place table within ∙ ap Some at, (place, within, at), subst (λ (t : TableDef). t.name ≡ name) at (holds table))

-- ---- what the edit is

pub no_table : (tables : List TableDef) (name : List ℕ) (asked : Asked) → named name tables ≡ None → (view : View) → edit tables name asked view ≡ Err NoTable
no_table tables name asked e view = ap (λ (o : Option TableDef). edit_found o asked view) e

pub in_table : (tables : List TableDef) (name : List ℕ) (asked : Asked) (table : TableDef) → named name tables ≡ Some table → (view : View)
    → edit tables name asked view ≡ edit_table table asked view
in_table tables name asked table here view = ap (λ (o : Option TableDef). edit_found o asked view) here

module _ (table : TableDef) (asked : Asked) where
  pub no_width : has_widths table asked ≡ false → (view : View) → edit_table table asked view ≡ Err Width
  no_width w view = simp w refl

  pub no_set_key : has_widths table asked ≡ true → has_set_key table asked ≡ false → (view : View) → edit_table table asked view ≡ Err NullKey
  no_set_key w s view = simp (w, s) refl

  pub no_kept_key : has_widths table asked ≡ true → has_set_key table asked ≡ true → leaves_key table asked ≡ false → (view : View)
      → edit_table table asked view ≡ Err KeyColumn
  no_kept_key w s k view = simp (w, s, k) refl

  pub at_place : has_widths table asked ≡ true → has_set_key table asked ≡ true → leaves_key table asked ≡ true → (view : View)
      → edit_table table asked view ≡ edit_at table (key_bytes (asked_key table asked)) (wanted_of asked) view
  at_place w s k view = simp (w, s, k) refl

-- what is refused in a table is refused by its name
pub refused_there : (tables : List TableDef) (name : List ℕ) (asked : Asked) (table : TableDef) → named name tables ≡ Some table → (view : View) (fault : EditFault)
    → IsRefused table asked fault → IsOfStore fault ⊎ (edit tables name asked view ≡ Err fault)
refused_there tables name asked table here view fault (inl memory) = inl (inl memory)
refused_there tables name asked table here view fault (inr (other, refused)) = inr (in_table tables name asked table here view ∙ refused view)

pub refused_apart : (table : TableDef) (asked : Asked) (fault : EditFault) → IsRefused table asked fault → fault ≡ Device → ⊥
refused_apart table asked fault (inl memory) device = let no = sym memory ∙ device in cc
refused_apart table asked fault (inr (other, refused)) device = other device

-- ---- what was tested

pub same_count : (m n : ℕ) → m ≡ n → nat_eq m n ≡ true
same_count m n e = (Decides-eqb m n).1 e

pub other_count : (m n : ℕ) → (m ≡ n → ⊥) → nat_eq m n ≡ false
other_count m n apart = by_test (nat_eq m n) _ (λ t. absurd (apart ((Decides-eqb m n).0 t))) (λ t. t)

-- a row's key
pub key_set : (table : TableDef) (row key : List Value) → key_of table row ≡ Some key → (list_all is_set (marked table.key_marks row) ≡ true) × (marked table.key_marks row ≡ key)
key_set table row key e =
    by_test (nat_eq (length table.key_marks) (length row) && list_all is_set (marked table.key_marks row)) _
    (λ t. ((both_true _ _ t).1, (let f = rw t at e in cc)))
    (λ t. absurd (let f = rw t at e in cc))

pub key_null : (table : TableDef) (row : List Value) → length row ≡ length table.key_marks → key_of table row ≡ None → list_all is_set (marked table.key_marks row) ≡ false
key_null table row wide e =
    let w : nat_eq (length table.key_marks) (length row) ≡ true = same_count (length table.key_marks) (length row) (sym wide) in
    by_test (list_all is_set (marked table.key_marks row)) _
    (λ t. absurd (let f = rw (w, t) at e in cc))
    (λ t. t)

-- what is told of one step is told of one that is the same
pub told_as : {T : Type 0} (some other : Result View EditFault) (result : Result T EditFault) → other ≡ some
    → IfErr result (λ fault. IsOfStore fault ⊎ (some ≡ Err fault)) → IfErr result (λ fault. IsOfStore fault ⊎ (other ≡ Err fault))
told_as some other (Ok count) same told = tt
told_as some other (Err fault) same (inl of) = inl of
told_as some other (Err fault) same (inr is) = inr (same ∙ is)

pub staged_as : {T : Type 0} (tables : List TableDef) (contents : Contents) (begun : ℕ) (some other : View → Result View EditFault) (view : View) (settling : Settling) (result : Result T EditFault)
    → other view ≡ some view → OnOk result (IsStaged tables contents begun some view settling) → OnOk result (IsStaged tables contents begun other view settling)
staged_as tables contents begun some other view settling (Ok t) same staged = (staged.0, same ∙ staged.1, staged.2)
staged_as tables contents begun some other view settling (Err fault) same staged = tt

pub both_counts : (a b m n : ℕ) → a ≡ b → m ≡ n → (nat_eq a b && nat_eq m n) ≡ true
both_counts a b m n e f =
    let first = same_count a b e in
    let second = same_count m n f in
    simp (first, second) refl

pub not_both_counts : (a b m n : ℕ) → (a ≡ b → ⊥) ⊎ ((a ≡ b) × (m ≡ n → ⊥)) → (nat_eq a b && nat_eq m n) ≡ false
not_both_counts a b m n (inl apart) = let first = other_count a b apart in simp first refl
not_both_counts a b m n (inr (e, apart)) =
    let first = same_count a b e in
    let second = other_count m n apart in
    simp (first, second) refl
