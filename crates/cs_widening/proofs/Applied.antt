-- A changeset that was made before its table got more columns.
use Rattle.std.proofs.Common.{◌≡◌, ◌≢◌, ℕ, zero, suc, ◌-◌, ◌≤◌, Bool, true, false, List, [], ◌∷◌, ◌++◌, length, map, replicate, Option, Some, None, refl, sym, ap, subst, ◌∙◌, arith}
use Rattle.std.specs.Option.{option_map}
use Rattle.std.specs.List.{AllByRecursion, Contains, list_any}
use Rattle.std.specs.List.Sorted.{IsStrictlySortedBy}
use Rattle.std.specs.Str.{bytes_eq}
use Rattle.std.proofs.lemmas.List.{length-map}
use Rattle.std.proofs.lemmas.List.Elements.{All-map}
use Rattle.std.proofs.lemmas.Map.Made.{keys_of-map_values}
use Rattle.cs_value.specs.Catalog.{AreTables, max_columns}
use Rattle.cs_value.specs.Key.{HasKey}
use Rattle.cs_value.specs.declared.catalog.TableDef.{TableDef}
use Rattle.cs_value.specs.declared.value.Value.{Value}
use Rattle.cs_value.specs.declared.value.Field.{Field}
use Rattle.cs_value.specs.declared.value.Field.TheVariants.{Undefined, Is}
use Rattle.cs_record.specs.Spelling.{Fits}
use Rattle.cs_change.specs.Action.{Action, Inserts, Deletes, Updates, action, action_any}
use Rattle.cs_change.specs.declared.change.Change.{Change}
use Rattle.cs_change.specs.declared.change.Change.TheVariants.{Insert, Delete, Update}
use Rattle.cs_change.specs.Columns.{is_blank}
use Rattle.cs_change.specs.Net.{net}
use Rattle.cs_change.specs.Normal.{IsNormal, NormalUpdate, no_column, key_column, unmodified, modified}
use Rattle.cs_change.specs.Spelling.{AreUpdateColumns, FitsChange, FitsHeader, FitsRow, flag_byte, is_nonzero}
use Rattle.cs_order.specs.Order.{by_bytes}
use Rattle.cs_normal.specs.keyed.Changes.{AreNormal, Changes, IsEntry}
use Rattle.cs_normal.specs.Normal.{IsNormalChangeset, IsNormalTable, change_of}
use Rattle.cs_value.specs.Facts.{by_test}
use Rattle.cs_normal.specs.State.{State, AppliedIsNet, IsNetChange, IsStateOf, NetIsApplied, OneKeyStands}
use Rattle.cs_normal.specs.declared.normal.TableChanges.{TableChanges}
use Rattle.cs_widening.specs.Laws.{AppliedWidens}
use Rattle.cs_widening.specs.Widening.{up_to, widened, widened_action, widened_change, widened_changes, widened_entry, widened_fields, widened_in, widened_of_table, widened_place, widened_row, widened_table, widened_tables}
use Rattle.cs_widening.proofs.OnePlace.{fields_as, more_undefined, net_widens, row_fits_wide}
use Rattle.cs_widening.proofs.States.{change_else, change_where, fits_wide, longer, name_of_changes, no_longer, spelled_more, stays_where, was_there, wider_where, widened_are_tables, widened_is_state}

-- ---- updates

blank_columns : (n : ℕ) → NormalUpdate (replicate n false) [] (replicate n Undefined) (replicate n Undefined)
blank_columns zero = no_column
blank_columns (suc n) = unmodified (blank_columns n)

update_more : (n : ℕ) {marks : List Bool} {key : List Value} {old new : List Field} → NormalUpdate marks key old new
    → NormalUpdate (marks ++ replicate n false) key (more_undefined n old) (more_undefined n new)
update_more n no_column = blank_columns n
update_more n (key_column k l) = key_column k (update_more n l)
update_more n (unmodified l) = unmodified (update_more n l)
update_more n (modified u v differ l) = modified u v differ (update_more n l)

abbrev AreLevel : List Bool → List Field → List Field → Type 0
AreLevel marks old new = (length old ≡ length marks) × (length new ≡ length marks)

one_longer : (marks : List Bool) (old new : List Field) (m : Bool) (o n : Field) → AreLevel marks old new → AreLevel (m ∷ marks) (o ∷ old) (n ∷ new)
one_longer marks old new m o n (a, b) = (ap suc a, ap suc b)

level : {marks : List Bool} {key : List Value} {old new : List Field} → NormalUpdate marks key old new → AreLevel marks old new
level no_column = (refl, refl)
level (key_column k l) = one_longer _ _ _ true (Is k) Undefined (level l)
level (unmodified l) = one_longer _ _ _ false Undefined Undefined (level l)
level (modified u v differ l) = one_longer _ _ _ false (Is u) (Is v) (level l)

none_defined : (n : ℕ) → is_blank (replicate n Undefined) ≡ true
unfolding is_blank
none_defined zero = refl
none_defined (suc n) = none_defined n

blank_more : (n : ℕ) (new : List Field) → is_blank (more_undefined n new) ≡ is_blank new
unfolding is_blank
blank_more n [] = none_defined n
blank_more n (Undefined ∷ new) = blank_more n new
blank_more n (Is v ∷ new) = refl

update_wide : (width : ℕ) (marks : List Bool) (key : List Value) (old new : List Field) → NormalUpdate marks key old new → is_blank new ≡ false
    → NormalUpdate (up_to width false marks) key (widened_fields width old) (widened_fields width new) × (is_blank (widened_fields width new) ≡ false)
update_wide width marks key old new update some =
    let n = width - length marks in
    let long = level update in
    rw (fields_as width marks old long.0, fields_as width marks new long.1) (update_more n update, blank_more n new ∙ some)

-- ---- changes

normal_wide : (width : ℕ) (marks : List Bool) (key : List Value) (change : Action) → IsNormal marks key change → IsNormal (up_to width false marks) key (widened_action width change)
normal_wide width marks key (Inserts new) normal = row_fits_wide width marks key new normal
normal_wide width marks key (Deletes old) normal = row_fits_wide width marks key old normal
normal_wide width marks key (Updates old new) normal = update_wide width marks key old new normal.0 normal.1

action_wide : (width : ℕ) (change : Change) → action (widened_change width change) ≡ widened_action width (action change)
action_wide width (Insert flag new) = refl
action_wide width (Delete flag old) = refl
action_wide width (Update flag old new) = refl

actions_wide : (width : ℕ) (change : Option Change) → action_any (option_map (widened_change width) change) ≡ option_map (widened_action width) (action_any change)
actions_wide width None = refl
actions_wide width (Some change) = ap (λ (a : Action). Some a) (action_wide width change)

columns_blank : (n : ℕ) → AreUpdateColumns (replicate n false) (replicate n Undefined) (replicate n Undefined)
columns_blank zero = tt
columns_blank (suc n) = (tt, columns_blank n)

columns_more : (n : ℕ) (marks : List Bool) (old new : List Field) → AreUpdateColumns marks old new → AreUpdateColumns (marks ++ replicate n false) (more_undefined n old) (more_undefined n new)
columns_more n [] [] [] are = columns_blank n
columns_more n (m ∷ marks) (o ∷ old) (f ∷ new) are = (are.0, columns_more n marks old new are.1)
columns_more n [] [] (f ∷ new) are = absurd are
columns_more n [] (o ∷ old) new are = absurd are
columns_more n (m ∷ marks) [] new are = absurd are
columns_more n (m ∷ marks) (o ∷ old) [] are = absurd are

columns_level : (marks : List Bool) (old new : List Field) → AreUpdateColumns marks old new → AreLevel marks old new
columns_level [] [] [] are = (refl, refl)
columns_level (m ∷ marks) (o ∷ old) (f ∷ new) are = one_longer marks old new m o f (columns_level marks old new are.1)
columns_level [] [] (f ∷ new) are = absurd are
columns_level [] (o ∷ old) new are = absurd are
columns_level (m ∷ marks) [] new are = absurd are
columns_level (m ∷ marks) (o ∷ old) [] are = absurd are

fields_more : (n : ℕ) (fields : List Field) → AllByRecursion Fits fields → AllByRecursion Fits (more_undefined n fields)
fields_more zero [] fits = tt
fields_more (suc n) [] fits = (tt, fields_more n [] tt)
fields_more n (f ∷ fields) fits = (fits.0, fields_more n fields fits.1)

row_wide : (width : ℕ) (marks : List Bool) (row : List Value) → FitsRow (length marks) row → FitsRow (length (up_to width false marks)) (widened_row width row)
row_wide width marks row fits =
    let has : HasKey (up_to width false marks) _ (widened_row width row) = row_fits_wide width marks _ row (record { wide = fits.0; keyed = refl }) in
    (has.wide, spelled_more row (width - length row) fits.1)

change_fits_wide : (width : ℕ) (marks : List Bool) (change : Change) → FitsChange marks change → FitsChange (up_to width false marks) (widened_change width change)
change_fits_wide width marks (Insert flag new) fits = row_wide width marks new fits
change_fits_wide width marks (Delete flag old) fits = row_wide width marks old fits
change_fits_wide width marks (Update flag old new) fits =
    let n = width - length marks in
    let long = columns_level marks old new fits.0 in
    rw (fields_as width marks old long.0, fields_as width marks new long.1)
    (columns_more n marks old new fits.0, fields_more n old fits.1, fields_more n new fits.2)

-- ---- tables in normal form

entry_wide : (width : ℕ) (marks : List Bool) (entry : List ℕ × Change) → IsEntry marks entry → IsEntry (up_to width false marks) (widened_entry width entry)
entry_wide width marks entry is = record {
  key = is.key;
  set = is.set;
  bytes = is.bytes;
  normal = subst (λ (a : Action). IsNormal (up_to width false marks) is.key a) (sym (action_wide width entry.1)) (normal_wide width marks is.key (action entry.1) is.normal);
  fits = change_fits_wide width marks entry.1 is.fits;
}

changes_wide : (width : ℕ) (marks : List Bool) (changes : Changes) → AreNormal marks changes → AreNormal (up_to width false marks) (widened_in width changes)
changes_wide width marks changes are = (
  subst (λ (keys : List (List ℕ)). IsStrictlySortedBy by_bytes keys) (sym (keys_of-map_values (widened_change width) changes)) are.0,
  All-map (IsEntry (up_to width false marks)) (widened_entry width) changes (λ k d within. entry_wide width marks _ (are.1 k d within)),
)

some_wide : (width : ℕ) (changes : Changes) → changes ≢ [] → widened_in width changes ≢ []
some_wide width [] some = λ e. some refl
some_wide width (first ∷ changes) some = λ e. cc

bytes_more : (n : ℕ) (marks : List Bool) → list_any is_nonzero (map flag_byte marks) ≡ true → list_any is_nonzero (map flag_byte (marks ++ replicate n false)) ≡ true
bytes_more n [] some = cc
bytes_more n (true ∷ marks) some = refl
bytes_more n (false ∷ marks) some = bytes_more n marks some

header_wide : (width : ℕ) (marks : List Bool) (name : List ℕ) → width ≤ max_columns → FitsHeader (map flag_byte marks) name → FitsHeader (map flag_byte (up_to width false marks)) name
header_wide width marks name within fits = record {
  some = omega (arith, fits.some, length-map marks flag_byte, length-map (up_to width false marks) flag_byte, longer width false marks);
  limit = omega (arith, length-map (up_to width false marks) flag_byte, no_longer width max_columns false marks (omega (arith, fits.limit, length-map marks flag_byte)) within);
  key = bytes_more (width - length marks) marks fits.key;
  text = fits.text;
  ended = fits.ended;
}

table_wide : (name : List ℕ) (width : ℕ) (table : TableChanges) → width ≤ max_columns → IsNormalTable table → IsNormalTable (widened_of_table name width table)
table_wide name width table within normal =
    by_test (bytes_eq table.name name) _
    (λ e. subst IsNormalTable (sym (is e)) (record {
      changes = changes_wide width table.marks table.changes normal.changes;
      some = some_wide width table.changes normal.some;
      header = header_wide width table.marks table.name within normal.header;
    }))
    (λ e. simp e normal)
  where
    is : bytes_eq table.name name ≡ true → widened_of_table name width table ≡ record { name = table.name; marks = up_to width false table.marks; changes = widened_in width table.changes }
    is e = simp e refl

apart_wide : (name : List ℕ) (width : ℕ) (own : List ℕ) (tables : List TableChanges) → AllByRecursion (λ other. own ≢ other.name) tables → AllByRecursion (λ other. own ≢ other.name) (widened_changes name width tables)
apart_wide name width own [] apart = tt
apart_wide name width own (table ∷ tables) apart = (λ e. apart.0 (e ∙ name_of_changes name width table), apart_wide name width own tables apart.1)

changeset_wide : (name : List ℕ) (width : ℕ) (tables : List TableChanges) → width ≤ max_columns → IsNormalChangeset tables → IsNormalChangeset (widened_changes name width tables)
changeset_wide name width [] within normal = tt
changeset_wide name width (table ∷ tables) within normal = (
  table_wide name width table within normal.0,
  subst (λ (own : List ℕ). AllByRecursion (λ other. own ≢ other.name) (widened_changes name width tables)) (sym (name_of_changes name width table)) (apart_wide name width table.name tables normal.1),
  changeset_wide name width tables within normal.2,
)

-- ---- it is the net change of the states with the new columns

module _ (one_key : OneKeyStands) (tables : List TableDef) (name : List ℕ) (width : ℕ) (changes : List TableChanges) (before end : State)
    (are : AreTables tables) (starts : IsStateOf tables before) (ends : IsStateOf tables end) (is : IsNetChange tables changes before end) where
  -- at the places of a table
  abbrev NetAt : TableDef → List ℕ → Type 0
  NetAt table key =
      action_any (change_of table.name key (widened_changes name width changes))
      ≡ net table.key_marks (widened name width before table.name key) (widened name width end table.name key)

  at_place : (table : TableDef) (key : List ℕ) → Contains tables table
      → option_map (widened_action width) (action_any (change_of table.name key changes))
      ≡ net (up_to width false table.key_marks) (widened_place width (before table.name key)) (widened_place width (end table.name key))
  at_place table key one =
      let fits = one_key tables table key (before table.name key) (end table.name key) (end table.name key) are one (starts table.name key) (ends table.name key) (ends table.name key) in
      ap (option_map (widened_action width)) (is.1 table key one) ∙ sym (net_widens width table.key_marks fits.0 (before table.name key) (end table.name key) fits.1 fits.2)

  net_there : (table : TableDef) (key : List ℕ) → Contains tables table → NetAt (widened_table name width table) key
  net_there table key one =
      by_test (bytes_eq table.name name) _
      (λ e. subst (λ (t : TableDef). NetAt t key) (sym (wider_where name width table e))
      (rw (change_where name width table.name key changes e) (simp e (actions_wide width (change_of table.name key changes) ∙ at_place table key one))))
      (λ e. subst (λ (t : TableDef). NetAt t key) (sym (stays_where name width table e))
      (rw (change_else name width table.name key changes e) (simp e (is.1 table key one))))

  net_wide : IsNetChange (widened_tables name width tables) (widened_changes name width changes) (widened name width before) (widened name width end)
  net_wide = (
    fits_wide name width tables changes is.0,
    λ table key one.
        let was = was_there name width tables table one in
        subst (λ (t : TableDef). NetAt t key) was.2 (net_there was.0 key was.1),
  )

pub applied_widens : AppliedIsNet → NetIsApplied → OneKeyStands → AppliedWidens
applied_widens applied_net net_applied one_key tables name width changes before end are can starts normal applied =
    let net = applied_net tables changes before end are normal starts applied in (
      changeset_wide name width changes can.4 normal,
      net_applied (widened_tables name width tables) (widened_changes name width changes) (widened name width before) (widened name width end)
          (widened_are_tables tables name width are can) (widened_is_state tables name width before starts) (widened_is_state tables name width end net.0)
          (net_wide one_key tables name width changes before end are starts net.0 net.1),
    )
