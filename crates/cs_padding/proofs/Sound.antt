-- What is pending stays sound where a table gets more columns.
use Rattle.std.proofs.Common.{◌≡◌, ◌<◌, ◌-◌, ◌∙◌, ◌++◌, ℕ, zero, suc, Bool, false, true, List, [], ◌∷◌, get_or, length, replicate, Option, Some, None, option_map, refl, ap, subst, sym, arith}
use Rattle.std.specs.Prelude.{Contains, IfSome}
use Rattle.std.specs.List.{AllByRecursion}
use Rattle.std.specs.Str.{bytes_eq}
use Rattle.std.proofs.lemmas.List.{length-append, length-map, length-replicate, get_or-map, get_or_default}
use Rattle.cs_value.specs.Catalog.{AreTables}
use Rattle.cs_value.specs.Facts.{by_test}
use Rattle.cs_value.specs.Key.{Place}
use Rattle.cs_value.specs.declared.catalog.TableDef.{TableDef}
use Rattle.cs_value.specs.declared.value.Field.{Field}
use Rattle.cs_value.specs.declared.value.Field.TheVariants.{Undefined, Is}
use Rattle.cs_value.specs.declared.value.Value.{Value}
use Rattle.cs_value.specs.declared.value.Value.TheVariants.{Null}
use Rattle.cs_record.specs.Spelling.{Fits}
use Rattle.cs_change.specs.Action.{Action, action_any}
use Rattle.cs_change.specs.Net.{net}
use Rattle.cs_change.specs.Spelling.{AreUpdateColumns, FitsChange, FitsRow}
use Rattle.cs_change.specs.declared.change.Change.{Change}
use Rattle.cs_change.specs.declared.change.Change.TheVariants.{Insert, Delete, Update}
use Rattle.cs_normal.specs.State.{MayStandAt, OneKeyStands, State}
use Rattle.cs_store.specs.Laws.{WritesPending}
use Rattle.cs_store.specs.StateLaws.{EditsLeadToState}
use Rattle.cs_pending.specs.Nets.{undo_net}
use Rattle.cs_pending.specs.Shows.{IsSoundOf}
use Rattle.cs_pending.specs.Spots.{all_both, name_is}
use Rattle.cs_pending.specs.View.{Changed, before, undo}
use Rattle.cs_widening.specs.Laws.{NetWidens, WidenedFits, WidenedIsState}
use Rattle.cs_widening.specs.Widening.{CanWiden, up_to, widened, widened_action, widened_change, widened_fields, widened_place, widened_row, widened_table, widened_tables}
use Rattle.cs_padding.specs.Laws.{ShowsWidens, SoundWidens}
use Rattle.cs_padding.specs.Pending.{widened_pending}
use Rattle.cs_padding.proofs.Changes.{level}

-- ---- tables

wider : (name : List ℕ) (width : ℕ) (table : TableDef) → bytes_eq table.name name ≡ true → widened_table name width table ≡ record table { key_marks = up_to width false table.key_marks }
wider name width table e = simp e refl

same : (name : List ℕ) (width : ℕ) (table : TableDef) → bytes_eq table.name name ≡ false → widened_table name width table ≡ table
same name width table e = simp e refl

-- a table of those is what became of one
was_there : (name : List ℕ) (width : ℕ) (tables : List TableDef) (table : TableDef) → Contains (widened_tables name width tables) table → (old : TableDef) × Contains tables old × (widened_table name width old ≡ table)
was_there name width tables table (place, within, is) =
    let inside : place < length tables = omega (arith, within, length-map tables (widened_table name width)) in
    let old = get_or tables place table in
    (old, (place, inside, get_or_default tables place old table inside), sym (get_or-map (widened_table name width) tables place table table inside) ∙ is)

-- ---- changes

action_wide : (width : ℕ) (change : Option Change) → action_any (option_map (widened_change width) change) ≡ option_map (widened_action width) (action_any change)
action_wide width None = refl
action_wide width (Some (Insert flag new)) = refl
action_wide width (Some (Delete flag old)) = refl
action_wide width (Some (Update flag old new)) = refl

blank : (n : ℕ) → AreUpdateColumns (replicate n false) (replicate n Undefined) (replicate n Undefined)
blank zero = tt
blank (suc n) = (tt, blank n)

columns_more : (n : ℕ) (marks : List Bool) (old new : List Field) → AreUpdateColumns marks old new → AreUpdateColumns (marks ++ replicate n false) (old ++ replicate n Undefined) (new ++ replicate n Undefined)
columns_more n [] [] [] are = blank n
columns_more n (m ∷ marks) (o ∷ old) (f ∷ new) are = (are.0, columns_more n marks old new are.1)
columns_more n [] [] (f ∷ new) are = absurd are
columns_more n [] (o ∷ old) new are = absurd are
columns_more n (m ∷ marks) [] new are = absurd are
columns_more n (m ∷ marks) (o ∷ old) [] are = absurd are

all_blank : (n : ℕ) → AllByRecursion Fits (replicate n Undefined)
all_blank zero = tt
all_blank (suc n) = (tt, all_blank n)

all_null : (n : ℕ) → AllByRecursion (λ (v : Value). Fits (Is v)) (replicate n Null)
all_null zero = tt
all_null (suc n) = (tt, all_null n)

row_fits : (width : ℕ) (marks : List Bool) (row : List Value) → FitsRow (length marks) row → FitsRow (length (up_to width false marks)) (widened_row width row)
row_fits width marks row fits = (
  (let one = length-append row (replicate (width - length row) Null) in
      let n = length-replicate (width - length row) Null in
      let other = length-append marks (replicate (width - length marks) false) in
      let m = length-replicate (width - length marks) false in
      omega (arith, one, n, other, m, fits.0)),
  all_both (λ (v : Value). Fits (Is v)) row (replicate (width - length row) Null) fits.1 (all_null (width - length row)),
)

fields_as : (width : ℕ) (marks : List Bool) (fields : List Field) → length fields ≡ length marks → fields ++ replicate (width - length marks) Undefined ≡ widened_fields width fields
fields_as width marks fields long = ap (λ (n : ℕ). fields ++ replicate (width - n) Undefined) (sym long)

fits_wide : (width : ℕ) (marks : List Bool) (change : Change) → FitsChange marks change → FitsChange (up_to width false marks) (widened_change width change)
fits_wide width marks (Insert flag new) fits = row_fits width marks new fits
fits_wide width marks (Delete flag old) fits = row_fits width marks old fits
fits_wide width marks (Update flag old new) fits =
    let long = level marks old new fits.0 in (
      subst (λ (fields : List Field). AreUpdateColumns (up_to width false marks) (widened_fields width old) fields) (fields_as width marks new long.1)
          (subst (λ (fields : List Field). AreUpdateColumns (up_to width false marks) fields (new ++ replicate (width - length marks) Undefined)) (fields_as width marks old long.0)
          (columns_more (width - length marks) marks old new fits.0)),
      all_both Fits old (replicate (width - length old) Undefined) fits.1 (all_blank (width - length old)),
      all_both Fits new (replicate (width - length new) Undefined) fits.2 (all_blank (width - length new)),
    )

any_fits_wide : (width : ℕ) (marks : List Bool) (change : Option Change) → IfSome change (FitsChange marks) → IfSome (option_map (widened_change width) change) (FitsChange (up_to width false marks))
any_fits_wide width marks None fits = tt
any_fits_wide width marks (Some change) fits = fits_wide width marks change fits

-- ---- what is pending

module _ (one_key : OneKeyStands) (net_widens : NetWidens) (fit : WidenedFits) (states : WidenedIsState) (tables : List TableDef) (name : List ℕ) (width : ℕ) (changed : Changed) (after : State)
    (are : AreTables tables) (can : CanWiden tables name width) (sound : IsSoundOf tables changed after) where
  -- the change is the net change there, and so is the one with the new columns
  net_there : (table : TableDef) (key : List ℕ) → Contains tables table
      → (action_any (option_map (widened_change width) (changed table.name key))
      ≡ net (up_to width false table.key_marks) (widened_place width (before changed after table.name key)) (widened_place width (after table.name key)))
      × (undo (action_any (option_map (widened_change width) (changed table.name key))) (widened_place width (after table.name key))
      ≡ widened_place width (before changed after table.name key))
  net_there table key inside =
      let marks = table.key_marks in
      let b = before changed after table.name key in
      let x = after table.name key in
      let fits = one_key tables table key b x x are inside (sound.before_state table.name key) (sound.after_state table.name key) (sound.after_state table.name key) in
      let is : action_any (option_map (widened_change width) (changed table.name key)) ≡ net (up_to width false marks) (widened_place width b) (widened_place width x) =
      action_wide width (changed table.name key) ∙ ap (option_map (widened_action width)) (sound.net_of table key inside) ∙ sym (net_widens width marks fits.0 b x fits.1 fits.2) in (
        is,
        ap (λ (a : Option Action). undo a (widened_place width x)) is
            ∙ undo_net (up_to width false marks) fits.0 (widened_place width b) (widened_place width x) (fit width marks fits.0 b fits.1) (fit width marks fits.0 x fits.2),
      )

  -- the rows before what is pending have the new columns
  before_wide : (table key : List ℕ) → before (widened_pending name width changed) (widened name width after) table key ≡ widened name width (before changed after) table key
  before_wide table key =
      by_test (bytes_eq table name) _
      (λ e. simp e (
      let is : can.0.name ≡ table = can.2 ∙ sym (name_is table name e) in
      subst (λ (n : List ℕ). undo (action_any (option_map (widened_change width) (changed n key))) (widened_place width (after n key)) ≡ widened_place width (before changed after n key)) is
      (net_there can.0 key can.1).1))
      (λ e. simp e refl)

  abbrev NetAt : TableDef → List ℕ → Type 0
  NetAt table key =
      action_any (widened_pending name width changed table.name key)
      ≡ net table.key_marks (widened name width (before changed after) table.name key) (widened name width after table.name key)

  net_at : (table : TableDef) (key : List ℕ) → Contains tables table → NetAt (widened_table name width table) key
  net_at table key inside =
      by_test (bytes_eq table.name name) _
      (λ e. subst (λ (t : TableDef). NetAt t key) (sym (wider name width table e)) (simp e (net_there table key inside).0))
      (λ e. subst (λ (t : TableDef). NetAt t key) (sym (same name width table e)) (simp e (sound.net_of table key inside)))

  sound_wide : IsSoundOf (widened_tables name width tables) (widened_pending name width changed) (widened name width after)
  sound_wide = record {
    before_state = λ table key.
        subst (λ (p : Place). MayStandAt (widened_tables name width tables) table key p) (sym (before_wide table key))
        (states tables name width (before changed after) sound.before_state table key);
    after_state = states tables name width after sound.after_state;
    net_of = λ table key inside.
        let was = was_there name width tables table inside in
        subst (λ (p : Place). action_any (widened_pending name width changed table.name key) ≡ net table.key_marks p (widened name width after table.name key)) (sym (before_wide table.name key))
        (subst (λ (t : TableDef). NetAt t key) was.2 (net_at was.0 key was.1));
  }

pub sound_widens : OneKeyStands → NetWidens → WidenedFits → WidenedIsState → SoundWidens
sound_widens one_key net_widens fit states tables name width changed after are can sound = (
  sound_wide one_key net_widens fit states tables name width changed after are can sound,
  before_wide one_key net_widens fit states tables name width changed after are can sound,
)

-- ---- a store that shows it

pub pending_fits : (tables : List TableDef) (name : List ℕ) (width : ℕ) (pending : Changed) → ((table : TableDef) (key : List ℕ) → Contains tables table → IfSome (pending table.name key) (FitsChange table.key_marks))
    → (table : TableDef) (key : List ℕ) → Contains (widened_tables name width tables) table → IfSome (widened_pending name width pending table.name key) (FitsChange table.key_marks)
pending_fits tables name width pending fits table key inside =
    let was = was_there name width tables table inside in
    subst (λ (t : TableDef). IfSome (widened_pending name width pending t.name key) (FitsChange t.key_marks)) was.2
    (by_test (bytes_eq was.0.name name) _
    (λ e. subst (λ (t : TableDef). IfSome (widened_pending name width pending t.name key) (FitsChange t.key_marks)) (sym (wider name width was.0 e))
    (simp e (any_fits_wide width was.0.key_marks (pending was.0.name key) (fits was.0 key was.1))))
    (λ e. subst (λ (t : TableDef). IfSome (widened_pending name width pending t.name key) (FitsChange t.key_marks)) (sym (same name width was.0 e))
    (simp e (fits was.0 key was.1))))

pub shows_widens : SoundWidens → WritesPending → EditsLeadToState → WidenedIsState → ShowsWidens
shows_widens sound writes leads states tables name width batch contents view are can shows rows pending = record {
  rows = leads (widened_tables name width tables) batch contents (widened name width view.tables) (states tables name width view.tables shows.rows.rows) rows;
  pends = record {
    stored = λ number table key at. writes batch contents number key ∙ pending.written number table key at;
    fits = pending_fits tables name width view.pending shows.pends.fits;
  };
  sound = (sound tables name width view.pending view.tables are can shows.sound).0;
}
