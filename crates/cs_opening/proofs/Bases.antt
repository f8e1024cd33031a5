-- What a change says that stood at its place: a row of the table with the same key, or none. A change that leads has a key.
use Rattle.std.proofs.Common.{◌≡◌, ◌∙◌, ℕ, Bool, true, false, List, [], ◌∷◌, Some, None, arith, length, refl, ap, subst, sym}
use Rattle.std.specs.Prelude.{Contains}
use Rattle.std.specs.List.{list_all}
use Rattle.cs_value.specs.Catalog.{is_set, marked}
use Rattle.cs_value.specs.Facts.{same_row-refl}
use Rattle.cs_value.specs.Key.{FitsPlace, Place}
use Rattle.cs_value.specs.declared.catalog.TableDef.{TableDef}
use Rattle.cs_value.specs.declared.value.Field.{Field}
use Rattle.cs_value.specs.declared.value.Field.TheVariants.{Undefined, Is}
use Rattle.cs_value.specs.declared.value.Value.{Value}
use Rattle.cs_change.specs.Action.{Action, action}
use Rattle.cs_change.specs.Columns.{set_columns}
use Rattle.cs_change.specs.Net.{net}
use Rattle.cs_change.specs.Normal.{IsNormal, IsNormalIfAny}
use Rattle.cs_change.specs.Spelling.{AreUpdateColumns, FitsChange}
use Rattle.cs_change.specs.declared.change.Change.{Change}
use Rattle.cs_change.specs.declared.change.Change.TheVariants.{Insert, Delete, Update}
use Rattle.cs_normal.specs.keyed.Changes.{key_bytes}
use Rattle.cs_normal.specs.keyed.NormalForm.{change_bytes, change_key, has_key, marked_fields}
use Rattle.cs_normal.specs.Laws.{SetColumnsFit}
use Rattle.cs_normal.specs.State.{IsRowOf, MayStandAt}
use Rattle.cs_pending.specs.NormalTasks.{normal_key, one_table}
use Rattle.cs_pending.specs.Settled.{Catalogs}
use Rattle.cs_pending.specs.View.{undo}

-- ---- the row before an update

same_width : (old : List Field) (row : List Value) → length (set_columns old row) ≡ length row
unfolding set_columns
same_width [] row = refl
same_width (f ∷ old) [] = refl
same_width (f ∷ old) (v ∷ row) = let more = same_width old row in omega (arith, more)

-- its key is the one that the old record has
same_key : (marks : List Bool) (old new : List Field) (row : List Value) → AreUpdateColumns marks old new → length row ≡ length marks → marked marks (set_columns old row) ≡ marked_fields marks old
unfolding set_columns marked_fields
same_key [] old new row columns wide = refl
same_key (m ∷ marks) [] [] row columns wide = absurd columns
same_key (m ∷ marks) [] (n ∷ new) row columns wide = absurd columns
same_key (m ∷ marks) (o ∷ old) [] row columns wide = absurd columns
same_key (m ∷ marks) (o ∷ old) (n ∷ new) [] columns wide = absurd (omega (arith, wide))
same_key (true ∷ marks) (Undefined ∷ old) (n ∷ new) (v ∷ row) columns wide = absurd columns.0
same_key (true ∷ marks) (Is u ∷ old) (n ∷ new) (v ∷ row) columns wide =
    ap (λ (key : List Value). u ∷ key) (same_key marks old new row columns.1 (omega (arith, wide)))
same_key (false ∷ marks) (o ∷ old) (n ∷ new) (v ∷ row) columns wide = same_key marks old new row columns.1 (omega (arith, wide))

-- what may stand at a place of one table: a row of it at its own key, or none
abbrev pub StandsIn : TableDef → List ℕ → Place → Type 0
StandsIn table key None = Unit {0}
StandsIn table key (Some row) = IsRowOf table key row

pub base_stands : SetColumnsFit → (table : TableDef) (key : List ℕ) (change : Change) (place : Place) → FitsChange table.key_marks change → has_key table.key_marks change ≡ true → key ≡ change_bytes table.key_marks change
    → StandsIn table key place → StandsIn table key (undo (Some (action change)) place)
unfolding undo
base_stands law table key (Insert flag new) place fits set keyed stands = tt
base_stands law table key (Delete flag old) place fits set keyed stands = record { fits = fits; set = set; keyed = keyed }
base_stands law table key (Update flag old new) None fits set keyed stands = tt
base_stands law table key (Update flag old new) (Some row) fits set keyed stands =
    let same : marked table.key_marks (set_columns old row) ≡ marked_fields table.key_marks old = same_key table.key_marks old new row fits.0 stands.fits.0 in
    record {
      fits = (same_width old row ∙ stands.fits.0, law old row fits.1 stands.fits.1);
      set = ap (list_all is_set) same ∙ set;
      keyed = keyed ∙ ap key_bytes (sym same);
    }

-- ---- in a catalog

pub may_stand : (tables : List TableDef) (table : TableDef) (key : List ℕ) (place : Place) → Contains tables table → StandsIn table key place → MayStandAt tables table.name key place
may_stand tables table key None inside stands = tt
may_stand tables table key (Some row) inside stands = (table, inside, refl, stands)

pub stands_in : (tables : List TableDef) → Catalogs tables → (table : TableDef) (key : List ℕ) (place : Place) → Contains tables table → MayStandAt tables table.name key place → StandsIn table key place
stands_in tables law table key None inside stands = tt
stands_in tables law table key (Some row) inside (other, among, named, is) =
    subst (λ (t : TableDef). IsRowOf t key row) (one_table law.one tables other table law.are among inside named) is

-- ---- nothing leads to where it starts

pub no_net : (marks : List Bool) (place : Place) → net marks place place ≡ None
unfolding net
no_net marks None = refl
no_net marks (Some row) = simp (same_row-refl row) refl

-- ---- the key of a change that leads

module _ (tables : List TableDef) (law : Catalogs tables) (table : TableDef) (inside : Contains tables table) (key : List ℕ) where
  key_of_row : (k row : List Value) → IsRowOf table key row → FitsPlace table.key_marks k (Some row) → (list_all is_set k ≡ true) × (key ≡ key_bytes k)
  key_of_row k row is fits =
      (subst (λ (j : List Value). list_all is_set j ≡ true) fits.keyed is.set, is.keyed ∙ ap key_bytes fits.keyed)

  key_of_net : (k : List Value) (before after : Place) (change : Action) → StandsIn table key before → StandsIn table key after → FitsPlace table.key_marks k before → FitsPlace table.key_marks k after
      → net table.key_marks before after ≡ Some change → (list_all is_set k ≡ true) × (key ≡ key_bytes k)
  unfolding net
  key_of_net k None None change sb sa fb fa e = absurd (let no = e in cc)
  key_of_net k None (Some row) change sb sa fb fa e = key_of_row k row sa fa
  key_of_net k (Some row) after change sb sa fb fa e = key_of_row k row sb fb

  pub net_keyed : (before after : Place) (change : Change) → MayStandAt tables table.name key before → MayStandAt tables table.name key after → net table.key_marks before after ≡ Some (action change)
      → (has_key table.key_marks change ≡ true) × (key ≡ change_bytes table.key_marks change)
  net_keyed before after change sb sa e =
      let one = law.key tables table key before after after law.are inside sb sa sa in
      let told = key_of_net one.0 before after (action change) (stands_in tables law table key before inside sb) (stands_in tables law table key after inside sa) one.1 one.2 e in
      let normal : IsNormal table.key_marks one.0 (action change) = subst (IsNormalIfAny table.key_marks one.0) e (law.net_takes table.key_marks one.0 before after one.1 one.2).0 in
      let same : change_key table.key_marks change ≡ one.0 = (normal_key table.key_marks one.0 change normal).0 in
      (ap (list_all is_set) same ∙ told.0, told.1 ∙ ap key_bytes (sym same))
