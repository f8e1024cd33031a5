-- What a change of the entry leaves may stand at its place.
use Rattle.std.proofs.Common.{◌≡◌, ℕ, Bool, true, List, Some, None, refl, sym, subst, ap, ◌∙◌}
use Rattle.std.specs.Prelude.{Contains}
use Rattle.std.specs.List.{list_all}
use Rattle.cs_value.specs.Facts.{some_same}
use Rattle.cs_value.specs.Catalog.{AreTables, is_set, marked}
use Rattle.cs_value.specs.Key.{Place, FitsPlace}
use Rattle.cs_value.specs.Laws.{OnePlaceOfName}
use Rattle.cs_value.specs.declared.catalog.TableDef.{TableDef}
use Rattle.cs_value.specs.declared.value.Value.{Value}
use Rattle.cs_change.specs.Action.{action}
use Rattle.cs_change.specs.Normal.{IsNormal}
use Rattle.cs_change.specs.Spelling.{FitsChange}
use Rattle.cs_change.specs.declared.change.Change.{Change}
use Rattle.cs_change.specs.declared.change.Change.TheVariants.{Insert, Delete, Update}
use Rattle.cs_normal.specs.keyed.Changes.{IsEntry, IsSpelled, key_bytes}
use Rattle.cs_normal.specs.keyed.Laws.{BytesTellKeys}
use Rattle.cs_normal.specs.keyed.NormalForm.{change_bytes, has_key, marked_fields}
use Rattle.cs_normal.specs.keyed.Updates.{keeps_key, keeps_width, marked_spelled, old_spelled}
use Rattle.cs_normal.specs.Laws.{SetColumnsFit}
use Rattle.cs_normal.specs.State.{IsRowOf, MayStandAt}
use Rattle.cs_conflict.specs.Conflict.{replaced}
use Rattle.cs_apply.specs.NormalTasks.{bytes_stay, normal_key, one_table}

key_spelled : (marks : List Bool) (key : List Value) (change : Change) → IsNormal marks key (action change) → FitsChange marks change → IsSpelled key
key_spelled marks key (Insert flag new) n fits = subst (λ (k : List Value). IsSpelled k) n.keyed (marked_spelled marks new fits.1)
key_spelled marks key (Delete flag old) n fits = subst (λ (k : List Value). IsSpelled k) n.keyed (marked_spelled marks old fits.1)
key_spelled marks key (Update flag old new) n fits = subst (λ (k : List Value). IsSpelled k) (normal_key marks key (Update flag old new) n).0 (old_spelled marks old new fits.0 fits.1)

module _ (tells : BytesTellKeys) (fit : SetColumnsFit) (one_place : OnePlaceOfName) (tables : List TableDef) (are : AreTables tables) (table : TableDef) (inside : Contains tables table) where
  -- what a change leaves where it replaces may stand at its place
  left_stands : (change : Change) (place end : Place) → FitsChange table.key_marks change → has_key table.key_marks change ≡ true
      → MayStandAt tables table.name (change_bytes table.key_marks change) place → replaced (action change) place ≡ Some end
      → MayStandAt tables table.name (change_bytes table.key_marks change) end
  unfolding replaced
  left_stands (Insert flag new) place end fits keyed stands is =
      subst (λ (p : Place). MayStandAt tables table.name (key_bytes (marked table.key_marks new)) p) (some_same is)
      (table, inside, refl, record { fits = fits; set = keyed; keyed = refl })
  left_stands (Delete flag old) None end fits keyed stands is = absurd (let e = is in cc)
  left_stands (Delete flag old) (Some row) end fits keyed stands is =
      subst (λ (p : Place). MayStandAt tables table.name (key_bytes (marked table.key_marks old)) p) (some_same is) tt
  left_stands (Update flag old new) None end fits keyed stands is = absurd (let e = is in cc)
  left_stands (Update flag old new) (Some row) end fits keyed (other, other_inside, named, row_of) is =
      let marks = table.key_marks in
      let one = one_table one_place tables other table are other_inside inside named in
      let of = subst (λ (t : TableDef). IsRowOf t (key_bytes (marked_fields marks old)) row) one row_of in
      let same = tells (marked_fields marks old) (marked marks row) (old_spelled marks old new fits.0 fits.1) (marked_spelled marks row of.fits.1) of.keyed in
      let keeps = keeps_key marks old new row fits.0 same in
      subst (λ (p : Place). MayStandAt tables table.name (key_bytes (marked_fields marks old)) p) (some_same is) (
        table,
        inside,
        refl,
        record {
          fits = (keeps_width new row ∙ of.fits.0, fit new row fits.2 of.fits.1);
          set = ap (list_all is_set) keeps ∙ of.set;
          keyed = of.keyed ∙ ap key_bytes (sym keeps);
        },
      )

  pub replaced_stands : (key : List ℕ) (change : Change) (place end : Place) → IsEntry table.key_marks (key, change) → MayStandAt tables table.name key place
      → replaced (action change) place ≡ Some end → MayStandAt tables table.name key end
  replaced_stands key change place end entry stands is =
      let bytes = bytes_stay table.key_marks (key, change) entry in
      let keyed : has_key table.key_marks change ≡ true = ap (list_all is_set) (normal_key table.key_marks entry.key change entry.normal).0 ∙ entry.set in
      subst (λ (k : List ℕ). MayStandAt tables table.name k end) bytes
      (left_stands change place end entry.fits keyed (subst (λ (k : List ℕ). MayStandAt tables table.name k place) (sym bytes) stands) is)

  -- what may stand there has the key of the change
  pub stands_keyed : (key : List ℕ) (change : Change) (place : Place) (entry : IsEntry table.key_marks (key, change)) → MayStandAt tables table.name key place → FitsPlace table.key_marks entry.key place
  stands_keyed key change None entry stands = tt
  stands_keyed key change (Some row) entry (other, other_inside, named, row_of) =
      let of = subst (λ (t : TableDef). IsRowOf t key row) (one_table one_place tables other table are other_inside inside named) row_of in
      record {
        wide = of.fits.0;
        keyed = tells (marked table.key_marks row) entry.key (marked_spelled table.key_marks row of.fits.1) (key_spelled table.key_marks entry.key change entry.normal entry.fits) (sym of.keyed ∙ entry.bytes);
      }
