-- Edits one behind another.
use Rattle.std.proofs.Common.{◌≡◌, ◌≢◌, ◌⊎◌, ◌+◌, ◌++◌, ℕ, List, [], ◌∷◌, Some, Ok, Err, inl, inr, refl, sym, subst, take, ◌∙◌}
use Rattle.std.specs.Prelude.{slice_get}
use Rattle.cs_value.specs.declared.catalog.TableDef.{TableDef}
use Rattle.cs_value.specs.declared.edit.Edit.{Edit}
use Rattle.cs_pending.specs.Laws.{OneEdits}
use Rattle.cs_pending.specs.EditLists.{AreEdited, IsEditsFault, IsRefusedAt, asked_of_edit, fault_at, table_of_edit}
use Rattle.cs_pending.specs.Edits.{IsOfStore, edit}
use Rattle.cs_pending.specs.Shows.{IsSoundOf}
use Rattle.cs_pending.specs.View.{View}
use Rattle.cs_pending.specs.declared.fault.EditFault.{EditFault}
use Rattle.cs_pending.specs.declared.fault.EditFault.TheVariants.{Memory, Device, NoTable, Width, NullKey, Exists, Missing, KeyColumn}
use Rattle.cs_pending.specs.declared.fault.EditsFault.{EditsFault}
use Rattle.cs_pending.specs.declared.fault.EditsFault.TheVariants as several
use Rattle.cs_store.specs.declared.fault.StoreFault.{StoreFault}
use Rattle.cs_store.specs.declared.fault.StoreFault.TheVariants as stored
use Rattle.cs_pending.proofs.Staged.{take_next}

edited_more : (tables : List TableDef) (front : List Edit) (asked : Edit) (view between next : View) → AreEdited tables front view between
    → edit tables (table_of_edit asked) (asked_of_edit asked) between ≡ Ok next → IsSoundOf tables next.pending next.tables → AreEdited tables (front ++ asked ∷ []) view next
edited_more tables [] asked view between next is made sound =
    (next, subst (λ (v : View). edit tables (table_of_edit asked) (asked_of_edit asked) v ≡ Ok next) is made, sound, refl)
edited_more tables (first ∷ front) asked view between next (middle, led, held, others) made sound =
    (middle, led, held, edited_more tables front asked middle between next others made sound)

-- ---- they leave one view

pub one_edits : OneEdits
one_edits tables [] view some other is also = also ∙ sym is
one_edits tables (asked ∷ edits) view some other (next, led, held, rest) (again, also_led, also_held, also_rest) =
    let same : again ≡ next = (let e = sym also_led ∙ led in cc) in
    one_edits tables edits next some other rest (subst (λ (v : View). AreEdited tables edits v other) same also_rest)

module _ (tables : List TableDef) (edits : List Edit) (view : View) (at : ℕ) (asked : Edit) (between : View) (there : slice_get edits at ≡ Some asked)
    (so_far : AreEdited tables (take at edits) view between) where
  pub edited_next : (next : View) → edit tables (table_of_edit asked) (asked_of_edit asked) between ≡ Ok next → IsSoundOf tables next.pending next.tables
      → AreEdited tables (take (at + 1) edits) view next
  edited_next next made sound =
      subst (λ (es : List Edit). AreEdited tables es view next) (sym (take_next edits at asked there)) (edited_more tables (take at edits) asked view between next so_far made sound)

  refuses : (fault : EditFault) → fault ≢ Memory → fault ≢ Device → IsOfStore fault ⊎ (edit tables (table_of_edit asked) (asked_of_edit asked) between ≡ Err fault)
      → IsRefusedAt tables edits view at fault
  refuses fault memory device (inl (inl is)) = absurd (memory is)
  refuses fault memory device (inl (inr is)) = absurd (device is)
  refuses fault memory device (inr refused) = record { between = between; edited = so_far; asked = asked; there = there; refused = refused }

  pub refused_here : (fault : EditFault) → IsOfStore fault ⊎ (edit tables (table_of_edit asked) (asked_of_edit asked) between ≡ Err fault)
      → IsEditsFault tables edits view (fault_at at fault)
  refused_here Memory told = tt
  refused_here Device told = tt
  refused_here NoTable told = refuses NoTable (λ e. cc) (λ e. cc) told
  refused_here Width told = refuses Width (λ e. cc) (λ e. cc) told
  refused_here NullKey told = refuses NullKey (λ e. cc) (λ e. cc) told
  refused_here Exists told = refuses Exists (λ e. cc) (λ e. cc) told
  refused_here Missing told = refuses Missing (λ e. cc) (λ e. cc) told
  refused_here KeyColumn told = refuses KeyColumn (λ e. cc) (λ e. cc) told

-- ---- a failed device is told where one was

pub device_of_edit : (at : ℕ) (fault : EditFault) → fault_at at fault ≡ several.Device → fault ≡ Device
device_of_edit at Memory e = absurd cc
device_of_edit at Device e = refl
device_of_edit at NoTable e = absurd cc
device_of_edit at Width e = absurd cc
device_of_edit at NullKey e = absurd cc
device_of_edit at Exists e = absurd cc
device_of_edit at Missing e = absurd cc
device_of_edit at KeyColumn e = absurd cc

pub device_of_store : (fault : StoreFault) (told : EditsFault) → (fault ≡ stored.Memory → told ≡ several.Memory) → told ≡ several.Device → fault ≡ stored.Device
device_of_store stored.Memory told memory is = absurd (let no = sym (memory refl) ∙ is in cc)
device_of_store stored.Device told memory is = refl
