-- The normal form of what the reader takes is made of entries.
use Rattle.std.proofs.Common.{◌≡◌, ℕ, Bool, true, false, List, [], ◌∷◌, Option, Some, None, refl}
use Rattle.std.specs.List.{All, AllByRecursion, list_all}
use Rattle.std.specs.List.Sorted.{IsPermutation}
use Rattle.std.proofs.lemmas.List.Elements.{All-from_recursion, recursion_from_All}
use Rattle.std.proofs.lemmas.List.Sorted.{All-permutation}
use Rattle.cs_value.specs.Facts.{by_test}
use Rattle.cs_value.specs.Catalog.{is_set}
use Rattle.cs_value.specs.declared.value.Value.{Value}
use Rattle.cs_value.specs.declared.value.Field.{Field}
use Rattle.cs_value.specs.declared.value.Field.TheVariants.{Undefined, Is}
use Rattle.cs_change.specs.Action.{action_any}
use Rattle.cs_change.specs.Normal.{IsNormalIfAny}
use Rattle.cs_change.specs.Spelling.{FitsChange, AreUpdateColumns}
use Rattle.cs_change.specs.declared.change.Change.{Change}
use Rattle.cs_change.specs.declared.change.Change.TheVariants.{Insert, Delete, Update}
use Rattle.cs_normal.specs.keyed.Changes.{key_bytes, IsEntry}
use Rattle.cs_normalising.specs.Laws.{LenientUpdate, no_column, key_column, key_again, unmodified, modified, IsLenient}
use Rattle.cs_normal.specs.keyed.NormalForm.{marked_fields, change_key, has_key, normal_form}
use Rattle.cs_normal.specs.keyed.Prepared.{Entries, prepared, kept}
use Rattle.cs_normalising.proofs.Fitted.{FitsIfAny, form_fits}
use Rattle.cs_normalising.proofs.Keeps.{keeps}

lenient_update : (marks : List Bool) (old new : List Field) → AreUpdateColumns marks old new → LenientUpdate marks (marked_fields marks old) old new
unfolding marked_fields
lenient_update [] [] [] u = no_column
lenient_update (true ∷ marks) (Is k ∷ old) (Undefined ∷ new) u = key_column k (lenient_update marks old new u.1)
lenient_update (true ∷ marks) (Is k ∷ old) (Is v ∷ new) u =
    rw (← u.0) (key_again k (lenient_update marks old new u.1))
lenient_update (true ∷ marks) (Undefined ∷ old) (n ∷ new) u = absurd u.0
lenient_update (false ∷ marks) (o ∷ old) (Undefined ∷ new) u = unmodified o (lenient_update marks old new u.1)
lenient_update (false ∷ marks) (Is u' ∷ old) (Is v ∷ new) u = modified u' v (lenient_update marks old new u.1)
lenient_update (false ∷ marks) (Undefined ∷ old) (Is v ∷ new) u = absurd u.0
lenient_update [] [] (n ∷ new) u = absurd u
lenient_update [] (o ∷ old) new u = absurd u
lenient_update (m ∷ marks) [] new u = absurd u
lenient_update (m ∷ marks) (o ∷ old) [] u = absurd u

-- what the reader takes is lenient at the key that is read from it
pub lenient : (marks : List Bool) (change : Change) → FitsChange marks change → IsLenient marks (change_key marks change) change
lenient marks (Insert flag new) f = record { wide = f.0; keyed = refl }
lenient marks (Delete flag old) f = record { wide = f.0; keyed = refl }
lenient marks (Update flag old new) f = lenient_update marks old new f.0

-- a prepared change is an entry, if one is left
abbrev IsReady : List Bool → List ℕ × Option Change → Type 0
IsReady marks (bytes, None) = Unit {0}
IsReady marks (bytes, Some change) = IsEntry marks (bytes, change)

ready : (marks : List Bool) (key : List Value) (change : Option Change) → list_all is_set key ≡ true → IsNormalIfAny marks key (action_any change) → FitsIfAny marks change → IsReady marks (key_bytes key, change)
ready marks key None set normal fits = tt
ready marks key (Some change) set normal fits =
    record { key = key; set = set; bytes = refl; normal = normal; fits = fits }

prepared_ready : (marks : List Bool) (changes : List Change) → AllByRecursion (FitsChange marks) changes → AllByRecursion (IsReady marks) (prepared marks changes)
unfolding prepared
prepared_ready marks [] f = tt
prepared_ready marks (c ∷ changes) f =
    by_test (has_key marks c) _ (λ e. simp e (ready marks (change_key marks c) (normal_form marks c) e (keeps marks (change_key marks c) c (lenient marks c f.0)).0 (form_fits marks c f.0), prepared_ready marks changes f.1)) (λ e. simp e tt)

kept_entries : (marks : List Bool) (es : Entries) → AllByRecursion (IsReady marks) es → AllByRecursion (IsEntry marks) (kept es)
unfolding kept
kept_entries marks [] h = tt
kept_entries marks ((key, None) ∷ es) h = kept_entries marks es h.1
kept_entries marks ((key, Some change) ∷ es) h = (h.0, kept_entries marks es h.1)

pub are_entries : (marks : List Bool) (changes : List Change) (fs : Entries) → IsPermutation (prepared marks changes) fs → AllByRecursion (FitsChange marks) changes → All (IsEntry marks) (kept fs)
are_entries marks changes fs p f =
    let es : All (IsReady marks) (prepared marks changes) = All-from_recursion (IsReady marks) (prepared marks changes) (prepared_ready marks changes f) in
    All-from_recursion (IsEntry marks) (kept fs) (kept_entries marks fs (recursion_from_All (IsReady marks) fs (All-permutation (IsReady marks) (prepared marks changes) fs p es)))
