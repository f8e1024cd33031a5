-- The keys of entries by two lists of marks.
use Rattle.std.proofs.Common.{◌≡◌, ◌∙◌, ℕ, Bool, List, [], ◌∷◌, map, refl, ap}
use Rattle.cs_normal.specs.keyed.Changes.{key_bytes}
use Rattle.cs_normal.specs.keyed.NormalForm.{HaveSameKeys}
use Rattle.cs_value.specs.declared.value.Value.{Value}
use Rattle.cs_blob.specs.declared.blob.Entry.{Entry}
use Rattle.cs_rebaser.specs.Rebased.{entry_key}

pub same_keys : (front marks : List Bool) (entries : List Entry) → HaveSameKeys front marks → map (entry_key front) entries ≡ map (entry_key marks) entries
same_keys front marks [] same = refl
same_keys front marks (e ∷ entries) same =
    ap (λ (vs : List Value). key_bytes vs ∷ map (entry_key front) entries) (same.1 e.fields)
    ∙ ap (λ (ks : List (List ℕ)). entry_key marks e ∷ ks) (same_keys front marks entries same)
