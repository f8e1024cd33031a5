-- The bytes of keys tell the keys apart.
use Rattle.std.proofs.Common.{◌≡◌, List, [], ◌∷◌, map, refl, sym, ◌∙◌}
use Rattle.std.specs.List.{AllByRecursion}
use Rattle.std.proofs.lemmas.List.Folds.{flat_map-map}
use Rattle.cs_value.specs.declared.value.Value.{Value}
use Rattle.cs_value.specs.declared.value.Field.{Field}
use Rattle.cs_value.specs.declared.value.Field.TheVariants.{Is}
use Rattle.cs_record.specs.Laws.{OneSpelledRecord}
use Rattle.cs_record.specs.Spelling.{field, record_of, Fits}
use Rattle.cs_normal.specs.keyed.Changes.{key_bytes, IsSpelled}
use Rattle.cs_normal.specs.keyed.Laws.{BytesTellKeys}

-- the fields of a key
fields : List Value → List Field
fields key = map (λ (v : Value). Is v) key

all_fit : (key : List Value) → IsSpelled key → AllByRecursion Fits (fields key)
unfolding fields
all_fit [] s = tt
all_fit (v ∷ key) s = (s.0, all_fit key s.1)

same_values : (some other : List Value) → fields some ≡ fields other → some ≡ other
unfolding fields
same_values [] [] e = refl
same_values [] (w ∷ other) e = cc
same_values (v ∷ some) [] e = cc
same_values (v ∷ some) (w ∷ other) e =
    let first : v ≡ w = cc in
    let rest : fields some ≡ fields other = cc in
    let same = same_values some other rest in
    cc

as_record : (key : List Value) → record_of (fields key) ≡ key_bytes key
unfolding fields
as_record key = flat_map-map field (λ (v : Value). Is v) key

pub keys_apart : OneSpelledRecord → BytesTellKeys
keys_apart law some other s o e =
    same_values some other (law (fields some) (fields other) (all_fit some s) (all_fit other o) (as_record some ∙ e ∙ sym (as_record other)))
