-- What the changes that are prepared tell of those that were read. Crates above cite it.
use Rattle.std.proofs.Common.{◌≡◌, ℕ, Bool, true, ◌&&◌, List, [], ◌∷◌, map, refl, ap}
use Rattle.std.specs.List.{list_all}
use Rattle.std.specs.Map.{keys_of}
use Rattle.cs_change.specs.declared.change.Change.{Change}
use Rattle.cs_order.specs.Facts.{both_true}
use Rattle.cs_normal.specs.keyed.NormalForm.{change_bytes, has_key}
use Rattle.cs_normal.specs.keyed.Prepared.{all_keyed, prepared}

-- where each change has a key, all are prepared
pub prepared_keys : (marks : List Bool) (changes : List Change) → all_keyed marks changes ≡ true → keys_of (prepared marks changes) ≡ map (change_bytes marks) changes
unfolding prepared all_keyed
prepared_keys marks [] h = refl
prepared_keys marks (c ∷ changes) h =
    let parts = both_true (has_key marks c) (all_keyed marks changes) h in
    simp parts.0 (ap (λ (t : List (List ℕ)). change_bytes marks c ∷ t) (prepared_keys marks changes parts.1))

pub all_keyed_is : (marks : List Bool) (changes : List Change) → all_keyed marks changes ≡ list_all (has_key marks) changes
unfolding all_keyed
all_keyed_is marks [] = refl
all_keyed_is marks (c ∷ changes) = ap (λ t. has_key marks c && t) (all_keyed_is marks changes)
