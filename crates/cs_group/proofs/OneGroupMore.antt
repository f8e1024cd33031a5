-- The changes of one group more are gathered.
use Rattle.std.proofs.Common.{◌≡◌, ℕ, Bool, true, ◌&&◌, List, [], ◌∷◌, ◌++◌, map, refl, sym, ap, ◌∙◌, append-nil}
use Rattle.std.specs.List.{flat_map, list_all}
use Rattle.std.specs.Map.{keys_of}
use Rattle.std.proofs.lemmas.Grind.{flat_map-append}
use Rattle.std.proofs.lemmas.List.{map-append}
use Rattle.std.proofs.lemmas.List.Folds.{list_all-append}
use Rattle.cs_change.specs.declared.change.Change.{Change}
use Rattle.cs_change.specs.declared.group.Group.{Group}
use Rattle.cs_order.specs.Order.{Keys}
use Rattle.cs_normal.specs.keyed.Facts.{all_keyed_is, prepared_keys}
use Rattle.cs_normal.specs.keyed.NormalForm.{change_bytes, has_key}
use Rattle.cs_normal.specs.keyed.Prepared.{all_keyed, prepared}
use Rattle.cs_group.specs.Steps.Gathering.{IsGathered}
use Rattle.cs_group.specs.Steps.Numbering.{changes_in_group, NumberedGroup}
use Rattle.cs_group.specs.declared.gathered.Gathered.{Gathered}

-- one list more, behind all
pub behind_all : {Y : Type 0} (h : NumberedGroup → List Y) (groups : List NumberedGroup) (group : NumberedGroup) (old new : List Y) → old ≡ flat_map h groups → new ≡ old ++ h group → new ≡ flat_map h (groups ++ group ∷ [])
behind_all {Y} h groups group old new is more =
    more
    ∙ ap (λ (ys : List Y). ys ++ h group) is
    ∙ ap (λ (ys : List Y). flat_map h groups ++ ys) (sym (append-nil (h group)))
    ∙ sym (flat_map-append h groups (group ∷ []))

module _ (marks : List Bool) (groups : List NumberedGroup) (number : ℕ) (group : Group) (old new : Gathered) where
  pub gathered_more : new.keys ≡ old.keys ++ keys_of (prepared marks group.changes) → all_keyed marks group.changes ≡ true → IsGathered marks groups old → IsGathered marks (groups ++ (number, group) ∷ []) new
  gathered_more keys whole so_far =
      let all = flat_map changes_in_group groups in
      let grown : flat_map changes_in_group (groups ++ (number, group) ∷ []) ≡ all ++ group.changes = sym (behind_all changes_in_group groups (number, group) all (all ++ group.changes) refl refl) in
      let set : list_all (has_key marks) group.changes ≡ true = sym (all_keyed_is marks group.changes) ∙ whole in
      record {
        keys =
            keys
            ∙ ap (λ (ks : Keys). ks ++ keys_of (prepared marks group.changes)) so_far.keys
            ∙ ap (λ (ks : Keys). map (change_bytes marks) all ++ ks) (prepared_keys marks group.changes whole)
            ∙ sym (map-append (change_bytes marks) all group.changes)
            ∙ ap (λ (cs : List Change). map (change_bytes marks) cs) (sym grown);
        set =
            ap (λ (cs : List Change). list_all (has_key marks) cs) grown
            ∙ list_all-append (has_key marks) all group.changes
            ∙ ap (λ (b : Bool). b && list_all (has_key marks) group.changes) so_far.set
            ∙ set;
      }
