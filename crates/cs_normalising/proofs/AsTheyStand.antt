-- Changes in the order in which they came, and in normal form already.
use Rattle.std.proofs.Common.{◌≡◌, ℕ, ◌<◌, Bool, true, List, [], ◌∷◌, length, map, refl, sym, ap, subst, ◌∙◌}
use Rattle.std.specs.List.{All, AllByRecursion, range_with_len}
use Rattle.std.specs.List.Sorted.{IsStrictlySortedBy}
use Rattle.std.specs.Map.{keys_of}
use Rattle.std.proofs.lemmas.List.{length-map}
use Rattle.std.proofs.lemmas.List.Elements.{recursion_from_All}
use Rattle.std.proofs.lemmas.List.FromFn.{length-range_with_len}
use Rattle.std.proofs.lemmas.List.Sorted.{All-permutation, IsPermutation-refl, length_permutation}
use Rattle.cs_order.specs.Order.{IsOrder, Keys, by_bytes, places}
use Rattle.cs_change.specs.declared.change.Change.{Change}
use Rattle.cs_normal.specs.keyed.Changes.{Changes}
use Rattle.cs_normal.specs.keyed.Keyed.{beside}
use Rattle.cs_normal.specs.keyed.NormalForm.{change_bytes}
use Rattle.cs_normal.specs.keyed.Prepared.{AreForms, Entries, IsForm, all_keyed, kept, prepared}
use Rattle.cs_normalising.specs.Steps.Lent.{entries_at, entries_of, AreBeside, IsKeptOf}
use Rattle.cs_order.specs.Steps.Rising.{ascend}
use Rattle.cs_order.specs.Facts.{ascend_tells, places_within}
use Rattle.cs_normalising.proofs.KeyOrder.{gathered_all}
use Rattle.cs_normalising.proofs.NormalLaws.{ascending}
use Rattle.cs_normalising.proofs.TableForms.{as_many, prepared_all}

-- the entries at all places are the entries
pub all_entries : (marks : List Bool) (changes : List Change) → entries_at marks changes (range_with_len 0 (length changes)) ≡ entries_of marks changes
all_entries marks changes = rw (as_many marks changes) at (gathered_all (entries_of marks changes))

module _ (marks : List Bool) (changes : List Change) (keys : Keys) (is : keys ≡ keys_of (prepared marks changes)) (whole : all_keyed marks changes ≡ true) where
  pub gathered : keys ≡ keys_of (entries_of marks changes)
  gathered = is ∙ ap (λ (es : Entries). keys_of es) (prepared_all marks changes whole)

  as_many_keys : length keys ≡ length changes
  as_many_keys =
      ap (λ (ks : Keys). length ks) gathered ∙ length-map (entries_of marks changes) (λ e. e.0) ∙ as_many marks changes

  -- as they stand each has its place
  pub stand_beside : AreBeside marks keys (range_with_len 0 (length changes)) changes
  stand_beside = record {
    gathered = gathered;
    within = subst (λ (n : ℕ). All (λ place. place < n) (range_with_len 0 n)) as_many_keys (places_within keys);
    as_many = length-range_with_len 0 (length changes);
  }

  -- changes in the order of their keys are ordered as they stand
  pub stand_kept : IsStrictlySortedBy by_bytes keys → IsKeptOf marks changes (kept (entries_at marks changes (range_with_len 0 (length changes))))
  stand_kept up = record {
    whole = whole;
    entries = prepared marks changes;
    moved = IsPermutation-refl (prepared marks changes);
    rising = ascending (prepared marks changes) ∙ ap ascend (sym is) ∙ (ascend_tells keys).1 up;
    left = ap kept (all_entries marks changes ∙ sym (prepared_all marks changes whole));
  }

  -- so it has where they are put in order
  pub ordered_beside : (order : List ℕ) → IsOrder keys order → AreBeside marks keys order changes
  ordered_beside order sorts = record {
    gathered = gathered;
    within = subst (λ (n : ℕ). All (λ place. place < n) order) as_many_keys (All-permutation {X = ℕ} (λ place. place < length keys) (places keys) order sorts.each_once (places_within keys));
    as_many = length_permutation (places keys) order sorts.each_once ∙ length-range_with_len 0 (length keys) ∙ as_many_keys;
  }

-- ---- in normal form already

entry_keys : (marks : List Bool) (changes : List Change) → keys_of (entries_of marks changes) ≡ map (change_bytes marks) changes
entry_keys marks [] = refl
entry_keys marks (c ∷ changes) = ap (λ (ks : Keys). change_bytes marks c ∷ ks) (entry_keys marks changes)

forms_kept : (marks : List Bool) (changes : List Change) → AllByRecursion (IsForm marks) changes → kept (entries_of marks changes) ≡ beside (map (change_bytes marks) changes) changes
unfolding kept
forms_kept marks [] all = refl
forms_kept marks (c ∷ changes) all =
    rw all.0 (ap (λ (cs : Changes). (change_bytes marks c, c) ∷ cs) (forms_kept marks changes all.1))

-- changes in normal form are what is left of them
pub stand_written : (marks : List Bool) (changes : List Change) (keys : Keys) (order : List ℕ) → keys ≡ keys_of (entries_of marks changes) → order ≡ range_with_len 0 (length changes) → AreForms marks changes → beside keys changes ≡ kept (entries_at marks changes order)
stand_written marks changes keys order is stands forms =
    ap (λ (ks : Keys). beside ks changes) (is ∙ entry_keys marks changes)
    ∙ sym (forms_kept marks changes (recursion_from_All (IsForm marks) changes forms))
    ∙ ap kept (sym (all_entries marks changes))
    ∙ ap (λ (ps : List ℕ). kept (entries_at marks changes ps)) (sym stands)
