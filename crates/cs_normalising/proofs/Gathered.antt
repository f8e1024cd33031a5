-- The prepared changes of a table, put in order, are its normal form.
use Rattle.std.proofs.Common.{◌≡◌, ℕ, Bool, true, List, [], ◌∷◌, refl, ap, ◌∙◌}
use Rattle.std.specs.List.Sorted.{IsPermutation}
use Rattle.std.specs.Map.{keys_of, lookup}
use Rattle.std.proofs.lemmas.Map.Keys.{IsDistinct-from_sorted}
use Rattle.cs_value.specs.Facts.{by_test}
use Rattle.cs_value.specs.declared.catalog.TableDef.{TableDef}
use Rattle.cs_change.specs.declared.change.Change.{Change}
use Rattle.cs_change.specs.declared.group.Group.{Group}
use Rattle.cs_order.specs.Order.{by_bytes, same_bytes}
use Rattle.cs_normal.specs.keyed.Changes.{change_at}
use Rattle.cs_normal.specs.keyed.NormalForm.{change_bytes, has_key, IsNormalOf, normal_form_any, keyed}
use Rattle.cs_normalising.specs.NormalFormOf.{changes_of}
use Rattle.cs_normal.specs.keyed.Prepared.{Entries, prepared, all_keyed, kept}
use Rattle.cs_normalising.specs.Steps.Prepared.{rises}
use Rattle.cs_normalising.specs.Steps.TableByTable.{IsTableOf}
use Rattle.cs_normalising.proofs.Entries.{are_entries}
use Rattle.cs_normalising.proofs.Membership.{by_membership}
use Rattle.cs_order.specs.Facts.{both_true}
use Rattle.cs_normalising.proofs.NormalLaws.{join, rises_sorted, kept_ordered, kept_at, found_alike, prepared_distinct, are_keyed}
use Rattle.cs_normalising.proofs.Sizes.{kept_shorter}

prepared_at : (marks : List Bool) (changes : List Change) → all_keyed marks changes ≡ true → (q : List ℕ) → join (lookup (same_bytes q) (prepared marks changes)) ≡ normal_form_any marks (change_at q (keyed marks changes))
unfolding prepared all_keyed
prepared_at marks [] h q = refl
prepared_at marks (c ∷ changes) h q =
    let parts = both_true (has_key marks c) (all_keyed marks changes) h in
    let rest = prepared_at marks changes parts.1 q in
    by_test (same_bytes q (change_bytes marks c)) _ (λ e. simp (parts.0, e) refl) (λ e. simp (parts.0, e) rest)

is_normal : (marks : List Bool) (changes : List Change) (fs : Entries) → IsPermutation (prepared marks changes) fs → rises fs ≡ true → all_keyed marks changes ≡ true → IsNormalOf marks changes (kept fs)
is_normal marks changes fs p up whole =
    let sorted = rises_sorted fs up in
    let at : (q : List ℕ) → change_at q (kept fs) ≡ normal_form_any marks (change_at q (keyed marks changes)) = λ q. kept_at q fs sorted ∙ (ap join (found_alike (prepared marks changes) fs p (prepared_distinct marks changes fs p up) (IsDistinct-from_sorted by_bytes (keys_of fs) sorted) q) ∙ prepared_at marks changes whole q) in
    by_membership marks changes (kept fs) (are_keyed marks changes fs p up whole) (kept_ordered fs sorted, at)

-- what is kept of the sorted entries is the table's normal form
pub is_table_of : (groups : List Group) (table : TableDef) (fs : Entries) → IsPermutation (prepared table.key_marks (changes_of table.name groups)) fs → rises fs ≡ true → all_keyed table.key_marks (changes_of table.name groups) ≡ true → IsTableOf groups table (kept fs)
is_table_of groups table fs p up whole =
    let marks = table.key_marks in
    let changes = changes_of table.name groups in
    record {
      keyed = are_keyed marks changes fs p up whole;
      normal = is_normal marks changes fs p up whole;
      entries = are_entries marks changes fs p;
      shorter = kept_shorter marks changes fs p;
    }
