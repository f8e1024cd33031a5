-- Changes that stay in their bytes, on the way to the normal form.
use Rattle.std.specs.Prelude.{◌≡◌, ◌<◌, ℕ, Bool, true, List, length, map, All}
use Rattle.std.specs.List.Sorted.{IsPermutation}
use Rattle.std.specs.Map.{keys_of}
use Rattle.cs_order.specs.Order.{Keys}
use Rattle.cs_change.specs.declared.change.Change.{Change}
use Rattle.cs_normal.specs.keyed.Changes.{Changes}
use Rattle.cs_normal.specs.keyed.NormalForm.{change_bytes, normal_form}
use Rattle.cs_normal.specs.keyed.Prepared.{Entries, all_keyed, kept, prepared}
use Rattle.cs_normalising.specs.Lent.{nth_entry}
use Rattle.cs_normalising.specs.Steps.Prepared.{rises}
use Rattle.cs_normalising.specs.declared.lent_table.Ordered.{Ordered}

-- the normal form of each change behind the bytes of its key
abbrev pub entries_of : List Bool → List Change → Entries
entries_of marks changes = map (λ change. (change_bytes marks change, normal_form marks change)) changes

-- each change has a key, and these are the normal forms that are left, in the order of their keys
pub record IsKeptOf (marks : List Bool) (changes : List Change) (made : Changes) : Type 0 where
  pub whole : all_keyed marks changes ≡ true
  pub entries : Entries
  pub moved : IsPermutation (prepared marks changes) entries
  pub rising : rises entries ≡ true
  pub left : made ≡ kept entries

-- the entries at these places
abbrev pub entries_at : List Bool → List Change → List ℕ → Entries
entries_at marks changes order = map (nth_entry (entries_of marks changes)) order

-- the entries in the order of their keys
abbrev pub ordered_entries : List Bool → Ordered → Entries
ordered_entries marks lent = entries_at marks lent.changes lent.order

-- a key for each change, and a place for each
pub record AreBeside (marks : List Bool) (keys : Keys) (order : List ℕ) (changes : List Change) : Type 0 where
  pub gathered : keys ≡ keys_of (entries_of marks changes)
  pub within : All (λ place. place < length changes) order
  pub as_many : length order ≡ length changes

abbrev pub IsOrderedBy : List Bool → Ordered → Type 0
IsOrderedBy marks lent = AreBeside marks lent.keys lent.order lent.changes
