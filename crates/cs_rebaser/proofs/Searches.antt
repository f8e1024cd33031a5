-- An entry sought in a group.
use Rattle.std.proofs.Common.{◌≡◌, ◌∙◌, ℕ, ◌<◌, Bool, List, [], length, get_or, sym, ap, Some, None}
use Rattle.std.specs.Prelude.{slice_get, slice_index_or}
use Rattle.std.specs.Map.{keys_of, lookup, values_of}
use Rattle.std.proofs.lemmas.List.{get_or-map}
use Rattle.std.proofs.lemmas.List.Elements.{recursion_from_All}
use Rattle.std.proofs.lemmas.Option.{slice_get-get_or}
use Rattle.std.specs.declared.cmp.Ordering.{Ordering}
use Rattle.std.specs.declared.cmp.Ordering.TheVariants.{Equal}
use Rattle.cs_value.specs.declared.value.Value.{Value}
use Rattle.cs_normal.specs.keyed.Changes.{key_bytes}
use Rattle.cs_normal.specs.keyed.NormalForm.{HaveSameKeys, marked_fields}
use Rattle.cs_order.specs.Order.{by_bytes}
use Rattle.cs_change.specs.Spelling.{marks_of}
use Rattle.cs_blob.specs.declared.blob.BlobGroup.{BlobGroup}
use Rattle.cs_blob.specs.declared.blob.Entry.{Entry}
use Rattle.cs_rebaser.specs.Rebased.{entry_at, entry_key, placed_in}
use Rattle.cs_rebaser.specs.Steps.{IsOrderOf, entry_keys, ordered_entries}
use Rattle.cs_rebaser.specs.declared.orders.GroupOrder.{GroupOrder}
use Rattle.cs_rebaser.proofs.Halves.{AreBelow, IsAbove, found, not_found}
use Rattle.cs_rebaser.proofs.Indexes.{ordered_entry, ordered_key, ordered_length}

-- the entries of a group in their order, each behind its key
abbrev pub in_order : BlobGroup → GroupOrder → List (List ℕ × Entry)
in_order group order = ordered_entries (entry_keys group) group.entries order.order.items

pub long_as : (group : BlobGroup) (order : GroupOrder) → IsOrderOf group order → length (in_order group order) ≡ length order.order.items
long_as group order is = ordered_length (entry_keys group) group.entries order.order.items (recursion_from_All _ _ is.within)

-- the key of the entry there
pub key_there_is : (group : BlobGroup) (order : GroupOrder) (at : ℕ) (entry : Entry) → IsOrderOf group order → at < length order.order.items
    → entry ≡ get_or group.entries (slice_index_or order.order.items at 0) entry
    → entry_key (marks_of group.marks) entry ≡ slice_index_or (keys_of (in_order group order)) at []
key_there_is group order at entry is less here =
    let place = slice_index_or order.order.items at 0 in
    let within : place < length group.entries = is.within at 0 less in
    ap (entry_key (marks_of group.marks)) here
    ∙ sym (get_or-map (entry_key (marks_of group.marks)) group.entries place entry [] within)
    ∙ ordered_key (entry_keys group) group.entries order.order.items at is.within less

-- the entry there is the one of its key
pub entry_found : (group : BlobGroup) (order : GroupOrder) (at : ℕ) (entry : Entry) (key : List ℕ) → IsOrderOf group order → at < length order.order.items
    → entry ≡ get_or group.entries (slice_index_or order.order.items at 0) entry
    → by_bytes (entry_key (marks_of group.marks) entry) key ≡ Equal
    → entry_at (group.name, key) (placed_in group) ≡ Some entry
entry_found group order at entry key is less here equal =
    let entries = in_order group order in
    let place = slice_index_or order.order.items at 0 in
    let within : place < length group.entries = is.within at 0 less in
    let sought : slice_get (values_of entries) at ≡ lookup _ entries = found entries key (entry_key (marks_of group.marks) entry) at is.rising (rw (long_as group order is) less) (key_there_is group order at entry is less here) equal in
    sym (is.each key)
    ∙ sym sought
    ∙ ordered_entry (entry_keys group) group.entries order.order.items at is.within less
    ∙ slice_get-get_or group.entries place entry within
    ∙ ap (λ (e : Entry). Some e) (sym here)

pub entry_missing : (group : BlobGroup) (order : GroupOrder) (key : List ℕ) (place : ℕ) → IsOrderOf group order
    → AreBelow (in_order group order) key place → IsAbove (in_order group order) key place → entry_at (group.name, key) (placed_in group) ≡ None
entry_missing group order key place is below above =
    sym (is.each key) ∙ sym (not_found (in_order group order) key place is.rising below above)

-- how the key of an entry stands to another, by marks that make the same keys
pub told_of : (front given marks : List Bool) (entry : Entry) (key : List ℕ) (compared told : Ordering) → HaveSameKeys front given → given ≡ marks
    → compared ≡ by_bytes (key_bytes (marked_fields front entry.fields)) key → compared ≡ told → by_bytes (entry_key marks entry) key ≡ told
told_of front given marks entry key compared told same are is said =
    ap (λ (ms : List Bool). by_bytes (entry_key ms entry) key) (sym are)
    ∙ ap (λ (vs : List Value). by_bytes (key_bytes vs) key) (sym (same.1 entry.fields))
    ∙ sym is
    ∙ said
