-- What is left of the entries of a table that is lent, and their keys.
use Rattle.std.proofs.Common.{◌≡◌, ◌∙◌, ℕ, ◌+◌, ◌<◌, ◌≤◌, Bool, true, false, List, [], ◌∷◌, ◌++◌, length, map, take, refl, sym, ap, subst, arith, zero, suc, Option, Some, None}
use Rattle.std.specs.Prelude.{◌≢◌, slice_index}
use Rattle.std.specs.List.{All, AllByRecursion}
use Rattle.std.specs.Map.{keys_of}
use Rattle.std.specs.Option.{is_some}
use Rattle.std.proofs.Math.ListN.{get_or-map}
use Rattle.std.proofs.lemmas.List.{get_or_default, length-map, take_all, take_more}
use Rattle.std.proofs.lemmas.List.Elements.{recursion_from_All}
use Rattle.cs_order.specs.Order.{Keys, key_at}
use Rattle.cs_change.specs.declared.change.Change.{Change}
use Rattle.cs_normal.specs.keyed.Changes.{Changes}
use Rattle.cs_normal.specs.keyed.NormalForm.{normal_form}
use Rattle.cs_normal.specs.keyed.Prepared.{Entries, kept}
use Rattle.cs_normalising.specs.Steps.Lent.{entries_of, ordered_entries}
use Rattle.cs_normalising.specs.Lent.{nth_entry}
use Rattle.cs_normalising.specs.declared.lent_table.Ordered.{Ordered}
use Rattle.cs_normalising.proofs.KeyOrder.{keys_gathered}
use Rattle.cs_normalising.proofs.NormalLaws.{kept_append}

-- an entry that has a change leaves one
one_left : (es : Entries) (at : ℕ) (change : Change) → (nth_entry es at).1 ≡ Some change → kept es ≢ []
unfolding kept
one_left [] at change is none = cc
one_left ((key, Some c) ∷ es) at change is none = cc
one_left ((key, None) ∷ es) zero change is none = cc
one_left ((key, None) ∷ es) (suc at) change is none = one_left es at change is none

pub form_is_left : (es : Entries) (at : ℕ) (form : Option Change) → form ≡ (nth_entry es at).1 → is_some form ≡ true → kept es ≢ []
form_is_left es at None is some = cc
form_is_left es at (Some change) is some = one_left es at change (sym is)

pub form_is_none : (form : Option Change) → is_some form ≡ false → form ≡ None
form_is_none None none = refl
form_is_none (Some change) none = cc

none_here : (key : List ℕ) (form : Option Change) → form ≡ None → kept ((key, form) ∷ []) ≡ []
unfolding kept
none_here key None is = refl
none_here key (Some c) is = cc

pub none_more : (es : Entries) (at : ℕ) → at < length es → kept (take at es) ≡ [] → (nth_entry es at).1 ≡ None → kept (take (at + 1) es) ≡ []
none_more es at less so_far none =
    let e = nth_entry es at in
    ap (λ (fs : Entries). kept fs) (take_more es at ([], None) less)
    ∙ kept_append (take at es) (e ∷ [])
    ∙ ap (λ (cs : Changes). cs ++ kept (e ∷ [])) so_far
    ∙ none_here e.0 e.1 none

pub none_left : (es : Entries) (at : ℕ) → length es ≤ at → kept (take at es) ≡ [] → kept es ≡ []
none_left es at whole none = ap (λ (fs : Entries). kept fs) (sym (take_all at es whole)) ∙ none

-- ---- the keys at places in the order of the keys

one_picked : (es : Entries) (order : List ℕ) (at : ℕ) → at < length order → key_at (keys_of es) (slice_index order at) ≡ key_at (keys_of (map (nth_entry es) order)) at
one_picked es order at less =
    let key = key_at (keys_of es) in
    let many : length (map key order) ≡ length order = length-map order key in
    sym (get_or-map key order at 0)
    ∙ get_or_default (map key order) at (key 0) [] (omega (arith, less, many))
    ∙ ap (λ (ks : Keys). key_at ks at) (sym (keys_gathered es order))

all_picked : (es : Entries) (order places : List ℕ) → AllByRecursion (λ at. at < length order) places → map (λ at. key_at (keys_of es) (slice_index order at)) places ≡ map (key_at (keys_of (map (nth_entry es) order))) places
all_picked es order [] within = refl
all_picked es order (at ∷ places) within =
    ap (λ (k : List ℕ). k ∷ map (λ (p : ℕ). key_at (keys_of es) (slice_index order p)) places) (one_picked es order at within.0)
    ∙ ap (λ (ks : Keys). key_at (keys_of (map (nth_entry es) order)) at ∷ ks) (all_picked es order places within.1)

pub picked_keys : (es : Entries) (order places : List ℕ) (keys picked : Keys) → keys ≡ keys_of es → All (λ at. at < length (map (nth_entry es) order)) places → picked ≡ map (λ at. key_at keys (slice_index order at)) places → picked ≡ map (key_at (keys_of (map (nth_entry es) order))) places
picked_keys es order places keys picked gathered within is =
    let short = subst (λ (n : ℕ). All (λ at. at < n) places) (length-map order (nth_entry es)) within in
    is ∙ ap (λ (ks : Keys). map (λ (at : ℕ). key_at ks (slice_index order at)) places) gathered
    ∙ all_picked es order places (recursion_from_All (λ at. at < length order) places short)

pub order_length : (marks : List Bool) (lent : Ordered) → length (ordered_entries marks lent) ≡ length lent.order
order_length marks lent = length-map lent.order (nth_entry (entries_of marks lent.changes))
