-- A table's normal form by look-ups, as the code finds it.
use Rattle.std.proofs.Common.{◌≡◌, ◌<◌, ℕ, Bool, length, get_or, arith, List, [], ◌∷◌, map, Option, Some, None, refl, sym, ap, ◌∙◌, subst}
use Rattle.std.specs.Cmp.{eq_by_cmp_equiv}
use Rattle.std.specs.List.{Contains, IsDistinct}
use Rattle.std.specs.Map.{keys_of}
use Rattle.std.proofs.lemmas.Cmp.{nat_list_cmp_total}
use Rattle.std.proofs.lemmas.List.{get_or-map, length-map}
use Rattle.std.proofs.lemmas.Map.Keys.{IsDistinct-from_sorted}
use Rattle.std.proofs.lemmas.Map.Views.{Contains-from_lookup, lookup-from_Contains}
use Rattle.cs_change.specs.declared.change.Change.{Change}
use Rattle.cs_order.specs.Order.{by_bytes, same_bytes}
use Rattle.cs_order.specs.Facts.{same_is}
use Rattle.cs_normal.specs.keyed.Changes.{Changes, change_at, IsOrdered}
use Rattle.cs_normal.specs.keyed.NormalForm.{change_bytes, keyed, normal_form, normal_form_any, AreKeyed, IsNormalOf}
use Rattle.cs_normalising.specs.Laws.{FormAtKey}

abbrev pub pair_of : List Bool → Change → List ℕ × Change
pair_of marks change = (change_bytes marks change, change)

-- in order, and at each key the normal form of what was read with it
abbrev pub IsNormalAt : List Bool → List Change → Changes → Type 0
IsNormalAt marks changes form =
    IsOrdered form × ((key : List ℕ) → change_at key form ≡ normal_form_any marks (change_at key (keyed marks changes)))

keys_are : (marks : List Bool) (changes : List Change) → keys_of (keyed marks changes) ≡ map (change_bytes marks) changes
keys_are marks [] = refl
keys_are marks (c ∷ changes) = ap (λ (t : List (List ℕ)). change_bytes marks c ∷ t) (keys_are marks changes)

-- what was read stands behind its key
in_keyed : (marks : List Bool) (changes : List Change) (read : Change) → Contains changes read → Contains (keyed marks changes) (change_bytes marks read, read)
in_keyed marks changes read (k, lt, is) =
    let long = length-map changes (pair_of marks) in
    let at = get_or-map (pair_of marks) changes k read (change_bytes marks read, read) lt in
    (k, omega (arith, long, lt), at ∙ ap (pair_of marks) is)

-- what stands behind a key was read with it
of_keyed : (marks : List Bool) (changes : List Change) (key : List ℕ) (read : Change) → Contains (keyed marks changes) (key, read) → Contains changes read × (change_bytes marks read ≡ key)
of_keyed marks changes key read (k, lt, is) =
    let long = length-map changes (pair_of marks) in
    let within : k < length changes = omega (arith, long, lt) in
    let at = get_or-map (pair_of marks) changes k read (key, read) within in
    let found = get_or changes k read in
    let pair : pair_of marks found ≡ (key, read) = sym at ∙ is in
    let same : found ≡ read = ap (λ (p : List ℕ × Change). p.1) pair in
    ((k, within, same), ap (change_bytes marks) (sym same) ∙ ap (λ (p : List ℕ × Change). p.0) pair)

-- what is found was read with this key
found_read : (marks : List Bool) (changes : List Change) (key : List ℕ) (read : Change) → change_at key (keyed marks changes) ≡ Some read → Contains changes read × (change_bytes marks read ≡ key)
found_read marks changes key read e =
    of_keyed marks changes key read (Contains-from_lookup same_is key read (keyed marks changes) e)

-- with a key of its own, what was read is found
read_found : (marks : List Bool) (changes : List Change) (key : List ℕ) (read : Change) → AreKeyed marks changes → Contains changes read → change_bytes marks read ≡ key → change_at key (keyed marks changes) ≡ Some read
read_found marks changes key read keys in' is =
    let distinct = subst (IsDistinct same_bytes) (sym (keys_are marks changes)) keys.1 in
    subst (λ (k : List ℕ). change_at k (keyed marks changes) ≡ Some read) is (lookup-from_Contains (eq_by_cmp_equiv nat_list_cmp_total) (change_bytes marks read) read (keyed marks changes) distinct (in_keyed marks changes read in'))

entry_found : (form : Changes) (key : List ℕ) (change : Change) → IsOrdered form → Contains form (key, change) → change_at key form ≡ Some change
entry_found form key change ordered in' =
    lookup-from_Contains (eq_by_cmp_equiv nat_list_cmp_total) key change form (IsDistinct-from_sorted by_bytes (keys_of form) ordered) in'

found_entry : (form : Changes) (key : List ℕ) (change : Change) → change_at key form ≡ Some change → Contains form (key, change)
found_entry form key change e = Contains-from_lookup same_is key change form e

module _ (marks : List Bool) (changes : List Change) (form : Changes) where
  -- from look-ups to membership
  back : (at : IsNormalAt marks changes form) (key : List ℕ) (change : Change) (read : Option Change) → change_at key (keyed marks changes) ≡ read → normal_form_any marks read ≡ Some change → (r : Change) × Contains changes r × (change_bytes marks r ≡ key) × (normal_form marks r ≡ Some change)
  back at key change None e h = cc
  back at key change (Some r) e h =
      let was = found_read marks changes key r e in
      (r, was.0, was.1, h)

  pub by_membership : AreKeyed marks changes → IsNormalAt marks changes form → IsNormalOf marks changes form
  by_membership keys at = record {
    keyed = keys;
    ordered = at.0;
    each = λ key change. (λ in'. back at key change (change_at key (keyed marks changes)) refl (sym (at.1 key) ∙ entry_found form key change at.0 in'), λ (read, in', is, n). found_entry form key change (at.1 key ∙ ap (normal_form_any marks) (read_found marks changes key read keys in' is) ∙ n));
  }

  -- and back
  forward : (of : IsNormalOf marks changes form) (key : List ℕ) (read : Option Change) (found : Option Change) → change_at key (keyed marks changes) ≡ read → change_at key form ≡ found → found ≡ normal_form_any marks read
  forward of key None None e f = refl
  forward of key None (Some change) e f =
      let was = (of.each key change).0 (found_entry form key change f) in
      let there = read_found marks changes key was.0 of.keyed was.1 was.2 in
      absurd (cc)
  forward of key (Some r) None e f =
      let was = found_read marks changes key r e in
      let split : (n : Option Change) → normal_form marks r ≡ n → None ≡ n = elim [
        | None ↦ λ n. refl
        | Some change ↦ λ n. absurd (let there = entry_found form key change of.ordered ((of.each key change).1 (r, was.0, was.1, n)) in cc)
      ] in
      split (normal_form marks r) refl
  forward of key (Some r) (Some change) e f =
      let was = (of.each key change).0 (found_entry form key change f) in
      let there = read_found marks changes key was.0 of.keyed was.1 was.2 in
      let same : was.0 ≡ r = (let g = sym there ∙ e in cc) in
      sym (ap (normal_form marks) (sym same) ∙ was.3)

  pub by_key : IsNormalOf marks changes form → IsNormalAt marks changes form
  by_key of =
      (of.ordered, λ key. forward of key (change_at key (keyed marks changes)) (change_at key form) refl refl)

pub form_at_key : FormAtKey
form_at_key marks changes form of = (by_key marks changes form of).1
