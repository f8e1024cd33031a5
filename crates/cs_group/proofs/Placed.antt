-- Where changes stand that are lent, part by part.
use Rattle.std.proofs.Common.{◌≡◌, ℕ, zero, suc, ◌+◌, ◌-◌, ◌<◌, ◌≤◌, List, [], ◌∷◌, ◌++◌, length, map, refl, sym, ap, ◌∙◌, subst, arith, append-nil}
use Rattle.std.specs.Prelude.{slice_get, slice_index_or}
use Rattle.std.proofs.lemmas.Grind.{flat_map-append, get_or_default_zero}
use Rattle.std.proofs.lemmas.List.{get_or_append_left, get_or-append-add, get_or_past, length-append}
use Rattle.std.proofs.lemmas.Option.{get_or_from_slice_get, slice_get_within}
use Rattle.cs_change.specs.declared.change.Change.{Change}
use Rattle.cs_change.specs.declared.group.Group.{Group}
use Rattle.cs_group.specs.Steps.Gathering.{AreLent, ArePlaced, IsPlaced, lent_changes, lent_numbers}
use Rattle.cs_group.specs.Steps.Numbering.{changes_in_group, numbers_in_group, NumberedGroup}
use Rattle.cs_group.specs.declared.lent.Part.{Part}
use Rattle.cs_group.proofs.OneGroupMore.{behind_all}

get_front : {X : Type 0} (xs ys : List X) (at : ℕ) → at < length xs → slice_get (xs ++ ys) at ≡ slice_get xs at
get_front [] ys at less = absurd (omega (arith, less))
get_front (x ∷ xs) ys zero less = refl
get_front (x ∷ xs) ys (suc at) less = get_front xs ys at (omega (arith, less))

get_behind : {X : Type 0} (xs ys : List X) (at place : ℕ) → place ≡ length xs + at → slice_get (xs ++ ys) place ≡ slice_get ys at
get_behind [] ys at place is = ap (λ (p : ℕ). slice_get ys p) (let e : place ≡ at = omega (arith, is) in e)
get_behind (x ∷ xs) ys at zero is = absurd (omega (arith, is))
get_behind (x ∷ xs) ys at (suc place) is = get_behind xs ys at place (omega (arith, is))

same_number : {X : Type 0} (number : ℕ) (xs : List X) (at : ℕ) → at < length xs → slice_index_or (map (λ _. number) xs) at 0 ≡ number
same_number number [] at less = absurd (omega (arith, less))
same_number number (x ∷ xs) zero less = refl
same_number number (x ∷ xs) (suc at) less = same_number number xs at (omega (arith, less))

as_many_numbers : {X : Type 0} (number : ℕ) (xs : List X) → length (map (λ _. number) xs) ≡ length xs
as_many_numbers number [] = refl
as_many_numbers number (x ∷ xs) = ap suc (as_many_numbers number xs)

-- a number is lent for each change
as_many : (parts : List Part) → length (lent_numbers parts) ≡ length (lent_changes parts)
as_many [] = refl
as_many (part ∷ parts) =
    length-append (map (λ _. part.number) part.changes.now) (lent_numbers parts)
    ∙ ap (λ (n : ℕ). n + length (lent_numbers parts)) (as_many_numbers part.number part.changes.now)
    ∙ ap (λ (n : ℕ). length part.changes.now + n) (as_many parts)
    ∙ sym (length-append part.changes.now (lent_changes parts))

-- a place is one of the first list, or one of the second
either : (xs ys : List ℕ) (at : ℕ) (P : Type 0) → at < length (xs ++ ys) → (at < length xs → P)
    → ((behind : ℕ) → at ≡ length xs + behind → behind < length ys → P) → P
either [] ys at P less front back = back at (omega arith) less
either (x ∷ xs) ys zero P less front back = front (omega arith)
either (x ∷ xs) ys (suc at) P less front back =
    either xs ys at P (omega (arith, less)) (λ l. front (omega (arith, l))) (λ behind is l. back behind (omega (arith, is)) l)

module _ (parts : List Part) (part : Part) where
  changes_more : lent_changes (parts ++ part ∷ []) ≡ lent_changes parts ++ part.changes.now
  changes_more =
      flat_map-append (λ (p : Part). p.changes.now) parts (part ∷ [])
      ∙ ap (λ (cs : List Change). lent_changes parts ++ cs) (append-nil part.changes.now)

  numbers_more : lent_numbers (parts ++ part ∷ []) ≡ lent_numbers parts ++ map (λ _. part.number) part.changes.now
  numbers_more =
      flat_map-append (λ (p : Part). map (λ _. p.number) p.changes.now) parts (part ∷ [])
      ∙ ap (λ (ns : List ℕ). lent_numbers parts ++ ns) (append-nil (map (λ _. part.number) part.changes.now))

  -- a change that stood in a part stands there still
  stays : (place at : ℕ) → place < length (lent_changes parts) → IsPlaced parts place at → IsPlaced (parts ++ part ∷ []) place at
  stays place at less is = record {
    part = is.part;
    behind = is.behind;
    is_part = get_front parts (part ∷ []) at (slice_get_within parts at is.part is.is_part) ∙ is.is_part;
    is_place = is.is_place;
    change =
        ap (λ (cs : List Change). slice_get cs place) changes_more
        ∙ get_front (lent_changes parts) part.changes.now place less
        ∙ is.change;
    number =
        ap (λ (ns : List ℕ). slice_index_or ns place 0) numbers_more
        ∙ get_or_append_left (lent_numbers parts) (map (λ _. part.number) part.changes.now) 0 place (omega (arith, less, as_many parts))
        ∙ is.number;
  }

  -- a change of the last part stands there
  comes : (behind : ℕ) → part.first ≡ length (lent_changes parts) → behind < length part.changes.now
      → IsPlaced (parts ++ part ∷ []) (length (lent_changes parts) + behind) (length parts)
  comes behind first less = record {
    part = part;
    behind = behind;
    is_part = get_behind parts (part ∷ []) 0 (length parts) (omega arith);
    is_place = omega (arith, first);
    change =
        ap (λ (cs : List Change). slice_get cs (length (lent_changes parts) + behind)) changes_more
        ∙ get_behind (lent_changes parts) part.changes.now behind _ refl;
    number =
        ap (λ (ns : List ℕ). slice_index_or ns (length (lent_changes parts) + behind) 0) numbers_more
        ∙ ap (λ (n : ℕ). slice_index_or (lent_numbers parts ++ map (λ _. part.number) part.changes.now) (n + behind) 0) (sym (as_many parts))
        ∙ get_or-append-add (lent_numbers parts) (map (λ _. part.number) part.changes.now) behind 0
        ∙ same_number part.number part.changes.now behind less;
  }

-- one part more, and its place for each of its changes
placed_more : (parts : List Part) (of more : List ℕ) (part : Part) → more ≡ map (λ _. length parts) part.changes.now → part.first ≡ length of
    → ArePlaced parts of → ArePlaced (parts ++ part ∷ []) (of ++ more)
placed_more parts of more part is first so_far =
    let changes = part.changes.now in
    let count : length more ≡ length changes = ap length is ∙ as_many_numbers (length parts) changes in
    record {
      count =
          length-append of more
          ∙ ap (λ (n : ℕ). n + length more) so_far.count
          ∙ ap (λ (n : ℕ). length (lent_changes parts) + n) count
          ∙ sym (length-append (lent_changes parts) changes)
          ∙ ap length (sym (changes_more parts part));
      each = λ place less.
          either of more place (IsPlaced (parts ++ part ∷ []) place (slice_index_or (of ++ more) place 0)) less
          (λ front. rw (get_or_append_left of more 0 place front) (stays parts part place (slice_index_or of place 0) (omega (arith, front, so_far.count)) (so_far.each place front)))
          (λ behind at within.
          let here : slice_index_or (of ++ more) place 0 ≡ length parts =
          ap (λ (p : ℕ). slice_index_or (of ++ more) p 0) at
          ∙ get_or-append-add of more behind 0
          ∙ ap (λ (ns : List ℕ). slice_index_or ns behind 0) is
          ∙ same_number (length parts) changes behind (omega (arith, within, count)) in
          let there : place ≡ length (lent_changes parts) + behind = omega (arith, at, so_far.count) in
          rw (here, there) (comes parts part behind (omega (arith, first, so_far.count)) (omega (arith, within, count))));
    }

-- the changes of one group more are lent
pub lent_more : (groups : List NumberedGroup) (number : ℕ) (group : Group) (parts new : List Part) (of grown : List ℕ) (part : Part)
    → part.number ≡ number → part.changes.now ≡ group.changes → part.first ≡ length of
    → new ≡ parts ++ part ∷ [] → grown ≡ of ++ map (λ _. length parts) part.changes.now
    → AreLent groups parts of → AreLent (groups ++ (number, group) ∷ []) new grown
lent_more groups number group parts new of grown part number_is changes_are first is more so_far = record {
  placed = rw (is, more) (placed_more parts of (map (λ _. length parts) part.changes.now) part refl first so_far.placed);
  changes =
      behind_all changes_in_group groups (number, group) (lent_changes parts) (lent_changes new) so_far.changes
      (ap lent_changes is ∙ changes_more parts part ∙ ap (λ (cs : List Change). lent_changes parts ++ cs) changes_are);
  numbers =
      behind_all numbers_in_group groups (number, group) (lent_numbers parts) (lent_numbers new) so_far.numbers
      (ap lent_numbers is ∙ numbers_more parts part
      ∙ ap (λ (n : ℕ). lent_numbers parts ++ map (λ _. n) part.changes.now) number_is
      ∙ ap (λ (cs : List Change). lent_numbers parts ++ map (λ _. number) cs) changes_are);
}

-- what is found at a place, where its part is read
module _ (parts : List Part) (of : List ℕ) (place at : ℕ) (placed : ArePlaced parts of) (less : place < length of) (is : at ≡ slice_index_or of place at) where
  at_place : IsPlaced parts place at
  at_place = subst (IsPlaced parts place) (sym (is ∙ get_or_default_zero of place at less)) (placed.each place less)

  pub within_parts : at < length parts
  within_parts = slice_get_within parts at at_place.part at_place.is_part

  module _ (part : Part) (read : part ≡ slice_index_or parts at part) where
    same : at_place.part ≡ part
    same = sym (get_or_from_slice_get parts at at_place.part part at_place.is_part) ∙ sym read

    first_is : place ≡ part.first + at_place.behind
    first_is = at_place.is_place ∙ ap (λ (p : Part). p.first + at_place.behind) same

    pub behind_first : part.first ≤ place
    behind_first = omega (arith, first_is)

    pub change_found : slice_get (lent_changes parts) place ≡ slice_get part.changes.now (place - part.first)
    change_found =
        at_place.change
        ∙ ap (λ (p : Part). slice_get p.changes.now at_place.behind) same
        ∙ ap (λ (b : ℕ). slice_get part.changes.now b) (let e : at_place.behind ≡ place - part.first = omega (arith, first_is) in e)

    pub number_found : slice_index_or (lent_numbers parts) place 0 ≡ part.number
    number_found = at_place.number ∙ ap (λ (p : Part). p.number) same

-- past all changes there is no number
pub no_number : (parts : List Part) (place : ℕ) → length (lent_changes parts) ≤ place → slice_index_or (lent_numbers parts) place 0 ≡ 0
no_number parts place past = get_or_past (lent_numbers parts) place 0 (omega (arith, past, as_many parts))
