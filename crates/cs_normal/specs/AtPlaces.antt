-- What stands at the places of a name. Crates above cite it.
use Rattle.std.proofs.Common.{◌≡◌, ℕ, ◌+◌, Bool, true, false, cond, List, [], ◌∷◌, ◌++◌, length, get_or, map, refl, sym, ap, ◌∙◌, append_assoc, length-append}
use Rattle.std.specs.Cmp.{eq_by_cmp_equiv}
use Rattle.std.specs.Cmp.Lexicographic.{texts_ties}
use Rattle.std.specs.List.{filter, flat_map, range_with_len}
use Rattle.std.specs.Str.{bytes_eq}
use Rattle.std.proofs.lemmas.Cmp.{nat_list_cmp_total}
use Rattle.std.proofs.lemmas.List.{length-map}
use Rattle.std.proofs.Math.ListN.{get_or-map as get_or_map}
use Rattle.std.proofs.Math.Seq.{get_or-append_seam}
use Rattle.cs_value.specs.Facts.{by_test}
use Rattle.cs_order.specs.Groups.{has_bytes, places_of}
use Rattle.cs_order.specs.Order.{key_at, places, same_bytes}

-- a walk over what passes is a walk that passes over the rest
kept_walked : {Y : Type 0} (p : ℕ → Bool) (f : ℕ → List Y) (xs : List ℕ) → flat_map f (filter p xs) ≡ flat_map (λ x. cond (p x) (f x) []) xs
kept_walked p f [] = refl
kept_walked {Y} p f (x ∷ xs) =
    let rest = kept_walked p f xs in
    by_test (p x) _ (λ e. simp e (ap (λ (ys : List Y). f x ++ ys) rest)) (λ e. simp e rest)

-- a walk over places, seen from what stands there
walked_from : {X Y : Type 0} (h : X → List Y) (d : X) (front xs : List X) → flat_map (λ k. h (get_or (front ++ xs) k d)) (range_with_len (length front) (length xs)) ≡ flat_map h xs
walked_from h d front [] = refl
walked_from {X} {Y} h d front (x ∷ xs) =
    let rest = walked_from h d (front ++ x ∷ []) xs in
    let all : (front ++ x ∷ []) ++ xs ≡ front ++ x ∷ xs = append_assoc front (x ∷ []) xs in
    let next : length (front ++ x ∷ []) ≡ length front + 1 = length-append front (x ∷ []) in
    let here : get_or (front ++ x ∷ xs) (length front) d ≡ x = get_or-append_seam front x xs d in
    let more = rw (all, next) at rest in
    rw here (ap (λ (ys : List Y). h x ++ ys) more)

same_walk : {X Y : Type 0} (f g : X → List Y) → ((x : X) → f x ≡ g x) → (xs : List X) → flat_map f xs ≡ flat_map g xs
same_walk f g same [] = refl
same_walk f g same (x ∷ xs) =
    let here = same x in
    let rest = same_walk f g same xs in
    cc

-- the two tests of a name are one
one_test : (name other : List ℕ) → same_bytes name other ≡ bytes_eq other name
one_test name other =
    (eq_by_cmp_equiv nat_list_cmp_total).symm name other ∙ sym (texts_ties other name)

-- what stands at the places of a name is what has the name
pub at_places : {X Y : Type 0} (name_of : X → List ℕ) (h : X → List Y) (d : X) → name_of d ≡ [] → (name : List ℕ) (xs : List X) → flat_map (λ k. h (get_or xs k d)) (places_of (map name_of xs) name) ≡ flat_map (λ x. cond (bytes_eq (name_of x) name) (h x) []) xs
at_places {X} {Y} name_of h d unnamed name xs =
    let names = map name_of xs in
    let named : ℕ → Bool = has_bytes names name in
    let picked : X → List Y = λ x. cond (bytes_eq (name_of x) name) (h x) [] in
    let name_at : (k : ℕ) → key_at names k ≡ name_of (get_or xs k d) = λ k. ap (λ (e : List ℕ). get_or names k e) (sym unnamed) ∙ get_or_map name_of xs k d in
    let test : (k : ℕ) → named k ≡ bytes_eq (name_of (get_or xs k d)) name = λ k. one_test name (key_at names k) ∙ ap (λ (n : List ℕ). bytes_eq n name) (name_at k) in
    kept_walked named (λ (k : ℕ). h (get_or xs k d)) (places names)
    ∙ same_walk (λ (k : ℕ). cond (named k) (h (get_or xs k d)) []) (λ (k : ℕ). picked (get_or xs k d)) (λ (k : ℕ). ap (λ (b : Bool). cond b (h (get_or xs k d)) []) (test k)) (places names)
    ∙ ap (λ (n : ℕ). flat_map (λ k. picked (get_or xs k d)) (range_with_len 0 n)) (length-map xs name_of)
    ∙ walked_from picked d [] xs
