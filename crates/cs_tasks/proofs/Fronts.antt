-- Keys that all have one front are grouped as they are without it.
use Rattle.std.proofs.Common.{◌≡◌, ◌<◌, ◌+◌, ◌++◌, ℕ, zero, suc, Bool, List, [], ◌∷◌, length, get_or, map, refl, sym, ap, subst, ◌∙◌, arith}
use Rattle.std.specs.Prelude.{Result, Ok, Err, IfOk}
use Rattle.std.specs.List.{AllByRecursion, Contains, filter, range_with_len}
use Rattle.std.specs.List.Sorted.{IsStrictlySortedBy}
use Rattle.std.specs.Ordering.{ordering_then, is_eq}
use Rattle.std.specs.declared.cmp.Ordering.{Ordering}
use Rattle.std.specs.declared.cmp.Ordering.TheVariants.{Less}
use Rattle.std.proofs.lemmas.Cmp.{nat_cmp_total, tied_itself}
use Rattle.std.proofs.lemmas.List.{get_or-map, length-map}
use Rattle.std.proofs.lemmas.List.Elements.{Contains-get_or}
use Rattle.std.proofs.lemmas.Map.Keys.{sorted_head, sorted_tail}
use Rattle.cs_order.specs.Groups.{IsGrouping, has_bytes, places_of}
use Rattle.cs_order.specs.Order.{Keys, by_bytes, key_at}

cmp_behind : (front some other : List ℕ) → by_bytes (front ++ some) (front ++ other) ≡ by_bytes some other
cmp_behind [] some other = refl
cmp_behind (x ∷ front) some other =
    ap (λ (o : Ordering). ordering_then o (by_bytes (front ++ some) (front ++ other))) (tied_itself nat_cmp_total x) ∙ cmp_behind front some other

filters_agree : (p q : ℕ → Bool) (from long : ℕ) → ((i : ℕ) → i < from + long → p i ≡ q i) → filter p (range_with_len from long) ≡ filter q (range_with_len from long)
filters_agree p q from zero same = refl
filters_agree p q from (suc long) same =
    let here = same from (omega arith) in
    let rest = filters_agree p q (from + 1) long (λ i less. same i (omega (arith, less))) in
    rw (here, rest) refl

module _ (front : List ℕ) (keys : Keys) where
  abbrev longer : Keys
  longer = map (λ key. front ++ key) keys

  -- the places of a key
  places_behind : (key : List ℕ) → places_of longer (front ++ key) ≡ places_of keys key
  places_behind key =
      ap (λ n. filter (has_bytes longer (front ++ key)) (range_with_len 0 n)) (length-map keys (λ k. front ++ k))
      ∙ filters_agree (has_bytes longer (front ++ key)) (has_bytes keys key) 0 (length keys)
      (λ place less.
      let within : place < length keys = omega (arith, less) in
      ap (λ at. is_eq (by_bytes (front ++ key) at)) (get_or-map (λ k. front ++ k) keys place [] [] within)
      ∙ ap is_eq (cmp_behind front key (key_at keys place)))

  each_behind : (distinct : Keys) → map (places_of keys) distinct ≡ map (places_of longer) (map (λ key. front ++ key) distinct)
  each_behind [] = refl
  each_behind (key ∷ distinct) =
      ap (λ first. first ∷ map (places_of keys) distinct) (sym (places_behind key))
      ∙ ap (λ more. places_of longer (front ++ key) ∷ more) (each_behind distinct)

below_behind : (front key : List ℕ) (keys : Keys) → AllByRecursion (λ other. by_bytes key other ≡ Less) keys
    → AllByRecursion (λ other. by_bytes (front ++ key) other ≡ Less) (map (λ k. front ++ k) keys)
below_behind front key [] below = tt
below_behind front key (k ∷ keys) below = (cmp_behind front key k ∙ below.0, below_behind front key keys below.1)

rise_behind : (front : List ℕ) (keys : Keys) → IsStrictlySortedBy by_bytes keys → IsStrictlySortedBy by_bytes (map (λ key. front ++ key) keys)
unfolding IsStrictlySortedBy
rise_behind front [] rise = tt
rise_behind front (key ∷ keys) rise = (below_behind front key keys (sorted_head by_bytes key keys rise), rise_behind front keys (sorted_tail by_bytes key keys rise))

module _ (front : List ℕ) where
  contains_behind : (keys : Keys) (key : List ℕ) → Contains keys key → Contains (map (λ k. front ++ k) keys) (front ++ key)
  contains_behind keys key (at, within, is) = (
    at,
    rw (length-map keys (λ k. front ++ k)) within,
    get_or-map (λ k. front ++ k) keys at key (front ++ key) within ∙ ap (λ k. front ++ k) is,
  )

  without : (keys : Keys) (long : List ℕ) → Contains (map (λ k. front ++ k) keys) long → (key : List ℕ) × Contains keys key × (long ≡ front ++ key)
  without keys long (at, within, is) =
      let less : at < length keys = rw (length-map keys (λ k. front ++ k)) at within in
      (get_or keys at [], Contains-get_or keys at [] less, sym is ∙ get_or-map (λ k. front ++ k) keys at [] long less)

  -- where each key of these is one of those, the same holds with the front
  passes : (some others : Keys) → ((key : List ℕ) → Contains some key → Contains others key) → (long : List ℕ)
      → Contains (map (λ k. front ++ k) some) long → Contains (map (λ k. front ++ k) others) long
  passes some others told long there =
      let found = without some long there in
      subst (λ k. Contains (map (λ k. front ++ k) others) k) (sym found.2) (contains_behind others found.0 (told found.0 found.1))

pub grouping_behind : (front : List ℕ) (keys : Keys) (groups : List (List ℕ)) → IsGrouping keys groups → IsGrouping (map (λ key. front ++ key) keys) groups
grouping_behind front keys groups grouping = record {
  distinct = map (λ key. front ++ key) grouping.distinct;
  rising = rise_behind front grouping.distinct grouping.rising;
  complete = λ long. (
    passes front keys grouping.distinct (λ key. (grouping.complete key).0) long,
    passes front grouping.distinct keys (λ key. (grouping.complete key).1) long,
  );
  each = grouping.each ∙ each_behind front keys grouping.distinct;
}

pub groupings_behind : {E : Type 0} (front : List ℕ) (keys : Keys) (found : Result (List (List ℕ)) E) → IfOk found (λ groups. IsGrouping keys groups)
    → IfOk found (λ groups. IsGrouping (map (λ key. front ++ key) keys) groups)
groupings_behind front keys (Ok groups) grouping = grouping_behind front keys groups grouping
groupings_behind front keys (Err fault) grouping = tt
