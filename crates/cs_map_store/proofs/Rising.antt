-- Entries whose places rise.
use Rattle.std.proofs.Common.{◌≡◌, Bool, true, false, ◌&&◌, List, [], ◌∷◌, ◌++◌, refl, sym, subst, T}
use Rattle.std.specs.declared.cmp.Ordering.{Ordering}
use Rattle.std.specs.declared.cmp.Ordering.TheVariants.{Less, Equal, Greater}
use Rattle.std.specs.Ordering.{is_lt, is_gt}
use Rattle.std.specs.FinMap.{is_sorted}
use Rattle.std.specs.FinMap.Entries.{below_all}
use Rattle.cs_store.specs.Contents.{StorePlace, place_cmp}
use Rattle.cs_leaf.specs.Entries.{Entry}
use Rattle.cs_leaf.specs.Edits.{AreBelow}
use Rattle.cs_map_store.proofs.Maps.{place_total, place_exact}

pub first : (a b : Bool) → T (a && b) → T a
first true b h = tt
first false b h = absurd h

pub second : (a b : Bool) → T (a && b) → T b
second true b h = h
second false b h = absurd h

pub both : (a b : Bool) → T a → T b → T (a && b)
both true b p q = q
both false b p q = p

pub less : (o : Ordering) → T (is_lt o) → o ≡ Less
less Less h = refl
less Equal h = absurd h
less Greater h = absurd h

pub is_less : (o : Ordering) → o ≡ Less → T (is_lt o)
is_less o h = subst (λ r. T (is_lt r)) (sym h) tt

below_at : (x : StorePlace) (xs ys : List Entry) (f : Entry) → T (below_all place_cmp x (xs ++ f ∷ ys)) → place_cmp x f.0 ≡ Less
below_at x [] ys f h = less _ (first _ _ h)
below_at x (e ∷ xs) ys f h = below_at x xs ys f (second _ _ h)

pub below_split : (xs ys : List Entry) (f : Entry) → T (is_sorted place_cmp (xs ++ f ∷ ys)) → AreBelow xs f.0
below_split [] ys f h = tt
below_split (x ∷ xs) ys f h = (below_at x.0 xs ys f (first _ _ h), below_split xs ys f (second _ _ h))

pub sorted_back : (xs ys : List Entry) → T (is_sorted place_cmp (xs ++ ys)) → T (is_sorted place_cmp ys)
sorted_back [] ys h = h
sorted_back (x ∷ xs) ys h = sorted_back xs ys (second _ _ h)

pub below_front : (x : StorePlace) (xs ys : List Entry) → T (below_all place_cmp x (xs ++ ys)) → T (below_all place_cmp x xs)
below_front x [] ys h = tt
below_front x (e ∷ xs) ys h = both _ _ (first _ _ h) (below_front x xs ys (second _ _ h))

pub sorted_front : (xs ys : List Entry) → T (is_sorted place_cmp (xs ++ ys)) → T (is_sorted place_cmp xs)
sorted_front [] ys h = tt
sorted_front (x ∷ xs) ys h = both _ _ (below_front x.0 xs ys (first _ _ h)) (sorted_front xs ys (second _ _ h))

pub below_less : (xs : List Entry) (f p : StorePlace) → place_cmp f p ≡ Less → AreBelow xs f → AreBelow xs p
below_less [] f p l h = tt
below_less (x ∷ xs) f p l h = (place_total.trans x.0 f p h.0 l, below_less xs f p l h.1)

-- a place that isn't above another
pub below_most : (xs : List Entry) (f p : StorePlace) → is_gt (place_cmp f p) ≡ false → AreBelow xs f → AreBelow xs p
below_most xs f p = elim (place_cmp f p) as (λ o. place_cmp f p ≡ o → is_gt o ≡ false → AreBelow xs f → AreBelow xs p) [
  | Less ↦ λ t n h. below_less xs f p t h
  | Equal ↦ λ t n h. subst (AreBelow xs) (place_exact f p t) h
  | Greater ↦ λ t n h. absurd cc
] refl

pub above_less : (ys : List Entry) (p f : StorePlace) → place_cmp p f ≡ Less → T (below_all place_cmp f ys) → T (below_all place_cmp p ys)
above_less [] p f l h = tt
above_less (y ∷ ys) p f l h = both _ _ (is_less _ (place_total.trans p f y.0 l (less _ (first _ _ h)))) (above_less ys p f l (second _ _ h))
