-- Where slots with no value may stand, from one call on the map to the next.
use Rattle.std.proofs.Common.{◌≡◌, ℕ, zero, suc, ◌+◌, ◌<◌, Bool, true, false, cond, ◌||◌, List, [], ◌∷◌, ◌++◌, Option, Some, None, refl, sym, ap, subst, ◌∙◌, get_or, drop, length, arith, Vec, IsSome, is_some, take}
use Rattle.std.specs.declared.alloc.Global.{Global}
use Rattle.std.specs.Ordering.{is_eq, nat_cmp, ordering_then}
use Rattle.std.specs.Map.{lookup}
use Rattle.std.specs.BTreeMap.{BTreeMap, get, is_at, get_by, UpdatesBy}
use Rattle.std.proofs.lemmas.List.{drop_more}
use Rattle.std.proofs.lemmas.List.Elements.{All-more}
use Rattle.std.proofs.lemmas.List.Folds.{list_any-append}
use Rattle.cs_order.specs.Facts.{equal_from}
use Rattle.cs_order.specs.Order.{by_bytes}
use Rattle.cs_map_store.specs.Slots.{SlotKey, Slot, key_cmp, place_of}
use Rattle.cs_map_store.specs.declared.slots.Step.{Step}
use Rattle.cs_map_store.specs.Steps.{step_keys, is_among, left_empty, is_empty_slot, HasSlot, HasSlots, IsEmptyOnlyAt}
use Rattle.cs_map_store.proofs.Maps.{place_total}
use Rattle.cs_map_store.proofs.Showing.{key_cmp-place}

abbrev ties : SlotKey → SlotKey → Bool
ties k q = is_at (key_cmp k) q

pub from_none : (ks : List SlotKey) (m : BTreeMap SlotKey Slot) → IsEmptyOnlyAt [] m → IsEmptyOnlyAt ks m
unfolding IsEmptyOnlyAt
from_none ks m was q e = absurd (let no : false ≡ true = was q e in cc)

pub one_more : (ks : List SlotKey) (k : SlotKey) (m : BTreeMap SlotKey Slot) → IsEmptyOnlyAt ks m → IsEmptyOnlyAt (k ∷ ks) m
unfolding IsEmptyOnlyAt
one_more ks k m was q e = elim (ties k q) as (λ b. (b || is_among ks q) ≡ true) [ true ↦ refl | false ↦ was q e ]

-- a key whose slot is written
pub emptied : (ks : List SlotKey) (old new : BTreeMap SlotKey Slot) (k : SlotKey) (w : Option Slot) → UpdatesBy key_cmp (key_cmp k) old new w → IsEmptyOnlyAt (k ∷ ks) old → IsEmptyOnlyAt (k ∷ ks) new
unfolding IsEmptyOnlyAt
emptied ks old new k w u was q e = elim (ties k q) as (λ b. ties k q ≡ b → (b || is_among ks q) ≡ true) [
  | true ↦ λ yes. refl
  | false ↦ λ no. ap (λ b. b || is_among ks q) (sym no) ∙ was q (sym (u.2 q no) ∙ e)
] refl

-- a key whose slot gets a value, or goes
pub filled_at : (ks : List SlotKey) (old new : BTreeMap SlotKey Slot) (k : SlotKey) (w : Option Slot) → (w ≡ Some None → ⊥) → UpdatesBy key_cmp (key_cmp k) old new w → IsEmptyOnlyAt (k ∷ ks) old → IsEmptyOnlyAt ks new
unfolding IsEmptyOnlyAt
filled_at ks old new k w has u was q e = elim (ties k q) as (λ b. ties k q ≡ b → is_among ks q ≡ true) [
  | true ↦ λ yes. absurd (has (sym (ap (λ b. cond b w (get key_cmp old q)) yes) ∙ sym (u.0 q) ∙ e))
  | false ↦ λ no. ap (λ b. b || is_among ks q) (sym no) ∙ was q (sym (u.2 q no) ∙ e)
] refl

-- keys that tie have one slot
one_slot : (m : BTreeMap SlotKey Slot) (k q : SlotKey) → ties k q ≡ true → get_by (key_cmp k) m ≡ get key_cmp m q
one_slot m k q t = λ i. get_by (λ x. (sym (key_cmp-place k x) ∙ place_total.congr (place_of k) (place_of q) (place_of x) (key_cmp-place k q ∙ equal_from _ t) ∙ key_cmp-place q x) i) m

-- a key whose slot has a value, or that has none
pub filled_there : (ks : List SlotKey) (m : BTreeMap SlotKey Slot) (k : SlotKey) → (get_by (key_cmp k) m ≡ Some None → ⊥) → IsEmptyOnlyAt (k ∷ ks) m → IsEmptyOnlyAt ks m
unfolding IsEmptyOnlyAt
filled_there ks m k has was q e = elim (ties k q) as (λ b. ties k q ≡ b → is_among ks q ≡ true) [
  | true ↦ λ yes. absurd (has (one_slot m k q yes ∙ e))
  | false ↦ λ no. ap (λ b. b || is_among ks q) (sym no) ∙ was q e
] refl

-- a slot that is made, under a copy of the key
pub made_empty : (ks : List SlotKey) (old new : BTreeMap SlotKey Slot) (k : SlotKey) (v : Vec ℕ Global) → v.items ≡ k.1.items → UpdatesBy key_cmp (key_cmp (k.0, v)) old new (Some None)
    → IsEmptyOnlyAt ks old → IsEmptyOnlyAt (k ∷ ks) new
unfolding IsEmptyOnlyAt
made_empty ks old new k v same u was q e =
    (λ i. is_eq (ordering_then (nat_cmp k.0 q.0) (by_bytes (sym same i) q.1.items)) || is_among ks q)
    ∙ emptied ks old new (k.0, v) (Some None) u (one_more ks (k.0, v) old was) q e

-- a key that is one of the steps'
among_again : (steps : List Step) (i : ℕ) (d : Step) (q : SlotKey) → i < length steps → (ties (get_or steps i d).key q || is_among (step_keys steps) q) ≡ true → is_among (step_keys steps) q ≡ true
among_again [] i d q h t = absurd (omega (arith, h))
among_again (s ∷ ss) zero d q h t = elim (ties s.key q) as (λ b. (b || (b || is_among (step_keys ss) q)) ≡ true → (b || is_among (step_keys ss) q) ≡ true) [ true ↦ λ _. refl | false ↦ λ r. r ] t
among_again (s ∷ ss) (suc i) d q h t = elim (ties s.key q) as (λ b. (ties (get_or ss i d).key q || (b || is_among (step_keys ss) q)) ≡ true → (b || is_among (step_keys ss) q) ≡ true) [
  | true ↦ λ _. refl
  | false ↦ λ r. among_again ss i d q (omega (arith, h)) r
] t

pub among_steps : (steps : List Step) (i : ℕ) (s : Step) (m : BTreeMap SlotKey Slot) → i < length steps → s ≡ get_or steps i s → IsEmptyOnlyAt (s.key ∷ step_keys steps) m → IsEmptyOnlyAt (step_keys steps) m
unfolding IsEmptyOnlyAt
among_steps steps i s m h is was q e = among_again steps i s q h (ap (λ (z : Step). ties z.key q || is_among (step_keys steps) q) (sym is) ∙ was q e)

-- the keys that are left to sweep
pub left_steps : (steps : List Step) (i : ℕ) (s : Step) (m : BTreeMap SlotKey Slot) → i < length steps → s ≡ get_or steps i s → IsEmptyOnlyAt (step_keys (drop i steps)) m → IsEmptyOnlyAt (s.key ∷ step_keys (drop (i + 1) steps)) m
left_steps steps i s m h is was = subst (λ z. IsEmptyOnlyAt (z.key ∷ step_keys (drop (i + 1) steps)) m) (sym is) (subst (λ ss. IsEmptyOnlyAt (step_keys ss) m) (drop_more steps i s h) was)

pub left_keys : (ks : List SlotKey) (i : ℕ) (k : SlotKey) (m : BTreeMap SlotKey Slot) → i < length ks → k ≡ get_or ks i k → IsEmptyOnlyAt (drop i ks) m → IsEmptyOnlyAt (k ∷ drop (i + 1) ks) m
left_keys ks i k m h is was = subst (λ z. IsEmptyOnlyAt (z ∷ drop (i + 1) ks) m) (sym is) (subst (λ zs. IsEmptyOnlyAt zs m) (drop_more ks i k h) was)

-- a slot that is written or cleared
pub left_written : (ks : List SlotKey) (old new : BTreeMap SlotKey Slot) (k : SlotKey) (s : Slot) → UpdatesBy key_cmp (key_cmp k) old new (Some s) → IsEmptyOnlyAt (k ∷ ks) old → IsEmptyOnlyAt (left_empty s k ks) new
left_written ks old new k None u = emptied ks old new k (Some None) u
left_written ks old new k (Some v) u = filled_at ks old new k (Some (Some v)) (λ e. cc) u

pub left_unwritten : (ks : List SlotKey) (m : BTreeMap SlotKey Slot) (k : SlotKey) (s : Slot) → None ≡ get_by (key_cmp k) m → IsEmptyOnlyAt (k ∷ ks) m → IsEmptyOnlyAt (left_empty s k ks) m
left_unwritten ks m k None none was = was
left_unwritten ks m k (Some v) none was = filled_there ks m k (λ e. let no : ◌≡◌ {A = Option Slot} None (Some None) = none ∙ e in cc) was

-- a key that is noted in place of a step
pub noted : (ks cleared : List SlotKey) (k : SlotKey) (m : BTreeMap SlotKey Slot) → IsEmptyOnlyAt (k ∷ (ks ++ cleared)) m → IsEmptyOnlyAt (ks ++ (cleared ++ (k ∷ []))) m
unfolding IsEmptyOnlyAt
noted ks cleared k m was q e =
    list_any-append (λ x. ties x q) ks (cleared ++ (k ∷ [])) ∙ ap (λ b. is_among ks q || b) (list_any-append (λ x. ties x q) cleared (k ∷ []))
    ∙ turned (ties k q) (is_among ks q) (is_among cleared q) (ap (λ b. ties k q || b) (sym (list_any-append (λ x. ties x q) ks cleared)) ∙ was q e)
  where
    turned : (a b c : Bool) → (a || (b || c)) ≡ true → (b || (c || (a || false))) ≡ true
    turned true true c h = refl
    turned true false true h = refl
    turned true false false h = refl
    turned false true c h = refl
    turned false false true h = refl
    turned false false false h = h

pub left_noted : (ks cleared : List SlotKey) (k : SlotKey) (s : Slot) (m n : BTreeMap SlotKey Slot) → is_some s ≡ false → ((js : List SlotKey) → IsEmptyOnlyAt (k ∷ js) m → IsEmptyOnlyAt (left_empty s k js) n)
    → IsEmptyOnlyAt (k ∷ (ks ++ cleared)) m → IsEmptyOnlyAt (ks ++ (cleared ++ (k ∷ []))) n
left_noted ks cleared k None m n clears wrote was = noted ks cleared k n (wrote (ks ++ cleared) was)
left_noted ks cleared k (Some v) m n clears wrote was = absurd cc

pub left_set : (ks : List SlotKey) (k : SlotKey) (s : Slot) (m n : BTreeMap SlotKey Slot) → is_some s ≡ true → ((js : List SlotKey) → IsEmptyOnlyAt (k ∷ js) m → IsEmptyOnlyAt (left_empty s k js) n) → IsEmptyOnlyAt (k ∷ ks) m → IsEmptyOnlyAt ks n
left_set ks k None m n clears wrote was = absurd cc
left_set ks k (Some v) m n clears wrote was = wrote ks was

-- maps of the same entries
pub same_slots : (ks : List SlotKey) (m n : BTreeMap SlotKey Slot) → n.entries ≡ m.entries → IsEmptyOnlyAt ks m → IsEmptyOnlyAt ks n
unfolding IsEmptyOnlyAt
same_slots ks m n same was q e = was q (ap (λ (es : List (SlotKey × Slot)). lookup (is_at (key_cmp q)) es) (sym same) ∙ e)

pub new_filled : (m : BTreeMap SlotKey Slot) → m.entries ≡ [] → IsEmptyOnlyAt [] m
unfolding IsEmptyOnlyAt
new_filled m none q e = let no : ◌≡◌ {A = Option Slot} None (Some None) = sym (ap (λ (es : List (SlotKey × Slot)). lookup (is_at (key_cmp q)) es) none) ∙ e in absurd cc

pub empty_there : (o : Option Slot) → is_empty_slot o ≡ true → Some None ≡ o
empty_there None h = absurd cc
empty_there (Some None) h = refl
empty_there (Some (Some v)) h = absurd cc

pub not_empty_there : (o : Option Slot) → is_empty_slot o ≡ false → o ≡ Some None → ⊥
not_empty_there o h e = let no : false ≡ true = sym h ∙ ap is_empty_slot e in cc

-- ---- one step of a list of steps

pub noted_step : (steps rest : List Step) (cleared keys : List SlotKey) (s : Step) (m n : BTreeMap SlotKey Slot) → steps ≡ s ∷ rest → is_some s.value ≡ false
    → ((js : List SlotKey) → IsEmptyOnlyAt (s.key ∷ js) m → IsEmptyOnlyAt (left_empty s.value s.key js) n) → keys ≡ cleared ++ (s.key ∷ []) → IsEmptyOnlyAt (step_keys steps ++ cleared) m → IsEmptyOnlyAt (step_keys rest ++ keys) n
noted_step steps rest cleared keys s m n first clears wrote noted_is was = subst (λ (ks : List SlotKey). IsEmptyOnlyAt (step_keys rest ++ ks) n) (sym noted_is)
    (left_noted (step_keys rest) cleared s.key s.value m n clears wrote (subst (λ (ss : List Step). IsEmptyOnlyAt (step_keys ss ++ cleared) m) first was))

pub set_step : (steps rest : List Step) (cleared : List SlotKey) (s : Step) (m n : BTreeMap SlotKey Slot) → steps ≡ s ∷ rest → is_some s.value ≡ true
    → ((js : List SlotKey) → IsEmptyOnlyAt (s.key ∷ js) m → IsEmptyOnlyAt (left_empty s.value s.key js) n) → IsEmptyOnlyAt (step_keys steps ++ cleared) m → IsEmptyOnlyAt (step_keys rest ++ cleared) n
set_step steps rest cleared s m n first sets wrote was = left_set (step_keys rest ++ cleared) s.key s.value m n sets wrote (subst (λ (ss : List Step). IsEmptyOnlyAt (step_keys ss ++ cleared) m) first was)

pub has_more : (m n : BTreeMap SlotKey Slot) (steps : List Step) (i : ℕ) (s : Step) → i < length steps → s ≡ get_or steps i s → ((k : SlotKey) → HasSlot m k → HasSlot n k)
    → (IsSome s.value → HasSlot n s.key) → HasSlots m (take i steps) → HasSlots n (take (i + 1) steps)
has_more m n steps i s h is kept made has = All-more (λ (z : Step). IsSome z.value → HasSlot n z.key) steps i s h (λ k d j some. kept (get_or (take i steps) k d).key (has k d j some))
    (subst (λ (z : Step). IsSome z.value → HasSlot n z.key) is made)
