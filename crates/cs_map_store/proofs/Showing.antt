-- What a change of a map's entries changes of what they show.
use Rattle.std.proofs.Common.{◌≡◌, ℕ, zero, suc, ◌<◌, Bool, true, false, cond, List, [], ◌∷◌, Option, Some, None, refl, sym, ap, ◌∙◌, arith}
use Rattle.std.specs.Prelude.{pos}
use Rattle.std.proofs.Math.Dec.{ltb, eqb}
use borrow.Author.Tests.{ltb-true, ltb-false, eqb-true, eqb-false}
use Rattle.std.specs.declared.cmp.Ordering.{Ordering}
use Rattle.std.specs.declared.cmp.Ordering.TheVariants.{Less, Equal, Greater}
use Rattle.std.specs.Ordering.{MatchOrdering, is_eq, eq_by_cmp, int_cmp, nat_cmp, ordering_then}
use Rattle.std.specs.Cmp.{eq_by_cmp_equiv, alike_right, nat_cmp_is, ranked}
use Rattle.std.specs.Cmp.Lexicographic.{slice_cmp}
use Rattle.std.specs.Map.{lookup, KeepsOthers}
use Rattle.std.specs.BTreeMap.{is_at}
use Rattle.std.specs.FinMap.{get, get-empty, same_map}
use Rattle.cs_order.specs.Facts.{equal_from}
use Rattle.cs_store.specs.Contents.{StorePlace, Bodies, place_cmp}
use Rattle.cs_store.specs.Written.{with_body, optional_bytes}
use Rattle.cs_map_store.specs.Slots.{SlotKey, Slot, key_cmp, table_number, place_of, shown}
use Rattle.cs_map_store.proofs.Maps.{place_total, place_exact, get-with_body}

-- two numbers compare as the integers that they are
pub int_cmp-pos : (a b : ℕ) → int_cmp (pos a) (pos b) ≡ nat_cmp a b
int_cmp-pos a b = three (ltb a b) (ltb b a) (eqb a b) refl refl refl
  where
    three : (l g e : Bool) → ltb a b ≡ l → ltb b a ≡ g → eqb a b ≡ e → cond l Less (cond g Greater Equal) ≡ cond l Less (cond e Equal Greater)
    three true g e p q r = refl
    three false true true p q r = absurd (omega (arith, ltb-true b a q, eqb-true a b r))
    three false true false p q r = refl
    three false false true p q r = refl
    three false false false p q r = absurd (eqb-false a b r (omega (arith, ltb-false a b p, ltb-false b a q)))

one_up : (a b : ℕ) (o : Ordering) → MatchOrdering o (a < b) (a ≡ b) (b < a) → MatchOrdering o (suc a < suc b) (suc a ≡ suc b) (suc b < suc a)
one_up a b Less h = omega (arith, h)
one_up a b Equal h = ap suc h
one_up a b Greater h = omega (arith, h)

pub number_cmp : (a b : ℕ) → int_cmp (table_number a) (table_number b) ≡ nat_cmp a b
number_cmp zero zero = refl
number_cmp zero (suc b) = nat_cmp_is zero (suc b) Less (omega arith)
number_cmp (suc a) zero = nat_cmp_is (suc a) zero Greater (omega arith)
number_cmp (suc a) (suc b) = int_cmp-pos a b ∙ nat_cmp_is (suc a) (suc b) (nat_cmp a b) (one_up a b (nat_cmp a b) (ranked a b (nat_cmp a b) refl))

-- keys compare as their places do
pub key_cmp-place : (x y : SlotKey) → place_cmp (place_of x) (place_of y) ≡ key_cmp x y
key_cmp-place x y = ap (λ o. ordering_then o (slice_cmp nat_cmp x.1.items y.1.items)) (number_cmp x.0 y.0)

abbrev pub joined : Option Slot → Option (List ℕ)
joined None = None
joined (Some s) = optional_bytes s

-- the slot at a place
abbrev pub look : StorePlace → List (SlotKey × Slot) → Option Slot
look q es = lookup (λ k. eq_by_cmp place_cmp q (place_of k)) es

pub get-shown : (es : List (SlotKey × Slot)) (q : StorePlace) → get (shown es) q ≡ joined (look q es)
unfolding shown
get-shown [] q = get-empty place_cmp q
get-shown (e ∷ es) q = get-with_body (shown es) (place_of e.0) (optional_bytes e.1) q
    ∙ ap (cond (eq_by_cmp place_cmp q (place_of e.0)) (optional_bytes e.1)) (get-shown es q)
    ∙ elim (eq_by_cmp place_cmp q (place_of e.0)) as (λ b. cond b (optional_bytes e.1) (joined (look q es)) ≡ joined (cond b (Some e.1) (look q es))) [ true ↦ refl | false ↦ refl ]

-- a place that ties with a key has the slot of the key
pub look_at_key : (k : SlotKey) (q : StorePlace) (es : List (SlotKey × Slot)) → place_cmp q (place_of k) ≡ Equal → look q es ≡ lookup (is_at (key_cmp k)) es
look_at_key k q es t = λ i. lookup (λ x. is_eq ((place_total.congr q (place_of k) (place_of x) t ∙ key_cmp-place k x) i)) es

pub look_updated : (old new : List (SlotKey × Slot)) (k : SlotKey) (w : Option Slot) → lookup (is_at (key_cmp k)) new ≡ w → KeepsOthers (eq_by_cmp key_cmp) (is_at (key_cmp k)) old new
    → (q : StorePlace) → look q new ≡ cond (eq_by_cmp place_cmp q (place_of k)) w (look q old)
unfolding KeepsOthers
look_updated old new k w at others q =
    elim (place_cmp q (place_of k)) as (λ o. place_cmp q (place_of k) ≡ o → look q new ≡ cond (is_eq o) w (look q old)) [
      | Less ↦ λ t. apart (ap is_eq t)
      | Equal ↦ λ t. look_at_key k q new t ∙ at
      | Greater ↦ λ t. apart (ap is_eq t)
    ] refl
  where
    apart : eq_by_cmp place_cmp q (place_of k) ≡ false → look q new ≡ look q old
    apart none = others (λ x. eq_by_cmp place_cmp q (place_of x))
        (λ x y t. ap is_eq (place_total.congr q (place_of x) (place_of y) (equal_from _ t) ∙ key_cmp-place x y))
        (λ x t. ap is_eq (sym (alike_right place_total (place_of k) (place_of x) q (key_cmp-place k x ∙ equal_from _ t))) ∙ none)

-- a slot that is written
pub shown_written : (old new : List (SlotKey × Slot)) (k : SlotKey) (w : Slot) → lookup (is_at (key_cmp k)) new ≡ Some w → KeepsOthers (eq_by_cmp key_cmp) (is_at (key_cmp k)) old new
    → shown new ≡ with_body (shown old) (place_of k) (optional_bytes w)
shown_written old new k w at others = same_map place_total place_exact _ _ (λ q.
    get-shown new q ∙ ap joined (look_updated old new k (Some w) at others q)
    ∙ elim (eq_by_cmp place_cmp q (place_of k)) as (λ b. joined (cond b (Some w) (look q old)) ≡ cond b (optional_bytes w) (joined (look q old))) [ true ↦ refl | false ↦ refl ]
    ∙ sym (get-with_body (shown old) (place_of k) (optional_bytes w) q ∙ ap (cond (eq_by_cmp place_cmp q (place_of k)) (optional_bytes w)) (get-shown old q)))

-- a slot with no value comes or goes
pub shown_kept : (old new : List (SlotKey × Slot)) (k : SlotKey) (w : Option Slot) → joined w ≡ None → joined (lookup (is_at (key_cmp k)) old) ≡ None
    → lookup (is_at (key_cmp k)) new ≡ w → KeepsOthers (eq_by_cmp key_cmp) (is_at (key_cmp k)) old new → shown new ≡ shown old
shown_kept old new k w none was at others = same_map place_total place_exact _ _ (λ q.
    get-shown new q ∙ ap joined (look_updated old new k w at others q)
    ∙ elim (place_cmp q (place_of k)) as (λ o. place_cmp q (place_of k) ≡ o → joined (cond (is_eq o) w (look q old)) ≡ joined (look q old)) [
      | Less ↦ λ t. refl
      | Equal ↦ λ t. none ∙ sym (ap joined (look_at_key k q old t) ∙ was)
      | Greater ↦ λ t. refl
    ] refl
    ∙ sym (get-shown old q))

-- the value at a key
pub get_at_key : (k : SlotKey) (es : List (SlotKey × Slot)) → get (shown es) (place_of k) ≡ joined (lookup (is_at (key_cmp k)) es)
get_at_key k es = get-shown es (place_of k) ∙ ap joined (look_at_key k (place_of k) es (equal_from _ ((eq_by_cmp_equiv place_total).refl (place_of k))))

-- to remove what is not there changes nothing
pub remove_nothing : (m : Bodies) (p : StorePlace) → get m p ≡ None → with_body m p None ≡ m
remove_nothing m p none = same_map place_total place_exact _ _ (λ q. get-with_body m p None q
    ∙ elim (place_cmp q p) as (λ o. place_cmp q p ≡ o → cond (is_eq o) None (get m q) ≡ get m q) [
      | Less ↦ λ t. refl
      | Equal ↦ λ t. sym (ap (get m) (place_exact q p t) ∙ none)
      | Greater ↦ λ t. refl
    ] refl)
