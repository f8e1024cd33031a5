-- What one call on the map does to what it shows.
use Rattle.std.proofs.Common.{◌≡◌, ℕ, Bool, true, false, cond, List, Option, Some, None, refl, sym, ap, subst, ◌∙◌, is_some, IsSome, suc, get_or, ◌∷◌, map, fold, arith, Vec, Result, Ok, Err, IfOk}
use Rattle.std.specs.declared.alloc.Global.{Global}
use Rattle.std.specs.Ordering.{nat_cmp, ordering_then}
use Rattle.std.specs.Cmp.Lexicographic.{slice_cmp}
use Rattle.std.specs.Map.{lookup}
use Rattle.std.specs.BTreeMap.{BTreeMap, is_at, get_by, UpdatesBy}
use Rattle.std.specs.FinMap as finite
use Rattle.cs_store.specs.Contents.{Bodies}
use Rattle.cs_store.specs.Written.{optional_bytes, with_body}
use Rattle.cs_map_store.specs.Slots.{SlotKey, Slot, key_cmp, place_of, shown, write_to}
use Rattle.cs_map_store.specs.declared.slots.Step.{Step}
use Rattle.cs_map_store.specs.Steps.{step_write, HasSlot, HasSlots}
use Rattle.cs_map_store.proofs.Showing.{joined, shown_kept, shown_written, get_at_key, remove_nothing}

none_from : {X : Type 0} (o : Option X) → is_some o ≡ false → o ≡ None
none_from None h = refl
none_from (Some x) h = absurd cc

-- another key with the same bytes
same_bytes : (k : SlotKey) (v : Vec ℕ Global) → v.items ≡ k.1.items → (es : List (SlotKey × Slot)) → lookup (is_at (key_cmp (k.0, v))) es ≡ lookup (is_at (key_cmp k)) es
same_bytes k v e es = λ i. lookup (is_at (λ x. ordering_then (nat_cmp k.0 x.0) (slice_cmp nat_cmp (e i) x.1.items))) es

still : (b : Bool) (s : Slot) (o : Option Slot) → IsSome o → IsSome (cond b (Some s) o)
still true s o h = refl
still false s o h = h

pub kept_by : (old new : BTreeMap SlotKey Slot) (k : SlotKey) (s : Slot) → UpdatesBy key_cmp (key_cmp k) old new (Some s) → (q : SlotKey) → HasSlot old q → HasSlot new q
kept_by old new k s u q h = subst IsSome (sym (u.0 q)) (still (is_at (key_cmp k) q) s _ h)

pub made_shown : (old new : BTreeMap SlotKey Slot) (k : SlotKey) (v : Vec ℕ Global) → v.items ≡ k.1.items → is_some (get_by (key_cmp k) old) ≡ false → UpdatesBy key_cmp (key_cmp (k.0, v)) old new (Some None)
    → shown new.entries ≡ shown old.entries
made_shown old new k v e none u = shown_kept old.entries new.entries (k.0, v) (Some None) refl (ap joined (same_bytes k v e old.entries ∙ none_from _ none)) u.1 u.3

pub made_has : (old new : BTreeMap SlotKey Slot) (k : SlotKey) (v : Vec ℕ Global) → v.items ≡ k.1.items → UpdatesBy key_cmp (key_cmp (k.0, v)) old new (Some None) → HasSlot new k
made_has old new k v e u = subst IsSome (sym u.1 ∙ same_bytes k v e new.entries) refl

pub swept_shown : (old new : BTreeMap SlotKey Slot) (k : SlotKey) → Some None ≡ get_by (key_cmp k) old → UpdatesBy key_cmp (key_cmp k) old new None → shown new.entries ≡ shown old.entries
swept_shown old new k was u = shown_kept old.entries new.entries k None refl (ap joined (sym was)) u.1 u.3

pub written_shown : (old new : BTreeMap SlotKey Slot) (k : SlotKey) (s : Slot) → UpdatesBy key_cmp (key_cmp k) old new (Some s) → shown new.entries ≡ with_body (shown old.entries) (place_of k) (optional_bytes s)
written_shown old new k s u = shown_written old.entries new.entries k s u.1 u.3

-- no slot, and nothing to write
pub unwritten_shown : (old : BTreeMap SlotKey Slot) (k : SlotKey) (s : Slot) → None ≡ get_by (key_cmp k) old → (IsSome s → HasSlot old k) → shown old.entries ≡ with_body (shown old.entries) (place_of k) (optional_bytes s)
unwritten_shown old k None none has = sym (remove_nothing (shown old.entries) (place_of k) (get_at_key k old.entries ∙ ap joined (sym none)))
unwritten_shown old k (Some v) none has = absurd (let h : IsSome {T = Slot} None = subst IsSome (sym none) (has refl) in cc)

pub read_at : (m : BTreeMap SlotKey Slot) (k : SlotKey) (o : Option Slot) → o ≡ get_by (key_cmp k) m → joined o ≡ finite.get (shown m.entries) (place_of k)
read_at m k o is = ap joined is ∙ sym (get_at_key k m.entries)

pub if_ok : {E : Type 0} (r : Result Slot E) (x y : Option (List ℕ)) → x ≡ y → IfOk r (λ v. optional_bytes v ≡ x) → IfOk r (λ v. optional_bytes v ≡ y)
if_ok (Ok v) x y e h = h ∙ e
if_ok (Err f) x y e h = tt

-- one step of a list of steps
pub after_step : (m n : BTreeMap SlotKey Slot) (steps rest : List Step) (s : Step) (end : Bodies) → steps ≡ s ∷ rest → shown n.entries ≡ with_body (shown m.entries) (place_of s.key) (optional_bytes s.value)
    → fold write_to (shown m.entries) (map step_write steps) ≡ end → fold write_to (shown n.entries) (map step_write rest) ≡ end
after_step m n steps rest s end e w was = ap (λ c. fold write_to c (map step_write rest)) w ∙ sym (ap (λ ss. fold write_to (shown m.entries) (map step_write ss)) e) ∙ was

pub has_rest : (m n : BTreeMap SlotKey Slot) (steps rest : List Step) (s : Step) → steps ≡ s ∷ rest → ((k : SlotKey) → HasSlot m k → HasSlot n k) → HasSlots m steps → HasSlots n rest
has_rest m n steps rest s e kept has = λ k d h is. kept (get_or rest k d).key (subst (HasSlots m) e has (suc k) d (omega (arith, h)) is)
