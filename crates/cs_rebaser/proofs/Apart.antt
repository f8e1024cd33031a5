-- Groups of which no two have one name: their entries are of one place each, and stand in the group with the name.
use Rattle.std.proofs.Common.{◌≡◌, ◌∙◌, ◌+◌, ◌<◌, ◌≤◌, ℕ, zero, suc, drop, drop-cons, Bool, true, false, cond, ◌&&◌, get_or, length, arith, subst, List, [], ◌∷◌, ◌++◌, map, refl, sym, ap, inl, inr, Option, Some, None}
use Rattle.std.specs.Prelude.{slice_get}
use Rattle.std.proofs.lemmas.List.{drop_all}
use Rattle.std.proofs.lemmas.Option.{slice_get-get_or}
use Rattle.std.specs.List.{AllByRecursion, IsDistinct}
use Rattle.std.specs.Str.{bytes_eq}
use Rattle.cs_value.specs.Facts.{by_test}
use Rattle.cs_order.specs.Groups.{HasNoTwins, HasTwins}
use Rattle.cs_order.specs.Laws.{OrderLaws}
use Rattle.cs_order.specs.Order.{same_bytes}
use Rattle.cs_change.specs.Spelling.{marks_of}
use Rattle.cs_blob.specs.declared.blob.BlobGroup.{BlobGroup}
use Rattle.cs_blob.specs.declared.blob.Entry.{Entry}
use Rattle.cs_rebaser.specs.Rebased.{HasEachOnce, Placed, Spot, entry_at, entry_key, placed, placed_in, same_spot}
use Rattle.cs_rebaser.specs.Steps.{AreApart, AreOrders, HasTwinsIn, IsOrderOf, entry_keys, first_named, names_in}
use Rattle.cs_rebaser.specs.declared.orders.GroupOrder.{GroupOrder}
use Rattle.cs_rebaser.proofs.Telling.{name_is, name_self, same_self}

-- no two are of one place
abbrev Once : List Placed → Type 0
Once ps = IsDistinct same_spot (map (λ p. p.0) ps)

-- entries of one table
abbrev named_entries : List ℕ → List Bool → List Entry → List Placed
named_entries name marks entries = map (λ entry. ((name, entry_key marks entry), entry)) entries

-- ---- lists of places

front_all : (P : Spot → Type 0) (ps qs : List Placed) → AllByRecursion P (map (λ (p : Placed). p.0) (ps ++ qs)) → AllByRecursion P (map (λ (p : Placed). p.0) ps)
front_all P [] qs h = tt
front_all P (p ∷ ps) qs h = (h.0, front_all P ps qs h.1)

front_once : (ps qs : List Placed) → Once (ps ++ qs) → Once ps
unfolding IsDistinct
front_once [] qs h = tt
front_once (p ∷ ps) qs h = (front_all (λ s. same_spot p.0 s ≡ false) ps qs h.0, front_once ps qs h.1)

back_once : (ps qs : List Placed) → Once (ps ++ qs) → Once qs
unfolding IsDistinct
back_once [] qs h = h
back_once (p ∷ ps) qs h = back_once ps qs h.1

both_all : (P : Spot → Type 0) (ps qs : List Placed) → AllByRecursion P (map (λ (p : Placed). p.0) ps) → AllByRecursion P (map (λ (p : Placed). p.0) qs) → AllByRecursion P (map (λ (p : Placed). p.0) (ps ++ qs))
both_all P [] qs h k = k
both_all P (p ∷ ps) qs h k = (h.0, both_all P ps qs h.1 k)

both_once : (ps qs : List Placed) → Once ps → Once qs → AllByRecursion (λ p. AllByRecursion (λ s. same_spot p.0 s ≡ false) (map (λ q. q.0) qs)) ps → Once (ps ++ qs)
unfolding IsDistinct
both_once [] qs h k cross = k
both_once (p ∷ ps) qs h k cross = (both_all (λ s. same_spot p.0 s ≡ false) ps qs h.0 cross.0, both_once ps qs h.1 k cross.1)

-- ---- keys of one table

of_one_name : (name some other : List ℕ) → same_bytes some other ≡ same_spot (name, some) (name, other)
of_one_name name some other = ap (λ (b : Bool). b && same_bytes some other) (sym (name_self name))

keys_apart : (name : List ℕ) (marks : List Bool) (key : List ℕ) (entries : List Entry) → AllByRecursion (λ s. same_spot (name, key) s ≡ false) (map (λ (p : Placed). p.0) (named_entries name marks entries)) → AllByRecursion (λ k. same_bytes key k ≡ false) (map (entry_key marks) entries)
keys_apart name marks key [] h = tt
keys_apart name marks key (e ∷ entries) h = (of_one_name name key (entry_key marks e) ∙ h.0, keys_apart name marks key entries h.1)

keys_once : (name : List ℕ) (marks : List Bool) (entries : List Entry) → Once (named_entries name marks entries) → HasNoTwins (map (entry_key marks) entries)
unfolding IsDistinct
keys_once name marks [] h = tt
keys_once name marks (e ∷ entries) h = (keys_apart name marks (entry_key marks e) entries h.0, keys_once name marks entries h.1)

spots_apart : (name : List ℕ) (marks : List Bool) (key : List ℕ) (entries : List Entry) → AllByRecursion (λ k. same_bytes key k ≡ false) (map (entry_key marks) entries) → AllByRecursion (λ s. same_spot (name, key) s ≡ false) (map (λ (p : Placed). p.0) (named_entries name marks entries))
spots_apart name marks key [] h = tt
spots_apart name marks key (e ∷ entries) h = (sym (of_one_name name key (entry_key marks e)) ∙ h.0, spots_apart name marks key entries h.1)

spots_once : (name : List ℕ) (marks : List Bool) (entries : List Entry) → HasNoTwins (map (entry_key marks) entries) → Once (named_entries name marks entries)
unfolding IsDistinct
spots_once name marks [] h = tt
spots_once name marks (e ∷ entries) h = (spots_apart name marks (entry_key marks e) entries h.0, spots_once name marks entries h.1)

-- ---- a key that comes twice in a group

pub twice_in_group : OrderLaws → (blob : List BlobGroup) → HasTwinsIn blob → HasEachOnce blob → ⊥
twice_in_group law [] twins once = absurd twins
twice_in_group law (g ∷ blob) twins once =
    elim twins [
      | inl here ↦ law.twins _ here (keys_once g.name (marks_of g.marks) g.entries (front_once (placed_in g) (placed blob) once))
      | inr behind ↦ twice_in_group law blob behind (back_once (placed_in g) (placed blob) once)
    ]

-- ---- names that differ

other_name : (x y : List ℕ) → same_bytes x y ≡ false → bytes_eq x y ≡ false
other_name x y differ =
    by_test (bytes_eq x y) _
    (λ e.
    let same : same_bytes x y ≡ true = ap (λ (z : List ℕ). same_bytes x z) (sym (name_is x y e)) ∙ same_self x in
    cc)
    (λ e. e)

other_way : (x y : List ℕ) → bytes_eq x y ≡ false → bytes_eq y x ≡ false
other_way x y differ =
    by_test (bytes_eq y x) _
    (λ e.
    let same : bytes_eq x y ≡ true = ap (λ (z : List ℕ). bytes_eq x z) (name_is y x e) ∙ name_self x in
    cc)
    (λ e. e)

other_spot : (name other key k : List ℕ) → bytes_eq name other ≡ false → same_spot (name, key) (other, k) ≡ false
other_spot name other key k differ = ap (λ (b : Bool). b && same_bytes key k) differ

differ_in : (name other key : List ℕ) (marks : List Bool) (entries : List Entry) (others : List Placed) → bytes_eq name other ≡ false
    → AllByRecursion (λ s. same_spot (name, key) s ≡ false) (map (λ (p : Placed). p.0) others)
    → AllByRecursion (λ s. same_spot (name, key) s ≡ false) (map (λ (p : Placed). p.0) (named_entries other marks entries ++ others))
differ_in name other key marks [] others differ rest = rest
differ_in name other key marks (e ∷ entries) others differ rest = (other_spot name other key (entry_key marks e) differ, differ_in name other key marks entries others differ rest)

differ_all : (name key : List ℕ) (blob : List BlobGroup) → AllByRecursion (λ n. same_bytes name n ≡ false) (names_in blob) → AllByRecursion (λ s. same_spot (name, key) s ≡ false) (map (λ (p : Placed). p.0) (placed blob))
differ_all name key [] h = tt
differ_all name key (g ∷ blob) h = differ_in name g.name key (marks_of g.marks) g.entries (placed blob) (other_name name g.name h.0) (differ_all name key blob h.1)

cross_all : (name : List ℕ) (marks : List Bool) (entries : List Entry) (blob : List BlobGroup) → AllByRecursion (λ n. same_bytes name n ≡ false) (names_in blob)
    → AllByRecursion (λ p. AllByRecursion (λ s. same_spot p.0 s ≡ false) (map (λ q. q.0) (placed blob))) (named_entries name marks entries)
cross_all name marks [] blob h = tt
cross_all name marks (e ∷ entries) blob h = (differ_all name (entry_key marks e) blob h, cross_all name marks entries blob h)

pub each_apart : (blob : List BlobGroup) (orders : List GroupOrder) → AreApart blob → AreOrders blob orders → HasEachOnce blob
unfolding IsDistinct
each_apart [] [] apart orders = tt
each_apart [] (o ∷ orders) apart are = absurd are
each_apart (g ∷ blob) [] apart are = absurd are
each_apart (g ∷ blob) (o ∷ orders) apart are =
    both_once (placed_in g) (placed blob) (spots_once g.name (marks_of g.marks) g.entries are.0.apart) (each_apart blob orders apart.1 are.1) (cross_all g.name (marks_of g.marks) g.entries blob apart.0)

-- ---- the group with a name

skip_group : (name other key : List ℕ) (marks : List Bool) (entries : List Entry) (others : List Placed) → bytes_eq name other ≡ false
    → entry_at (name, key) (named_entries other marks entries ++ others) ≡ entry_at (name, key) others
unfolding entry_at
skip_group name other key marks [] others differ = refl
skip_group name other key marks (e ∷ entries) others differ =
    ap (λ (t : Bool). cond t (Some e) (entry_at (name, key) (named_entries other marks entries ++ others))) (other_spot name other key (entry_key marks e) differ)
    ∙ skip_group name other key marks entries others differ

none_behind : (name key : List ℕ) (blob : List BlobGroup) → AllByRecursion (λ n. same_bytes name n ≡ false) (names_in blob) → entry_at (name, key) (placed blob) ≡ None
unfolding entry_at
none_behind name key [] h = refl
none_behind name key (g ∷ blob) h =
    skip_group name g.name key (marks_of g.marks) g.entries (placed blob) (other_name name g.name h.0) ∙ none_behind name key blob h.1

front_or_none : (spot : Spot) (ps qs : List Placed) → entry_at spot qs ≡ None → entry_at spot (ps ++ qs) ≡ entry_at spot ps
unfolding entry_at
front_or_none spot [] qs none = none
front_or_none spot (p ∷ ps) qs none = ap (λ (o : Option Entry). cond (same_spot spot p.0) (Some p.1) o) (front_or_none spot ps qs none)

pub none_named : (name : List ℕ) (blob : List BlobGroup) → first_named name blob ≡ None → (key : List ℕ) → entry_at (name, key) (placed blob) ≡ None
unfolding entry_at first_named
none_named name [] h key = refl
none_named name (g ∷ blob) h key =
    by_test (bytes_eq g.name name) _
    (λ e. let k : Some g ≡ None = rw e at h in cc)
    (λ e.
    let k : first_named name blob ≡ None = rw e at h in
    skip_group name g.name key (marks_of g.marks) g.entries (placed blob) (other_way g.name name e) ∙ none_named name blob k key)

pub one_named : (name : List ℕ) (blob : List BlobGroup) (group : BlobGroup) → AreApart blob → first_named name blob ≡ Some group
    → (key : List ℕ) → entry_at (name, key) (placed blob) ≡ entry_at (group.name, key) (placed_in group)
unfolding first_named IsDistinct
one_named name [] group apart h key = cc
one_named name (g ∷ blob) group apart h key =
    by_test (bytes_eq g.name name) _
    (λ e.
    let k : Some g ≡ Some group = rw e at h in
    let is : g ≡ group = cc in
    ap (λ (n : List ℕ). entry_at (n, key) (placed (g ∷ blob))) (sym (name_is g.name name e))
    ∙ front_or_none (g.name, key) (placed_in g) (placed blob) (none_behind g.name key blob apart.0)
    ∙ ap (λ (x : BlobGroup). entry_at (x.name, key) (placed_in x)) is)
    (λ e.
    let k : first_named name blob ≡ Some group = rw e at h in
    skip_group name g.name key (marks_of g.marks) g.entries (placed blob) (other_way g.name name e) ∙ one_named name blob group apart.1 k key)

-- ---- orders, one more

pub orders_more : (groups : List BlobGroup) (orders : List GroupOrder) (g : BlobGroup) (o : GroupOrder) → AreOrders groups orders → AreOrders (g ∷ []) (o ∷ []) → AreOrders (groups ++ g ∷ []) (orders ++ o ∷ [])
orders_more [] [] g o are one = one
orders_more [] (p ∷ orders) g o are one = absurd are
orders_more (h ∷ groups) [] g o are one = absurd are
orders_more (h ∷ groups) (p ∷ orders) g o are one = (are.0, orders_more groups orders g o are.1 one)

-- a group with a key that comes twice is among them
pub twins_at : (groups : List BlobGroup) (at : ℕ) (g : BlobGroup) → at < length groups → g ≡ get_or groups at g → HasTwins (entry_keys g) → HasTwinsIn groups
twins_at [] at g less is twins = absurd (omega (arith, less))
twins_at (h ∷ groups) zero g less is twins = inl (subst (λ (x : BlobGroup). HasTwins (entry_keys x)) is twins)
twins_at (h ∷ groups) (suc at) g less is twins = inr (twins_at groups at g (omega (arith, less)) is twins)

-- ---- the place of the first group with a name

none_left : (name : List ℕ) (groups : List BlobGroup) (at : ℕ) → length groups ≤ at → first_named name (drop at groups) ≡ None
unfolding first_named
none_left name groups at end = ap (λ (gs : List BlobGroup). first_named name gs) (drop_all at groups end)

-- it is here, or behind
pub named_here : (name : List ℕ) (groups : List BlobGroup) (at : ℕ) (g : BlobGroup) → at < length groups → g ≡ get_or groups at g → bytes_eq g.name name ≡ true
    → first_named name (drop at groups) ≡ first_named name groups → first_named name groups ≡ slice_get groups at
unfolding first_named
named_here name groups at g less here same is =
    let rest = first_named name (drop (suc at) groups) in
    let there = get_or groups at g in
    let opened : first_named name (drop at groups) ≡ cond (bytes_eq there.name name) (Some there) rest = ap (λ (gs : List BlobGroup). first_named name gs) (drop-cons groups at g less) in
    let is_here : cond (bytes_eq there.name name) (Some there) rest ≡ cond (bytes_eq g.name name) (Some g) rest = ap (λ (x : BlobGroup). cond (bytes_eq x.name name) (Some x) rest) (sym here) in
    let taken : cond (bytes_eq g.name name) (Some g) rest ≡ Some g = ap (λ (t : Bool). cond t (Some g) rest) same in
    sym is ∙ opened ∙ is_here ∙ taken ∙ ap (λ (x : BlobGroup). Some x) here ∙ sym (slice_get-get_or groups at g less)

pub named_behind : (name : List ℕ) (groups : List BlobGroup) (at : ℕ) (g : BlobGroup) → at < length groups → g ≡ get_or groups at g → bytes_eq g.name name ≡ false
    → first_named name (drop at groups) ≡ first_named name groups → first_named name (drop (at + 1) groups) ≡ first_named name groups
unfolding first_named
named_behind name groups at g less here other is =
    let rest = first_named name (drop (suc at) groups) in
    let there = get_or groups at g in
    let opened : first_named name (drop at groups) ≡ cond (bytes_eq there.name name) (Some there) rest = ap (λ (gs : List BlobGroup). first_named name gs) (drop-cons groups at g less) in
    let is_here : cond (bytes_eq there.name name) (Some there) rest ≡ cond (bytes_eq g.name name) (Some g) rest = ap (λ (x : BlobGroup). cond (bytes_eq x.name name) (Some x) rest) (sym here) in
    let passed : cond (bytes_eq g.name name) (Some g) rest ≡ rest = ap (λ (t : Bool). cond t (Some g) rest) other in
    let next : at + 1 ≡ suc at = omega arith in
    ap (λ (n : ℕ). first_named name (drop n groups)) next ∙ sym passed ∙ sym is_here ∙ sym opened ∙ is

pub named_nowhere : (name : List ℕ) (groups : List BlobGroup) (at : ℕ) → length groups ≤ at → first_named name (drop at groups) ≡ first_named name groups → first_named name groups ≡ None
named_nowhere name groups at end is = sym is ∙ none_left name groups at end

-- ---- the order of the group there

pub as_many_orders : (groups : List BlobGroup) (orders : List GroupOrder) → AreOrders groups orders → length orders ≡ length groups
as_many_orders [] [] are = refl
as_many_orders [] (o ∷ orders) are = absurd are
as_many_orders (g ∷ groups) [] are = absurd are
as_many_orders (g ∷ groups) (o ∷ orders) are = ap (λ (n : ℕ). suc n) (as_many_orders groups orders are.1)

pub order_there : (groups : List BlobGroup) (orders : List GroupOrder) (at : ℕ) (g : BlobGroup) (o : GroupOrder) → AreOrders groups orders → at < length groups → IsOrderOf (get_or groups at g) (get_or orders at o)
order_there [] orders at g o are less = absurd (omega (arith, less))
order_there (h ∷ groups) [] at g o are less = absurd are
order_there (h ∷ groups) (p ∷ orders) zero g o are less = are.0
order_there (h ∷ groups) (p ∷ orders) (suc at) g o are less = order_there groups orders at g o are.1 (omega (arith, less))
