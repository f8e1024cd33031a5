-- The first group that has a fault.
use Rattle.std.proofs.Common.{◌≡◌, ℕ, ◌+◌, ◌<◌, ◌≤◌, Bool, false, ◌&&◌, List, [], ◌∷◌, ◌++◌, length, map, get_or, take, drop, refl, sym, subst, ap, ◌∙◌, arith, append-nil, append_assoc, length-append}
use Rattle.std.specs.List.{AllByRecursion, Contains, HoldsAt, IsDistinct, list_all, list_any}
use Rattle.std.specs.Cmp.{eq_by_cmp_equiv}
use Rattle.std.specs.Str.{bytes_eq}
use Rattle.std.proofs.lemmas.Cmp.{nat_list_cmp_total}
use Rattle.std.proofs.lemmas.Grind.{flat_map-append}
use Rattle.std.proofs.lemmas.List.{take-append-drop, take_more, drop_more}
use Rattle.std.proofs.lemmas.List.Elements.{All-contains, All-take, All-get_or}
use Rattle.std.proofs.lemmas.List.Folds.{list_all-append}
use Rattle.std.proofs.lemmas.Map.Keys.{IsDistinct-head, IsDistinct-tail}
use Rattle.std.proofs.lemmas.Slice.Eq.{bytes_eq-Decides}
use Rattle.cs_value.specs.Facts.{by_test}
use Rattle.cs_value.specs.Catalog.{AreTables}
use Rattle.cs_value.specs.declared.catalog.TableDef.{TableDef}
use Rattle.cs_change.specs.declared.change.Change.{Change}
use Rattle.cs_change.specs.declared.group.Group.{Group}
use Rattle.cs_order.specs.Order.{same_bytes}
use Rattle.cs_normal.specs.keyed.NormalForm.{has_key, change_bytes, AreKeyed}
use Rattle.cs_normalising.specs.UnfitChanges.{HasFirstUnfitChange}
use Rattle.cs_normalising.specs.NormalFormOf.{changes_of, HasTable, HaveTables, HaveKeys, AreFit, IsGroupOf, IsUnfitGroup, IsUnfit}
use Rattle.cs_normalising.specs.Steps.TableByTable.{HasTableFault, AnyUnfit, IsUnfitHeader}
use Rattle.cs_normalising.specs.declared.unfit.Unfit.{Unfit}
use Rattle.cs_normalising.specs.declared.unfit.Unfit.TheVariants.{Memory, UnknownTable, Shape, NullKey, KeyTwice}
use Rattle.cs_normalising.proofs.AsRead.{shape_of}
use Rattle.cs_normalising.proofs.Faults.{map_append}
use Rattle.cs_order.specs.Facts.{both_true}

differs : (x : List ℕ) (xs : List (List ℕ)) (y : List ℕ) (ys : List (List ℕ)) → AllByRecursion (λ k. same_bytes x k ≡ false) (xs ++ y ∷ ys) → same_bytes x y ≡ false
differs x [] y ys h = h.0
differs x (k ∷ xs) y ys h = differs x xs y ys h.1

-- no key before another is the same
distinct_before : (xs : List (List ℕ)) (y : List ℕ) (ys : List (List ℕ)) → IsDistinct same_bytes (xs ++ y ∷ ys) → list_any (same_bytes y) xs ≡ false
distinct_before [] y ys d = refl
distinct_before (x ∷ xs) y ys d =
    let head = IsDistinct-head same_bytes x (xs ++ y ∷ ys) d in
    let apart = differs x xs y ys head in
    let turned : same_bytes y x ≡ false = (eq_by_cmp_equiv nat_list_cmp_total).symm y x ∙ apart in
    simp turned (distinct_before xs y ys (IsDistinct-tail same_bytes x (xs ++ y ∷ ys) d))

-- changes that have keys of their own have no fault
pub no_fault : (fault : Unfit) (marks : List Bool) (changes : List Change) → AreKeyed marks changes → HasFirstUnfitChange fault marks changes → ⊥
no_fault Memory marks changes keyed (before, change, others, is, front, wrong) = wrong
no_fault UnknownTable marks changes keyed (before, change, others, is, front, wrong) = wrong
no_fault Shape marks changes keyed (before, change, others, is, front, wrong) = wrong
no_fault NullKey marks changes keyed (before, change, others, is, front, wrong) =
    let all = rw (is, list_all-append (has_key marks) before (change ∷ others)) at keyed.0 in
    let here = both_true (list_all (has_key marks) before) (has_key marks change && list_all (has_key marks) others) all in
    let this = both_true (has_key marks change) (list_all (has_key marks) others) here.1 in
    cc
no_fault KeyTwice marks changes keyed (before, change, others, is, front, wrong) =
    let apart = rw (is, map_append marks before (change ∷ others)) at keyed.1 in
    let none = distinct_before (map (change_bytes marks) before) (change_bytes marks change) (map (change_bytes marks) others) apart in
    let some = wrong.1 in
    cc

pub unfit_at : (fault : Unfit) (tables : List TableDef) (before : List Group) (group : Group) (others groups : List Group) → groups ≡ before ++ group ∷ others → AreFit tables before → IsUnfitGroup fault tables before group → IsUnfit fault tables groups
unfit_at Memory tables before group others groups is fit wrong = tt
unfit_at UnknownTable tables before group others groups is fit wrong = (before, group, others, is, fit, wrong)
unfit_at Shape tables before group others groups is fit wrong = (before, group, others, is, fit, wrong)
unfit_at NullKey tables before group others groups is fit wrong = (before, group, others, is, fit, wrong)
unfit_at KeyTwice tables before group others groups is fit wrong = (before, group, others, is, fit, wrong)

-- what a place past the end reads
nowhere : Group
nowhere = record { marks = []; name = []; changes = [] }

-- a list cut at a place
cut : (groups : List Group) (place : ℕ) (d : Group) → place < length groups → groups ≡ take place groups ++ get_or groups place d ∷ drop (place + 1) groups
cut groups place d within =
    sym (take-append-drop place groups) ∙ ap (λ (rest : List Group). take place groups ++ rest) (drop_more groups place d within)

-- what is wrong with the first groups is wrong with all
pub unfit_more : (fault : Unfit) (tables : List TableDef) (groups rest : List Group) → IsUnfit fault tables groups → IsUnfit fault tables (groups ++ rest)
unfit_more Memory tables groups rest unfit = tt
unfit_more UnknownTable tables groups rest (before, group, others, is, fit, wrong) = (before, group, others ++ rest, rw is (append_assoc before (group ∷ others) rest), fit, wrong)
unfit_more Shape tables groups rest (before, group, others, is, fit, wrong) = (before, group, others ++ rest, rw is (append_assoc before (group ∷ others) rest), fit, wrong)
unfit_more NullKey tables groups rest (before, group, others, is, fit, wrong) = (before, group, others ++ rest, rw is (append_assoc before (group ∷ others) rest), fit, wrong)
unfit_more KeyTwice tables groups rest (before, group, others, is, fit, wrong) = (before, group, others ++ rest, rw is (append_assoc before (group ∷ others) rest), fit, wrong)

header_wrong : (fault : Unfit) (tables : List TableDef) (before : List Group) (group : Group) → IsUnfitHeader fault tables group → IsUnfitGroup fault tables before group
header_wrong Memory tables before group wrong = wrong
header_wrong UnknownTable tables before group wrong = wrong
header_wrong Shape tables before group wrong = wrong
header_wrong NullKey tables before group wrong = absurd wrong
header_wrong KeyTwice tables before group wrong = absurd wrong

-- behind groups that fit, a header is wrong
pub header_unfit : (fault : Unfit) (tables : List TableDef) (groups : List Group) (place : ℕ) → place < length groups → AreFit tables (take place groups) → HoldsAt (IsUnfitHeader fault tables) groups place → IsUnfit fault tables groups
header_unfit fault tables groups place within fit wrong =
    let group = get_or groups place nowhere in
    unfit_at fault tables (take place groups) group (drop (place + 1) groups) groups (cut groups place nowhere within) fit (header_wrong fault tables (take place groups) group (wrong nowhere))

named_wrong : (fault : Unfit) (tables : List TableDef) (before : List Group) (group : Group) (table : TableDef) → Contains tables table → IsGroupOf table group → HasFirstUnfitChange fault table.key_marks (changes_of table.name before ++ group.changes) → IsUnfitGroup fault tables before group
named_wrong Memory tables before group table in' of (some, change, others, is, front, wrong) = wrong
named_wrong UnknownTable tables before group table in' of (some, change, others, is, front, wrong) = absurd wrong
named_wrong Shape tables before group table in' of (some, change, others, is, front, wrong) = absurd wrong
named_wrong NullKey tables before group table in' of first = (table, in', of, first)
named_wrong KeyTwice tables before group table in' of first = (table, in', of, first)

-- a fault that came with one more group is that group's
pub changes_wrong : (fault : Unfit) (tables : List TableDef) (before : List Group) (group : Group) → AreTables tables → HaveKeys tables before → HasTable tables group → HasTableFault fault tables (before ++ group ∷ []) → IsUnfitGroup fault tables before group
changes_wrong fault tables before group are keys has (table, in', wrong) =
    let joined : changes_of table.name (before ++ group ∷ []) ≡ changes_of table.name before ++ changes_of table.name (group ∷ []) = flat_map-append _ before (group ∷ []) in
    by_test (bytes_eq group.name table.name) _ (λ e.
    let same : group.name ≡ table.name = (bytes_eq-Decides group.name table.name).0 e in
    let alone : changes_of table.name (group ∷ []) ≡ group.changes = simp e (append-nil group.changes) in
    let here = subst (HasFirstUnfitChange fault table.key_marks) (joined ∙ ap (λ (cs : List Change). changes_of table.name before ++ cs) alone) wrong in
    named_wrong fault tables before group table in' (same, shape_of tables table group are in' has same) here) (λ e.
    let alone : changes_of table.name (group ∷ []) ≡ [] = simp e refl in
    let here = subst (HasFirstUnfitChange fault table.key_marks) (joined ∙ ap (λ (cs : List Change). changes_of table.name before ++ cs) alone ∙ append-nil (changes_of table.name before)) wrong in
    absurd (no_fault fault table.key_marks (changes_of table.name before) (All-contains (λ t. AreKeyed t.key_marks (changes_of t.name before)) tables table keys in') here))

-- the halves have met: the fault is that of the group between them
pub halves_met : (fault : Unfit) (tables : List TableDef) (groups : List Group) (low high : ℕ) → AreTables tables → HaveTables tables groups → HaveKeys tables (take low groups) → HasTableFault fault tables (take high groups) → low < high → high ≤ low + 1 → high ≤ length groups → IsUnfit fault tables groups
halves_met fault tables groups low high are have keys wrong below met within =
    let d = nowhere in
    let here : low < length groups = omega (arith, below, within) in
    let is : high ≡ low + 1 = omega (arith, below, met) in
    let group = get_or groups low d in
    let grown : take high groups ≡ take low groups ++ group ∷ [] = ap (λ (n : ℕ). take n groups) is ∙ take_more groups low d here in
    let fit : AreFit tables (take low groups) = (All-take (HasTable tables) low groups have, keys) in
    unfit_at fault tables (take low groups) group (drop (low + 1) groups) groups (cut groups low d here) fit (changes_wrong fault tables (take low groups) group are keys (All-get_or (HasTable tables) groups low d here have) (subst (HasTableFault fault tables) grown wrong))

-- no group, no fault
pub some_group : (fault : Unfit) (tables : List TableDef) (groups : List Group) → HasTableFault fault tables groups → 0 < length groups
some_group fault tables [] (table, in', (before, change, others, is, front, wrong)) = absurd (omega (arith, ap length is, length-append before (change ∷ others)))
some_group fault tables (group ∷ groups) wrong = omega arith

-- what went wrong, where it was not the memory
pub table_fault : (fault : Unfit) (tables : List TableDef) (groups : List Group) → (fault ≡ Memory → ⊥) → AnyUnfit fault tables groups → HasTableFault fault tables groups
table_fault Memory tables groups other wrong = absurd (other refl)
table_fault UnknownTable tables groups other wrong = wrong
table_fault Shape tables groups other wrong = wrong
table_fault NullKey tables groups other wrong = wrong
table_fault KeyTwice tables groups other wrong = wrong

pub no_group_keys : (tables : List TableDef) → HaveKeys tables []
unfolding IsDistinct
no_group_keys tables k d within = (refl, tt)
