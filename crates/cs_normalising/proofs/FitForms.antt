-- A changeset that fits a catalog has a normal form: what was read with each key, in the order of the keys.
use Rattle.std.proofs.Common.{◌≡◌, ℕ, true, false, List, [], ◌∷◌, length, Option, refl, sym, ap, subst, ◌∙◌, arith, None}
use Rattle.std.specs.Ordering.{is_eq, is_lt, ordering_reverse}
use Rattle.std.specs.Prelude.{if◌then◌else◌}
use Rattle.std.specs.declared.cmp.Ordering.{Ordering}
use Rattle.std.specs.declared.cmp.Ordering.TheVariants.{Less, Equal, Greater}
use Rattle.std.specs.List.{AllByRecursion, IsDistinct}
use Rattle.std.specs.List.Sorted.{IsStrictlySortedBy, IsPermutation}
use Rattle.std.specs.Map.{keys_of}
use Rattle.std.proofs.lemmas.Cmp.{nat_list_cmp_total}
use Rattle.std.proofs.lemmas.List.{take_all}
use Rattle.std.proofs.lemmas.List.Elements.{recursion_from_All}
use Rattle.std.proofs.lemmas.List.Sorted.{IsPermutation-refl, IsPermutation-sym, IsPermutation-trans, IsPermutation-cons, IsPermutation-middle}
use Rattle.std.proofs.lemmas.Map.Keys.{sorted_head, sorted_tail}
use Rattle.cs_value.specs.Facts.{by_test}
use Rattle.cs_value.specs.declared.catalog.TableDef.{TableDef}
use Rattle.cs_change.specs.declared.change.Change.{Change}
use Rattle.cs_change.specs.declared.group.Group.{Group}
use Rattle.cs_order.specs.Order.{by_bytes, same_bytes}
use Rattle.cs_normal.specs.keyed.Changes.{Changes}
use Rattle.cs_normalising.specs.Laws.{FitHasForm}
use Rattle.cs_normal.specs.keyed.NormalForm.{AreKeyed}
use Rattle.cs_normalising.specs.NormalFormOf.{changes_of}
use Rattle.cs_normal.specs.keyed.Prepared.{Entries, all_keyed, kept, prepared}
use Rattle.cs_normalising.specs.Steps.Prepared.{rises, rises_from}
use Rattle.cs_normalising.specs.Steps.TableByTable.{AreTablesOf, no_table, next, IsTableOf}
use Rattle.cs_normal.specs.declared.normal.TableChanges.{TableChanges}
use Rattle.cs_normalising.proofs.Gathered.{is_table_of}
use Rattle.cs_order.specs.Facts.{Above, above_more, cons_sorted}
use Rattle.cs_normal.specs.keyed.Facts.{all_keyed_is, prepared_keys}
use Rattle.cs_normalising.proofs.NormalLaws.{distinct_on}
use Rattle.cs_normalising.proofs.Whole.{IsFront, all_form}

abbrev Entry : Type 0
Entry = List ℕ × Option Change

-- ---- entries put in order

abbrev put : Entry → Entries → Entries
put e [] = e ∷ []
put e (f ∷ fs) = if is_lt (by_bytes e.0 f.0) then e ∷ f ∷ fs else f ∷ put e fs

put_moved : (e : Entry) (fs : Entries) → IsPermutation (e ∷ fs) (put e fs)
put_moved e [] = IsPermutation-refl (e ∷ [])
put_moved e (f ∷ fs) =
    let behind : IsPermutation (e ∷ f ∷ fs) (f ∷ put e fs) = IsPermutation-trans (e ∷ f ∷ fs) (f ∷ e ∷ fs) (f ∷ put e fs) (IsPermutation-sym (f ∷ e ∷ fs) (e ∷ f ∷ fs) (IsPermutation-middle (f ∷ []) e fs)) (IsPermutation-cons f (e ∷ fs) (put e fs) (put_moved e fs)) in
    by_test (is_lt (by_bytes e.0 f.0)) _ (λ t. simp t (IsPermutation-refl (e ∷ f ∷ fs))) (λ t. simp t behind)

put_above : (low : List ℕ) (e : Entry) (fs : Entries) → by_bytes low e.0 ≡ Less → Above low (keys_of fs) → Above low (keys_of (put e fs))
put_above low e [] less all = (less, tt)
put_above low e (f ∷ fs) less all =
    by_test (is_lt (by_bytes e.0 f.0)) _ (λ t. simp t (less, all)) (λ t. simp t (all.0, put_above low e fs less all.1))

put_sorted : (e : Entry) (fs : Entries) → AllByRecursion (λ y. same_bytes e.0 y ≡ false) (keys_of fs) → IsStrictlySortedBy by_bytes (keys_of fs) → IsStrictlySortedBy by_bytes (keys_of (put e fs))
put_sorted e [] apart up = cons_sorted e.0 [] tt up
put_sorted e (f ∷ fs) apart up =
    let head = sorted_head by_bytes f.0 (keys_of fs) up in
    let tail = sorted_tail by_bytes f.0 (keys_of fs) up in
    let split : (o : Ordering) → by_bytes e.0 f.0 ≡ o → IsStrictlySortedBy by_bytes (keys_of (put e (f ∷ fs))) = elim [
      | Less ↦ λ is. (let t : is_lt (by_bytes e.0 f.0) ≡ true = ap is_lt is in simp t (cons_sorted e.0 (f.0 ∷ keys_of fs) (is, above_more e.0 f.0 (keys_of fs) is head) up))
      | Equal ↦ λ is. absurd (let t : same_bytes e.0 f.0 ≡ true = ap is_eq is in let n = apart.0 in cc)
      | Greater ↦ λ is.
          (let t : is_lt (by_bytes e.0 f.0) ≡ false = ap is_lt is in
          let less : by_bytes f.0 e.0 ≡ Less = nat_list_cmp_total.antisymm f.0 e.0 ∙ ap ordering_reverse is in
          simp t (cons_sorted f.0 (keys_of (put e fs)) (put_above f.0 e fs less head) (put_sorted e fs apart.1 tail)))
    ] in
    split (by_bytes e.0 f.0) refl

-- the same entries, in order
abbrev InOrder : Entries → Type 0
InOrder es = (fs : Entries) × IsPermutation es fs × IsStrictlySortedBy by_bytes (keys_of fs)

others_apart : (e : Entry) (fs : Entries) → IsDistinct same_bytes (keys_of (e ∷ fs)) → AllByRecursion (λ y. same_bytes e.0 y ≡ false) (keys_of fs) × IsDistinct same_bytes (keys_of fs)
unfolding IsDistinct
others_apart e fs d = (d.0, d.1)

in_order : (es : Entries) → IsDistinct same_bytes (keys_of es) → InOrder es
unfolding IsStrictlySortedBy
in_order [] d = ([], IsPermutation-refl [], tt)
in_order (e ∷ es) d =
    let rest = in_order es (others_apart e es d).1 in
    let gs = rest.0 in
    let moved : IsPermutation (e ∷ es) (e ∷ gs) = IsPermutation-cons e es gs rest.1 in
    let apart = (others_apart e gs (distinct_on (e ∷ es) (e ∷ gs) moved d)).0 in
    (put e gs, IsPermutation-trans (e ∷ es) (e ∷ gs) (put e gs) moved (put_moved e gs), put_sorted e gs apart rest.2)

sorted_from : (low : List ℕ) (fs : Entries) → Above low (keys_of fs) → IsStrictlySortedBy by_bytes (keys_of fs) → rises_from low fs ≡ true
unfolding rises_from
sorted_from low [] above up = refl
sorted_from low (f ∷ fs) above up =
    let t : is_lt (by_bytes low f.0) ≡ true = ap is_lt above.0 in
    simp t (sorted_from f.0 fs (sorted_head by_bytes f.0 (keys_of fs) up) (sorted_tail by_bytes f.0 (keys_of fs) up))

sorted_rises : (fs : Entries) → IsStrictlySortedBy by_bytes (keys_of fs) → rises fs ≡ true
unfolding rises
sorted_rises [] up = refl
sorted_rises (f ∷ fs) up =
    sorted_from f.0 fs (sorted_head by_bytes f.0 (keys_of fs) up) (sorted_tail by_bytes f.0 (keys_of fs) up)

-- ---- the changes of one table, of all tables

table_made : (groups : List Group) (table : TableDef) → AreKeyed table.key_marks (changes_of table.name groups) → (changes : Changes) × IsTableOf groups table changes
table_made groups table keyed =
    let marks = table.key_marks in
    let changes = changes_of table.name groups in
    let whole : all_keyed marks changes ≡ true = all_keyed_is marks changes ∙ keyed.0 in
    let apart : IsDistinct same_bytes (keys_of (prepared marks changes)) = subst (IsDistinct same_bytes) (sym (prepared_keys marks changes whole)) keyed.1 in
    let sorted = in_order (prepared marks changes) apart in
    (kept sorted.0, is_table_of groups table sorted.0 sorted.1 (sorted_rises sorted.0 sorted.2) whole)

tables_made : (groups : List Group) (tables : List TableDef) → AllByRecursion (λ table. AreKeyed table.key_marks (changes_of table.name groups)) tables → (normal : List TableChanges) × AreTablesOf groups tables normal
tables_made groups [] keyed = ([], no_table)
tables_made groups (table ∷ tables) keyed =
    let made = table_made groups table keyed.0 in
    let rest = tables_made groups tables keyed.1 in
    (_, next table made.0 made.1 rest.1)

pub fit_has_form : FitHasForm
fit_has_form tables groups are fits fit =
    let made = tables_made groups tables (recursion_from_All (λ table. AreKeyed table.key_marks (changes_of table.name groups)) tables fit.1) in
    let all = take_all (length groups) groups (omega arith) in
    let front : IsFront tables groups (length groups) None = record { within = omega arith; fit = rw all fit.0; next = refl } in
    (made.0, all_form tables groups (length groups) are front made.0 (subst (λ (gs : List Group). AreTablesOf gs tables made.0) (sym all) made.1) fits)
