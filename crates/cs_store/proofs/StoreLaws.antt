-- The laws of stores: one answer for each input, and what a commit leaves at each place.
use Rattle.std.proofs.Common.{◌≡◌, ◌≢◌, ◌≤◌, ◌-◌, zero, suc, ℕ, ◌&&◌, cond, List, [], ◌∷◌, Option, Some, None, is_some, refl, sym, ap, ◌∙◌, fold, arith, Result, Ok, Err, IsOk, OnOk, OnErr, IsSome, inl, inr, ⊎_elim, subst, ◌+◌}
use Rattle.std.specs.Prelude.{pos, nat_eq, false}
use Rattle.std.specs.declared.cmp.Ordering.{Ordering}
use Rattle.std.specs.declared.cmp.Ordering.TheVariants.{Less, Equal, Greater}
use Rattle.std.specs.Ordering.{is_eq, eq_by_cmp, int_cmp, ordering_then}
use Rattle.std.specs.FinMap.{empty, empty_of_len, get, len, insert, get-empty, get-insert, len-insert, len-remove}
use Rattle.std.specs.Cmp.{Equal-is}
use Rattle.std.proofs.lemmas.Bool.{false_from_ne_true}
use Rattle.std.specs.FinMap.Entries.{same_entries}
use Rattle.std.proofs.lemmas.Cmp.{int_cmp_total, nat_list_cmp_total}
use Rattle.std.proofs.lemmas.Map.Lookups.{exact_bytes}
use Rattle.cs_order.specs.Order.{by_bytes, same_bytes}
use Rattle.cs_store.specs.Contents.{Contents, LogItem, Bodies, Meta, StorePlace, place_cmp, name_text}
use Rattle.cs_store.specs.Written.{edit_body, edit_meta, appended, optional_bytes, optional_entry, item_of, store_place, with_body}
use Rattle.cs_store.specs.Laws as law
use Rattle.cs_store.specs.Calls as call
use Rattle.cs_store.specs.Calls.{CountsFailures}
use Rattle.cs_store.specs.declared.fault.StoreFault.{StoreFault}
use Rattle.cs_store.specs.edits.Edits.{BodyEdit}
use Rattle.cs_store.specs.declared.batch.MetaEdit.{MetaEdit}
use Rattle.cs_store.specs.declared.names.MetaName.{MetaName}
use Rattle.cs_store.specs.declared.names.MetaName.TheVariants.{Id, Version, Number, Flight, Pending, Catalog}
use Rattle.cs_store.specs.declared.fault.StoreFault.TheVariants.{Memory, Device}
use Rattle.cs_store.proofs.Maps.{place_exact, place_total, get-with_body, get-with_meta}
use Rattle.cs_store.proofs.Numbers.{tie_pos}
use Rattle.cs_store.specs.declared.store.RowStore.{Ghosts}

-- ---- one answer

pub one_listing : law.OneListing
one_listing table some others a b =
    same_entries by_bytes nat_list_cmp_total exact_bytes some others a.rises b.rises (λ key. a.found key ∙ sym (b.found key))

pub lists_two_rows : law.ListsTwoRows
lists_two_rows = record {
  rises = tt;
  found = λ key. sym (get-insert place_total (insert empty (pos 5, 98 ∷ []) (2 ∷ [])) (pos 5, 97 ∷ []) (1 ∷ []) (pos 5, key)
      ∙ ap (cond (same_bytes key (97 ∷ [])) (Some (1 ∷ [])))
      (get-insert place_total empty (pos 5, 98 ∷ []) (2 ∷ []) (pos 5, key) ∙ ap (cond (same_bytes key (98 ∷ [])) (Some (2 ∷ []))) (get-empty place_cmp (pos 5, key))));
}

module _ {S : Type 0} (g : Ghosts S) where
  pub one_commit : law.OneCommit g
  one_commit after old new next (Ok x) (Ok y) a b h k = (a.ok h ∙ sym (b.ok k), λ some others m n. a.durable h some m ∙ sym (b.durable k others n))
  one_commit after old new next (Ok x) (Err f) a b h k = tt
  one_commit after old new next (Err e) other a b h k = tt

  pub one_refusal : law.OneRefusal g
  one_refusal after old new next (Err e) (Err f) a b h k = a.err h ∙ sym (b.err k)
  one_refusal after old new next (Err e) (Ok y) a b h k = tt
  one_refusal after old new next (Ok x) other a b h k = tt

-- ---- calls after calls

-- the counts of a fault, whatever the call would have answered
fault_counts : {T U : Type 0} (fault : StoreFault) (old new : ℕ) → CountsFailures (call.refusal T fault) old new → CountsFailures (call.refusal U fault) old new
fault_counts Memory old new a = record { kept = tt; later = a.later; cause = λ e. absurd cc }
fault_counts Device old new a = record { kept = tt; later = a.later; cause = λ e. a.cause refl }

-- the counts of a call that succeeded and of the next
pub counts_on : {T U : Type 0} (first : Result T StoreFault) (second : Result U StoreFault) (old middle new : ℕ)
    → CountsFailures first old middle → IsOk first → CountsFailures second middle new → CountsFailures second old new
counts_on (Err e) second old middle new a is b = absurd cc
counts_on (Ok x) second old middle new a is b = subst (λ n. CountsFailures second n new) a.kept b

module _ {S : Type 0} (g : Ghosts S) where
  pub reads_then_reads : (T U : Type 0) → law.ReadsThenReads g T U
  reads_then_reads T U old middle new first second a is b = record {
    was_honest = λ h. a.was_honest (b.was_honest h);
    same = λ h. b.same h ∙ a.same (b.was_honest h);
    crash = λ h left may. a.crash (b.was_honest h) left (b.crash h left may);
    failures = counts_on first second (g.failed old) (g.failed middle) (g.failed new) a.failures is b.failures;
    as_read = b.as_read ∙ a.as_read;
  }

  pub reads_then_commits : (T U : Type 0) → law.ReadsThenCommits g T U
  reads_then_commits T U after old middle new first second a is b = record {
    was_honest = λ h. a.was_honest (b.was_honest h);
    ok = λ h. subst (λ was. OnOk second (g.contents new ≡ after was)) (a.same (b.was_honest h)) (b.ok h);
    err = λ h. subst (λ was. OnErr second (g.contents new ≡ was)) (a.same (b.was_honest h)) (b.err h);
    durable = λ h. subst (λ was. OnOk second ((left : Contents) → g.may_leave new left → left ≡ after was)) (a.same (b.was_honest h)) (b.durable h);
    crash = λ h left may. ⊎_elim (λ before. inl (a.crash (b.was_honest h) left before)) (λ is_after. inr (is_after ∙ ap after (a.same (b.was_honest h)))) (b.crash h left may);
    failures = counts_on first second (g.failed old) (g.failed middle) (g.failed new) a.failures is b.failures;
    as_read = b.as_read ∙ a.as_read;
  }

  pub commits_then_reads : (T U : Type 0) → law.CommitsThenReads g T U
  commits_then_reads T U after old middle new (Err e) second a is b done = absurd cc
  commits_then_reads T U after old middle new (Ok x) (Err e) a is b done = absurd cc
  commits_then_reads T U after old middle new (Ok x) (Ok y) a is b done = record {
    was_honest = λ h. a.was_honest (b.was_honest h);
    ok = λ h. b.same h ∙ a.ok (b.was_honest h);
    err = λ h. tt;
    durable = λ h left may. a.durable (b.was_honest h) left (b.crash h left may);
    crash = λ h left may. a.crash (b.was_honest h) left (b.crash h left may);
    failures = counts_on (Ok x) (Ok y) (g.failed old) (g.failed middle) (g.failed new) a.failures is b.failures;
    as_read = b.as_read ∙ a.as_read;
  }

  pub fails_to_commit : (T U : Type 0) → law.FailsToCommit g T U
  fails_to_commit T U after old new fault a = record {
    was_honest = a.was_honest;
    ok = λ h. tt;
    err = a.same;
    durable = λ h. tt;
    crash = λ h left may. inl (a.crash h left may);
    failures = fault_counts fault (g.failed old) (g.failed new) a.failures;
    as_read = a.as_read;
  }

  pub reads_alike : (T U : Type 0) → law.ReadsAlike g T U
  reads_alike T U old new = (
    λ answer other a. record { was_honest = a.was_honest; same = a.same; crash = a.crash; failures = record { kept = a.failures.kept; later = a.failures.later; cause = λ e. absurd cc }; as_read = a.as_read },
    λ fault a. record { was_honest = a.was_honest; same = a.same; crash = a.crash; failures = fault_counts fault (g.failed old) (g.failed new) a.failures; as_read = a.as_read },
  )

-- ---- what is written

both_tie : (o r : Ordering) → is_eq (ordering_then o r) ≡ (is_eq o && is_eq r)
both_tie Less r = refl
both_tie Equal r = refl
both_tie Greater r = refl

same_place : (a b : ℕ) (x y : List ℕ) → eq_by_cmp place_cmp (pos a, x) (pos b, y) ≡ (nat_eq a b && same_bytes x y)
same_place a b x y = both_tie (int_cmp (pos a) (pos b)) (by_bytes x y) ∙ ap (λ t. t && same_bytes x y) (tie_pos a b)

rows_at : (rows : Bodies) (edits : List BodyEdit) (table : ℕ) (key : List ℕ) → get (fold edit_body rows edits) (pos table, key) ≡ law.row_after edits table key (get rows (pos table, key))
rows_at rows [] table key = refl
rows_at rows (e ∷ es) table key = rows_at (edit_body rows e) es table key
    ∙ ap (law.row_after es table key) (get-with_body rows (pos e.table, e.key) e.body (pos table, key)
    ∙ ap (λ b. cond b e.body (get rows (pos table, key))) (same_place table e.table key e.key))

pub reads_edits : law.ReadsEdits
reads_edits bodies edits table key = rows_at bodies edits table key

pub writes_rows : law.WritesRows
writes_rows batch before table key = rows_at before.rows batch.rows table key

pub writes_pending : law.WritesPending
writes_pending batch before table key = rows_at before.pending batch.pending table key

-- a place that isn't named keeps what it has
other_tie : (some other : StorePlace) → (other ≡ some → ⊥) → eq_by_cmp place_cmp some other ≡ false
other_tie some other apart =
    false_from_ne_true (eq_by_cmp place_cmp some other) (λ t. apart (sym (place_exact some other ((Equal-is (place_cmp some other)).0 t))))

others_at : (bodies : Bodies) (edits : List BodyEdit) (place : StorePlace) → law.IsNoPlaceOf edits place → get (fold edit_body bodies edits) place ≡ get bodies place
others_at bodies [] place none = refl
others_at bodies (e ∷ es) place none = others_at (edit_body bodies e) es place none.1
    ∙ get-with_body bodies (store_place e) e.body place
    ∙ ap (λ b. cond b e.body (get bodies place)) (other_tie place (store_place e) none.0)

pub keeps_other_rows : law.KeepsOtherRows
keeps_other_rows batch before place none = others_at before.rows batch.rows place none

pub keeps_other_pending : law.KeepsOtherPending
keeps_other_pending batch before place none = others_at before.pending batch.pending place none

other_text : (some other : List ℕ) → (other ≡ some → ⊥) → eq_by_cmp by_bytes some other ≡ false
other_text some other apart =
    false_from_ne_true (eq_by_cmp by_bytes some other) (λ t. apart (sym (exact_bytes some other ((Equal-is (by_bytes some other)).0 t))))

other_names_at : (meta : Meta) (edits : List MetaEdit) (text : List ℕ) → ((name : MetaName) → name_text name ≢ text) → get (fold edit_meta meta edits) text ≡ get meta text
other_names_at meta [] text none = refl
other_names_at meta (e ∷ es) text none = other_names_at (edit_meta meta e) es text none
    ∙ get-with_meta meta (name_text e.name) (optional_bytes e.value) text
    ∙ ap (λ b. cond b (optional_bytes e.value) (get meta text)) (other_text text (name_text e.name) (none e.name))

pub keeps_other_names : law.KeepsOtherNames
keeps_other_names batch before text none = other_names_at before.meta batch.meta.items text none

-- a body that is set, or removed
count_set : (n : ℕ) (there : Option (List ℕ)) → cond (is_some there) n (n + 1) + law.one_if_some there ≡ n + 1
count_set n None = omega arith
count_set n (Some body) = refl

count_removed : (n : ℕ) (there : Option (List ℕ)) → (IsSome there → 1 ≤ n) → cond (is_some there) (n - 1) n + law.one_if_some there ≡ n + 0
count_removed n None least = refl
count_removed n (Some body) least = let l = least refl in omega (arith, l)

some_counts : (bodies : Bodies) (place : StorePlace) → IsSome (get bodies place) → 1 ≤ len bodies
some_counts bodies place there = at_least (len bodies) refl
  where
    at_least : (n : ℕ) → n ≡ len bodies → 1 ≤ n
    at_least zero none =
        let nothing_there : get bodies place ≡ None = ap (λ (m : Bodies). get m place) (empty_of_len bodies (sym none)) ∙ get-empty place_cmp place in
        absurd (let some = subst IsSome nothing_there there in cc)
    at_least (suc n) none = omega arith

counts_with : (bodies : Bodies) (place : StorePlace) (body : Option (List ℕ)) → len (with_body bodies place body) + law.one_if_some (get bodies place) ≡ len bodies + law.one_if_some body
counts_with bodies place None =
    ap (λ n. n + law.one_if_some (get bodies place)) (len-remove place_total bodies place)
    ∙ count_removed (len bodies) (get bodies place) (λ there. some_counts bodies place there)
counts_with bodies place (Some body) =
    ap (λ n. n + law.one_if_some (get bodies place)) (len-insert place_total bodies place body)
    ∙ count_set (len bodies) (get bodies place)

pub counts_bodies : law.CountsBodies
counts_bodies bodies edit = counts_with bodies (store_place edit) edit.body

meta_at : (meta : Meta) (edits : List MetaEdit) (name : MetaName) → get (fold edit_meta meta edits) (name_text name) ≡ law.value_after edits name (get meta (name_text name))
meta_at meta [] name = refl
meta_at meta (e ∷ es) name = meta_at (edit_meta meta e) es name
    ∙ ap (law.value_after es name) (get-with_meta meta (name_text e.name) (optional_bytes e.value) (name_text name))

pub writes_meta : law.WritesMeta
writes_meta batch before name = meta_at before.meta batch.meta.items name

pub writes_log : law.WritesLog
writes_log batch before version =
    elim batch.log as (λ o. get (appended before.log (optional_entry o)) (pos version) ≡ law.entry_after o before version) [
      | None ↦ refl
      | Some entry ↦ get-insert int_cmp_total before.log (pos (len before.log)) (item_of entry) (pos version)
          ∙ ap (λ b. cond b (Some (item_of entry)) (get before.log (pos version))) (tie_pos version (len before.log))
    ]

pub counts_log : law.CountsLog
counts_log batch before free =
    elim batch.log as (λ o. len (appended before.log (optional_entry o)) ≡ cond (is_some o) (len before.log + 1) (len before.log)) [
      | None ↦ refl
      | Some entry ↦ len-insert int_cmp_total before.log (pos (len before.log)) (item_of entry)
          ∙ ap (λ (o : Option LogItem). cond (is_some o) (len before.log) (len before.log + 1)) free
    ]

-- ---- names

-- the name that a text begins as
named : List ℕ → MetaName
named [] = Id
named (first ∷ rest) =
    cond (nat_eq first 105) Id (cond (nat_eq first 118) Version (cond (nat_eq first 110) Number
    (cond (nat_eq first 102) Flight (cond (nat_eq first 112) Pending Catalog))))

named_text : (name : MetaName) → named (name_text name) ≡ name
unfolding named
named_text Id = refl
named_text Version = refl
named_text Number = refl
named_text Flight = refl
named_text Pending = refl
named_text Catalog = refl

pub names_apart : law.NamesApart
names_apart some other same = sym (named_text some) ∙ ap named same ∙ named_text other

-- ---- faults

pub only_memory : (T : Type 0) → law.OnlyMemory T
only_memory T (Ok value) count below counts = tt
only_memory T (Err Memory) count below counts = refl
only_memory T (Err Device) count below counts = let rose = counts.cause refl in absurd (omega (arith, below, rose))

pub commit_can_be : law.CommitCanBe
commit_can_be before after = record {
  was_honest = λ h. h;
  ok = λ h. refl;
  err = λ h. tt;
  durable = λ h left is. is;
  crash = λ h left is. inr is;
  failures = record { kept = refl; later = omega arith; cause = λ e. absurd cc };
  as_read = refl;
}
