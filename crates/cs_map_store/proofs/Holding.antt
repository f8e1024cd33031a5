-- What a `MapStore` holds, as its calls find and change it.
use Rattle.std.proofs.Common.{◌≡◌, ℕ, List, [], map, fold, refl, sym, ap, subst, ◌∙◌, T, length, ◌<◌, arith}
use Rattle.std.specs.Prelude.{pos}
use Rattle.std.specs.List.{All}
use Rattle.std.specs.FinMap.{get, empty, get-empty, same_map, is_sorted, from_sorted, get-from_sorted, entries-from_sorted}
use Rattle.cs_leaf.specs.Entries.{Entry}
use Rattle.cs_leaf.specs.Edits.{edited}
use Rattle.cs_map_store.specs.Leaves.{AreLeaves, flat, in_table, bodies_in}
use Rattle.cs_store.specs.edits.Edits.{BodyEdit}
use Rattle.cs_store.specs.declared.batch.MetaEdit.{MetaEdit}
use Rattle.cs_leaf.specs.Laws.{EditsAreOfMaps, EditsKeepOrder}
use Rattle.std.proofs.lemmas.Cmp.{nat_list_cmp_total}
use Rattle.std.proofs.lemmas.Map.Lookups.{exact_bytes}
use Rattle.cs_store.specs.Contents.{Bodies, LogItem, place_cmp, nothing, IsListing}
use Rattle.cs_store.specs.Written.{optional_entry, after_batch, appended, edit_body, edit_meta}
use Rattle.cs_map_store.specs.Slots.{SlotKey, Slot, HasOwnNames, listed, shown, meta_of, meta_table, log_of, held_in, write_to, meta_write}
use Rattle.cs_map_store.specs.Steps.{step_write}
use Rattle.cs_store.specs.declared.batch.Batch.{Batch}
use Rattle.cs_map_store.specs.declared.slots.Step.{Step}
use Rattle.cs_map_store.proofs.Maps.{place_total, place_exact, get-meta_of, meta_after_meta, listed_sorted, find-listed}
use Rattle.cs_map_store.proofs.Showing.{get-shown}
use Rattle.cs_map_store.proofs.Checks.{own_empty}

-- ---- a new store

pub no_bodies : bodies_in [] ≡ empty
no_bodies = same_map place_total place_exact _ _ (λ q. get-from_sorted place_cmp [] q tt ∙ sym (get-empty place_cmp q))

no_meta : meta_of (shown []) ≡ empty
no_meta = same_map nat_list_cmp_total exact_bytes _ _ (λ k. get-meta_of (shown []) k ∙ get-shown [] (meta_table, k) ∙ sym (get-empty _ k))

no_log : log_of [] ≡ empty
unfolding log_of
no_log = refl

pub new_holds : (rows pending : Bodies) (es : List (SlotKey × Slot)) (xs : List LogItem) → rows ≡ empty → pending ≡ empty → es ≡ [] → xs ≡ [] → held_in rows pending es xs ≡ nothing
new_holds rows pending es xs r p e x = (λ i. held_in (r i) (p i) (e i) (x i)) ∙ (λ i. record { rows = empty; pending = empty; meta = no_meta i; log = no_log i })

-- ---- reads

pub meta_found : (c : Bodies) (k j : List ℕ) → k ≡ j → get c (meta_table, k) ≡ get (meta_of c) j
meta_found c k j same = ap (λ (n : List ℕ). get c (meta_table, n)) same ∙ sym (get-meta_of c j)

-- the entries of one table are its listing
pub table_listed : (leaves : List (List Entry)) (n : ℕ) (pairs : List (List ℕ × List ℕ)) → T (is_sorted place_cmp (flat leaves)) → pairs ≡ in_table (pos n) (flat leaves) → IsListing (λ k. get (bodies_in leaves) (pos n, k)) pairs
table_listed leaves n pairs sorted is =
    let same : pairs ≡ listed (pos n) (bodies_in leaves) = is ∙ ap (in_table (pos n)) (sym (entries-from_sorted place_cmp (flat leaves) sorted)) in
    subst (IsListing (λ k. get (bodies_in leaves) (pos n, k))) (sym same) (record { rises = listed_sorted (pos n) (bodies_in leaves); found = λ k. find-listed (pos n) k (bodies_in leaves) })

-- ---- a commit

-- the bodies of leaves after edits that were put in order
pub bodies_after : (leaves made : List (List Entry)) (edits all : List BodyEdit) → EditsAreOfMaps → T (is_sorted place_cmp (flat leaves)) → ((bodies : Bodies) → fold edit_body bodies edits ≡ fold edit_body bodies all)
    → flat made ≡ fold edited (flat leaves) edits → bodies_in made ≡ fold edit_body (bodies_in leaves) all
bodies_after leaves made edits all rows_edited sorted order merged = ap from_sorted merged ∙ rows_edited edits (flat leaves) sorted ∙ order (bodies_in leaves)

pub still_rises : (leaves made : List (List Entry)) (edits : List BodyEdit) → EditsKeepOrder → T (is_sorted place_cmp (flat leaves)) → flat made ≡ fold edited (flat leaves) edits → T (is_sorted place_cmp (flat made))
still_rises leaves made edits sorted_edits sorted merged = subst (λ (es : List Entry). T (is_sorted place_cmp es)) (sym merged) (sorted_edits edits (flat leaves) sorted)

-- leaves that are put in
pub put_in : (made ends : List (List Entry)) → T (is_sorted place_cmp (flat made)) → flat ends ≡ flat made → All (λ leaf. 0 < length leaf) ends → AreLeaves ends
put_in made ends rise put full = record { full = full; rise = subst (λ (es : List Entry). T (is_sorted place_cmp es)) (sym put) rise }

pub meta_after : (es ms ns : List (SlotKey × Slot)) (steps : List Step) (edits : List MetaEdit) → shown ms ≡ shown es → map step_write steps ≡ map meta_write edits → shown ns ≡ fold write_to (shown ms) (map step_write steps)
    → meta_of (shown ns) ≡ fold edit_meta (meta_of (shown es)) edits
meta_after es ms ns steps edits slots copies wrote = ap meta_of (wrote ∙ (λ i. fold write_to (slots i) (copies i))) ∙ meta_after_meta (shown es) edits

pub held_after : (rows made_rows pending made_pending : Bodies) (es ns : List (SlotKey × Slot)) (xs zs : List LogItem) (batch : Batch)
    → made_rows ≡ fold edit_body rows batch.rows → made_pending ≡ fold edit_body pending batch.pending
    → meta_of (shown ns) ≡ fold edit_meta (meta_of (shown es)) batch.meta.items → log_of zs ≡ appended (log_of xs) (optional_entry batch.log)
    → held_in made_rows made_pending ns zs ≡ after_batch batch (held_in rows pending es xs)
held_after rows made_rows pending made_pending es ns xs zs batch r p m l = λ i. record { rows = r i; pending = p i; meta = m i; log = l i }

pub no_leaves : AreLeaves []
no_leaves = record { full = λ k d h. absurd (omega (arith, h)); rise = tt }

pub no_names : (es : List (SlotKey × Slot)) → es ≡ [] → HasOwnNames (meta_of (shown es))
no_names es none = own_empty (meta_of (shown es)) (ap (λ (e : List (SlotKey × Slot)). meta_of (shown e)) none ∙ no_meta)
