-- A table that is copied: what edits that set its listed rows leave.
use Rattle.std.proofs.Common.{◌≡◌, ◌≢◌, ◌+◌, ◌&&◌, inl, inr, ℕ, Bool, true, false, List, [], ◌∷◌, map, Option, Some, None, refl, sym, ap, subst, ◌∙◌, arith}
use Rattle.std.specs.Prelude.{pos, negsuc, fold, nat_eq, if◌then◌else◌}
use Rattle.std.specs.FinMap.{find, get, get-empty}
use Rattle.std.specs.List.{AllByRecursion}
use Rattle.std.proofs.lemmas.Bool.Decides.{eqb_tells}
use Rattle.cs_value.specs.Facts.{by_test}
use Rattle.cs_order.specs.Order.{by_bytes, same_bytes}
use Rattle.cs_pending.specs.rows.Listings.{each_found}
use Rattle.cs_store.specs.Contents.{Bodies, Contents, IsListing, StorePlace, name_text, meta_value, nothing, stored_pending, stored_tables}
use Rattle.cs_store.specs.Laws.{IsNoPlaceOf, KeepsOtherNames, KeepsOtherRows, WritesMeta, WritesRows, row_after, value_after}
use Rattle.cs_store.specs.Written.{after_batch, appended, edit_body, edit_meta, optional_entry, pairs_of}
use Rattle.cs_store.specs.declared.batch.Batch.{Batch}
use Rattle.cs_store.specs.declared.batch.MetaEdit.{MetaEdit}
use Rattle.cs_store.specs.edits.Edits.{BodyEdit}
use Rattle.cs_store.specs.declared.batch.StoredEntry.{StoredEntry}
use Rattle.cs_store.specs.declared.names.MetaName.{MetaName}
use Rattle.cs_store.specs.declared.store.StoredBody.{StoredBody}
use Rattle.cs_opening.specs.copying.Steps.{AreCopied, HasOurNames, edit_at}
use Rattle.cs_opening.proofs.CopyingLemmas.Maps.{by_option, key_is, meta_copied}

-- ---- what the edits of one table leave at a place

abbrev edits : ℕ → List StoredBody → List BodyEdit
edits number rows = map (edit_at number) rows

same_number : (n : ℕ) (b : Bool) → (nat_eq n n && b) ≡ b
same_number n b =
    elim (eqb_tells n n) [
      | inl is ↦ let yes = is.0 in simp yes refl
      | inr not ↦ absurd (not.1 refl)
    ]

other_number : (t n : ℕ) (b : Bool) → t ≢ n → (nat_eq t n && b) ≡ false
other_number t n b apart =
    elim (eqb_tells t n) [
      | inl is ↦ absurd (apart is.1)
      | inr not ↦ let no = not.0 in simp no refl
    ]

-- at another table's
elsewhere : (t n : ℕ) (key : List ℕ) (body : Option (List ℕ)) (rows : List StoredBody) → t ≢ n → row_after (edits n rows) t key body ≡ body
elsewhere t n key body [] apart = refl
elsewhere t n key body (row ∷ rows) apart =
    ap (λ (b : Bool). row_after (edits n rows) t key (if b then Some row.body.items else body)) (other_number t n (same_bytes key row.key.items) apart)
    ∙ elsewhere t n key body rows apart

-- none of them is at the place of a negative number
no_place : (z n : ℕ) (key : List ℕ) (rows : List StoredBody) → IsNoPlaceOf (edits n rows) (negsuc z, key)
no_place z n key [] = tt
no_place z n key (row ∷ rows) = ((λ e. let no = ap (λ (p : StorePlace). p.0) e in cc), no_place z n key rows)

-- each row is what stands in this table
module _ (table : List ℕ → Option (List ℕ)) (n : ℕ) where
  abbrev AreIn : List StoredBody → Type 0
  AreIn rows = AllByRecursion (λ (row : List ℕ × List ℕ). table row.0 ≡ Some row.1) (pairs_of rows)

  set_one : (row : StoredBody) (key : List ℕ) (body : Option (List ℕ)) → same_bytes key row.key.items ≡ true → table row.key.items ≡ Some row.body.items
      → (if nat_eq n n && same_bytes key row.key.items then Some row.body.items else body) ≡ table key
  set_one row key body same is =
      ap (λ (b : Bool). if b then Some row.body.items else body) (same_number n (same_bytes key row.key.items) ∙ same)
      ∙ sym (ap table (key_is key row.key.items same) ∙ is)

  keep_one : (row : StoredBody) (key : List ℕ) (body : Option (List ℕ)) → same_bytes key row.key.items ≡ false
      → (if nat_eq n n && same_bytes key row.key.items then Some row.body.items else body) ≡ body
  keep_one row key body apart =
      ap (λ (b : Bool). if b then Some row.body.items else body) (same_number n (same_bytes key row.key.items) ∙ apart)

  -- what stands there already stays
  stays : (rows : List StoredBody) (key : List ℕ) (body : Option (List ℕ)) → AreIn rows → body ≡ table key → row_after (edits n rows) n key body ≡ table key
  stays [] key body all is = is
  stays (row ∷ rows) key body all is =
      stays rows key _ all.1
      (by_test (same_bytes key row.key.items) _
      (λ t. set_one row key body t all.0)
      (λ t. keep_one row key body t ∙ is))

  -- and what is listed is there
  is_set : (rows : List StoredBody) (key found : List ℕ) (body : Option (List ℕ)) → AreIn rows → find by_bytes key (pairs_of rows) ≡ Some found → row_after (edits n rows) n key body ≡ table key
  is_set [] key found body all is = let no : ◌≡◌ {A = Option (List ℕ)} None (Some found) = is in absurd (let f = no in cc)
  is_set (row ∷ rows) key found body all is =
      by_test (same_bytes key row.key.items) _
      (λ t. stays rows key _ all.1 (set_one row key body t all.0))
      (λ t. is_set rows key found _ all.1 (rw t at is))

  pub is_written : (rows : List StoredBody) (key : List ℕ) → IsListing table (pairs_of rows) → row_after (edits n rows) n key None ≡ table key
  is_written rows key listing =
      let all : AreIn rows = each_found (λ k b. table k ≡ Some b) (pairs_of rows) listing.rises (λ k b is. sym (listing.found k) ∙ is) in
      by_option (table key) _
      (λ none. stays rows key None all (sym none))
      (λ found is. is_set rows key found None all (listing.found key ∙ is))

-- ---- a commit of such edits alone

module _ (batch : Batch) (before : Contents) where
  pending_stays : batch.pending ≡ [] → (after_batch batch before).pending ≡ before.pending
  pending_stays is = ap (λ (es : List BodyEdit). fold edit_body before.pending es) is

  rows_stay : batch.rows ≡ [] → (after_batch batch before).rows ≡ before.rows
  rows_stay is = ap (λ (es : List BodyEdit). fold edit_body before.rows es) is

  meta_stays : batch.meta.items ≡ [] → (after_batch batch before).meta ≡ before.meta
  meta_stays is = ap (λ (es : List MetaEdit). fold edit_meta before.meta es) is

  log_stays : batch.log ≡ None → (after_batch batch before).log ≡ before.log
  log_stays is = ap (λ (o : Option StoredEntry). appended before.log (optional_entry o)) is

module _ (law : WritesRows) (others : KeepsOtherRows) (contents before : Contents) (batch : Batch) (n : ℕ) (listed : List StoredBody)
    (rows : batch.rows ≡ edits n listed) (pending : batch.pending ≡ []) (meta : batch.meta.items ≡ []) (log : batch.log ≡ None)
    (listing : IsListing (stored_tables contents n) (pairs_of listed)) (settled : (key : List ℕ) → stored_pending contents n key ≡ None) (copied : AreCopied contents before n) where
  at_place : (t : ℕ) (key : List ℕ) → stored_tables (after_batch batch before) t key ≡ row_after (edits n listed) t key (stored_tables before t key)
  at_place t key = law batch before t key ∙ ap (λ (es : List BodyEdit). row_after es t key (stored_tables before t key)) rows

  at_other : (t : ℕ) (key : List ℕ) → t ≢ n → stored_tables (after_batch batch before) t key ≡ stored_tables before t key
  at_other t key apart = at_place t key ∙ elsewhere t n key (stored_tables before t key) listed apart

  at_this : (key : List ℕ) → stored_tables (after_batch batch before) n key ≡ stored_tables contents n key
  at_this key =
      at_place n key ∙ ap (row_after (edits n listed) n key) (copied.later n key (omega arith)) ∙ is_written (stored_tables contents n) n listed key listing

  this_or : (t : ℕ) (P : ℕ → Type 0) → P n → (t ≢ n → P t) → P t
  this_or t P this other =
      elim (eqb_tells t n) [
        | inl is ↦ subst P (sym is.1) this
        | inr not ↦ other not.1
      ]

  pub table_copied : AreCopied contents (after_batch batch before) (n + 1)
  table_copied = record {
    rows = λ t key less. this_or t (λ m. stored_tables (after_batch batch before) m key ≡ stored_tables contents m key) (at_this key)
        (λ apart. at_other t key apart ∙ copied.rows t key (omega (arith, less, apart)));
    later = λ t key from. at_other t key (λ e. omega (arith, from, e)) ∙ copied.later t key (omega (arith, from));
    before = λ z key. others batch before (negsuc z, key) (subst (λ (es : List BodyEdit). IsNoPlaceOf es (negsuc z, key)) (sym rows) (no_place z n key listed)) ∙ copied.before z key;
    settled = λ t key less. this_or t (λ m. stored_pending contents m key ≡ None) (settled key) (λ apart. copied.settled t key (omega (arith, less, apart)));
    pending = pending_stays batch before pending ∙ copied.pending;
    meta = meta_stays batch before meta ∙ copied.meta;
    log = log_stays batch before log ∙ copied.log;
  }

-- ---- a commit of values alone, of a new store

module _ (law : WritesMeta) (others : KeepsOtherNames) (contents : Contents) (batch : Batch)
    (rows : batch.rows ≡ []) (pending : batch.pending ≡ []) (log : batch.log ≡ None)
    (names : HasOurNames contents) (values : (name : MetaName) → value_after batch.meta.items name None ≡ meta_value contents name) where
  no_row : (place : StorePlace) → get (after_batch batch nothing).rows place ≡ None
  no_row place = ap (λ (bodies : Bodies). get bodies place) (rows_stay batch nothing rows) ∙ get-empty _ place

  pub values_copied : AreCopied contents (after_batch batch nothing) 0
  values_copied = record {
    rows = λ t key less. absurd (omega (arith, less));
    later = λ t key from. no_row (pos t, key);
    before = λ z key. no_row (negsuc z, key);
    settled = λ t key less. absurd (omega (arith, less));
    pending = pending_stays batch nothing pending;
    meta = meta_copied (after_batch batch nothing) contents names
        (λ name. law batch nothing name ∙ ap (value_after batch.meta.items name) (get-empty by_bytes (name_text name)) ∙ values name)
        (λ text never. others batch nothing text never ∙ get-empty by_bytes text);
    log = log_stays batch nothing log;
  }
