-- Contents all of whose tables are copied are the copy.
use Rattle.std.proofs.Common.{◌≡◌, ◌<◌, ◌≤◌, ◌+◌, inl, inr, ℕ, Bool, List, [], ◌∷◌, Option, Some, None, length, refl, sym, ap, subst, ◌∙◌, arith}
use Rattle.std.specs.Prelude.{ℤ, pos, negsuc, IsTrue, if◌then◌else◌, nat_eq}
use Rattle.std.specs.FinMap.{empty, find, get, empty_of_len, len, len-empty}
use Rattle.std.specs.Ordering.{int_cmp}
use Rattle.std.proofs.lemmas.Bool.{cases_lt}
use Rattle.std.proofs.lemmas.Bool.Decides.{eqb_tells}
use Rattle.std.proofs.lemmas.Option.{slice_get_within}
use Rattle.cs_order.specs.Order.{by_bytes}
use Rattle.cs_value.specs.declared.catalog.TableDef.{TableDef}
use Rattle.cs_store.specs.Contents.{Contents, IsListing, Log, StorePlace, log_count}
use Rattle.cs_store.specs.Whole.{AtTable, IsWhole, StoresChange, StoresRow}
use Rattle.cs_store.specs.Written.{pairs_of}
use Rattle.cs_store.specs.declared.store.StoredBody.{StoredBody}
use Rattle.cs_opening.proofs.NoLog.{HoldsTheirs, empty_log, theirs}
use Rattle.cs_opening.specs.copying.Copied.{HoldsRowsAlone}
use Rattle.cs_opening.specs.copying.Steps.{AreCopied, HasOurNames}
use Rattle.cs_opening.proofs.CopyingLemmas.Maps.{key_refl, no_bodies, none_at, not_both, same_bodies}

-- ---- the log

pub count_none : (contents : Contents) (count : ℕ) → count ≡ log_count contents → (IsTrue (nat_eq count 0) → contents.log ≡ empty) × (contents.log ≡ empty → IsTrue (nat_eq count 0))
count_none contents count counted = (
  (λ t. empty_of_len contents.log (sym counted ∙ zero_is count t)),
  (λ e. is_zero count (counted ∙ ap (λ (log : Log). len log) e ∙ len-empty int_cmp _)),
)
  where
    zero_is : (n : ℕ) → IsTrue (nat_eq n 0) → n ≡ 0
    zero_is n t =
        elim (eqb_tells n 0) [
          | inl is ↦ is.1
          | inr not ↦ absurd (let no = sym not.0 ∙ t in cc)
        ]

    is_zero : (n : ℕ) → n ≡ 0 → IsTrue (nat_eq n 0)
    is_zero n e = rw e refl

-- ---- what is listed of pending changes

pub none_listed : (table : List ℕ → Option (List ℕ)) (listed : List StoredBody) → listed ≡ [] → IsListing table (pairs_of listed) → (key : List ℕ) → table key ≡ None
none_listed table listed none listing key = sym (listing.found key) ∙ ap (λ (rows : List StoredBody). find by_bytes key (pairs_of rows)) none

pub some_listed : (table : List ℕ → Option (List ℕ)) (listed : List StoredBody) → IsListing table (pairs_of listed) → ((key : List ℕ) → table key ≡ None) → listed ≡ []
some_listed table [] listing none = refl
some_listed table (row ∷ listed) listing none =
    absurd (not_both (find by_bytes row.key.items (pairs_of (row ∷ listed))) row.body.items (listing.found row.key.items ∙ none row.key.items)
    (ap (λ (b : Bool). if b then Some row.body.items else find by_bytes row.key.items (pairs_of listed)) (key_refl row.key.items)))

-- ---- the whole

module _ (tables : List TableDef) (contents copy : Contents) (whole : IsWhole tables contents) (log : contents.log ≡ empty) (copied : AreCopied contents copy (length tables)) where
  held : HoldsTheirs tables contents
  held = theirs tables contents (empty_log contents log) whole

  -- what stands at a place is under the number of a table
  under : (Stores : TableDef → List ℕ → List ℕ → Type 0) (place : StorePlace) (body : List ℕ) → AtTable Stores tables place body → (number : ℕ) × (place.0 ≡ pos number) × (number < length tables)
  under Stores place body (number, table, is, found, stored) = (number, is, slice_get_within tables number table found)

  past : (Stores : TableDef → List ℕ → List ℕ → Type 0) (number : ℕ) (key body : List ℕ) → length tables ≤ number → AtTable Stores tables (pos number, key) body → ⊥
  past Stores number key body from at =
      let u = under Stores (pos number, key) body at in
      let same : number ≡ u.0 = (let f = u.1 in cc) in
      let less = u.2 in
      omega (arith, from, less, same)

  below : (Stores : TableDef → List ℕ → List ℕ → Type 0) (number : ℕ) (key body : List ℕ) → AtTable Stores tables (negsuc number, key) body → ⊥
  below Stores number key body at = let no = (under Stores (negsuc number, key) body at).1 in cc

  row_at : (z : ℤ) (key : List ℕ) → get copy.rows (z, key) ≡ get contents.rows (z, key)
  row_at (pos n) key =
      elim (cases_lt n (length tables)) [
        | inl less ↦ copied.rows n key less
        | inr from ↦ copied.later n key from ∙ sym (none_at (get contents.rows (pos n, key)) (λ body is. past StoresRow n key body from (held.rows (pos n, key) body is)))
      ]
  row_at (negsuc n) key = copied.before n key ∙ sym (none_at (get contents.rows (negsuc n, key)) (λ body is. below StoresRow n key body (held.rows (negsuc n, key) body is)))

  pending_at : (z : ℤ) (key : List ℕ) → get contents.pending (z, key) ≡ None
  pending_at (pos n) key =
      elim (cases_lt n (length tables)) [
        | inl less ↦ copied.settled n key less
        | inr from ↦ none_at (get contents.pending (pos n, key)) (λ body is. past StoresChange n key body from (held.pending (pos n, key) body is))
      ]
  pending_at (negsuc n) key = none_at (get contents.pending (negsuc n, key)) (λ body is. below StoresChange n key body (held.pending (negsuc n, key) body is))

  pub is_copy : HoldsRowsAlone tables contents × (copy ≡ contents)
  is_copy =
      let none : contents.pending ≡ empty = no_bodies contents.pending (λ place. pending_at place.0 place.1) in
      let rows : copy.rows ≡ contents.rows = same_bodies copy.rows contents.rows (λ place. row_at place.0 place.1) in
      let pending : copy.pending ≡ contents.pending = copied.pending ∙ sym none in
      let meta : copy.meta ≡ contents.meta = copied.meta in
      let logs : copy.log ≡ contents.log = copied.log ∙ sym log in
      (record { whole = whole; pending = none; log = log }, λ i. record { rows = rows i; pending = pending i; meta = meta i; log = logs i })

-- the same of what calls one after another told, each of contents that stayed
pub all_copied : (tables : List TableDef) (contents checked valued first copy : Contents) → checked ≡ contents → valued ≡ checked
    → IsWhole tables contents × (contents.log ≡ empty)
    → (HasOurNames checked → AreCopied checked first 0)
    → (shown : List TableDef) → shown ≡ tables → (AreCopied valued first 0 → AreCopied valued copy (0 + length shown))
    → HoldsRowsAlone tables contents × (copy ≡ contents)
all_copied tables contents checked valued first copy same again holds values shown is copies =
    let start : AreCopied checked first 0 = values (subst HasOurNames (sym same) holds.0.names) in
    let end : AreCopied valued copy (length shown) = subst (AreCopied valued copy) (omega arith) (copies (subst (λ (c : Contents). AreCopied c first 0) (sym again) start)) in
    is_copy tables contents copy holds.0 holds.1
    (subst (λ (ts : List TableDef). AreCopied contents copy (length ts)) is (subst (λ (c : Contents). AreCopied c copy (length shown)) (again ∙ same) end))
