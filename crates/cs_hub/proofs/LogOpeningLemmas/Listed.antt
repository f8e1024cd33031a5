-- What a listing tells of the pending changes of a table, and one table after another.
use Rattle.std.proofs.Common.{◌≡◌, ◌+◌, ◌∙◌, inl, inr, ℕ, Bool, cond, List, [], ◌∷◌, Some, arith, length, ap, subst, sym}
use Rattle.std.specs.Prelude.{◌==◌, IsTrue}
use Rattle.std.specs.FinMap.{find}
use Rattle.std.proofs.lemmas.Bool.{eqb-true}
use Rattle.std.proofs.lemmas.Bool.Decides.{eqb_tells}
use Rattle.cs_order.specs.Order.{by_bytes}
use Rattle.cs_apply.specs.Spots.{key_refl}
use Rattle.cs_store.specs.Contents.{Contents, IsListing, stored_pending}
use Rattle.cs_store.specs.Written.{pairs_of}
use Rattle.cs_store.specs.declared.store.StoredBody.{StoredBody}
use Rattle.cs_hub.specs.log_opening.Steps.{PendsNone, PendsNoneBelow}

-- a change that is listed is found
first_found : (row : StoredBody) (rows : List StoredBody) → find by_bytes row.key.items (pairs_of (row ∷ rows)) ≡ Some row.body.items
first_found row rows =
    ap (λ (b : Bool). cond b (Some row.body.items) (find by_bytes row.key.items (pairs_of rows))) (key_refl row.key.items)

-- none is pending exactly where none is listed
pub listed_none : (contents : Contents) (number : ℕ) (rows : List StoredBody) (empty : Bool) → IsListing (stored_pending contents number) (pairs_of rows) → empty ≡ (length rows == 0)
    → (IsTrue empty → PendsNone contents number) × (PendsNone contents number → IsTrue empty)
listed_none contents number [] empty listing is = (λ t key. sym (listing.found key), λ none. is)
listed_none contents number (row ∷ rows) empty listing is = (
  (λ t. let none : length (row ∷ rows) ≡ 0 = eqb-true (length (row ∷ rows)) 0 (sym is ∙ t) in absurd (omega (arith, none))),
  (λ none. absurd (let no = sym (first_found row rows) ∙ listing.found row.key.items ∙ none row.key.items in cc)),
)

-- one table more
pub one_more : (contents walked : Contents) → walked ≡ contents → (end : ℕ) → PendsNoneBelow contents end → PendsNone walked end → PendsNoneBelow contents (end + 1)
one_more contents walked same end below here number less =
    elim (eqb_tells number end) [
      | inl is ↦ subst (λ (n : ℕ). PendsNone contents n) (sym is.1) (subst (λ (left : Contents). PendsNone left end) same here)
      | inr not ↦ let apart = not.1 in below number (omega (arith, less, apart))
    ]
