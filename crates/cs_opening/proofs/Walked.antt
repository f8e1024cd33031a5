-- Lists walked over from the front: all have what the rest has.
use Rattle.std.proofs.Common.{◌≡◌, ◌≤◌, ◌<◌, ◌∙◌, ◌+◌, ℕ, suc, List, [], ◌∷◌, drop, Some, None, arith, length, ap₂, subst, sym}
use Rattle.std.specs.Prelude.{slice_get}
use Rattle.std.specs.List.{AllByRecursion}
use Rattle.std.proofs.Math.Seq.{drop-cons}
use Rattle.std.proofs.lemmas.List.{drop_all, length-map}
use Rattle.std.proofs.lemmas.Option.{get_or_from_slice_get, slice_get-get_or, slice_get_within}
use Rattle.cs_store.specs.Contents.{Contents, IsListing, stored_pending, stored_tables}
use Rattle.cs_value.specs.declared.catalog.TableDef.{TableDef}
use Rattle.cs_store.specs.Written.{pairs_of}
use Rattle.cs_store.specs.declared.store.StoredBody.{StoredBody}
use Rattle.cs_pending.specs.rows.Listings.{Listing, each_found, found_each}
use Rattle.cs_opening.specs.Steps.{AreLeading, IsLeading, IsTableCount, TableLeads}

-- ---- the element where the rest begins

pub rest_at : {X : Type 0} (xs : List X) (at : ℕ) (x : X) → slice_get xs at ≡ Some x → drop at xs ≡ x ∷ drop (at + 1) xs
rest_at xs at x is =
    drop-cons xs at x (slice_get_within xs at x is)
    ∙ ap₂ (λ (y : _) (n : ℕ). y ∷ drop n xs) (get_or_from_slice_get xs at x x is) (let e : suc at ≡ at + 1 = omega arith in e)

pub is_there : {X : Type 0} (xs : List X) (at : ℕ) → at < length xs → slice_get xs at ≡ None → ⊥
is_there [] at less none = absurd (omega (arith, less))
is_there (x ∷ xs) at less none = absurd (let no = sym (slice_get-get_or (x ∷ xs) at x less) ∙ none in cc)

-- ---- what all have and what the rest has

module _ {X : Type 0} (P : X → Type 0) (all : List X) where
  abbrev pub Tells : List X → Type 0
  Tells rest = (AllByRecursion P rest → AllByRecursion P all) × (AllByRecursion P all → AllByRecursion P rest)

  pub tells_more : (rest more : List X) (x : X) → rest ≡ x ∷ more → P x → Tells rest → Tells more
  tells_more rest more x is here tells = (
    (λ others. tells.0 (subst (AllByRecursion P) (sym is) (here, others))),
    (λ each. (subst (AllByRecursion P) is (tells.1 each)).1),
  )

  pub tells_not : (rest more : List X) (x : X) → rest ≡ x ∷ more → (P x → ⊥) → Tells rest → AllByRecursion P all → ⊥
  tells_not rest more x is never tells each = never (subst (AllByRecursion P) is (tells.1 each)).0

  pub tells_end : (at : ℕ) → length all ≤ at → Tells (drop at all) → AllByRecursion P all
  tells_end at past tells = tells.0 (subst (AllByRecursion P) (sym (drop_all at all past)) tt)

-- ---- a listing, and what is found in it

-- the pending changes of a table lead where those that are listed do
module _ (contents : Contents) (number : ℕ) (table : TableDef) (rows : Listing) (listing : IsListing (stored_pending contents number) rows) where
  pub lead_listed : TableLeads contents number table → AreLeading contents number table rows
  lead_listed lead =
      each_found (λ key body. IsLeading table (stored_tables contents number key) body) rows listing.rises (λ key body is. lead key body (sym (listing.found key) ∙ is))

  pub listed_lead : AreLeading contents number table rows → TableLeads contents number table
  listed_lead all key body is =
      found_each (λ key body. IsLeading table (stored_tables contents number key) body) rows key body all (listing.found key ∙ is)

-- the same of the contents as they were before the walk
module _ (contents walked : Contents) (same : walked ≡ contents) (number : ℕ) (table : TableDef) (listed shown : List StoredBody) (is : shown ≡ listed) (listing : IsListing (stored_pending contents number) (pairs_of listed)) where
  all_listed : AreLeading walked number table (pairs_of shown) → AreLeading contents number table (pairs_of listed)
  all_listed all =
      subst (λ (left : Contents). AreLeading left number table (pairs_of listed)) same (subst (λ (rows : List StoredBody). AreLeading walked number table (pairs_of rows)) is all)

  all_shown : AreLeading contents number table (pairs_of listed) → AreLeading walked number table (pairs_of shown)
  all_shown all =
      subst (λ (rows : List StoredBody). AreLeading walked number table (pairs_of rows)) (sym is) (subst (λ (left : Contents). AreLeading left number table (pairs_of listed)) (sym same) all)

  pub table_counted : (count : ℕ) → count ≡ length listed → AreLeading walked number table (pairs_of shown) → IsTableCount contents number table (Some count)
  table_counted count counted all = (
    listed_lead contents number table (pairs_of listed) listing (all_listed all),
    (pairs_of listed, listing, counted ∙ sym (length-map listed (λ (row : StoredBody). (row.key.items, row.body.items)))),
  )

  pub none_counted : (AreLeading walked number table (pairs_of shown) → ⊥) → TableLeads contents number table → ⊥
  none_counted never lead = never (all_shown (lead_listed contents number table (pairs_of listed) listing lead))
