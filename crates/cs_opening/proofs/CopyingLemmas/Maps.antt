-- Maps told by what stands at each place, and the names of values.
use Rattle.std.proofs.Common.{◌≡◌, ◌≢◌, ◌⊎◌, inl, inr, ℕ, List, Option, Some, None, refl, sym, ap, ◌∙◌}
use Rattle.std.specs.Prelude.{true, false}
use Rattle.std.specs.Cmp.{Equal-is, IsTotalOrder}
use Rattle.std.specs.FinMap.{IsAntisymmetric, empty, get, get-empty, same_map}
use Rattle.std.specs.Ordering.{int_cmp, nat_cmp}
use Rattle.std.specs.Cmp.Lexicographic.{slice_cmp}
use Rattle.std.proofs.lemmas.Cmp.{eq_by_cmp_equiv, int_cmp_total, nat_list_cmp_total, on_total, then_total}
use Rattle.std.proofs.lemmas.Map.Lookups.{exact_bytes, exact_pairs, exact_signed}
use Rattle.cs_value.specs.Facts.{by_test}
use Rattle.cs_order.specs.Order.{by_bytes, same_bytes}
use Rattle.cs_store.specs.Contents.{Bodies, Contents, Meta, StorePlace, name_text, place_cmp, meta_value}
use Rattle.cs_store.specs.Whole.{IsName}
use Rattle.cs_store.specs.declared.names.MetaName.{MetaName}
use Rattle.cs_store.specs.declared.names.MetaName.TheVariants.{Id, Version, Number, Flight, Pending, Catalog}
use Rattle.cs_opening.specs.copying.Steps.{HasOurNames}

-- ---- cases

pub by_option : {A : Type 0} (o : Option A) (P : Type 0) → (o ≡ None → P) → ((a : A) → o ≡ Some a → P) → P
by_option None P none some = none refl
by_option (Some a) P none some = some a refl

pub none_at : {A : Type 0} (o : Option A) → ((a : A) → o ≡ Some a → ⊥) → o ≡ None
none_at None never = refl
none_at (Some a) never = absurd (never a refl)

pub not_both : {A : Type 0} (o : Option A) (a : A) → o ≡ None → o ≡ Some a → ⊥
not_both o a none some = let no = sym none ∙ some in cc

pub key_is : (x y : List ℕ) → same_bytes x y ≡ true → x ≡ y
key_is x y e = exact_bytes x y ((Equal-is (by_bytes x y)).0 e)

pub key_refl : (x : List ℕ) → same_bytes x x ≡ true
key_refl x = (eq_by_cmp_equiv nat_list_cmp_total).refl x

-- ---- maps

place_total : IsTotalOrder place_cmp
place_total = then_total (on_total (λ (p : StorePlace). p.0) int_cmp_total) (on_total (λ (p : StorePlace). p.1) nat_list_cmp_total)

place_exact : IsAntisymmetric place_cmp
place_exact = exact_pairs int_cmp (slice_cmp nat_cmp) exact_signed exact_bytes

pub same_bodies : (some other : Bodies) → ((place : StorePlace) → get some place ≡ get other place) → some ≡ other
same_bodies some other same = same_map place_total place_exact some other same

pub no_bodies : (bodies : Bodies) → ((place : StorePlace) → get bodies place ≡ None) → bodies ≡ empty
no_bodies bodies none = same_bodies bodies empty (λ q. none q ∙ sym (get-empty place_cmp q))

pub same_meta : (some other : Meta) → ((text : List ℕ) → get some text ≡ get other text) → some ≡ other
same_meta some other same = same_map nat_list_cmp_total exact_bytes some other same

-- ---- the names of values

pub each_name : (P : MetaName → Type 0) → P Id → P Version → P Number → P Flight → P Pending → P Catalog → (name : MetaName) → P name
each_name P a b c d e f Id = a
each_name P a b c d e f Version = b
each_name P a b c d e f Number = c
each_name P a b c d e f Flight = d
each_name P a b c d e f Pending = e
each_name P a b c d e f Catalog = f

text_not : (some other : List ℕ) → same_bytes some other ≡ false → some ≢ other
text_not some other test is =
    let yes : same_bytes some other ≡ true = rw is (key_refl other) in (let no = sym test ∙ yes in cc)

by_name : (text : List ℕ) (name : MetaName) → ((name_text name ≢ text) → IsName text ⊎ ((name : MetaName) → name_text name ≢ text)) → IsName text ⊎ ((name : MetaName) → name_text name ≢ text)
by_name text name other =
    by_test (same_bytes (name_text name) text) _ (λ e. inl (name, sym (key_is (name_text name) text e))) (λ e. other (text_not (name_text name) text e))

-- a text is a name, or none of ours
pub named_or_not : (text : List ℕ) → IsName text ⊎ ((name : MetaName) → name_text name ≢ text)
named_or_not text =
    by_name text Id (λ a. by_name text Version (λ b. by_name text Number (λ c. by_name text Flight (λ d. by_name text Pending (λ e. by_name text Catalog (λ f.
    inr (each_name (λ name. name_text name ≢ text) a b c d e f)))))))

-- values that are the same at our names, with none under others
module _ (copy contents : Contents) (names : HasOurNames contents) (here : (name : MetaName) → meta_value copy name ≡ meta_value contents name) (others : (text : List ℕ) → ((name : MetaName) → name_text name ≢ text) → get copy.meta text ≡ None) where
  never_named : (text value : List ℕ) → ((name : MetaName) → name_text name ≢ text) → IsName text → ⊥
  never_named text value never (name, is) = never name (sym is)

  at_text : (text : List ℕ) → IsName text ⊎ ((name : MetaName) → name_text name ≢ text) → get copy.meta text ≡ get contents.meta text
  at_text text (inl (name, is)) = ap (get copy.meta) is ∙ here name ∙ sym (ap (get contents.meta) is)
  at_text text (inr never) = others text never ∙ sym (none_at (get contents.meta text) (λ v is. never_named text v never (names text v is)))

  pub meta_copied : copy.meta ≡ contents.meta
  meta_copied = same_meta copy.meta contents.meta (λ text. at_text text (named_or_not text))
