-- The names of values, and maps that hold nothing.
use Rattle.std.proofs.Common.{◌≡◌, ◌≢◌, ◌⊎◌, inl, inr, ℕ, List, Option, Some, None, refl, sym, ◌∙◌}
use Rattle.std.specs.Cmp.{IsTotalOrder}
use Rattle.std.specs.Cmp.Lexicographic.{slice_cmp}
use Rattle.std.specs.FinMap.{IsAntisymmetric, empty, get, get-empty, same_map}
use Rattle.std.specs.Ordering.{int_cmp, nat_cmp}
use Rattle.std.specs.Str.{bytes_eq}
use Rattle.std.proofs.lemmas.Cmp.{int_cmp_total, nat_list_cmp_total, on_total, then_total}
use Rattle.std.proofs.lemmas.Map.Lookups.{exact_bytes, exact_pairs, exact_signed}
use Rattle.cs_value.specs.Facts.{by_test}
use Rattle.cs_apply.specs.Spots.{name_is, name_not}
use Rattle.cs_store.specs.Contents.{Bodies, StorePlace, name_text, place_cmp}
use Rattle.cs_store.specs.Whole.{IsName}
use Rattle.cs_store.specs.declared.names.MetaName.{MetaName}
use Rattle.cs_store.specs.declared.names.MetaName.TheVariants.{Id, Version, Number, Flight, Pending, Catalog}

place_total : IsTotalOrder place_cmp
place_total = then_total (on_total (λ (p : StorePlace). p.0) int_cmp_total) (on_total (λ (p : StorePlace). p.1) nat_list_cmp_total)

place_exact : IsAntisymmetric place_cmp
place_exact = exact_pairs int_cmp (slice_cmp nat_cmp) exact_signed exact_bytes

pub none_at : {A : Type 0} (o : Option A) → ((a : A) → o ≡ Some a → ⊥) → o ≡ None
none_at None never = refl
none_at (Some a) never = absurd (never a refl)

-- bodies that stand nowhere
pub no_bodies : (bodies : Bodies) → ((place : StorePlace) (body : List ℕ) → get bodies place ≡ Some body → ⊥) → bodies ≡ empty
no_bodies bodies never =
    same_map place_total place_exact bodies empty (λ q. none_at (get bodies q) (λ body is. never q body is) ∙ sym (get-empty place_cmp q))

pub each_name : (P : MetaName → Type 0) → P Id → P Version → P Number → P Flight → P Pending → P Catalog → (name : MetaName) → P name
each_name P a b c d e f Id = a
each_name P a b c d e f Version = b
each_name P a b c d e f Number = c
each_name P a b c d e f Flight = d
each_name P a b c d e f Pending = e
each_name P a b c d e f Catalog = f

by_name : (text : List ℕ) (name : MetaName) → ((name_text name ≢ text) → IsName text ⊎ ((name : MetaName) → name_text name ≢ text)) → IsName text ⊎ ((name : MetaName) → name_text name ≢ text)
by_name text name other =
    by_test (bytes_eq (name_text name) text) _ (λ e. inl (name, sym (name_is (name_text name) text e))) (λ e. other (name_not (name_text name) text e))

-- a text is a name, or none of ours
pub named_or_not : (text : List ℕ) → IsName text ⊎ ((name : MetaName) → name_text name ≢ text)
named_or_not text =
    by_name text Id (λ a. by_name text Version (λ b. by_name text Number (λ c. by_name text Flight (λ d. by_name text Pending (λ e. by_name text Catalog (λ f.
    inr (each_name (λ name. name_text name ≢ text) a b c d e f)))))))
