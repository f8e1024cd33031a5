-- The order of places.
use Rattle.std.proofs.Common.{◌≡◌, ℕ, Bool, true, false, cond, List, Option, Some, None, refl, arith}
use Rattle.std.specs.Prelude.{pos}
use Rattle.std.proofs.Math.Dec.{ltb, eqb}
use borrow.Author.Tests.{ltb-true, ltb-false, eqb-true, eqb-false}
use Rattle.std.specs.declared.cmp.Ordering.TheVariants.{Less, Equal, Greater}
use Rattle.std.specs.Ordering.{eq_by_cmp, int_cmp, nat_cmp}
use Rattle.std.specs.Cmp.{IsTotalOrder}
use Rattle.std.specs.Cmp.Lexicographic.{slice_cmp}
use Rattle.std.specs.FinMap.{IsAntisymmetric, get, get-insert, get-remove}
use Rattle.std.proofs.lemmas.Cmp.{int_cmp_total, nat_list_cmp_total, then_total, on_total}
use Rattle.std.proofs.lemmas.Map.Lookups.{exact_pairs, exact_signed, exact_bytes}
use Rattle.cs_store.specs.Contents.{StorePlace, Bodies, place_cmp}
use Rattle.cs_store.specs.Written.{with_body}

pub place_total : IsTotalOrder place_cmp
place_total = then_total (on_total (λ (p : StorePlace). p.0) int_cmp_total) (on_total (λ (p : StorePlace). p.1) nat_list_cmp_total)

pub place_exact : IsAntisymmetric place_cmp
place_exact = exact_pairs int_cmp (slice_cmp nat_cmp) exact_signed exact_bytes

pub get-with_body : (m : Bodies) (p : StorePlace) (w : Option (List ℕ)) (q : StorePlace) → get (with_body m p w) q ≡ cond (eq_by_cmp place_cmp q p) w (get m q)
get-with_body m p None q = get-remove place_total m p q
get-with_body m p (Some v) q = get-insert place_total m p v q

-- two numbers compare as the integers that they are
pub int_cmp-pos : (a b : ℕ) → int_cmp (pos a) (pos b) ≡ nat_cmp a b
int_cmp-pos a b = three (ltb a b) (ltb b a) (eqb a b) refl refl refl
  where
    three : (l g e : Bool) → ltb a b ≡ l → ltb b a ≡ g → eqb a b ≡ e → cond l Less (cond g Greater Equal) ≡ cond l Less (cond e Equal Greater)
    three true g e p q r = refl
    three false true true p q r = absurd (omega (arith, ltb-true b a q, eqb-true a b r))
    three false true false p q r = refl
    three false false true p q r = refl
    three false false false p q r = absurd (eqb-false a b r (omega (arith, ltb-false a b p, ltb-false b a q)))
