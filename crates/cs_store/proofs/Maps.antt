-- Finite maps at places and at names.
use Rattle.std.proofs.Common.{◌≡◌, ℕ, cond, List, Option, Some, None}
use Rattle.std.specs.Ordering.{eq_by_cmp, int_cmp, nat_cmp}
use Rattle.std.specs.Cmp.{IsTotalOrder}
use Rattle.std.specs.Cmp.Lexicographic.{slice_cmp}
use Rattle.std.specs.FinMap.{IsAntisymmetric, get, get-insert, get-remove}
use Rattle.std.proofs.lemmas.Cmp.{int_cmp_total, nat_list_cmp_total, then_total, on_total}
use Rattle.std.proofs.lemmas.Map.Lookups.{exact_pairs, exact_signed, exact_bytes}
use Rattle.cs_store.specs.Contents.{StorePlace, Bodies, Meta, place_cmp}
use Rattle.cs_store.specs.Written.{with_body, with_meta}

pub place_total : IsTotalOrder place_cmp
place_total = then_total (on_total (λ (p : StorePlace). p.0) int_cmp_total) (on_total (λ (p : StorePlace). p.1) nat_list_cmp_total)

pub place_exact : IsAntisymmetric place_cmp
place_exact = exact_pairs int_cmp (slice_cmp nat_cmp) exact_signed exact_bytes

pub get-with_body : (m : Bodies) (p : StorePlace) (w : Option (List ℕ)) (q : StorePlace) → get (with_body m p w) q ≡ cond (eq_by_cmp place_cmp q p) w (get m q)
get-with_body m p None q = get-remove place_total m p q
get-with_body m p (Some v) q = get-insert place_total m p v q

pub get-with_meta : (m : Meta) (p : List ℕ) (w : Option (List ℕ)) (q : List ℕ) → get (with_meta m p w) q ≡ cond (eq_by_cmp (slice_cmp nat_cmp) q p) w (get m q)
get-with_meta m p None q = get-remove nat_list_cmp_total m p q
get-with_meta m p (Some v) q = get-insert nat_list_cmp_total m p v q
