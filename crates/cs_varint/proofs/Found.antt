-- Bytes begin with a spelling, or have a fault.
use Rattle.std.proofs.Common.{◌≡◌, ℕ, suc, ◌+◌, ◌*◌, ◌^◌, ◌<◌, ◌≤◌, List, [], ◌∷◌, ◌++◌, length, All, refl, sym, ap, ◌∙◌, append_assoc, arith, inl, inr}
use Rattle.std.specs.Prelude.{◌⊎◌}
use Rattle.std.proofs.lemmas.Bool.{cases_lt, cases_eq, lt-ltb, le-ltb}
use Rattle.std.proofs.lemmas.List.{length-append, append-nil}
use Rattle.std.proofs.lemmas.List.Elements.{All-append, All-from_recursion}
use Rattle.cs_varint.specs.Bytes.{AreBytes}
use Rattle.cs_varint.specs.Varint.{spelling, groups_before_last, last_values, with_groups, IsMore, IsVarint, IsPartialVarint, IsTooLong}
use Rattle.cs_varint.specs.OneSpelling.{spelling_is}
use Rattle.cs_varint.proofs.Apart.{varint_below}

-- a whole varint at the front, as short as it can be or longer
Begins : List ℕ → Type 0
Begins bytes = (value : ℕ) × (front : List ℕ) × (rest : List ℕ) × (bytes ≡ front ++ rest) × IsVarint value front

one_more : (b : ℕ) → IsMore b → All IsMore (b ∷ [])
one_more b more = All-from_recursion IsMore (b ∷ []) (more, tt)

-- behind bytes that others follow
begins_from : (front rest : List ℕ) → All IsMore front → length front ≤ 8 → AreBytes rest → Begins (front ++ rest) ⊎ IsPartialVarint (front ++ rest)
unfolding Begins
begins_from front [] more short are = inr (rw append-nil (omega arith, more))
begins_from front (b ∷ rest) more short are =
    elim (cases_lt b (last_values (length front))) [
      | inl small ↦
          inl (
            last_values (length front) * with_groups 0 front + b,
            front ++ b ∷ [],
            rest,
            sym (append_assoc front (b ∷ []) rest),
            record {
              front = front;
              last = b;
              parts = refl;
              more = more;
              short = short;
              small = small;
              makes = refl;
            },
          )
      | inr large ↦ elim (cases_lt (length front) 8) [
        | inl early ↦
            let above : 128 ≤ b = rw (lt-ltb (length front) 8 early) at large in
            let next = begins_from (front ++ b ∷ []) rest (All-append IsMore front (b ∷ []) more (one_more b (above, are 0))) (omega (arith, length-append front (b ∷ []), early)) (λ i. are (suc i)) in
            rw append_assoc at next
        | inr late ↦
            let above : 256 ≤ b = rw (le-ltb (length front) 8 late) at large in
            absurd (omega (arith, above, are 0))
      ]
    ]

-- what begins with a whole varint begins with a spelling, or it is too long
shortest_or_long : (bytes : List ℕ) → Begins bytes → ((n : ℕ) × (rest : List ℕ) × (n < 2 ^ 64) × (bytes ≡ spelling n ++ rest)) ⊎ IsTooLong bytes
unfolding Begins
shortest_or_long bytes (value, front, rest, parts, whole) =
    elim (cases_eq (length front) (groups_before_last value + 1)) [
      | inl short ↦ inl (value, rest, varint_below value front whole, parts ∙ ap (λ (t : List ℕ). t ++ rest) (spelling_is value front whole short))
      | inr long ↦ inr (record { value = value; front = front; rest = rest; parts = parts; whole = whole; long = long })
    ]

pub varint_or_fault : (bytes : List ℕ) → AreBytes bytes → ((n : ℕ) × (rest : List ℕ) × (n < 2 ^ 64) × (bytes ≡ spelling n ++ rest)) ⊎ IsPartialVarint bytes ⊎ IsTooLong bytes
varint_or_fault bytes are =
    elim (begins_from [] bytes (λ i d h. absurd (omega (arith, h))) (omega arith) are) [
      | inr partial ↦ inr (inl partial)
      | inl begins ↦ elim (shortest_or_long bytes begins) [
        | inl found ↦ inl found
        | inr long ↦ inr (inr long)
      ]
    ]
