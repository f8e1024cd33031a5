-- Whether a table can get so many columns.
use Rattle.std.proofs.Common.{◌≡◌, ◌⊎◌, inl, inr, ℕ, ◌<◌, ◌≤◌, List, [], ◌∷◌, length, sym, subst, arith}
use Rattle.std.proofs.lemmas.Bool.{cases_lt}
use Rattle.cs_value.specs.Catalog.{max_columns}
use Rattle.cs_value.specs.Decided.{OrNot, both_or_not, same_bytes_or_not}
use Rattle.cs_value.specs.declared.catalog.TableDef.{TableDef}
use Rattle.cs_normal.specs.NormalFacts.{behind, first_or_behind, here}
use Rattle.cs_widening.specs.Laws.{CanWidenOrNot}
use Rattle.cs_widening.specs.Widening.{CanWiden}

abbrev IsNarrow : List ℕ → ℕ → TableDef → Type 0
IsNarrow name width table = (table.name ≡ name) × (length table.key_marks < width) × (width ≤ max_columns)

below_or_not : (some other : ℕ) → OrNot (some < other)
below_or_not some other = elim (cases_lt some other) [ inl below ↦ inl below | inr above ↦ inr (λ below. absurd (omega (arith, below, above))) ]

at_most_or_not : (some other : ℕ) → OrNot (some ≤ other)
at_most_or_not some other = elim (cases_lt other some) [ inl below ↦ inr (λ above. absurd (omega (arith, below, above))) | inr above ↦ inl above ]

narrow_or_not : (name : List ℕ) (width : ℕ) (table : TableDef) → OrNot (IsNarrow name width table)
narrow_or_not name width table =
    elim (both_or_not (same_bytes_or_not table.name name) (both_or_not (below_or_not (length table.key_marks) width) (at_most_or_not width max_columns))) [
      | inl (is, (less, within)) ↦ inl (is, less, within)
      | inr not ↦ inr (λ it. not (it.0, (it.1, it.2)))
    ]

pub can_widen_or_not : CanWidenOrNot
can_widen_or_not [] name width = inr (λ can. absurd (omega (arith, can.1.1)))
can_widen_or_not (table ∷ tables) name width =
    elim (narrow_or_not name width table) [
      | inl it ↦ inl (table, here table tables, it.0, it.1, it.2)
      | inr cannot ↦ elim (can_widen_or_not tables name width) [
        | inl can ↦ inl (can.0, behind table tables can.0 can.1, can.2, can.3, can.4)
        | inr none ↦ inr (λ can. elim (first_or_behind table tables can.0 can.1) [
          | inl is ↦ cannot (subst (λ (t : TableDef). IsNarrow name width t) (sym is) (can.2, can.3, can.4))
          | inr further ↦ none (can.0, further, can.2, can.3, can.4)
        ])
      ]
    ]
