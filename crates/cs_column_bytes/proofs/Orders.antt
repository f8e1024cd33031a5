-- Headers have one order of a key's columns, or two.
use Rattle.std.proofs.Common.{◌≡◌, List, inl, inr}
use Rattle.std.specs.Prelude.{◌⊎◌}
use Rattle.std.specs.List.{All, Contains}
use Rattle.std.specs.Ordering.{is_eq}
use Rattle.std.specs.Str.{bytes_eq}
use Rattle.std.proofs.lemmas.Bool.Decides.{not_from_Decides}
use Rattle.std.proofs.lemmas.Slice.Eq.{bytes_eq-Decides}
use Rattle.cs_value.specs.Decided.{all_or_one}
use Rattle.cs_column_bytes.proofs.Columns.{alike_decides}
use Rattle.cs_column_bytes.specs.KeyPlaces.{AreAlike, Head}
use Rattle.cs_column_bytes.specs.Laws.{SomeOrder}
use Rattle.cs_column_bytes.specs.Steps.{DifferInOrder, kind_cmp}
use Rattle.std.proofs.lemmas.Bool.{cases_Bool}

abbrev Agree : Head → Head → Type 0
Agree head other = AreAlike head other → head.1 ≡ other.1

agree_or_differ : (head other : Head) → Agree head other ⊎ DifferInOrder head other
agree_or_differ head other =
    elim (cases_Bool (bytes_eq head.1 other.1)) [
      | inl same ↦ inl (λ alike. (bytes_eq-Decides head.1 other.1).0 same)
      | inr differ ↦ elim (cases_Bool (is_eq (kind_cmp head other))) [
        | inr unlike ↦ inl (λ alike. absurd (not_from_Decides (is_eq (kind_cmp head other)) (alike_decides head other) unlike alike))
        | inl alike ↦ inr (
          (alike_decides head other).0 alike,
          not_from_Decides (bytes_eq head.1 other.1) (bytes_eq-Decides head.1 other.1) differ,
        )
      ]
    ]

-- another header that this one differs from
abbrev DiffersFromOne : List Head → Head → Type 0
DiffersFromOne heads head = (other : Head) × Contains heads other × DifferInOrder head other

with_all : (heads : List Head) (head : Head) → All (Agree head) heads ⊎ DiffersFromOne heads head
with_all heads head = all_or_one (Agree head) (DifferInOrder head) (agree_or_differ head) heads

pub some_order : SomeOrder
some_order heads =
    elim (all_or_one (λ head. All (Agree head) heads) (DiffersFromOne heads) (with_all heads) heads) [
      | inl all ↦ inl all
      | inr (head, here, (other, there, differ)) ↦ inr (head, other, here, there, differ.0, differ.1)
    ]
