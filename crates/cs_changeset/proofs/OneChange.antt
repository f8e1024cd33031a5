-- The change that the whole of some bytes spells.
use Rattle.std.proofs.Common.{◌≡◌, ℕ, Bool, true, false, cond, List, [], ◌∷◌, length, Option, Some, None, Result, Ok, Err, IfSome, refl, sym, ap, ◌∙◌, arith}
use Rattle.std.specs.Prelude.{nat_eq}
use borrow.Author.Tests.{eqb-true, eq-eqb}
use Rattle.std.proofs.lemmas.List.{append-nil, take_all}
use Rattle.cs_record.specs.Laws.{FieldLaws, RecordLaws}
use Rattle.cs_record.specs.Facts.{parts, reaches}
use Rattle.cs_record.specs.Reading.{StandsAt}
use Rattle.cs_change.specs.declared.change.Change.{Change}
use Rattle.cs_change.specs.Spelling.{change_spelling, FitsChange}
use Rattle.cs_changeset.specs.Reading.{IsChangeFault}
use Rattle.cs_changeset.specs.Steps.{ReadsEntry, EndsGroup, whole_of}
use Rattle.cs_changeset.specs.declared.fault.FirstFault.{FirstFault}
use Rattle.cs_changeset.proofs.ChangeApart.{spelled, is_operation, operation_known, operation_of, changes_apart, change_right}

abbrev Reads : List Bool → List ℕ → Result (Option (Change × ℕ)) FirstFault → Type 0
Reads marks bytes read = ReadsEntry change_spelling FitsChange IsChangeFault marks bytes read

whole_front : (bytes spelling : List ℕ) (len : ℕ) → StandsAt bytes spelling len → len ≡ length bytes → bytes ≡ spelling
whole_front bytes spelling len stands all = sym (take_all len bytes (omega (arith, all))) ∙ stands.front

pub whole_found : (marks : List Bool) (bytes : List ℕ) (read : Result (Option (Change × ℕ)) FirstFault) → Reads marks bytes read
    → IfSome (whole_of (length bytes) read) (λ change. FitsChange marks change × (bytes ≡ change_spelling change))
whole_found marks bytes (Err told) reads = tt
whole_found marks bytes (Ok None) reads = tt
whole_found marks bytes (Ok (Some found)) reads =
    elim (nat_eq found.1 (length bytes)) as (λ b. nat_eq found.1 (length bytes) ≡ b
    → IfSome (cond b (Some found.0) None) (λ change. FitsChange marks change × (bytes ≡ change_spelling change))) [
      | true ↦ λ all. (reads.0, whole_front bytes (change_spelling found.0) found.1 reads.1 (eqb-true found.1 (length bytes) all))
      | false ↦ λ all. tt
    ] refl

-- no group ends where a change is spelled
not_at_end : (bytes : List ℕ) (change : Change) → bytes ≡ change_spelling change → EndsGroup bytes → ⊥
not_at_end [] change e ends = let no = e ∙ spelled change in absurd cc
not_at_end (next ∷ rest) change e ends = let same : next ∷ rest ≡ operation_of change ∷ _ = e ∙ spelled change in
    (operation_known (operation_of change) (is_operation change)).1 (let first : next ≡ operation_of change = cc in sym first ∙ ends)

module _ (fields : FieldLaws) (records : RecordLaws) where
  pub whole_only : (marks : List Bool) (bytes : List ℕ) (read : Result (Option (Change × ℕ)) FirstFault) (change : Change) → Reads marks bytes read
      → FitsChange marks change → bytes ≡ change_spelling change → whole_of (length bytes) read ≡ Some change
  whole_only marks bytes (Err told) change reads fits e = absurd (change_right fields records marks change told.fault told.offset bytes [] fits (e ∙ sym (append-nil (change_spelling change))) reads)
  whole_only marks bytes (Ok None) change reads fits e = absurd (not_at_end bytes change e reads)
  whole_only marks bytes (Ok (Some found)) change reads fits e =
      let apart = changes_apart fields records marks found.0 change _ [] reads.0 fits (sym (parts bytes (change_spelling found.0) found.1 reads.1) ∙ e ∙ sym (append-nil (change_spelling change))) in
      let all : found.1 ≡ length bytes = reaches bytes (change_spelling found.0) found.1 reads.1 ∙ ap (λ (c : Change). length (change_spelling c)) apart.0 ∙ sym (ap length e) in
      ap (λ b. cond b (Some found.0) None) (eq-eqb found.1 (length bytes) all) ∙ ap Some apart.0
