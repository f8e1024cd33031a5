-- What is wrong at a stage is told of the whole, and what ends early there ends the bytes early.
use Rattle.std.proofs.Common.{◌≡◌, ℕ, ◌+◌, ◌-◌, ◌≤◌, List, [], ◌∷◌, ◌++◌, length, take, drop, refl, sym, ap, arith, inl, inr, subst}
use Rattle.std.specs.Prelude.{◌≢◌, IsUtf8}
use Rattle.cs_value.specs.declared.value.Field.{Field}
use Rattle.cs_record.specs.Facts.{parts}
use Rattle.cs_change.specs.Spelling.{marks_of}
use Rattle.cs_changeset.specs.Facts.{flag_fault, header_fault_within, record_within}
use Rattle.cs_changeset.specs.Laws.{ColumnsLaws, HeaderLaws}
use Rattle.cs_changeset.specs.Records.{Rule, IsColumnFault}
use Rattle.cs_changeset.specs.Reading.{IsOperation, IsFlagFault, IsHeaderFault, IsRecordsFault, IsChangeFault, IsChangesetFault}
use Rattle.cs_changeset.specs.declared.fault.Fault.{Fault}
use Rattle.cs_changeset.specs.declared.fault.Fault.TheVariants.{Truncated, NotUtf8, Patchset, BadOperation}
use Rattle.cs_feed.proofs.FieldSteps.{wrong_change}
use Rattle.cs_feed.proofs.Following.{length_behind, told_at, early_at}
use Rattle.cs_feed.proofs.Stages.{begins_at, RowSoFar, OldSoFar, NameFound}
use Rattle.cs_feed.specs.Steps.{Leads, IsEarly, behind, ChangesAhead, ChangesWrong, ColumnsAhead, ColumnsWrong, HeaderAhead, HeaderWrong, NameAhead, NameWrong, RowAhead, RowWrong, OldAhead, OldWrong, ChangesReached, GroupReached, NameReached}
use Rattle.cs_feed.specs.declared.stage.Span.{Span}

-- ---- columns

pub column_within : (rule : Rule) (bytes : List ℕ) (at : ℕ) (fault : Fault) (offset : ℕ) → at ≤ length bytes → IsColumnFault rule fault offset (behind bytes at) → at + offset ≤ length bytes
column_within rule bytes at fault offset within told =
    omega (arith, record_within (rule ∷ []) fault offset (behind bytes at) (inl told), length_behind bytes at within)

module _ (rule : Rule) (rules : List Rule) (Next : List Field → List ℕ → Type 0) (NextWrong : List Field → Fault → ℕ → List ℕ → Type 0) (bytes : List ℕ) (at : ℕ) (within : at ≤ length bytes)
    (leads : Leads (ColumnsAhead (rule ∷ rules) Next) (ColumnsWrong (rule ∷ rules) NextWrong) (take at bytes)) where
  pub column_told : (fault : Fault) (offset : ℕ) → IsColumnFault rule fault offset (behind bytes at) → IsChangesetFault fault (at + offset) bytes
  column_told fault offset told =
      told_at (ColumnsAhead (rule ∷ rules) Next) (ColumnsWrong (rule ∷ rules) NextWrong) bytes at fault offset within leads (inl (inl told))

  pub column_early : ColumnsLaws → (fault : Fault) (offset : ℕ) → IsColumnFault rule fault offset (behind bytes at) → fault ≡ Truncated → IsEarly bytes
  column_early laws fault offset told is =
      let early : IsColumnFault rule Truncated offset (behind bytes at) = subst (λ (f : Fault). IsColumnFault rule f offset (behind bytes at)) is told in
      early_at (ColumnsAhead (rule ∷ rules) Next) (ColumnsWrong (rule ∷ rules) NextWrong) bytes at offset within leads (inl (inl early)) (laws.ends (rule ∷ []) offset (behind bytes at) (inl early))

pub row_leads : (bytes marks left : List ℕ) (at : ℕ) → RowSoFar bytes marks left at → Leads (RowAhead (marks_of marks) (marks_of left)) (RowWrong (marks_of marks) (marks_of left)) (take at bytes)
row_leads bytes marks left at so_far =
    subst (λ (r : List ℕ). Leads (RowAhead (marks_of marks) (marks_of r)) (RowWrong (marks_of marks) (marks_of r)) (take at bytes)) so_far.ends so_far.reached.leads

pub old_leads : (bytes marks left : List ℕ) (old : Span) (so_far : OldSoFar bytes marks left old) → Leads (OldAhead (marks_of marks) (marks_of left) so_far.reached.before) (OldWrong (marks_of marks) (marks_of left) so_far.reached.before) (take old.end bytes)
old_leads bytes marks left old so_far =
    subst (λ (r : List ℕ). Leads (OldAhead (marks_of marks) (marks_of r) so_far.reached.before) (OldWrong (marks_of marks) (marks_of r) so_far.reached.before) (take old.end bytes)) so_far.ends so_far.reached.leads

-- ---- a change's place

pub change_told : (bytes marks : List ℕ) (at : ℕ) (fault : Fault) (offset : ℕ) → ChangesReached bytes marks at → IsChangeFault (marks_of marks) fault offset (behind bytes at) → IsChangesetFault fault (at + offset) bytes
change_told bytes marks at fault offset reached told =
    told_at (ChangesAhead (marks_of marks)) (ChangesWrong (marks_of marks)) bytes at fault offset reached.within reached.leads (wrong_change (marks_of marks) fault offset (behind bytes at) told)

here : (bytes : List ℕ) (at : ℕ) (fault : Fault) → IsChangesetFault fault (at + 0) bytes → IsChangesetFault fault at bytes
here bytes at fault told = let e : at + 0 ≡ at = omega arith in subst (λ (n : ℕ). IsChangesetFault fault n bytes) e told

pub patchset_told : (bytes marks : List ℕ) (at : ℕ) (rest : List ℕ) → ChangesReached bytes marks at → behind bytes at ≡ 80 ∷ rest → IsChangesetFault Patchset at bytes
patchset_told bytes marks at rest reached e =
    here bytes at Patchset (change_told bytes marks at Patchset 0 reached (subst (IsChangeFault (marks_of marks) Patchset 0) (sym e) (inr (inl (refl, refl, refl)))))

pub operation_told : (bytes marks : List ℕ) (at first : ℕ) (rest : List ℕ) → ChangesReached bytes marks at → behind bytes at ≡ first ∷ rest → (IsOperation first → ⊥) → first ≢ 80 → first ≢ 84 → IsChangesetFault BadOperation at bytes
operation_told bytes marks at first rest reached e none other unknown =
    here bytes at BadOperation (change_told bytes marks at BadOperation 0 reached (subst (IsChangeFault (marks_of marks) BadOperation 0) (sym e) (inr (inr (none, other, unknown, refl, refl)))))

pub flag_told : (bytes marks : List ℕ) (at operation : ℕ) (rest : List ℕ) (fault : Fault) (inner : ℕ) → ChangesReached bytes marks at → IsOperation operation → behind bytes at ≡ operation ∷ rest → IsFlagFault fault inner rest → IsChangesetFault fault (at + inner) bytes
flag_told bytes marks at operation rest fault inner reached is e told =
    change_told bytes marks at fault inner reached (subst (IsChangeFault (marks_of marks) fault inner) (sym e) (inl (is, flag_fault (IsRecordsFault (marks_of marks) operation) fault inner rest told)))

pub flag_early : (bytes marks : List ℕ) (at operation : ℕ) → ChangesReached bytes marks at → IsOperation operation → behind bytes at ≡ operation ∷ [] → IsEarly bytes
flag_early bytes marks at operation reached is e =
    let told = flag_told bytes marks at operation [] Truncated 1 reached is e (refl, refl) in
    let far : at + 1 ≡ length bytes = omega (arith, ap length e, length_behind bytes at reached.within) in
    subst (λ (n : ℕ). IsChangesetFault Truncated n bytes) far told

-- ---- where a group begins

header_at : (bytes : List ℕ) (at : ℕ) (fault : Fault) (offset : ℕ) → GroupReached bytes at → IsHeaderFault fault offset (84 ∷ behind bytes (at + 1)) → IsHeaderFault fault offset (behind bytes at)
header_at bytes at fault offset reached told = subst (IsHeaderFault fault offset) (sym (begins_at bytes at reached)) told

pub header_within : (bytes : List ℕ) (at : ℕ) (fault : Fault) (offset : ℕ) → GroupReached bytes at → IsHeaderFault fault offset (84 ∷ behind bytes (at + 1)) → at + offset ≤ length bytes
header_within bytes at fault offset reached told =
    omega (arith, header_fault_within fault offset (behind bytes at) (header_at bytes at fault offset reached told), length_behind bytes at (omega (arith, reached.within)))

pub group_told : (bytes : List ℕ) (at : ℕ) (fault : Fault) (offset : ℕ) → GroupReached bytes at → IsHeaderFault fault offset (84 ∷ behind bytes (at + 1)) → IsChangesetFault fault (at + offset) bytes
group_told bytes at fault offset reached told =
    told_at HeaderAhead HeaderWrong bytes at fault offset (omega (arith, reached.within)) reached.leads (inl (header_at bytes at fault offset reached told))

pub group_early : HeaderLaws → (bytes : List ℕ) (at : ℕ) (fault : Fault) (offset : ℕ) → GroupReached bytes at → IsHeaderFault fault offset (84 ∷ behind bytes (at + 1)) → fault ≡ Truncated → IsEarly bytes
group_early laws bytes at fault offset reached told is =
    let early : IsHeaderFault Truncated offset (behind bytes at) = subst (λ (f : Fault). IsHeaderFault f offset (behind bytes at)) is (header_at bytes at fault offset reached told) in
    early_at HeaderAhead HeaderWrong bytes at offset (omega (arith, reached.within)) reached.leads (inl early) (laws.ends offset (behind bytes at) early)

-- ---- a name

pub name_early : (bytes marks : List ℕ) (at : ℕ) → NameReached bytes marks (length bytes) at → IsEarly bytes
name_early bytes marks at reached =
    early_at (NameAhead (marks_of marks)) (NameWrong (marks_of marks)) bytes at (length (behind bytes at)) reached.behind reached.leads (inl (refl, refl, reached.none)) refl

pub name_told : (bytes marks : List ℕ) (searched at end : ℕ) → NameReached bytes marks searched at → NameFound bytes at end → (IsUtf8 (take (end - at) (drop at bytes)) → ⊥) → IsChangesetFault NotUtf8 at bytes
name_told bytes marks searched at end reached found no_text =
    let name = take (end - at) (drop at bytes) in
    let rest = drop (end + 1 - at) (behind bytes at) in
    let told = told_at (NameAhead (marks_of marks)) (NameWrong (marks_of marks)) bytes at NotUtf8 0 (omega (arith, reached.behind, reached.within)) reached.leads
    (inr (inl (refl, refl, (name, rest, found.none, no_text, parts (behind bytes at) (name ++ 0 ∷ []) (end + 1 - at) found.stands)))) in
    here bytes at NotUtf8 told
