-- What the steps of a feed keep: how far the bytes are read, and what may follow there. Nothing public cites them.
use Rattle.std.specs.Prelude.{◌≡◌, ◌≢◌, ℕ, ◌+◌, ◌-◌, ◌*◌, ◌<◌, ◌≤◌, ◌⊎◌, Bool, true, false, List, [], ◌∷◌, ◌++◌, length, take, drop, slice_index, IsUtf8, Option, Some, None, Result, Ok, Err}
use Rattle.std.specs.List.{AllByRecursion}
use Rattle.cs_value.specs.declared.value.Field.{Field}
use Rattle.cs_record.specs.Spelling.{record_of, Fits}
use Rattle.cs_record.specs.Reading.{FaultBehind}
use Rattle.cs_change.specs.declared.change.Change.{Change}
use Rattle.cs_change.specs.declared.group.Group.{Group}
use Rattle.cs_change.specs.Spelling.{group_byte, flag_byte, marks_of, header_spelling, changes_spelling, changeset_spelling, FitsHeader, FitsChange, FitsChangeset}
use Rattle.cs_changeset.specs.Records.{Rule, AreRight, IsColumnsFault, row_rules, old_rules, new_rules}
use Rattle.cs_changeset.specs.Reading.{HasNoZero, IsFlagFault, IsHeaderFault, IsChangesFault, IsGroupsFault, IsChangesetFault}
use Rattle.cs_changeset.specs.declared.fault.Fault.{Fault}
use Rattle.cs_changeset.specs.declared.fault.Fault.TheVariants.{Truncated, NotUtf8}
use Rattle.cs_changeset.specs.declared.fault.FirstFault.{FirstFault}
use Rattle.cs_feed.specs.Feeding.{IsChangeset, IsFaultSoFar}
use Rattle.cs_feed.specs.declared.stage.Span.{Span}
use Rattle.cs_feed.specs.declared.stage.Stage.{Stage}
use Rattle.cs_feed.specs.declared.stage.Stage.TheVariants.{Start, Name, Changes, Row, Old, New}
use Rattle.cs_feed.specs.declared.stage.Reached.{Reached}
use Rattle.cs_feed.specs.declared.stage.Step.{Step}
use Rattle.cs_feed.specs.declared.stage.Step.TheVariants.{On, Waits}

-- ---- what may follow behind a front, and what is wrong there

-- what follows the front as it should makes a changeset of the whole, and what is wrong there is wrong with the whole
pub record Leads (Ahead : List ℕ → Type 0) (Wrong : Fault → ℕ → List ℕ → Type 0) (front : List ℕ) : Type 0 where
  pub whole : (tail : List ℕ) → Ahead tail → IsChangeset (front ++ tail)
  pub wrong :
      (fault : Fault) (offset : ℕ) (tail : List ℕ) → Wrong fault offset tail
      → IsChangesetFault fault (length front + offset) (front ++ tail)

-- in a change's place of a group with these key columns: changes, and groups behind them
abbrev pub ChangesAhead : List Bool → List ℕ → Type 0
ChangesAhead keys tail =
    (changes : List Change) × (groups : List Group) × AllByRecursion (FitsChange keys) changes × FitsChangeset groups
    × (tail ≡ changes_spelling changes ++ changeset_spelling groups)

abbrev pub ChangesWrong : List Bool → Fault → ℕ → List ℕ → Type 0
ChangesWrong keys fault offset tail =
    IsChangesFault keys fault offset tail
    ⊎ FaultBehind changes_spelling (AllByRecursion (FitsChange keys)) (λ _. IsGroupsFault) fault offset tail

-- where a group begins: its header, and changes behind it
abbrev pub HeaderAhead : List ℕ → Type 0
HeaderAhead tail =
    (marks : List ℕ) × (name : List ℕ) × (rest : List ℕ) × FitsHeader marks name
    × (tail ≡ header_spelling marks name ++ rest) × ChangesAhead (marks_of marks) rest

abbrev pub HeaderWrong : Fault → ℕ → List ℕ → Type 0
HeaderWrong fault offset tail =
    IsHeaderFault fault offset tail
    ⊎ FaultBehind (λ (header : List ℕ × List ℕ). header_spelling header.0 header.1)
    (λ header. FitsHeader header.0 header.1) (λ header. ChangesWrong (marks_of header.0)) fault offset tail

-- where a name begins, behind these key columns: the name, a zero byte, and changes behind it
abbrev pub NameAhead : List Bool → List ℕ → Type 0
NameAhead keys tail =
    (name : List ℕ) × (rest : List ℕ) × HasNoZero name × IsUtf8 name × (tail ≡ (name ++ 0 ∷ []) ++ rest)
    × ChangesAhead keys rest

abbrev pub NameWrong : List Bool → Fault → ℕ → List ℕ → Type 0
NameWrong keys fault offset tail =
    ((fault ≡ Truncated) × (offset ≡ length tail) × HasNoZero tail)
    ⊎ ((fault ≡ NotUtf8) × (offset ≡ 0) × ((name : List ℕ) × (rest : List ℕ) × HasNoZero name × (IsUtf8 name → ⊥)
    × (tail ≡ (name ++ 0 ∷ []) ++ rest)))
    ⊎ FaultBehind (λ (name : List ℕ). name ++ 0 ∷ []) (λ name. HasNoZero name × IsUtf8 name)
    (λ _. ChangesWrong keys) fault offset tail

-- columns that may hold so much, and behind them what their fields leave to come
abbrev pub ColumnsAhead : List Rule → (List Field → List ℕ → Type 0) → List ℕ → Type 0
ColumnsAhead rules Next tail =
    (fields : List Field) × (rest : List ℕ) × AreRight rules fields × (tail ≡ record_of fields ++ rest) × Next fields rest

abbrev pub ColumnsWrong : List Rule → (List Field → Fault → ℕ → List ℕ → Type 0) → Fault → ℕ → List ℕ → Type 0
ColumnsWrong rules NextWrong fault offset tail =
    IsColumnsFault rules fault offset tail ⊎ FaultBehind record_of (AreRight rules) NextWrong fault offset tail

-- in a row, with so many columns left
abbrev pub RowAhead : List Bool → List Bool → List ℕ → Type 0
RowAhead keys left = ColumnsAhead (row_rules left) (λ _. ChangesAhead keys)

abbrev pub RowWrong : List Bool → List Bool → Fault → ℕ → List ℕ → Type 0
RowWrong keys left = ColumnsWrong (row_rules left) (λ _. ChangesWrong keys)

-- in the new record of an UPDATE, with so many columns left, beside those of the old one
abbrev pub NewAhead : List Bool → List Bool → List Field → List ℕ → Type 0
NewAhead keys left old = ColumnsAhead (new_rules left old) (λ _. ChangesAhead keys)

abbrev pub NewWrong : List Bool → List Bool → List Field → Fault → ℕ → List ℕ → Type 0
NewWrong keys left old = ColumnsWrong (new_rules left old) (λ _. ChangesWrong keys)

-- in the old record of an UPDATE, with so many columns left behind these
abbrev pub OldAhead : List Bool → List Bool → List Field → List ℕ → Type 0
OldAhead keys left before = ColumnsAhead (old_rules left) (λ fields. NewAhead keys keys (before ++ fields))

abbrev pub OldWrong : List Bool → List Bool → List Field → Fault → ℕ → List ℕ → Type 0
OldWrong keys left before = ColumnsWrong (old_rules left) (λ fields. NewWrong keys keys (before ++ fields))

-- ---- how far the bytes are read

-- the bytes behind a place
abbrev pub behind : List ℕ → ℕ → List ℕ
behind bytes at = take (length bytes - at) (drop at bytes)

-- the bytes of a span
abbrev pub part : List ℕ → Span → List ℕ
part bytes span = take (span.end - span.start) (drop span.start bytes)

abbrev pub IsWithin : List ℕ → Span → Type 0
IsWithin bytes span = (span.start ≤ span.end) × (span.end ≤ length bytes)

-- the last ones, so many
abbrev pub last : ℕ → List ℕ → List ℕ
last count marks = drop (length marks - count) marks

-- the bytes end early
abbrev pub IsEarly : List ℕ → Type 0
IsEarly bytes = IsChangesetFault Truncated (length bytes) bytes

-- so many columns of a row are left
pub record RowReached (bytes marks : List ℕ) (left at : ℕ) : Type 0 where
  pub room : left ≤ length marks
  pub within : at ≤ length bytes
  pub leads : Leads (RowAhead (marks_of marks) (marks_of (last left marks))) (RowWrong (marks_of marks) (marks_of (last left marks))) (take at bytes)

-- so many columns of an old record are left behind those that the span holds
pub record OldReached (bytes marks : List ℕ) (left : ℕ) (old : Span) : Type 0 where
  pub room : left ≤ length marks
  pub within : IsWithin bytes old
  pub before : List Field
  pub fit : AllByRecursion Fits before
  pub count : length before + left ≡ length marks
  pub spelled : part bytes old ≡ record_of before
  pub leads : Leads (OldAhead (marks_of marks) (marks_of (last left marks)) before) (OldWrong (marks_of marks) (marks_of (last left marks)) before) (take old.end bytes)

-- so many columns of a new record are left, beside those of the old one that the span holds
pub record NewReached (bytes marks : List ℕ) (left : ℕ) (old : Span) (at : ℕ) : Type 0 where
  pub room : left ≤ length marks
  pub within : at ≤ length bytes
  pub behind : IsWithin bytes old
  pub fields : List Field
  pub fit : AllByRecursion Fits fields
  pub count : length fields ≡ left
  pub spelled : part bytes old ≡ record_of fields
  pub leads : Leads (NewAhead (marks_of marks) (marks_of (last left marks)) fields) (NewWrong (marks_of marks) (marks_of (last left marks)) fields) (take at bytes)

-- a change's place is reached
pub record ChangesReached (bytes marks : List ℕ) (at : ℕ) : Type 0 where
  pub within : at ≤ length bytes
  pub leads : Leads (ChangesAhead (marks_of marks)) (ChangesWrong (marks_of marks)) (take at bytes)

-- a name is reached, and searched so far
pub record NameReached (bytes marks : List ℕ) (searched at : ℕ) : Type 0 where
  pub behind : at ≤ searched
  pub within : searched ≤ length bytes
  pub none : HasNoZero (take (searched - at) (drop at bytes))
  pub leads : Leads (NameAhead (marks_of marks)) (NameWrong (marks_of marks)) (take at bytes)

-- a group begins there
pub record GroupReached (bytes : List ℕ) (at : ℕ) : Type 0 where
  pub first : slice_index bytes at ≡ group_byte
  pub within : at < length bytes
  pub leads : Leads HeaderAhead HeaderWrong (take at bytes)

-- so far the bytes are read
abbrev pub IsReached : List ℕ → ℕ → Stage → Type 0
IsReached bytes at Start = at ≡ 0
IsReached bytes at (Name marks searched) = IsWithin bytes marks × NameReached bytes (part bytes marks) searched at
IsReached bytes at (Changes marks) = IsWithin bytes marks × ChangesReached bytes (part bytes marks) at
IsReached bytes at (Row marks left) = IsWithin bytes marks × RowReached bytes (part bytes marks) left at
IsReached bytes at (Old marks left start) =
    IsWithin bytes marks × OldReached bytes (part bytes marks) left (record { start = start; end = at })
IsReached bytes at (New marks left old) = IsWithin bytes marks × NewReached bytes (part bytes marks) left old at

-- the bytes are a changeset if they end here
abbrev pub IsAtEnd : List ℕ → ℕ → Stage → Type 0
IsAtEnd bytes at Start = at ≡ length bytes
IsAtEnd bytes at (Changes marks) = at ≡ length bytes
IsAtEnd bytes at _ = ⊥

-- nothing more can be read before more bytes come
abbrev pub IsWaiting : List ℕ → ℕ → Stage → Type 0
IsWaiting bytes at stage = IsAtEnd bytes at stage ⊎ IsEarly bytes

-- ---- what the steps give

abbrev pub rank : Stage → ℕ
rank (Row marks left) = 1
rank (Old marks left start) = 2
rank (New marks left old) = 1
rank _ = 0

-- what is left to do
abbrev pub left_to_do : List ℕ → ℕ → Stage → ℕ
left_to_do bytes at stage = 3 * (length bytes - at) + rank stage

abbrev pub IsStep : List ℕ → ℕ → Stage → Result Step FirstFault → Type 0
IsStep bytes at stage (Ok (On next)) =
    IsReached bytes next.at next.stage × (left_to_do bytes next.at next.stage < left_to_do bytes at stage)
IsStep bytes at stage (Ok (Waits next)) = IsReached bytes next.at next.stage × IsWaiting bytes next.at next.stage
IsStep bytes at stage (Err told) = IsFaultSoFar told.fault told.offset bytes

-- a header's count and column bytes are read, or they aren't there yet
abbrev pub BeginsGroupAt : List ℕ → ℕ → Result (Option Reached) FirstFault → Type 0
BeginsGroupAt bytes at (Ok (Some next)) =
    IsReached bytes next.at next.stage × (at < next.at) × (rank next.stage ≡ 0) × (next.at ≤ length bytes)
BeginsGroupAt bytes at (Ok None) = IsEarly bytes
BeginsGroupAt bytes at (Err told) = IsFaultSoFar told.fault told.offset bytes

-- the columns are read as far as they came
abbrev pub ReadsRowOn : List ℕ → List ℕ → ℕ → Result (ℕ × ℕ) FirstFault → Type 0
ReadsRowOn bytes marks at (Ok found) =
    (at ≤ found.0) × RowReached bytes marks found.1 found.0 × ((found.1 ≡ 0) ⊎ IsEarly bytes)
ReadsRowOn bytes marks at (Err told) = IsFaultSoFar told.fault told.offset bytes

abbrev pub ReadsOldOn : List ℕ → List ℕ → Span → Result (Span × ℕ) FirstFault → Type 0
ReadsOldOn bytes marks old (Ok found) =
    (found.0.start ≡ old.start) × (old.end ≤ found.0.end) × OldReached bytes marks found.1 found.0
    × ((found.1 ≡ 0) ⊎ IsEarly bytes)
ReadsOldOn bytes marks old (Err told) = IsFaultSoFar told.fault told.offset bytes

abbrev pub ReadsNewOn : List ℕ → List ℕ → ℕ → Result (ℕ × ℕ × Span) FirstFault → Type 0
ReadsNewOn bytes marks at (Ok found) =
    (at ≤ found.0) × NewReached bytes marks found.1 found.2 found.0 × ((found.1 ≡ 0) ⊎ IsEarly bytes)
ReadsNewOn bytes marks at (Err told) = IsFaultSoFar told.fault told.offset bytes

-- the bytes are read to where more have to come, or have a fault
abbrev pub IsScanned : List ℕ → Result Reached FirstFault → Type 0
IsScanned bytes (Ok reached) =
    IsReached bytes reached.at reached.stage × IsWaiting bytes reached.at reached.stage
IsScanned bytes (Err told) = IsFaultSoFar told.fault told.offset bytes

-- a fault that is told behind so many bytes; none where the bytes end early
abbrev pub IsLater : FirstFault → ℕ → Option FirstFault → Type 0
IsLater told at None = told.fault ≡ Truncated
IsLater told at (Some later) =
    (told.fault ≢ Truncated) × (later.fault ≡ told.fault) × (later.offset ≡ at + told.offset)

-- a flag stands behind the operation's byte there, or it isn't there yet
abbrev pub HasFlagAt : List ℕ → ℕ → Result Bool FirstFault → Type 0
HasFlagAt bytes at (Ok true) = (flag : Bool) × (rest : List ℕ) × (behind bytes (at + 1) ≡ flag_byte flag ∷ rest)
HasFlagAt bytes at (Ok false) = behind bytes (at + 1) ≡ []
HasFlagAt bytes at (Err told) =
    (told.fault ≢ Truncated)
    × ((inner : ℕ) × IsFlagFault told.fault inner (behind bytes (at + 1)) × (told.offset ≡ at + inner))

-- the byte there, if it has come
abbrev pub FirstAt : List ℕ → ℕ → Option ℕ → Type 0
FirstAt bytes at None = length bytes ≤ at
FirstAt bytes at (Some first) = (at < length bytes) × (slice_index bytes at ≡ first)
