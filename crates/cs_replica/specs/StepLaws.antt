-- The laws of a replica as it is shown: each step of it has one result.
use Rattle.std.specs.Prelude.{◌≡◌, List, Result, Ok, Err, IsUtf8}
use Rattle.std.specs.List.{AllByRecursion}
use Rattle.cs_conflict.specs.declared.wish.Wish.{Wish}
use Rattle.cs_pending.specs.Edits.{IsOfStore}
use Rattle.cs_pending.specs.declared.fault.EditFault.{EditFault}
use Rattle.cs_pending.specs.declared.fault.EditsFault.{EditsFault}
use Rattle.cs_pending.specs.declared.fault.EditsFault.TheVariants as several
use Rattle.cs_exchange.specs.declared.pulling.fault.AnswerFault.{AnswerFault}
use Rattle.cs_exchange.specs.pushing.Laws.{IsOfPush}
use Rattle.cs_exchange.specs.declared.pushing.fault.PushFault.{PushFault}
use Rattle.cs_record.specs.Spelling.{Fits}
use Rattle.cs_replica.specs.Laws.{IsOfAnswer}
use Rattle.cs_replica.specs.declared.told.Told.{Told}
use Rattle.cs_value.specs.Catalog.{AreTables}
use Rattle.cs_value.specs.declared.edit.Edit.{Edit}
use Rattle.cs_value.specs.declared.edit.Edit.TheVariants as edit
use Rattle.cs_value.specs.declared.value.Field.TheVariants.{Is}
use Rattle.cs_value.specs.declared.value.Value.{Value}
use Rattle.cs_wire.specs.Requests.{Asked}
use Rattle.cs_wire.specs.declared.answer.Answer.{Answer}
use Rattle.cs_replica.specs.Step.{AreEditedTo, Hears, IsAskedAgain, IsEditedTo, IsPushAsked, Member}
use Rattle.cs_replica.specs.Same.{IsSameMember, IsShown}

-- ---- an edit

-- a result that says something of the edit
abbrev pub IsOfEdit : Result (Unit {0}) EditFault → Type 0
IsOfEdit (Ok done) = Unit {0}
IsOfEdit (Err fault) = IsOfStore fault → ⊥

-- an edit of the same replica has one result, and leaves the same replica
abbrev pub OneEdited : Type 0
OneEdited =
    (asked : Edit) (some other : Result (Unit {0}) EditFault) (before its one last : Member)
    → IsSameMember before its
    → IsOfEdit some
    → IsOfEdit other
    → IsEditedTo asked some before one
    → IsEditedTo asked other its last
    → (some ≡ other) × IsSameMember one last

-- a result that is the edits': one that is no fault of the store
abbrev pub AreOfEdits : Result (Unit {0}) EditsFault → Type 0
AreOfEdits (Ok done) = Unit {0}
AreOfEdits (Err several.Memory) = ⊥
AreOfEdits (Err several.Device) = ⊥
AreOfEdits (Err (several.Refused at fault)) = Unit {0}

-- edits of the same replica, one behind another, have one result, and leave the same replica
abbrev pub OneEditedAll : Type 0
OneEditedAll =
    (edits : List Edit) (some other : Result (Unit {0}) EditsFault) (before its one last : Member)
    → IsSameMember before its
    → AreOfEdits some
    → AreOfEdits other
    → AreEditedTo edits some before one
    → AreEditedTo edits other its last
    → (some ≡ other) × IsSameMember one last

-- the values that it has have spellings
abbrev pub IsInRange : Edit → Type 0
IsInRange (edit.Insert table row) = AllByRecursion (λ (value : Value). Fits (Is value)) row
IsInRange (edit.Update table key fields) = AllByRecursion Fits fields
IsInRange (edit.Delete table key) = Unit {0}

-- there is one: an edit of a replica that some store shows has a result, and some store shows what it leaves
abbrev pub EditHasResult : Type 0
EditHasResult =
    (asked : Edit) (before : Member)
    → AreTables before.tables
    → IsInRange asked
    → IsShown before
    → (result : Result (Unit {0}) EditFault) × (after : Member) × IsOfEdit result × IsEditedTo asked result before after

-- ---- a push

-- a result that says something of the push
abbrev pub IsOfPushed : Result Asked PushFault → Type 0
IsOfPushed (Ok asked) = Unit {0}
IsOfPushed (Err fault) = IsOfPush fault

-- a push of the same replica asks one thing, or has one fault, and leaves the same replica
abbrev pub OnePushed : Type 0
OnePushed =
    (some other : Result Asked PushFault) (before its one last : Member)
    → AreTables before.tables
    → IsSameMember before its
    → IsOfPushed some
    → IsOfPushed other
    → IsPushAsked some before one
    → IsPushAsked other its last
    → (some ≡ other) × IsSameMember one last

-- there is one: a push of a replica that some store shows has a result, and some store shows what it leaves. The names of the tables are
-- text
abbrev pub PushHasResult : Type 0
PushHasResult =
    (before : Member)
    → AreTables before.tables
    → AllByRecursion (λ table. IsUtf8 table.name) before.tables
    → IsShown before
    → (result : Result Asked PushFault) × (after : Member) × IsOfPushed result × IsPushAsked result before after

-- and once more it asks one thing, or there is none under way
abbrev pub OneResent : Type 0
OneResent =
    (some other : Result Asked PushFault) (before its : Member)
    → IsShown before
    → IsSameMember before its
    → IsOfPushed some
    → IsOfPushed other
    → IsAskedAgain some before.position
    → IsAskedAgain other its.position
    → some ≡ other

-- ---- an answer

-- by one list of wishes an answer has one result at the same replica, and leaves the same replica
abbrev pub OneHeard : Type 0
OneHeard =
    (answer : Answer) (wishes : List Wish) (some other : Result Told AnswerFault) (before its one last : Member)
    → AreTables before.tables
    → IsShown before
    → IsShown its
    → IsSameMember before its
    → IsOfAnswer some
    → IsOfAnswer other
    → Hears before answer wishes some one
    → Hears its answer wishes other last
    → (some ≡ other) × IsSameMember one last
