-- No more changes than bytes, and what is told of a fault.
use Rattle.std.specs.Prelude.{◌≡◌, ℕ, ◌+◌, ◌≤◌, List, [], ◌∷◌, length, Err, refl}
use Rattle.std.proofs.Common.{◌∙◌, ap, arith, inl, inr, length-append}
use Rattle.std.proofs.lemmas.List.Sums.{sum_by-cons}
use Rattle.cs_change.specs.Spelling.{change_spelling, changes_spelling, group_spelling, header_spelling, changeset_spelling}
use Rattle.cs_change.specs.declared.change.Change.{Change}
use Rattle.cs_change.specs.declared.change.Change.TheVariants.{Insert, Delete, Update}
use Rattle.cs_change.specs.declared.group.Group.{Group}
use Rattle.cs_changeset.specs.Reading.{ReadsChangeset, TellsChangesetFault}
use Rattle.cs_changeset.specs.declared.fault.Fault.{Fault}
use Rattle.cs_changeset.specs.declared.fault.CodecFault.{CodecFault}
use Rattle.cs_changeset.specs.declared.fault.CodecFault.TheVariants.{Memory, At}
use Rattle.cs_ffi.specs.Answers.{change_count, answer_of, refused, IsRefusal, TellsFault}
use Rattle.cs_ffi.specs.declared.answer.Answer.{Answer}

change-spelled : (change : Change) → 1 ≤ length (change_spelling change)
change-spelled (Insert flag new) = omega arith
change-spelled (Delete flag old) = omega arith
change-spelled (Update flag old new) = omega arith

changes-spelled : (changes : List Change) → length changes ≤ length (changes_spelling changes)
changes-spelled [] = omega arith
changes-spelled (change ∷ changes) =
    let first = change-spelled change in
    let rest = changes-spelled changes in
    let split = length-append (change_spelling change) (changes_spelling changes) in
    omega arith

-- a changeset has no more changes than its spelling has bytes
pub count-spelled : (groups : List Group) → change_count groups ≤ length (changeset_spelling groups)
count-spelled [] = omega arith
count-spelled (group ∷ groups) =
    let here = changes-spelled group.changes in
    let rest = count-spelled groups in
    let split = length-append (group_spelling group) (changeset_spelling groups) in
    let inner = length-append (header_spelling group.marks group.name) (changes_spelling group.changes) in
    let count : change_count (group ∷ groups) ≡ length group.changes + change_count groups = sum_by-cons _ group groups in
    omega arith

-- the fault that the reader tells is the fault that is answered
pub tells-answer : (found : CodecFault) (fault : Fault) (offset : ℕ) → TellsChangesetFault (Err found) fault offset → TellsFault fault offset (answer_of found)
tells-answer Memory fault offset told = inr refl
tells-answer (At f at) fault offset told = inl (grind (arith, told.0, told.1))

-- the same behind other bytes
pub tells-behind : (at : ℕ) (found fault : Fault) (there offset : ℕ) (answer : Answer) → answer ≡ refused found (at + there) → (found ≡ fault) × (there ≡ offset) → TellsFault fault (at + offset) answer
tells-behind at found fault there offset answer is told =
    inl (is ∙ ap (λ (f : Fault). refused f (at + there)) told.0 ∙ ap (λ (o : ℕ). refused fault (at + o)) told.1)

-- the fault that the reader tells is the refusal that is answered
pub told-refusal : (found : CodecFault) (bytes : List ℕ) → ReadsChangeset bytes (Err found) → IsRefusal bytes (answer_of found)
told-refusal Memory bytes told = inl refl
told-refusal (At fault offset) bytes told = inr (fault, offset, told, refl)
