-- What is printed of a replica (format of this project).
use Rattle.std.specs.Prelude.{ℕ, List, ◌++◌, codes}
use Rattle.std.specs.Fmt.{decimal}
use Rattle.cs_opening.specs.declared.fault.OpenFault.{OpenFault}
use Rattle.cs_opening.specs.declared.fault.OpenFault.TheVariants as opening
use Rattle.cs_pending.specs.declared.fault.EditFault.{EditFault}
use Rattle.cs_pending.specs.declared.fault.EditFault.TheVariants as edit
use Rattle.cs_exchange.specs.declared.pulling.fault.AnswerFault.{AnswerFault}
use Rattle.cs_exchange.specs.declared.pulling.fault.AnswerFault.TheVariants as answer
use Rattle.cs_exchange.specs.declared.pushing.fault.PushFault.{PushFault}
use Rattle.cs_exchange.specs.declared.pushing.fault.PushFault.TheVariants as push
use Rattle.cs_replica.specs.declared.told.Told.{Told}
use Rattle.cs_replica.specs.declared.told.Told.TheVariants.{Confirmed, Ignored, Stale, Refused, Taken, Stopped}
use Rattle.cs_text.specs.Text.{name_text, values_text}
use Rattle.cs_value.specs.declared.value.Value.{Value}

-- what became of an answer, at a replica that is at this version then
abbrev pub told_text : Told → ℕ → List ℕ
told_text (Confirmed newest) version = codes "accepted " ++ decimal newest
told_text Ignored version = codes "ignored"
told_text (Stale newest) version = codes "stale " ++ decimal newest
told_text (Refused code) version = codes "hub refused " ++ decimal code
told_text (Taken count) version = codes "taken " ++ decimal count ++ codes " version " ++ decimal version
told_text (Stopped count) version = codes "stopped " ++ decimal count ++ codes " version " ++ decimal version

-- why an answer wasn't taken to its end, with how many entries were taken before
abbrev pub fault_text : AnswerFault → List ℕ
fault_text (answer.Memory count) = codes "fault Memory after " ++ decimal count
fault_text (answer.Device count) = codes "fault Device after " ++ decimal count
fault_text (answer.BadEntry count) = codes "fault BadEntry after " ++ decimal count

-- the names of faults
abbrev pub edit_fault_text : EditFault → List ℕ
edit_fault_text edit.Memory = codes "Memory"
edit_fault_text edit.NoTable = codes "NoTable"
edit_fault_text edit.Width = codes "Width"
edit_fault_text edit.NullKey = codes "NullKey"
edit_fault_text edit.Exists = codes "Exists"
edit_fault_text edit.Missing = codes "Missing"
edit_fault_text edit.KeyColumn = codes "KeyColumn"
edit_fault_text edit.Device = codes "Device"

abbrev pub push_fault_text : PushFault → List ℕ
push_fault_text push.Memory = codes "Memory"
push_fault_text push.Nothing = codes "Nothing"
push_fault_text push.InFlight = codes "InFlight"
push_fault_text push.Device = codes "Device"
push_fault_text push.Spent = codes "Spent"
push_fault_text push.TooLarge = codes "TooLarge"

abbrev pub open_fault_text : OpenFault → List ℕ
open_fault_text opening.Memory = codes "Memory"
open_fault_text opening.Damaged = codes "Damaged"
open_fault_text opening.Device = codes "Device"
open_fault_text opening.Mismatch = codes "Mismatch"

-- where a replica stands, by its version and how many changes are pending and under way
abbrev pub place_text : ℕ → ℕ → ℕ → List ℕ
place_text version pending flight =
    codes "version " ++ decimal version ++ codes " pending " ++ decimal pending ++ codes " flight " ++ decimal flight

-- a row of the table with this name
abbrev pub row_text : List ℕ → List Value → List ℕ
row_text table row = codes "row " ++ name_text table ++ values_text row
