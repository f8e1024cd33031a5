-- What is printed of a replica (format of this project).
use Rattle.std.specs.Prelude.{ℕ, List, ◌++◌, Result, Ok, Err, codes}
use Rattle.cs_lines.specs.Lines.{hex_line}
use Rattle.cs_pending.specs.declared.fault.EditFault.{EditFault}
use Rattle.cs_exchange.specs.declared.pulling.fault.AnswerFault.{AnswerFault}
use Rattle.cs_exchange.specs.declared.pushing.fault.PushFault.{PushFault}
use Rattle.cs_replica.specs.declared.told.Told.{Told}
use Rattle.cs_store.specs.declared.fault.StoreFault.{StoreFault}
use Rattle.cs_store.specs.declared.fault.StoreFault.TheVariants as store
use Rattle.cs_text.specs.Text.{line}
use Rattle.cs_node_lines.specs.told.Told.{edit_fault_text, fault_text, push_fault_text, told_text}
use Rattle.cs_wire.specs.Requests.{asked_by_owned, request_spelling}
use Rattle.cs_wire.specs.declared.fault.WireFault.{WireFault}
use Rattle.cs_wire.specs.declared.fault.WireFault.TheVariants as wire
use Rattle.cs_wire.specs.declared.request.RequestBuf.{RequestBuf}

abbrev pub ok_text : List ℕ
ok_text = line (codes "ok")

abbrev pub refused_text : List ℕ → List ℕ
refused_text name = line (codes "refused " ++ name)

-- of a line that can't be read, where it ends nothing
abbrev pub unread_text : List ℕ
unread_text = line (codes "unread")

-- the names of faults of bytes that are no answer, and of a store
abbrev pub wire_fault_text : WireFault → List ℕ
wire_fault_text wire.Truncated = codes "Truncated"
wire_fault_text wire.BadTag = codes "BadTag"
wire_fault_text wire.TooLong = codes "TooLong"
wire_fault_text wire.BadKind = codes "BadKind"
wire_fault_text wire.NotUtf8 = codes "NotUtf8"

abbrev pub store_fault_text : StoreFault → List ℕ
store_fault_text store.Memory = codes "Memory"
store_fault_text store.Device = codes "Device"

-- ---- of an edit, and of a push

abbrev pub edited_text : Result (Unit {0}) EditFault → List ℕ
edited_text (Ok done) = ok_text
edited_text (Err fault) = refused_text (edit_fault_text fault)

-- the request in lower case hex
abbrev pub pushed_text : Result RequestBuf PushFault → List ℕ
pushed_text (Ok request) = hex_line (request_spelling (asked_by_owned request))
pushed_text (Err fault) = refused_text (push_fault_text fault)

-- ---- of an answer, at a replica that is at this version then

abbrev pub heard_text : Result Told AnswerFault → ℕ → List ℕ
heard_text (Ok told) version = line (told_text told version)
heard_text (Err fault) version = line (fault_text fault)
