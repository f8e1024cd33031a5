-- Faults of what the program wires together, as the run's. Want of memory and a failed read or write are told as such, whoever
-- meets them.
use Rattle.std.specs.Prelude.{⊤, Bool, true, false, Result, Ok, Err}
use Rattle.cs_node_lines.specs.declared.asks.fault.ReadFault.{ReadFault}
use Rattle.cs_node_lines.specs.declared.asks.fault.ReadFault.TheVariants as reading
use Rattle.cs_command.specs.declared.table.TableFault.{TableFault}
use Rattle.cs_command.specs.declared.table.TableFault.TheVariants as table
use Rattle.cs_node_lines.specs.declared.hub.fault.ServingFault.{ServingFault}
use Rattle.cs_node_lines.specs.declared.hub.fault.ServingFault.TheVariants as serving
use Rattle.cs_opening.specs.declared.fault.OpenFault.TheVariants.{Device}
use Rattle.cs_node_lines.specs.declared.working.fault.NodeFault.{NodeFault}
use Rattle.cs_node_lines.specs.declared.working.fault.NodeFault.TheVariants as node
use Rattle.cs_meeting.specs.declared.fault.MeetingFault.{MeetingFault}
use Rattle.cs_meeting.specs.declared.fault.MeetingFault.TheVariants as meeting
use Rattle.cs_script.specs.declared.fault.ScriptFault.{ScriptFault}
use Rattle.cs_script.specs.declared.fault.ScriptFault.TheVariants as script
use Rattle.cs_store.specs.declared.fault.StoreFault.{StoreFault}
use Rattle.cs_store.specs.declared.fault.StoreFault.TheVariants as store
use Rattle.cs_tools.specs.declared.fault.ToolFault.{ToolFault}
use Rattle.cs_tools.specs.declared.fault.ToolFault.TheVariants as tool
use Rattle.sync_cli.specs.declared.fault.RunFault.{RunFault}
use Rattle.sync_cli.specs.declared.fault.RunFault.TheVariants.{Hub, Line, Lines, Memory, NotAtRest, Open, Read, Table, Write}

abbrev pub of_table : TableFault → RunFault
of_table table.Memory = Memory
of_table (table.Word word) = Table word

abbrev pub of_tool : ToolFault → RunFault
of_tool tool.Memory = Memory
of_tool tool.Read = Read
of_tool tool.Write = Write
of_tool fault = Lines fault

abbrev pub of_serving : ServingFault → RunFault
of_serving serving.Memory = Memory
of_serving serving.Read = Read
of_serving serving.Write = Write
of_serving (serving.Open why) = Open why

-- of a hub over a store in memory, which is opened but for want of memory
abbrev pub of_memory : ServingFault → RunFault
of_memory serving.Read = Read
of_memory serving.Write = Write
of_memory serving.Memory = Memory
of_memory (serving.Open why) = Memory

abbrev pub of_script : ScriptFault → RunFault
of_script script.Memory = Memory
of_script script.Read = Read
of_script script.Write = Write
of_script (script.Line number) = Line number

abbrev pub of_reading : ReadFault → RunFault
of_reading reading.Memory = Memory
of_reading reading.Read = Read
of_reading (reading.Line number) = Line number

abbrev pub of_node : NodeFault → RunFault
of_node node.Memory = Memory
of_node node.Read = Read
of_node node.Write = Write
of_node (node.Line number) = Line number
of_node (node.Open why) = Open why

abbrev pub of_meeting : MeetingFault → RunFault
of_meeting meeting.Memory = Memory
of_meeting meeting.Write = Write
of_meeting (meeting.Hub why) = Hub why
of_meeting (meeting.Replica why) = Open why

-- a meeting's end: all was done only where the replica is at rest
abbrev pub met_as : Result Bool MeetingFault → Result ⊤ RunFault
met_as (Ok true) = Ok tt
met_as (Ok false) = Err NotAtRest
met_as (Err why) = Err (of_meeting why)

-- a hub's file that isn't opened, where a replica meets it
abbrev pub of_hub_store : StoreFault → RunFault
of_hub_store store.Memory = Memory
of_hub_store store.Device = Hub Device

-- a file that isn't opened
abbrev pub of_store : StoreFault → RunFault
of_store store.Memory = Memory
of_store store.Device = Open Device
