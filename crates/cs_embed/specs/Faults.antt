-- What the faults of the crates below are told as.
use Rattle.cs_node_lines.specs.declared.asks.fault.ReadFault.{ReadFault}
use Rattle.cs_node_lines.specs.declared.asks.fault.ReadFault.TheVariants as reading
use Rattle.cs_node_lines.specs.declared.hub.fault.ServingFault.{ServingFault}
use Rattle.cs_node_lines.specs.declared.hub.fault.ServingFault.TheVariants as serving
use Rattle.cs_node_lines.specs.declared.working.fault.NodeFault.{NodeFault}
use Rattle.cs_node_lines.specs.declared.working.fault.NodeFault.TheVariants as node
use Rattle.cs_opening.specs.declared.fault.OpenFault.{OpenFault}
use Rattle.cs_opening.specs.declared.fault.OpenFault.TheVariants as opening
use Rattle.cs_store.specs.declared.fault.StoreFault.{StoreFault}
use Rattle.cs_store.specs.declared.fault.StoreFault.TheVariants as store
use Rattle.cs_embed.specs.Answers.{damaged, device, mismatch, no_memory, unread}
use Rattle.cs_embed.specs.declared.answer.Answer.{Answer}

abbrev pub of_store : StoreFault → Answer
of_store store.Memory = no_memory
of_store store.Device = device

abbrev pub of_opening : OpenFault → Answer
of_opening opening.Memory = no_memory
of_opening opening.Damaged = damaged
of_opening opening.Device = device
of_opening opening.Mismatch = mismatch

-- lines stand in memory, and a read of them fails for want of it alone
abbrev pub of_reading : ReadFault → Answer
of_reading reading.Memory = no_memory
of_reading reading.Read = no_memory
of_reading (reading.Line number) = unread number

-- texts are put into memory, and a write of them fails for want of it alone
abbrev pub of_node : NodeFault → Answer
of_node node.Memory = no_memory
of_node node.Read = no_memory
of_node node.Write = no_memory
of_node (node.Line number) = unread number
of_node (node.Open fault) = of_opening fault

abbrev pub of_serving : ServingFault → Answer
of_serving serving.Memory = no_memory
of_serving serving.Read = no_memory
of_serving serving.Write = no_memory
of_serving (serving.Open fault) = of_opening fault
