-- What is told of the faults on the way: no definition that a public clause cites.
use Rattle.std.specs.Prelude.{Bool, false, Result, Ok, Err}
use Rattle.cs_exchange.specs.declared.pulling.fault.PullFault.{PullFault}
use Rattle.cs_exchange.specs.declared.pulling.fault.PullFault.TheVariants as pull
use Rattle.cs_exchange.specs.declared.pushing.fault.PushFault.{PushFault}
use Rattle.cs_exchange.specs.declared.pushing.fault.PushFault.TheVariants as push
use Rattle.cs_nodes.specs.declared.following.fault.NodeFault.{NodeFault}
use Rattle.cs_nodes.specs.declared.following.fault.NodeFault.TheVariants.{Memory, Device, BadEntry, Stopped, Spent, TooLarge}

abbrev pub fault_of_pull : PullFault → NodeFault
fault_of_pull pull.Memory = Memory
fault_of_pull pull.Behind = BadEntry
fault_of_pull pull.Gap = BadEntry
fault_of_pull pull.BadEntry = BadEntry
fault_of_pull (pull.Stopped conflict) = Stopped conflict
fault_of_pull pull.Device = Device

abbrev pub fault_of_push : PushFault → NodeFault
fault_of_push push.Memory = Memory
fault_of_push push.Nothing = Memory
fault_of_push push.InFlight = Memory
fault_of_push push.Device = Device
fault_of_push push.Spent = Spent
fault_of_push push.TooLarge = TooLarge

-- that there is nothing to push is no fault; nor is that a push is under way, where none was
abbrev pub told_of_push : PushFault → Result Bool NodeFault
told_of_push push.Memory = Err Memory
told_of_push push.Nothing = Ok false
told_of_push push.InFlight = Ok false
told_of_push push.Device = Err Device
told_of_push push.Spent = Err Spent
told_of_push push.TooLarge = Err TooLarge
