use Rattle.std.proofs.Common.{refl}
use Rattle.clap.specs.Faults.{defaults_fault, flags_fault, walk_fault}
use Rattle.clap.specs.Walk.{bundle_met, walked}
use Rattle.cs_command.proofs.laws.asks_to_exchange.Goals as goal

pub returns : goal.returns
unfolding walked bundle_met walk_fault flags_fault defaults_fault
returns c = (refl, refl, refl)
