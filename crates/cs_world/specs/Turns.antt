-- What becomes of a replica whose store is read again: no definition that a public clause cites.
use Rattle.std.specs.Prelude.{◌≡◌, ◌⊎◌, Result, IfErr}
pub use Rattle.cs_replica.specs.Step.{IsEditedTo, IsPushedTo, Turns, member_of}
use Rattle.cs_opening.specs.declared.fault.OpenFault.{OpenFault}
use Rattle.cs_opening.specs.declared.fault.OpenFault.TheVariants as opening
use Rattle.cs_world.specs.World.{Member}

-- it is as it was; where its store wasn't read, memory was refused or a device failed
abbrev pub IsReloadedTo : Result (Unit {0}) OpenFault → Member → Member → Type 0
IsReloadedTo result before after = (after ≡ before) × IfErr result (λ fault. (fault ≡ opening.Memory) ⊎ (fault ≡ opening.Device))
