-- The code of each fault, by which programs tell it.
use Rattle.std.specs.Prelude.{ℕ}
use Rattle.cs_wire.specs.declared.fault.WireFault.{WireFault}
use Rattle.cs_wire.specs.declared.fault.WireFault.TheVariants.{Truncated, BadTag, TooLong, BadKind, NotUtf8}

abbrev pub wire_code : WireFault → ℕ
wire_code Truncated = 2
wire_code BadTag = 20
wire_code TooLong = 21
wire_code BadKind = 23
wire_code NotUtf8 = 6
