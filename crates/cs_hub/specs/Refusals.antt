-- What a request is refused for, and the code of each refusal. (Profile of this project.)
use Rattle.std.specs.Prelude.{ℕ}
use Rattle.cs_changeset.specs.Codes.{fault_code}
use Rattle.cs_changeset.specs.declared.fault.CodecFault.{CodecFault}
use Rattle.cs_changeset.specs.declared.fault.CodecFault.TheVariants as codec
use Rattle.cs_normalising.specs.Codes.{unfit_code}
use Rattle.cs_normalising.specs.declared.unfit.Unfit.{Unfit}
use Rattle.cs_normalising.specs.declared.unfit.Unfit.TheVariants as unfit
use Rattle.cs_hub.specs.declared.judgement.fault.HubFault.{HubFault}
use Rattle.cs_hub.specs.declared.judgement.fault.HubFault.TheVariants as hub
use Rattle.cs_hub.specs.declared.refusal.Refusal.{Refusal}
use Rattle.cs_hub.specs.declared.refusal.Refusal.TheVariants.{Memory, NoRequest, NoChangeset, NoForm, ByHub}
use Rattle.cs_wire.specs.Codes.{wire_code}

-- what the hub itself refuses
abbrev pub hub_code : HubFault → ℕ
hub_code hub.Memory = 1
hub_code hub.Ahead = 40
hub_code (hub.Conflict conflict) = 41
hub_code hub.Empty = 42
hub_code hub.Full = 43
hub_code hub.Device = 44
hub_code hub.BadWiden = 46

-- all of them. Those of bytes that spell no request, of a changeset and of its form are these faults' own. A line that is no hex is
-- 22, and want of memory 1: these are told by whoever reads the lines
abbrev pub refusal_code : Refusal → ℕ
refusal_code Memory = 1
refusal_code (NoRequest fault) = wire_code fault
refusal_code (NoChangeset fault) = fault_code fault
refusal_code (NoForm fault) = unfit_code fault
refusal_code (ByHub fault) = hub_code fault

-- ---- what comes of the faults on the way

abbrev pub refusal_of_codec : CodecFault → Refusal
refusal_of_codec codec.Memory = Memory
refusal_of_codec (codec.At fault offset) = NoChangeset fault

abbrev pub refusal_of_unfit : Unfit → Refusal
refusal_of_unfit unfit.Memory = Memory
refusal_of_unfit unfit.UnknownTable = NoForm unfit.UnknownTable
refusal_of_unfit unfit.Shape = NoForm unfit.Shape
refusal_of_unfit unfit.NullKey = NoForm unfit.NullKey
refusal_of_unfit unfit.KeyTwice = NoForm unfit.KeyTwice

abbrev pub refusal_of_hub : HubFault → Refusal
refusal_of_hub hub.Memory = Memory
refusal_of_hub hub.Ahead = ByHub hub.Ahead
refusal_of_hub (hub.Conflict conflict) = ByHub (hub.Conflict conflict)
refusal_of_hub hub.Empty = ByHub hub.Empty
refusal_of_hub hub.Full = ByHub hub.Full
refusal_of_hub hub.Device = ByHub hub.Device
refusal_of_hub hub.BadWiden = ByHub hub.BadWiden
