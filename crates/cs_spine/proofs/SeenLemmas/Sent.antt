-- A `Seen` holds names alone, so it goes to any thread.
use denote.RattleType.{RattleType}
use denote.Param.Send.{IsSend, IsSync, sendable}
use denote.Struct.Owning
use denote.Struct.Struct
use Rattle.cs_spine.specs.contracts.seen.Seen as Seen

pub seen_send : (R : RattleType) → IsSend (Seen.the_row R)
seen_send R = record { owned = λ d vs. ((λ vss. (tt, ((λ uss. (tt, tt)), tt))), tt); leaving = λ k f vs. tt }

pub seen_sync : (R : RattleType) → IsSync (Seen.the_row R)
seen_sync R = let fields : IsSync (denote.Struct.Struct.Struct (denote.Struct.Owning.shape (Seen.the_type R))) = search sendable depth 20 in
    record { shared = λ d b o κ. (fields.shared (tt, tt) b o κ, tt) }
