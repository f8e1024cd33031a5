use Rattle.cs_wire.proofs.Walked.{none_there, spelled_behind, split_is}
use Rattle.cs_wire.proofs.entries.Entries.split_first.Goals as goal

pub returns-in_default : goal.returns-in_default
returns-in_default c = none_there _ _ _ c.bytes.ensures c.in_default.ensures

pub new-requires : goal.new-requires
new-requires c = spelled_behind _ _ _ _ c.bytes.ensures c.in-Ok.ensures

pub returns : goal.returns
returns c = split_is _ _ _ _ _ c.bytes.ensures c.in-Ok.ensures c.new.ensures
