use Rattle.cs_wire.proofs.Walked.{found_entries}
use Rattle.cs_wire.proofs.entries.Entries.decode.Goals as goal

pub returns : goal.returns
returns c = found_entries _ _ _ _ c.in_ok-check_entries.ensures.1 c.new.ensures
