use Rattle.cs_widening.proofs.Bytes.{bytes_widen}
use Rattle.cs_widening.proofs.laws.bytes_widen.Goals as goal

pub returns : goal.returns
returns c = bytes_widen
