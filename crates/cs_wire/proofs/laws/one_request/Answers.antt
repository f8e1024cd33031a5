use Rattle.std.proofs.Common.{sym, ◌∙◌}
use Rattle.cs_wire.proofs.OneRequest.{reads_request}
use Rattle.cs_wire.proofs.laws.one_request.Goals as goal

pub returns : goal.returns
returns c bytes one other is also = sym (reads_request bytes one is) ∙ reads_request bytes other also
