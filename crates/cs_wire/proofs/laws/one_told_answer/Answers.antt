use Rattle.std.proofs.Common.{sym, ◌∙◌}
use Rattle.cs_wire.proofs.OneAnswer.{reads_answer}
use Rattle.cs_wire.proofs.laws.one_told_answer.Goals as goal

pub returns : goal.returns
returns c bytes one other is also = sym (reads_answer bytes one is) ∙ reads_answer bytes other also
