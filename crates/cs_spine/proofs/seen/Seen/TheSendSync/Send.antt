use denote.RattleType.{RattleType}
use denote.Param.Send.{IsSend}
use Rattle.cs_spine.proofs.SeenLemmas.Sent as sent
use Rattle.cs_spine.specs.contracts.seen.Seen.{the_row}

pub send : (T : RattleType) → IsSend (the_row T)
send = sent.seen_send
