use denote.RattleType.{RattleType}
use denote.Param.Send.{IsSync}
use Rattle.cs_spine.proofs.SeenLemmas.Sent as sent
use Rattle.cs_spine.specs.contracts.seen.Seen.{the_row}

pub sync : (T : RattleType) → IsSync (the_row T)
sync = sent.seen_sync
