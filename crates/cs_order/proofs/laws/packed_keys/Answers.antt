use Rattle.cs_order.proofs.Halves.{one_spot}
use Rattle.cs_order.proofs.KeyLaws.{keys_stay, one_key_more}
use Rattle.cs_order.proofs.laws.packed_keys.Goals as goal

pub returns : goal.returns
returns c = record { stay = keys_stay; one_more = one_key_more; one_spot = one_spot }
