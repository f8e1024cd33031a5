use Rattle.cs_exchange.proofs.TakingLemmas.NextShown.{next_is_shown}
use Rattle.cs_exchange.proofs.TakingLemmas.OneContents as law
use Rattle.cs_exchange.proofs.TakingLemmas.SameStore.{one_log_rows}
use Rattle.cs_exchange.proofs.taking.laws.one_contents.Goals as goal

pub returns : goal.returns
returns c = record { contents = law.one_contents; log_rows = one_log_rows c.one_view.ensures.one; next = next_is_shown }
