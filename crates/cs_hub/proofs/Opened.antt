-- What is opened shows the log that the store showed.
use Rattle.std.proofs.Common.{inl, inr, sym, subst, ◌∙◌}
use Rattle.cs_store.specs.Contents.{Contents}
use Rattle.cs_hub.specs.log_store.Shows.{ShowsLog}
use Rattle.cs_hub.specs.log_opening.Laws.{HubIsOpened}
use Rattle.cs_hub.specs.Laws.{OpenedShows}

pub opened_shows : HubIsOpened → OpenedShows
opened_shows is_opened opening old new count are (inl (none, first, zero)) = (
  (λ is. (first, zero)),
  λ log shows. absurd ((is_opened opening old log are shows).0 none),
)
opened_shows is_opened opening old new count are (inr (some, same, hubs, counted)) = (
  (λ is. absurd (some is)),
  λ log shows. (subst (λ (c : Contents). ShowsLog opening c log) (sym same) shows, counted ∙ shows.entries.counted),
)
