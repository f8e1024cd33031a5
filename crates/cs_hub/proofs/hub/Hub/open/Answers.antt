use Rattle.cs_hub.proofs.hub.Hub.open.Goals as goal

pub returns-in-Ok-clause-fresh : goal.returns-in-Ok-clause-fresh
returns-in-Ok-clause-fresh g c = λ honest none.
    let fresh = (c.opened_shows.ensures _ _ _ _ c.tables-tables.ensures.tables (c.in-Ok.ensures.opened honest)).0 none in
    rw c.in-Ok.ensures.opening (fresh.0, fresh.1, c.in-Ok.ensures.widens honest _ fresh.0)

pub returns-in-Ok-clause-shown : goal.returns-in-Ok-clause-shown
returns-in-Ok-clause-shown g c = λ honest log shows.
    let shown = (c.opened_shows.ensures _ _ _ _ c.tables-tables.ensures.tables (c.in-Ok.ensures.opened honest)).1 log shows in
    rw c.in-Ok.ensures.opening (shown.0, shown.1, c.in-Ok.ensures.widens honest log shown.0)
