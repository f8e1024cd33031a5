use Rattle.cs_pending.proofs.Views.{new_shows, one_view}
use Rattle.cs_pending.proofs.laws.one_view.Goals as goal

pub returns-clause-one : goal.returns-clause-one
returns-clause-one c = one_view c.states.ensures.one c.changesets.ensures.changes

pub returns-clause-some : goal.returns-clause-some
returns-clause-some c = new_shows
