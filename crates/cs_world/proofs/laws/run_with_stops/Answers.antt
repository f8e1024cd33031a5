use Rattle.cs_world.proofs.StopsRuns.{run_with_stops}
use Rattle.cs_world.proofs.laws.run_with_stops.Goals as goal

pub returns : goal.returns
returns c = run_with_stops c.steps_are_sound.ensures c.sound_has_headline.ensures
