use Rattle.cs_world.proofs.Left.{stop_of_hub, stop_of_replica}
use Rattle.cs_world.proofs.laws.stops_keep_headline.Goals as goal

pub returns-clause-replica : goal.returns-clause-replica
returns-clause-replica c = stop_of_replica c.steps_are_sound.ensures c.sound_has_headline.ensures

pub returns-clause-hub : goal.returns-clause-hub
returns-clause-hub c = stop_of_hub c.answers_fit.ensures c.steps_are_sound.ensures c.sound_has_headline.ensures
