use Rattle.cs_world.proofs.Merging.{events_merge}
use Rattle.cs_world.proofs.laws.events_merge.Goals as goal

pub returns : goal.returns
returns c = events_merge c.pulls_merge.ensures.each c.pulls_merge.ensures.together c.steps_are_sound.ensures
