use Rattle.std.proofs.Common.{subst}
use Rattle.std.specs.Prelude.{None}
use Rattle.cs_node_lines.specs.following.Seen.{IsSeen, Seeing}
use Rattle.cs_node_lines.proofs.FollowingLemmas.Sees.{unwished}
use Rattle.cs_node_lines.proofs.following.noting.UnwishedPicker.pick.Goals as goal

pub returns-clause-picked : goal.returns-clause-picked
returns-clause-picked c =
    subst (λ (s : Seeing). IsSeen s c.args.clash.now c.pick.result (record { wishes = c.pick.new.self; seen = None })) c.self.view_is
    (unwished c.self.inside.wishes c.pick.new.self c.args.clash.now c.pick.result c.self.invariant c.pick.ensures.picked)
