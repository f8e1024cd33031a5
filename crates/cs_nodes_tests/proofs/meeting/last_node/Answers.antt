use Rattle.std.proofs.Common.{◌≡◌, Some}
use Rattle.std.proofs.lemmas.List.Elements.{All-pop}
use Rattle.cs_nodes.specs.declared.plans.ending.NodeEnd.{NodeEnd}
use Rattle.cs_nodes_tests.proofs.meeting.last_node.Goals as goal

pub returns-clause-others : goal.returns-clause-others
returns-clause-others c =
    (All-pop (λ (end : NodeEnd). end.node.pass.spine ≡ c.args.spine.now) c.args.ends.now.items c.pop.new.self.items c.pop.result c.pop.ensures.items c.requires).0

pub returns-clause-node : goal.returns-clause-node
returns-clause-node c =
    (All-pop (λ (end : NodeEnd). end.node.pass.spine ≡ c.args.spine.now) c.args.ends.now.items c.pop.new.self.items (Some c.in_ok-node.field-0) c.in_ok-node.ensures.items c.requires).1
