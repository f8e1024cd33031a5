use Rattle.std.proofs.Common.{◌≡◌, ◌+◌, ◌++◌, ◌∷◌, [], take}
use Rattle.cs_rebaser.specs.Steps.{IsOrderOf, entry_keys}
use Rattle.cs_order.specs.Groups.{HasTwins}
use Rattle.cs_rebaser.proofs.Apart.{orders_more, twins_at}
use Rattle.cs_rebaser.proofs.Walks.{taken_more}
use Rattle.cs_rebaser.proofs.orders.group_orders.Goals as goal

pub loop-group-preserved : goal.loop-group-preserved
loop-group-preserved c =
    let groups = c.args.groups.now in
    let at = c.loop-group.group-index in
    let group = c.group-item.result in
    let seen = take at groups in
    let more : take (at + 1) groups ≡ seen ++ group ∷ [] = taken_more groups at group c.loop-group-test.true c.group-item.is in
    let is : IsOrderOf group c.in-Some.order = rw c.in-Some.is at c.in_ok-found.ensures in
    rw (more, c.in_ok-push.ensures.items) (orders_more seen c.loop-group.orders.items group c.in-Some.order c.loop-group.invariant (is, tt))

pub returns-in_default : goal.returns-in_default
returns-in_default c =
    let twins : HasTwins (entry_keys c.group-item.result) = rw c.in_default.is at c.in_ok-found.ensures in
    twins_at c.args.groups.now c.loop-group.group-index c.group-item.result c.loop-group-test.true c.group-item.is twins
