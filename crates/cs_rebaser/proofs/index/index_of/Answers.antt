use Rattle.cs_rebaser.specs.Steps.{AreOrders, HasTwinsIn}
use Rattle.cs_rebaser.proofs.Apart.{each_apart, twice_in_group}
use Rattle.cs_rebaser.proofs.index.index_of.Goals as goal

pub returns-in-None-clause-fault : goal.returns-in-None-clause-fault
returns-in-None-clause-fault c =
    let blob = c.args.groups.now in
    let twins : HasTwinsIn blob = rw c.in-None.is at c.in_ok-found.ensures in
    twice_in_group c.orders.ensures blob twins

pub returns-in-Some-clause-index : goal.returns-in-Some-clause-index
returns-in-Some-clause-index c =
    let blob = c.args.groups.now in
    let orders : AreOrders blob c.in-Some.orders.items = rw c.in-Some.is at c.in_ok-found.ensures in
    (c.in_ok-apart.ensures c.if-not-apart.false, orders)

pub returns-in-Some-clause-once : goal.returns-in-Some-clause-once
returns-in-Some-clause-once c =
    let blob = c.args.groups.now in
    let orders : AreOrders blob c.in-Some.orders.items = rw c.in-Some.is at c.in_ok-found.ensures in
    each_apart blob c.in-Some.orders.items (c.in_ok-apart.ensures c.if-not-apart.false) orders
