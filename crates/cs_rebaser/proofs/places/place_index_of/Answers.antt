use Rattle.std.proofs.Common.{◌∙◌}
use Rattle.cs_order.specs.Groups.{HasTwins}
use Rattle.cs_rebaser.specs.Steps.{AreInOrder, entries_in}
use Rattle.cs_rebaser.proofs.Indexes.{apart_in_order, index_in_order}
use Rattle.cs_rebaser.proofs.Placed.{each_once, gathered_entries, gathered_places, not_once}
use Rattle.cs_rebaser.proofs.places.place_index_of.Goals as goal

pub returns-in-None-clause-fault : goal.returns-in-None-clause-fault
returns-in-None-clause-fault c =
    let blob = c.args.groups.now in
    let keys = c.in_ok-places.places in
    let twins : HasTwins keys = rw c.in-None.is at c.in_ok-found.ensures in
    not_once c.orders.ensures blob keys c.requires (c.in_ok-places.ensures.places ∙ gathered_places blob) twins

pub returns-in-Some-clause-index : goal.returns-in-Some-clause-index
returns-in-Some-clause-index c =
    let blob = c.args.groups.now in
    let keys = c.in_ok-places.places in
    let order = c.in-Some.order.items in
    let is : AreInOrder keys order = rw c.in-Some.is at c.in_ok-found.ensures in
    index_in_order blob keys (entries_in blob) order c.requires (c.in_ok-places.ensures.places ∙ gathered_places blob) (gathered_entries blob) is

pub returns-in-Some-clause-once : goal.returns-in-Some-clause-once
returns-in-Some-clause-once c =
    let blob = c.args.groups.now in
    let keys = c.in_ok-places.places in
    let order = c.in-Some.order.items in
    let is : AreInOrder keys order = rw c.in-Some.is at c.in_ok-found.ensures in
    each_once blob keys c.requires (c.in_ok-places.ensures.places ∙ gathered_places blob) (apart_in_order keys order is)
