use Rattle.std.proofs.Common.{◌≡◌, ◌∙◌, get_or, subst, sym, ap, arith, Some}
use Rattle.std.proofs.lemmas.Option.{slice_get-get_or}
use Rattle.cs_blob.specs.declared.blob.BlobGroup.{BlobGroup}
use Rattle.cs_rebaser.specs.Steps.{IsIndex, IsOrderOf, first_named}
use Rattle.cs_rebaser.specs.declared.orders.GroupOrder.{GroupOrder}
use Rattle.cs_rebaser.specs.declared.index.Index.TheVariants.{ByKeys}
use Rattle.cs_rebaser.proofs.Apart.{as_many_orders, none_named, one_named, order_there}
use Rattle.cs_rebaser.proofs.index.sought_in.Goals as goal

pub index-order-requires : goal.index-order-requires
index-order-requires c =
    let is : IsIndex c.args.groups.now (ByKeys c.in-ByKeys.orders) = rw c.in-ByKeys.is at c.requires in
    omega (arith, c.in-ByKeys.orders.ok.0, as_many_orders c.args.groups.now c.in-ByKeys.orders.items is.1, c.in-Some.ensures.0)

pub returns-in-None : goal.returns-in-None
returns-in-None c = none_named c.args.name.now c.args.groups.now c.in-None.ensures

pub returns-in-Some : goal.returns-in-Some
returns-in-Some c =
    let groups = c.args.groups.now in
    let orders = c.in-ByKeys.orders.items in
    let at = c.in-Some.at in
    let group = c.index-groups-at.result in
    let is : IsIndex groups (ByKeys c.in-ByKeys.orders) = rw c.in-ByKeys.is at c.requires in
    let named : first_named c.args.name.now groups ≡ Some group = c.in-Some.ensures.1 ∙ slice_get-get_or groups at group c.in-Some.ensures.0 ∙ ap (λ (g : BlobGroup). Some g) (sym c.index-groups-at.is) in
    let there = order_there groups orders at group c.index-order.result.now is.1 c.in-Some.ensures.0 in
    let first : IsOrderOf group (get_or orders at c.index-order.result.now) = subst (λ (g : BlobGroup). IsOrderOf g (get_or orders at c.index-order.result.now)) (sym c.index-groups-at.is) there in
    (subst (λ (o : GroupOrder). IsOrderOf group o) (sym c.index-order.ensures) first, rw c.as_slice.ensures at c.key_front.ensures, one_named c.args.name.now groups group is.0 named)
