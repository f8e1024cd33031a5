use Rattle.std.proofs.Common.{◌≡◌, true, length, refl}
use Rattle.std.specs.Ordering.{is_lt}
use Rattle.std.proofs.lemmas.List.Elements.{All-tail}
use Rattle.cs_order.specs.Spots.{IsSpotIn}
use Rattle.cs_order.specs.Steps.Rising.{ascend, ascend_from}
use Rattle.cs_order.proofs.KeyLaws.{told_less}
use Rattle.cs_order.proofs.keys.spots_rise.Goals as goal

pub loop-next-init : goal.loop-next-init
unfolding ascend
loop-next-init c =
    let parts = c.in-Some.ensures.cases.0 in
    record {
      within = All-tail (IsSpotIn (length c.args.bytes.now)) c.in-Some.first.now c.in-Some.rest.now (rw parts at c.requires);
      left = rw parts refl;
    }

pub loop-next-preserved : goal.loop-next-preserved
unfolding ascend_from
loop-next-preserved c =
    let parts = c.in-Some-split_first.ensures.cases.0 in
    let less : is_lt c.compare_bytes.result ≡ true = told_less c.compare_bytes.result c.if-ne.ensures in
    record {
      within = All-tail (IsSpotIn (length c.args.bytes.now)) c.in-Some-split_first.next.now c.in-Some-split_first.more.now (rw parts at c.loop-next.invariant.within);
      left = rw (← c.compare_bytes.ensures, less) at (rw parts at c.loop-next.invariant.left);
    }
