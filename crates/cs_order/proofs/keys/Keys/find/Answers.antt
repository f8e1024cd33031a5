use Rattle.std.proofs.Common.{◌≡◌, sym, ◌∙◌, arith}
use Rattle.cs_order.proofs.Halves.{above_more, below_more, found, none_past, not_found}
use Rattle.cs_order.proofs.keys.Keys.find.Goals as goal

pub loop-low-init : goal.loop-low-init
loop-low-init c = record {
  within = omega arith;
  high = omega (arith, c.len-high.ensures);
  below = λ j before. absurd (omega (arith, before));
  above = none_past c.args.self.now c.args.key.now c.len-high.result c.len-high.ensures;
}

pub loop-low-preserved-in-Less : goal.loop-low-preserved-in-Less
loop-low-preserved-in-Less c =
    let i = c.loop-low.invariant in
    record {
      within = omega (arith, c.loop-low-test.true);
      high = i.high;
      below = below_more c.args.self.now c.args.key.now c.get.result.now _ c.requires (omega (arith, c.loop-low-test.true, i.high)) c.get.ensures (sym c.compare_bytes.ensures ∙ c.in-Less.is);
      above = i.above;
    }

pub loop-low-preserved : goal.loop-low-preserved
loop-low-preserved c =
    let i = c.loop-low.invariant in
    record {
      within = omega (arith, c.loop-low-test.true);
      high = omega (arith, c.loop-low-test.true, i.high);
      below = i.below;
      above = above_more c.args.self.now c.args.key.now c.get.result.now _ c.requires c.get.ensures (sym c.compare_bytes.ensures ∙ c.in-Greater.is);
    }

pub returns-in-Equal : goal.returns-in-Equal
returns-in-Equal c =
    (omega (arith, c.loop-low-test.true, c.loop-low.invariant.high), found c.args.self.now c.args.key.now c.get.result.now _ c.get.ensures (sym c.compare_bytes.ensures ∙ c.in-Equal.is))

pub returns : goal.returns
returns c =
    let i = c.loop-low.invariant in
    let met : c.loop-low.low ≡ c.loop-low.high = omega (arith, c.loop-low-test.false, i.within) in
    not_found c.args.self.now c.args.key.now c.loop-low.high (rw met at i.below) i.above
