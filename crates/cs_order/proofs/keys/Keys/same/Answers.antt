use Rattle.std.proofs.Common.{◌<◌, length, sym, ◌∙◌, arith}
use Rattle.cs_order.proofs.KeyLaws.{same_key_more}
use Rattle.cs_order.proofs.keys.Keys.same.Goals as goal

pub loop-at-preserved : goal.loop-at-preserved
loop-at-preserved c =
    let less : c.loop-at.at < length c.args.self.now = omega (arith, c.loop-at-test.true, c.len-in-loop-at.ensures) in
    record {
      within = omega (arith, less);
      so_far = same_key_more c.args.self.now c.args.other.now c.loop-at.at less (omega (arith, c.if-len.false, c.len.ensures, c.len-2.ensures)) (sym c.get.ensures ∙ (c.same_bytes.ensures.0 c.if-not-same_bytes.false) ∙ c.get-in-loop-at.ensures) c.loop-at.invariant.so_far;
    }
