use Rattle.std.proofs.Common.{ℕ, ◌<◌, get_or, subst, arith}
use Rattle.cs_record.proofs.Lanes.{both_narrow}
use Rattle.cs_record.proofs.texts.ascii_start.Goals as goal

pub returns : goal.returns
returns c =
    both_narrow c.args.bytes.now 32 c.ascii_front.result
    (λ at within. c.ascii_front-front.ensures.ascii at (omega (arith, within, c.if-front-lt-LANES.false)))
    (subst (λ behind. (at : ℕ) → at < c.ascii_front.result → get_or behind at 0 < 128) c.split_at.ensures.back c.ascii_front.ensures.ascii)
