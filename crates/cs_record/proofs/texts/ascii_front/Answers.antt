use Rattle.std.proofs.Common.{arith}
use Rattle.cs_record.proofs.Lanes.{none_wide, front_le, front_narrow}
use Rattle.cs_record.proofs.texts.ascii_front.Goals as goal

pub returns-then-wide-eq0-clause-ascii : goal.returns-then-wide-eq0-clause-ascii
returns-then-wide-eq0-clause-ascii c = none_wide c.args.bytes.now c.requires c.if-wide-eq0.true

pub returns-else-wide-eq0-clause-bound : goal.returns-else-wide-eq0-clause-bound
returns-else-wide-eq0-clause-bound c = front_le c.args.bytes.now c.requires (omega (arith, c.if-wide-eq0.false))

pub returns-else-wide-eq0-clause-ascii : goal.returns-else-wide-eq0-clause-ascii
returns-else-wide-eq0-clause-ascii c = front_narrow c.args.bytes.now c.requires (omega (arith, c.if-wide-eq0.false))
