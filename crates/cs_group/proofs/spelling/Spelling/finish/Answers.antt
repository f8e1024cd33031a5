use Rattle.std.proofs.Common.{ap, arith, inr, length}
use Rattle.cs_group.proofs.Spelled.{all_written, put_behind}
use Rattle.cs_group.proofs.spelling.Spelling.finish.Goals as goal

pub returns-then-len-eq0 : goal.returns-then-len-eq0
returns-then-len-eq0 c = λ before header joined is.
    let old = c.args.self in
    all_written before header joined old.out old.header.items old.some (omega (arith, c.len.ensures, c.if-len-eq0.true)) is

pub returns : goal.returns
returns c = λ before header joined is.
    let old = c.args.self in
    let put = c.in_ok-put_waiting.ensures in
    let begun = put_behind before header joined old.out old.header.items old.some _ _ _ (omega (arith, c.len.ensures, c.if-len-eq0.false)) put.0 put.1 put.2 is in
    all_written before header joined c.put_waiting.new.self.out c.put_waiting.new.self.header.items c.put_waiting.new.self.some (ap length put.1) (inr begun)
