use Rattle.std.proofs.Common.{◌≡◌, ◌++◌, ◌∷◌, [], arith}
use Rattle.std.proofs.lemmas.Grind.{common_steps}
use Rattle.cs_order.proofs.KeyLaws.{keys_more}
use Rattle.cs_order.proofs.keys.put.Goals as goal

pub returns-clause-ok : goal.returns-clause-ok
returns-clause-ok c =
    let wide : c.extend_from_slice.new.self.items ≡ c.args.bytes.now.items ++ c.args.key.now = grind (arith, common_steps) in
    let grown : c.push-pushed.new.self.items ≡ c.args.spots.now.items ++ (c.len-start.result, c.len.result) ∷ [] = grind (arith, common_steps) in
    keys_more c.args.bytes.now.items c.args.key.now c.extend_from_slice.new.self.items c.args.spots.now.items c.push-pushed.new.self.items c.len-start.result c.len.result c.requires wide (omega arith) (omega arith) grown
