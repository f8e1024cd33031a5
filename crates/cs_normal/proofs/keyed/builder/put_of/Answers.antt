use Rattle.std.proofs.Common.{◌≡◌, ◌++◌, ◌∷◌, [], arith, sym, ◌∙◌}
use Rattle.std.proofs.lemmas.Grind.{common_steps}
use Rattle.cs_normal.proofs.KeyedLemmas.Built.{key_more, no_key_more}
use Rattle.cs_normal.proofs.keyed.builder.put_of.Goals as goal

pub returns-else-is_err-clause-ok : goal.returns-else-is_err-clause-ok
returns-else-is_err-clause-ok c =
    let grown : c.push-pushed.new.self.items ≡ c.args.spots.now.items ++ (c.len-start.result, c.len.result) ∷ [] = grind (arith, common_steps) in
    key_more c.packed_keys.ensures c.args.marks.now c.args.change.now c.args.bytes.now.items c.put_key.new.out.items c.args.spots.now.items c.push-pushed.new.self.items c.len-start.result c.len.result (sym c.in-Ok.ensures.ok.1 ∙ c.if-whole.true) c.requires c.in-Ok.ensures.ok.0 (omega arith) (omega arith) grown

pub returns-else-whole-clause-ok : goal.returns-else-whole-clause-ok
returns-else-whole-clause-ok c =
    no_key_more c.packed_keys.ensures c.args.marks.now c.args.change.now c.args.bytes.now.items c.put_key.new.out.items c.args.spots.now.items (sym c.in-Ok.ensures.ok.1 ∙ c.if-whole.false) c.requires c.in-Ok.ensures.ok.0
