use Rattle.std.proofs.Common.{◌≡◌, ◌++◌, ◌∷◌, [], ℕ, List, arith, ap, append_assoc, ◌∙◌}
use Rattle.std.proofs.lemmas.Grind.{common_steps}
use Rattle.cs_normal.specs.keyed.Changes.{key_bytes}
use Rattle.cs_normal.specs.keyed.NormalForm.{marked_fields}
use Rattle.cs_normal.proofs.KeyedLemmas.Built.{keys_more}
use Rattle.cs_normal.proofs.keyed.builder.put_behind.Goals as goal

pub returns-clause-ok : goal.returns-clause-ok
returns-clause-ok c =
    let key = key_bytes (marked_fields c.args.marks.now c.args.fields.now) in
    let begun : c.extend_from_slice.new.self.items ≡ c.args.bytes.now.items ++ c.args.front.now = grind (arith, common_steps) in
    let more : c.put_record_key.new.out.items ≡ c.extend_from_slice.new.self.items ++ key = grind (arith, common_steps) in
    let wide : c.put_record_key.new.out.items ≡ c.args.bytes.now.items ++ (c.args.front.now ++ key) = more ∙ ap (λ (bs : List ℕ). bs ++ key) begun ∙ append_assoc c.args.bytes.now.items c.args.front.now key in
    let grown : c.push.new.self.items ≡ c.args.spots.now.items ++ (c.len-start.result, c.len.result) ∷ [] = grind (arith, common_steps) in
    keys_more c.packed_keys.ensures c.args.bytes.now.items (c.args.front.now ++ key) c.put_record_key.new.out.items c.args.spots.now.items c.push.new.self.items c.len-start.result c.len.result c.requires wide (omega arith) (omega arith) grown
