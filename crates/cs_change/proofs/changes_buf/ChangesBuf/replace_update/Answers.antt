use Rattle.std.proofs.Common.{◌∙◌, ap, arith, length, length-append}
use Rattle.std.specs.Prelude.{slice_set}
use Rattle.cs_record.specs.Spelling.{record_of}
use Rattle.cs_change.specs.declared.change.Change.{Change}
use Rattle.cs_change.specs.declared.change.Change.TheVariants.{Update}
use Rattle.cs_change.proofs.Packed.{held_now, held_same}
use Rattle.cs_change.proofs.Replaced.{update_in}
use Rattle.cs_change.proofs.changes_buf.ChangesBuf.replace_update.Goals as goal

pub put_over-requires : goal.put_over-requires
put_over-requires c =
    let before = held_now _ _ c.self.inside.held c.args.self.now c.self.view_is in
    let olds = ap length c.bytes.ensures.1 in
    let news = ap length c.bytes-2.ensures.1 in
    (c.args.self.now, before, (c.requires.0, c.requires.1, c.requires.2 ∙ omega (arith, olds, news, length-append (record_of c.args.old.now) (record_of c.args.new.now))))

pub invariant_of-self-inside : goal.invariant_of-self-inside
invariant_of-self-inside c =
    let before = held_now _ _ c.self.inside.held c.args.self.now c.self.view_is in
    let change : Change = Update c.args.flag c.args.old.now c.args.new.now in
    ((slice_set c.args.self.now c.args.index change, c.put_over.ensures c.args.self.now change before (update_in c.args.flag c.args.old.now c.args.new.now c.bytes.result.now c.bytes-2.result.now c.bytes.ensures c.bytes-2.ensures)), tt)

pub returns : goal.returns
returns c =
    let before = held_now _ _ c.self.inside.held c.args.self.now c.self.view_is in
    let change : Change = Update c.args.flag c.args.old.now c.args.new.now in
    let after = c.put_over.ensures c.args.self.now change before (update_in c.args.flag c.args.old.now c.args.new.now c.bytes.result.now c.bytes-2.result.now c.bytes.ensures c.bytes-2.ensures) in
    held_same c.put_over.new.bytes.items c.put_over.new.places.items _ (slice_set c.args.self.now c.args.index change) (assumption) after
