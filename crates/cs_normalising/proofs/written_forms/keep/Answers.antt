use Rattle.std.proofs.Common.{[], refl, ◌∙◌, arith}
use Rattle.cs_normalising.specs.Steps.Lent.{entries_of}
use Rattle.cs_normalising.proofs.TableForms.{kept_more, kept_none}
use Rattle.cs_normalising.proofs.written_forms.keep.Goals as goal

pub loop-at-init : goal.loop-at-init
loop-at-init c = record {
  keys = rw c.in_ok-picked.ensures c.requires;
  as_many = rw (c.in_ok-picked.ensures, c.in_ok-made.ensures) refl;
  entries = rw c.in_ok-picked.ensures kept_none;
}

pub loop-at-preserved : goal.loop-at-preserved
loop-at-preserved c =
    let i = c.loop-at.invariant in
    let es = entries_of c.args.marks.now c.args.changes.now in
    let grown = rw c.place.ensures at c.in_ok-keep_at.ensures.kept in
    record {
      keys = c.keep_at.ensures.keys ∙ i.keys;
      as_many = c.in_ok-keep_at.ensures.as_many;
      entries = kept_more es c.args.order.now c.loop-at.at 0 [] _ _ (omega arith) i.entries grown;
    }
