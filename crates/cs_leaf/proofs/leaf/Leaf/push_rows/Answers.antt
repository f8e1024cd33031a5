use Rattle.std.proofs.Common.{◌≤◌, ◌++◌, List, sym, ap, ◌∙◌, length, arith}
use Rattle.std.specs.List.{slice_range}
use Rattle.std.proofs.lemmas.List.{append_assoc}
use Rattle.cs_leaf.specs.Entries.{Entry}
use Rattle.cs_leaf.proofs.Packing.{slice_joined}
use Rattle.cs_leaf.proofs.leaf.Leaf.push_rows.Goals as goal

pub loop-at-preserved : goal.loop-at-preserved
loop-at-preserved c =
    let es = c.args.leaf.now in
    let from = c.args.from in
    let at = c.loop-at.at in
    let next = c.in_ok-at.at in
    let was = c.loop-at.invariant in
    let bound = c.in_ok-at.ensures.bound in
    let within : next ≤ length es = omega (arith, bound.1, c.requires.1) in (
      omega (arith, was.0, bound.0),
      bound.1,
      c.in_ok-at.ensures.pushed ∙ ap (λ (front : List Entry). front ++ slice_range es at next) was.2 ∙ append_assoc c.args.self.now (slice_range es from at) (slice_range es at next)
          ∙ ap (λ (rows : List Entry). c.args.self.now ++ rows) (sym (slice_joined es from at next was.0 (omega (arith, bound.0)) within)),
    )
