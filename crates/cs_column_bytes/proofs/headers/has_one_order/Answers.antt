use Rattle.std.proofs.Common.{rules}
use Rattle.std.proofs.lemmas.Fn.{always_returns_same}
use Rattle.std.proofs.lemmas.List.MinMax.{ranks_by}
use Rattle.cs_column_bytes.specs.Steps.{head_of}
use Rattle.cs_column_bytes.proofs.Columns.{kind_below, kind_total, told}
use Rattle.cs_column_bytes.proofs.headers.has_one_order.Goals as goal

pub returns : goal.returns
returns c =
    let up = c.sort_unstable_by.ensures.sorted kind_below (ranks_by kind_total head_of) (always_returns_same _ _ _ (λ a r next called. search rules)) in
    let agree = rw c.deref.ensures.value at c.neighbours_agree.ensures in
    told c.args.headers.now c.sort_unstable_by.new.self.items c.neighbours_agree.result (rw c.in_ok-sorted.ensures.items at c.sort_unstable_by.ensures.permutation) up agree
