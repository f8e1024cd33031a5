use Rattle.std.proofs.Common.{◌≡◌, ◌+◌, List, IfOk, length, subst, arith}
use Rattle.std.specs.Prelude.{min}
use Rattle.cs_store.specs.Contents.{LogItem}
use Rattle.cs_store.specs.Written.{items_of}
use Rattle.cs_map_store.proofs.Ranging.{part_is}
use Rattle.cs_map_store.proofs.log.PackedLog.list.Goals as goal

pub returns : goal.returns
returns c =
    let items = c.args.self.now.items in
    let ends : c.min-end.result ≡ min (length items) (c.args.first + c.args.count) = omega arith in
    subst (λ (part : List LogItem). IfOk c.copies.result (λ entries. items_of entries.items ≡ part))
    (part_is items c.args.first c.args.count c.min.result c.min-end.result ends c.min.ensures) c.copies.ensures
