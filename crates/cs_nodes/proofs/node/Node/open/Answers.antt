use Rattle.cs_nodes.proofs.Fresh.{bare_fault, fresh_node, is_false, never_further, shown_at, told_else}
use Rattle.cs_nodes.proofs.node.Node.open.Goals as goal

pub new-requires-clause-stands : goal.new-requires-clause-stands
new-requires-clause-stands g c = λ h.
    fresh_node c.fresh_stands.ensures c.args.catalog.now c.in-Ok-open.replica.catalog c.in-Ok.pass.known c.args.id (g.S.RowStore.contents c.args.store) (g.S.RowStore.contents c.in-Ok-open.replica.store) c.in-Ok-open.replica.position
    c.tables-tables.ensures.tables c.requires.bare (c.in-Ok-open.ensures.opened h)

pub returns-in-Ok-open-clause-fresh : goal.returns-in-Ok-open-clause-fresh
returns-in-Ok-open-clause-fresh g c = rw c.new.ensures (λ h.
    shown_at c.args.catalog.now c.in-Ok-open.replica.catalog c.args.id (g.S.RowStore.contents c.args.store) (g.S.RowStore.contents c.in-Ok-open.replica.store) c.in-Ok-open.replica.position
    c.requires.bare (c.in-Ok-open.ensures.opened h))

pub returns-clause-refused : goal.returns-clause-refused
returns-clause-refused g c = λ h. bare_fault c.args.catalog.now c.args.id (g.S.RowStore.contents c.args.store) c.in-Err-open.told.1 c.requires.bare (c.in-Err-open.ensures.refused h)

pub returns-then-not-is_at_first-clause-kept : goal.returns-then-not-is_at_first-clause-kept
returns-then-not-is_at_first-clause-kept g c = λ h.
    absurd (never_further g.S.RowStore c.args.catalog.now c.in-Ok-open.replica.catalog c.args.id c.args.store c.in-Ok-open.replica.store c.close.result c.close.ensures c.in-Ok-open.replica.position c.requires.bare c.in-Ok-open.ensures.opened
    (λ both. is_false c.is_at_first.result c.if-not-is_at_first.true (c.is_at_first.ensures.1 both)) h)

pub returns-then-not-is_at_first-clause-refused : goal.returns-then-not-is_at_first-clause-refused
returns-then-not-is_at_first-clause-refused g c = λ h.
    absurd (never_further g.S.RowStore c.args.catalog.now c.in-Ok-open.replica.catalog c.args.id c.args.store c.in-Ok-open.replica.store c.close.result c.close.ensures c.in-Ok-open.replica.position c.requires.bare c.in-Ok-open.ensures.opened
    (λ both. is_false c.is_at_first.result c.if-not-is_at_first.true (c.is_at_first.ensures.1 both)) h)

pub returns-then-not-is_at_first-clause-opens : goal.returns-then-not-is_at_first-clause-opens
returns-then-not-is_at_first-clause-opens g c =
    told_else g.S.RowStore c.args.catalog.now c.in-Ok-open.replica.catalog c.args.id c.args.store c.in-Ok-open.replica.store c.close.result c.close.ensures c.in-Ok-open.ensures.opens
    (never_further g.S.RowStore c.args.catalog.now c.in-Ok-open.replica.catalog c.args.id c.args.store c.in-Ok-open.replica.store c.close.result c.close.ensures c.in-Ok-open.replica.position c.requires.bare c.in-Ok-open.ensures.opened
    (λ both. is_false c.is_at_first.result c.if-not-is_at_first.true (c.is_at_first.ensures.1 both)))

pub returns-in-Ok-open-clause-catalog : goal.returns-in-Ok-open-clause-catalog
returns-in-Ok-open-clause-catalog g c = rw c.new.ensures (c.is_at_first.ensures.0 c.if-not-is_at_first.false).1
