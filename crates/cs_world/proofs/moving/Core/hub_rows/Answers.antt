use Rattle.cs_store.specs.declared.log.entry.TheConstants.{MAX_ENTRIES}
use Rattle.std.proofs.Common.{◌∙◌}
use Rattle.cs_world.proofs.Counted.{counts_hub}
use Rattle.cs_world.proofs.Read.{hub_left, hub_listed}
use Rattle.cs_world.proofs.moving.Core.hub_rows.Goals as goal

pub returns-in-Ok-clause-left : goal.returns-in-Ok-clause-left
returns-in-Ok-clause-left g c =
    rw (← c.self.view_is) (hub_left g.S.RowStore MAX_ENTRIES c.self.inside.hub c.self.inside.replicas.items c.self.inside.letters.items c.rows.new.self c.rows.ensures.reads.crash c.rows.ensures.reads.same)

pub returns-in-Err-clause-left : goal.returns-in-Err-clause-left
returns-in-Err-clause-left g c =
    rw (← c.self.view_is) (hub_left g.S.RowStore MAX_ENTRIES c.self.inside.hub c.self.inside.replicas.items c.self.inside.letters.items c.rows.new.self c.rows.ensures.reads.crash c.rows.ensures.reads.same)

pub returns-in-Ok-clause-counts : goal.returns-in-Ok-clause-counts
returns-in-Ok-clause-counts g c =
    rw (← c.self.view_is) (counts_hub g.S.RowStore _ c.self.inside.hub c.rows.new.self (λ is. absurd (let e = is in cc)) c.self.inside.replicas.items c.self.inside.letters.items c.self.inside.letters.items c.rows.ensures.reads.later)

pub returns-in-Err-clause-counts : goal.returns-in-Err-clause-counts
returns-in-Err-clause-counts g c =
    rw (← c.self.view_is) (counts_hub g.S.RowStore _ c.self.inside.hub c.rows.new.self (λ is. c.rows.ensures.reads.cause (c.in-Err.is ∙ is)) c.self.inside.replicas.items c.self.inside.letters.items c.self.inside.letters.items c.rows.ensures.reads.later)

pub returns-in-Ok-clause-listed : goal.returns-in-Ok-clause-listed
returns-in-Ok-clause-listed g c all world stands =
    let shown = rw (← c.self.view_is) at stands in
    hub_listed c.self.inside.hub.catalog world.tables world.log c.args.table c.in-Ok.rows.items shown.0.catalog
    (λ def at. rw c.in-Ok.is at (c.rows.ensures.listed all.hub world.log shown.0.log def at))
    (λ behind. rw c.in-Ok.is at (c.rows.ensures.none behind))
