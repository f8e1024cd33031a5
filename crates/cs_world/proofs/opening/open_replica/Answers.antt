use Rattle.cs_opening.specs.Fresh.{first_position}
use Rattle.cs_pending.specs.Laws.{empty_view}
use Rattle.cs_world.proofs.Begun.{opened_bare, replica_alone}
use Rattle.cs_world.proofs.opening.open_replica.Goals as goal

pub returns-in-Ok : goal.returns-in-Ok
returns-in-Ok g c honest =
    let is = opened_bare c.tables_kept.ensures.handed c.args.catalog.now c.in-Ok.replica.catalog c.args.number (g.S.RowStore.contents c.args.store) (g.S.RowStore.contents c.in-Ok.replica.store) c.in-Ok.replica.position c.requires.bare (c.in-Ok.ensures.opened honest) in (
      is.0,
      is.1,
      is.2,
      replica_alone g.S.RowStore _ _ _ c.args.store c.in-Ok.replica.store tt c.in-Ok.ensures.opens c.requires.bare c.args.catalog.now (first_position c.args.number) empty_view (λ h. is.2),
    )
