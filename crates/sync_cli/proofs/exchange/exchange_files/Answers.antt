use Rattle.std.proofs.Common.{inl}
use Rattle.sync_cli.proofs.exchange.exchange_files.Goals as goal

pub returns-clause-ends : goal.returns-clause-ends
returns-clause-ends g c =
    inl (
      c.in-Ok.store,
      c.meet-ended.result.1,
      c.in-Ok-open.store,
      c.meet-ended.result.2,
      c.close-3.ensures.kept c.args.hub.now c.in-Ok.store (c.close-2.ensures.kept c.args.hub.now c.in-Ok.store (c.open-2.ensures.kept c.args.hub.now c.in-Ok.store c.in-Ok.ensures.gave)),
      c.close-3.ensures.kept c.args.path.now c.in-Ok-open.store (c.close-2.ensures.kept c.args.path.now c.in-Ok-open.store c.in-Ok-open.ensures.gave),
      c.close-3.ensures.still c.meet-ended.result.1 c.close-2.ensures.took,
      c.close-3.ensures.took,
      c.meet-ended.result.0,
      c.told_of.ensures,
      c.meet-ended.ensures.ends,
    )
