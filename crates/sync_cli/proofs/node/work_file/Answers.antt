use Rattle.std.proofs.Common.{ap, inl, inr}
use Rattle.std.specs.Prelude.{Err}
use Rattle.std.proofs.KnownBytes.{Keeps-refl}
use Rattle.sync_cli.proofs.EndingLemmas.{done_so}
use Rattle.sync_cli.proofs.node.work_file.Goals as goal

pub returns-in-Err-clause-ends : goal.returns-in-Err-clause-ends
returns-in-Err-clause-ends g c =
    inl (c.in_ok-asks.asks.items, c.in_ok-asks.ensures.read, inr (c.in-Err.fault, c.in-Err.ensures.refused, ap Err c.from.ensures, Keeps-refl (g.W.Write.contents c.args.writer.now)))

pub returns-clause-ends : goal.returns-clause-ends
returns-clause-ends g c =
    inl (
      c.as_slice.result.now,
      rw c.as_slice.ensures.value c.in_ok-asks.ensures.read,
      inl (c.in-Ok.store, c.work_on-ended.result.1, c.close.ensures.kept c.args.path.now c.in-Ok.store c.in-Ok.ensures.gave, c.close.ensures.took, (c.work_on-ended.result.0, c.told_of.ensures, c.work_on-ended.ensures.ends)),
    )

pub returns-clause-sent : goal.returns-clause-sent
returns-clause-sent g c = done_so _ c.work_on-ended.result.0 c.told_of.result _ c.told_of.ensures c.work_on-ended.ensures.sent
