use Rattle.cs_opening.proofs.copying.copying.copy_values.Goals as goal

pub returns-clause-copied : goal.returns-clause-copied
returns-clause-copied g c = λ honest names. c.in_ok-copy.ensures (g.S.RowStore.contents c.args.store.now) names (c.in-Ok.ensures.read honest)
