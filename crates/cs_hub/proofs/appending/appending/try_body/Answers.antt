use Rattle.std.proofs.Common.{IfErr, IfOk, subst, sym}
use Rattle.cs_store.specs.log.Entry.{MayWiden, changes_of_body}
use Rattle.cs_store.specs.declared.log.body.Body.{Body}
use Rattle.cs_hub.specs.appending.Steps.{IsMadeBy, IsNotTried}
use Rattle.cs_hub.proofs.AppendingLemmas.Batches.{widen_made}
use Rattle.cs_hub.proofs.appending.appending.try_body.Goals as goal

pub returns-in-Changes-clause-made : goal.returns-in-Changes-clause-made
returns-in-Changes-clause-made g c = λ honest before holds.
    subst (λ (b : Body). IfOk c.try_changes.result (λ edits. IsMadeBy c.args.catalog.now b (g.S.RowStore.contents c.args.store.now) before edits)) (sym c.in-Changes.is) (c.try_changes.ensures.made honest before holds)

pub returns-in-Changes-clause-refused : goal.returns-in-Changes-clause-refused
returns-in-Changes-clause-refused g c = λ honest before holds.
    subst (λ (b : Body). IfErr c.try_changes.result (IsNotTried c.args.catalog.now (changes_of_body b) before)) (sym c.in-Changes.is) (c.try_changes.ensures.refused honest before holds)

pub returns-in-Ok-clause-made : goal.returns-in-Ok-clause-made
returns-in-Ok-clause-made g c = λ honest before holds.
    subst (λ (b : Body). IsMadeBy c.args.catalog.now b (g.S.RowStore.contents c.args.store.now) before c.in-Ok.edits) (sym c.in-Widen.is)
    (widen_made c.args.catalog.now c.in-Widen.table c.in-Widen.width (g.S.RowStore.contents c.args.store.now) before c.in-Ok.edits
    (subst (MayWiden c.args.catalog.now) c.in-Widen.is c.requires.fits.widens)
    ((rw c.as_str.ensures at c.in-Ok.ensures.widened) honest before holds))
