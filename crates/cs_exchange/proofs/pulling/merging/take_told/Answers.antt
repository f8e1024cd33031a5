use Rattle.std.proofs.Common.{List, Option, Some, Err, refl, sym, ap, subst, ◌∙◌, arith}
use Rattle.std.specs.Prelude.{◌-◌, IfSome}
use Rattle.std.proofs.lemmas.Option.{same_Some}
use Rattle.cs_normal.specs.declared.normal.TableChanges.{TableChanges}
use Rattle.cs_pending.specs.position.Shows.{ShowsSomeAt}
use Rattle.cs_exchange.specs.pulling.Told.{IsFormOf}
use Rattle.cs_exchange.proofs.PullingLemmas.AtOnce.{not_taken_told, not_taken_writes, taken_told, taken_writes}
use Rattle.cs_exchange.proofs.pulling.merging.take_told.Goals as goal

pub returns-in_default-clause-takes : goal.returns-in_default-clause-takes
returns-in_default-clause-takes g c = λ honest before shows. (
  refl,
  λ good. absurd (c.in_default.not-Some good.0 (c.in-Ok.ensures.only good.0 good.1)),
  refl,
  (refl, shows),
)

pub returns-in-Ok-take_changes_to-clause-takes : goal.returns-in-Ok-take_changes_to-clause-takes
returns-in-Ok-take_changes_to-clause-takes g c = λ honest before shows.
    taken_told g.P.Picker.picks g.S.RowStore c.args.catalog.now c.args.next c.args.bytes.now c.in-Some.changes
    (subst (λ (o : Option (List TableChanges)). IfSome o (IsFormOf c.args.catalog.now c.args.bytes.now)) c.in-Some.is c.in-Ok.ensures.found)
    c.args.position.now c.take_changes_to.new.position c.args.picker.now c.take_changes_to.new.picker c.args.store.now c.take_changes_to.new.store
    _ (omega (arith, c.requires.above)) c.in-Ok-take_changes_to.ensures.moved (c.in-Ok-take_changes_to.ensures.counted honest) (c.in-Ok-take_changes_to.ensures.writes.ok honest) before shows

pub returns-in-Ok-take_changes_to-clause-writes : goal.returns-in-Ok-take_changes_to-clause-writes
returns-in-Ok-take_changes_to-clause-writes g c =
    taken_writes g.P.Picker.picks g.S.RowStore c.args.catalog.now c.args.next c.args.bytes.now c.in-Some.changes
    (subst (λ (o : Option (List TableChanges)). IfSome o (IsFormOf c.args.catalog.now c.args.bytes.now)) c.in-Some.is c.in-Ok.ensures.found)
    c.args.position.now c.take_changes_to.new.position c.args.picker.now c.take_changes_to.new.picker c.args.store.now c.take_changes_to.new.store
    (ShowsSomeAt c.args.catalog.now c.args.position.now (g.S.RowStore.contents c.args.store.now)) (c.args.next - c.args.position.now.version) c.in-Ok-take_changes_to.field-0 c.in-Ok-take_changes_to.ensures.writes

pub returns-clause-takes : goal.returns-clause-takes
returns-clause-takes g c = λ honest before shows.
    not_taken_told g.P.Picker.picks g.S.RowStore c.args.catalog.now c.args.next c.args.bytes.now c.in-Some.changes
    (subst (λ (o : Option (List TableChanges)). IfSome o (IsFormOf c.args.catalog.now c.args.bytes.now)) c.in-Some.is c.in-Ok.ensures.found)
    c.args.position.now c.take_changes_to.new.position c.args.picker.now c.take_changes_to.new.picker c.args.store.now c.take_changes_to.new.store
    c.in-Err-take_changes_to.fault c.merge_ended.result c.merge_ended.ensures c.in-Err-take_changes_to.ensures.kept (c.in-Err-take_changes_to.ensures.writes.err honest) c.requires.above
    (λ others also. same_Some c.in-Some.changes others (sym c.in-Some.is ∙ c.in-Ok.ensures.only others also))
    before shows
    (λ is. c.in-Err-take_changes_to.ensures.bad honest before shows (ap (λ f. Err f) is))
    (λ is. c.in-Err-take_changes_to.ensures.unasked (ap (λ f. Err f) is))
    (c.in-Err-take_changes_to.ensures.stopped honest before shows)

pub returns-clause-writes : goal.returns-clause-writes
returns-clause-writes g c =
    not_taken_writes g.P.Picker.picks g.S.RowStore c.args.catalog.now c.args.next c.args.bytes.now c.in-Some.changes
    (subst (λ (o : Option (List TableChanges)). IfSome o (IsFormOf c.args.catalog.now c.args.bytes.now)) c.in-Some.is c.in-Ok.ensures.found)
    c.args.position.now c.take_changes_to.new.position c.args.picker.now c.take_changes_to.new.picker c.args.store.now c.take_changes_to.new.store
    c.in-Err-take_changes_to.fault c.merge_ended.result c.merge_ended.ensures c.in-Err-take_changes_to.ensures.kept
    (ShowsSomeAt c.args.catalog.now c.args.position.now (g.S.RowStore.contents c.args.store.now)) c.in-Err-take_changes_to.ensures.writes
