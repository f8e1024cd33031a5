use Rattle.std.proofs.Common.{Option, refl, sym, ap, subst, ◌∙◌}
use Rattle.std.specs.Prelude.{IfSome}
use Rattle.std.proofs.lemmas.Option.{same_Some}
use Rattle.cs_store.specs.log.Log.{catalog_after}
use Rattle.cs_store.specs.declared.log.entry.LogEntry.{LogEntry}
use Rattle.cs_exchange.specs.pulling.Told.{IsReadAs}
use Rattle.cs_exchange.proofs.PullingLemmas.Walk.{told_fault}
use Rattle.cs_exchange.proofs.pulling.listing.pull_told.Goals as goal

pub returns-in_default-clause-refused : goal.returns-in_default-clause-refused
returns-in_default-clause-refused g c = λ honest view shows. (
  λ entry is. absurd (c.in_default.not-Some entry (c.in_ok-entry.ensures.only entry is)),
  refl,
)

pub returns-clause-refused : goal.returns-clause-refused
returns-clause-refused g c = λ honest view shows.
    told_fault g.P.Picker.picks c.args.catalog.now c.args.position.now c.args.told.now c.in-Some.entry view c.args.picker.now c.take_next.new.picker
    (subst (λ (o : Option LogEntry). IfSome o (IsReadAs c.args.catalog.now c.args.told.now)) c.in-Some.is c.in_ok-entry.ensures.found)
    (λ other is. same_Some c.in-Some.entry other (sym c.in-Some.is ∙ c.in_ok-entry.ensures.only other is))
    c.in-Err.fault (c.in-Err.ensures.refused honest view shows)

pub returns-in-Ok-clause-wide : goal.returns-in-Ok-clause-wide
returns-in-Ok-clause-wide g c = λ entry is.
    c.in-Ok.ensures.wide ∙ ap (λ (e : LogEntry). catalog_after c.args.catalog.now e.body) (same_Some c.in-Some.entry entry (sym c.in-Some.is ∙ c.in_ok-entry.ensures.only entry is))
