use Rattle.std.proofs.Common.{List, refl, subst, sym}
use Rattle.std.specs.List.{AllByRecursion}
use Rattle.cs_normal.specs.declared.normal.TableChanges.{TableChanges}
use Rattle.cs_pending.specs.NormalTasks.{IsOfOne}
use Rattle.cs_pending.specs.Shows.{ShowsRows}
use Rattle.cs_store.specs.Contents.{Contents}
use Rattle.cs_opening.specs.Steps.{FlightLeads}
use Rattle.cs_opening.proofs.Flown.{first_leads, leads_first}
use Rattle.cs_opening.proofs.flying.+tables_lead_before.Goals as goal

pub returns-in-Ok-false-clause-told : goal.returns-in-Ok-false-clause-told
returns-in-Ok-false-clause-told g t c = λ honest view shows.
    let of = subst (λ (cs : List TableChanges). AllByRecursion (IsOfOne c.args.catalog.now) cs) c.in-Some.ensures.cases.0 c.requires in
    let here = (rw c.in-Ok-false.field-0-test at c.in-Ok-false.ensures.told) honest view shows in (
      (λ e. absurd (let no = e in cc)),
      (λ all. here.1 (first_leads c.catalogs.ensures.place c.args.catalog.now c.tables-tables.ensures.tables view c.in-Some.first.now of.0 c.tables-tables.result.now c.in-Some-find.number c.index-tables-number.result c.tables-tables.ensures.same c.in-Some-find.ensures.found.0 c.index-tables-number.is
          (rw c.as_str.ensures at c.in-Some-find.ensures.found.1)
          (subst (λ (cs : List TableChanges). FlightLeads view cs) c.in-Some.ensures.cases.0 all).0)),
    )

pub returns-in-Ok-clause-told : goal.returns-in-Ok-clause-told
returns-in-Ok-clause-told g t c = λ honest view shows.
    let of = subst (λ (cs : List TableChanges). AllByRecursion (IsOfOne c.args.catalog.now) cs) c.in-Some.ensures.cases.0 c.requires in
    let was = c.in-Ok.ensures.reads.was_honest honest in
    let still = subst (λ (left : Contents). ShowsRows c.args.catalog.now left view) (sym (c.in-Ok-true.ensures.reads.same was)) shows in
    let here = (rw c.in-Ok-true.field-0-test at c.in-Ok-true.ensures.told) was view shows in
    let more = c.in-Ok.ensures.told honest view still in (
      (λ all. subst (λ (cs : List TableChanges). FlightLeads view cs) (sym c.in-Some.ensures.cases.0) (
        leads_first c.catalogs.ensures.place c.args.catalog.now c.tables-tables.ensures.tables view c.in-Some.first.now of.0 c.tables-tables.result.now c.in-Some-find.number c.index-tables-number.result c.tables-tables.ensures.same c.in-Some-find.ensures.found.0 c.index-tables-number.is
            (rw c.as_str.ensures at c.in-Some-find.ensures.found.1) (here.0 refl),
        more.0 all,
      )),
      (λ all. more.1 (subst (λ (cs : List TableChanges). FlightLeads view cs) c.in-Some.ensures.cases.0 all).1),
    )
