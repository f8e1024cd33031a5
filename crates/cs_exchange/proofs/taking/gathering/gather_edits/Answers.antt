use Rattle.std.proofs.Common.{List, map, ap, subst, sym, ◌∙◌}
use Rattle.cs_pending.specs.position.Shows.{base}
use Rattle.cs_exchange.specs.taking.Steps.{AreOn, AreSitesPlaced, site_task}
use Rattle.cs_exchange.specs.declared.taking.site.Site.{Site}
use Rattle.cs_exchange.proofs.TakingLemmas.Decided.{if_stopped_as}
use Rattle.cs_exchange.proofs.TakingLemmas.Gathered.{bad_entry, is_ready, is_taken, stops_entry}
use Rattle.cs_exchange.proofs.taking.gathering.gather_edits.Goals as goal

pub returns-in-Ok-None-clause-bad : goal.returns-in-Ok-None-clause-bad
returns-in-Ok-None-clause-bad g c = λ honest seen shows e.
    bad_entry c.args.changes.now c.args.catalog.now (base c.args.flight.now seen) c.tables-normal.ensures.normal ((rw c.in-Ok-None.field-0-is at c.in-Ok-None.ensures.surveyed) honest seen shows)

pub returns-in-Ok-clause-within : goal.returns-in-Ok-clause-within
returns-in-Ok-clause-within g c = λ within.
    let placed = subst (λ (ss : List Site). AreSitesPlaced c.args.catalog.now ss) (sym c.as_slice.ensures.value) (rw c.in-Ok-Some.field-0-is at c.in-Ok-Some.ensures.placed) in
    c.in-Ok.ensures.within c.args.catalog.now placed (c.in-Ok-Some.ensures.within within)

pub returns-in-Ok-clause-settled : goal.returns-in-Ok-clause-settled
returns-in-Ok-clause-settled g c = λ honest seen shows under begun settles.
    let tables = c.args.catalog.now in
    let flight = c.args.flight.now in
    let changes = c.args.changes.now in
    let sites = c.as_slice.result.now in
    let normal = c.tables-normal.ensures.normal in
    let are = ap (λ (ss : List Site). map site_task ss) c.as_slice.ensures.value ∙ (rw c.in-Ok-Some.field-0-is at c.in-Ok-Some.ensures.tasks) in
    let placed = subst (λ (ss : List Site). AreSitesPlaced tables ss) (sym c.as_slice.ensures.value) (rw c.in-Ok-Some.field-0-is at c.in-Ok-Some.ensures.placed) in
    let on = subst (λ (ss : List Site). AreOn (base flight seen) seen.tables ss) (sym c.as_slice.ensures.value) ((rw c.in-Ok-Some.field-0-is at c.in-Ok-Some.ensures.surveyed) honest seen shows) in
    let folded = c.in-Ok-Some.ensures.folded honest seen shows under begun settles in
    let ready = is_ready tables changes c.requires.fits normal sites are (base flight seen) seen.tables folded.0 placed on under.sound.before_state shows.rows.rows folded.2.same folded.2.log in
    let rest = c.in-Ok.ensures.decided tables _ begun (base flight seen) seen.tables folded.0 c.tables-tables.ensures.tables ready folded.1 in
    (rest.0, rest.1, is_taken tables changes c.requires.fits normal sites are g.P.Picker.picks c.args.picker.now c.decide.new.picker flight seen folded.0 rest.0 folded.2 rest.2)

pub returns-clause-stopped : goal.returns-clause-stopped
returns-clause-stopped g c = λ honest seen shows.
    let tables = c.args.catalog.now in
    let flight = c.args.flight.now in
    let sites = c.as_slice.result.now in
    let are = ap (λ (ss : List Site). map site_task ss) c.as_slice.ensures.value ∙ (rw c.in-Ok-Some.field-0-is at c.in-Ok-Some.ensures.tasks) in
    let on = subst (λ (ss : List Site). AreOn (base flight seen) seen.tables ss) (sym c.as_slice.ensures.value) ((rw c.in-Ok-Some.field-0-is at c.in-Ok-Some.ensures.surveyed) honest seen shows) in
    if_stopped_as c.in-Err-decide.fault _ _
    (λ conflict stops. stops_entry tables c.args.changes.now c.requires.fits c.tables-normal.ensures.normal sites are g.P.Picker.picks c.args.picker.now c.decide.new.picker flight seen conflict on stops)
    (c.in-Err-decide.ensures.stopped (base flight seen) seen.tables on)
