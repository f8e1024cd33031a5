use Rattle.std.proofs.Common.{List, Some, ap}
use Rattle.cs_normal.specs.declared.normal.TableChanges.{TableChanges}
use Rattle.cs_exchange.proofs.PullingLemmas.Reading.{not_form, one_form}
use Rattle.cs_exchange.proofs.pulling.told.read_form.Goals as goal

pub returns-clause-only : goal.returns-clause-only
returns-clause-only c = λ changes is.
    absurd (not_form c.no_fault_where_fit.ensures c.changesets.ensures.one c.args.catalog.now c.tables-tables.ensures.tables c.args.bytes.now c.in-Ok.groups
    c.in-Ok.ensures.reads.0 c.in-Ok.ensures.reads.1 c.in-Err.fault c.in_ok-refuses-in-Err.ensures c.in-Err.ensures.fault changes is)

pub returns-in-Ok-normalise-clause-only : goal.returns-in-Ok-normalise-clause-only
returns-in-Ok-normalise-clause-only c = λ changes is.
    ap (λ (cs : List TableChanges). Some cs)
    (one_form c.changesets.ensures.one c.one_normal_form.ensures c.args.catalog.now c.args.bytes.now _ changes c.tables-tables.ensures.tables
    record { groups = c.in-Ok.groups; fits = c.in-Ok.ensures.reads.0; spelled = c.in-Ok.ensures.reads.1; form = c.in-Ok-normalise.ensures.normal }
    is)
