use Rattle.std.proofs.Common.{sym, subst, length, ◌∙◌, arith}
use Rattle.std.proofs.lemmas.List.{take_all}
use Rattle.std.proofs.lemmas.List.Elements.{All-more}
use Rattle.cs_normalising.specs.NormalFormOf.{HasTable, HaveTables}
use Rattle.cs_normalising.proofs.groups.fitting_headers.Goals as goal

pub loop-index-preserved : goal.loop-index-preserved
loop-index-preserved c =
    let group = c.index-groups-index.result in
    All-more (HasTable c.args.catalog.now) c.args.groups.now c.loop-index.index group c.loop-index-test.true c.loop-index.invariant (subst (HasTable c.args.catalog.now) c.index-groups-index.is c.in_default.ensures)

pub returns-clause-fit : goal.returns-clause-fit
returns-clause-fit c =
    let groups = c.args.groups.now in
    let all = take_all c.loop-index.index groups c.loop-index-test.false in
    let same = take_all (length groups) groups (omega arith) in
    subst (HaveTables c.args.catalog.now) (all ∙ sym same) c.loop-index.invariant
