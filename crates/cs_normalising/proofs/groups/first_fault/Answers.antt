use Rattle.std.proofs.Common.{sym, subst, arith, length}
use Rattle.std.proofs.lemmas.List.{take_all}
use Rattle.cs_normalising.specs.Steps.TableByTable.{HasTableFault}
use Rattle.cs_normalising.proofs.GroupFaults.{no_group_keys, some_group, halves_met}
use Rattle.cs_normalising.proofs.groups.first_fault.Goals as goal

pub loop-low-init : goal.loop-low-init
loop-low-init c =
    let tables = c.args.catalog.now in
    let groups = c.args.groups.now in
    record {
      below = some_group c.args.fault tables groups c.requires.wrong;
      within = omega arith;
      fit = no_group_keys tables;
      wrong = subst (HasTableFault c.args.fault tables) (sym (take_all (length groups) groups (omega arith))) c.requires.wrong;
    }

pub returns : goal.returns
returns c =
    let inv = c.loop-low.invariant in
    halves_met c.loop-low.fault c.args.catalog.now c.args.groups.now c.loop-low.low c.loop-low.high c.tables-tables.ensures.tables c.requires.headers inv.fit inv.wrong inv.below c.loop-low-test.false inv.within
