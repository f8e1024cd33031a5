use Rattle.std.proofs.Common.{arith, ◌≡◌, true, false}
use Rattle.cs_widening.proofs.Cans.{are_wide, can_there}
use Rattle.cs_widening.proofs.widening.widen.Goals as goal

pub unreachable-requires : goal.unreachable-requires
unreachable-requires c =
    let can = can_there c.args.catalog.now c.tables-tables.result.now c.args.name.now c.args.width c.in-Some.place c.index-tables-place.result c.as_slice.result.now c.tables-tables.ensures.same c.in-Some.ensures.found.0 c.in-Some.ensures.found.1 c.index-tables-place.is c.as_slice.ensures (omega (arith, c.if-as_slice-width.false)) (omega (arith, c.if-width-gt-MAX_COLUMNS.false)) in
    let e : false ≡ true = c.in-Err.ensures.only (are_wide c.widened_are_tables.ensures c.args.catalog.now c.tables-tables.result.now c.in_ok-wide.wide.items c.args.name.now c.args.width c.tables-tables.ensures.tables can c.tables-tables.ensures.same c.in_ok-wide.ensures) in
    absurd cc
