use Rattle.std.proofs.Common.{List, length, map, ◌≤◌, Some, None, sym, subst}
use Rattle.cs_change.specs.Spelling.{changeset_spelling}
use Rattle.cs_normalising.specs.Lent.{table_of}
use Rattle.cs_normal.specs.Normal.{normal_spelling}
use Rattle.cs_normalising.specs.NormalFormOf.{IsNormalFormOf}
use Rattle.cs_normal.specs.declared.normal.TableChanges.{TableChanges}
use Rattle.cs_normalising.proofs.Whole.{IsFront, all_form, all_normal, all_shorter, front_of, front_unfit, stop_unfit}
use Rattle.cs_normalising.proofs.groups.normalise_lent.Goals as goal

pub from_tables-requires : goal.from_tables-requires
from_tables-requires c =
    let found = c.in_ok-count in
    let tables = c.args.catalog.now in
    let groups = c.args.changeset.now in
    let front : IsFront tables groups found.count None = front_of c.as_slice-groups.ensures c.in-Ok-None.is-1 found.ensures.count found.ensures.fit found.ensures.stop in
    let made = rw (c.as_slice-groups.ensures, c.tables.ensures.same) at c.in-Ok-None.ensures.normal in
    all_normal tables groups found.count c.tables.ensures.tables front (map table_of c.in-Ok-None.tables.items) made c.requires

pub returns-in-Ok-None-clause-normal : goal.returns-in-Ok-None-clause-normal
returns-in-Ok-None-clause-normal c =
    let found = c.in_ok-count in
    let tables = c.args.catalog.now in
    let groups = c.args.changeset.now in
    let front : IsFront tables groups found.count None = front_of c.as_slice-groups.ensures c.in-Ok-None.is-1 found.ensures.count found.ensures.fit found.ensures.stop in
    let made = rw (c.as_slice-groups.ensures, c.tables.ensures.same) at c.in-Ok-None.ensures.normal in
    subst (IsNormalFormOf tables groups) (sym c.from_tables.ensures) (all_form tables groups found.count c.tables.ensures.tables front (map table_of c.in-Ok-None.tables.items) made c.requires)

pub returns-in-Ok-None-clause-shorter : goal.returns-in-Ok-None-clause-shorter
returns-in-Ok-None-clause-shorter c =
    let found = c.in_ok-count in
    let tables = c.args.catalog.now in
    let groups = c.args.changeset.now in
    let front : IsFront tables groups found.count None = front_of c.as_slice-groups.ensures c.in-Ok-None.is-1 found.ensures.count found.ensures.fit found.ensures.stop in
    let made = rw (c.as_slice-groups.ensures, c.tables.ensures.same) at c.in-Ok-None.ensures.normal in
    subst (λ (normal : List TableChanges). length (normal_spelling normal) ≤ length (changeset_spelling groups)) (sym c.from_tables.ensures) (all_shorter tables groups found.count c.tables.ensures.tables front (map table_of c.in-Ok-None.tables.items) made)

pub returns-in-Ok-Some-clause-fault : goal.returns-in-Ok-Some-clause-fault
returns-in-Ok-Some-clause-fault c =
    let found = c.in_ok-count in
    let tables = c.args.catalog.now in
    let groups = c.args.changeset.now in
    let front : IsFront tables groups found.count (Some c.in-Ok-Some.fault) = front_of c.as_slice-groups.ensures c.in-Ok-Some.is-1 found.ensures.count found.ensures.fit found.ensures.stop in
    let made = rw (c.as_slice-groups.ensures, c.tables.ensures.same) at c.in-Ok-Some.ensures.normal in
    stop_unfit tables groups found.count c.tables.ensures.tables c.in-Ok-Some.fault (map table_of c.in-Ok-Some.field-0-0.items) front made

pub returns : goal.returns
returns c =
    let found = c.in_ok-count in
    let unfit = rw c.as_slice-groups.ensures at c.in_ok-first_fault-in-Err-default.ensures in
    record { normal = tt; fault = front_unfit c.args.catalog.now c.args.changeset.now found.count c.tables.ensures.tables c.in_ok-first_fault-in-Err-default.field-0 unfit; shorter = tt }
