use Rattle.std.proofs.Common.{refl, rules, Ok}
use Rattle.cs_store.proofs.LogLemmas.Bodies.{none_by_unfit, none_unspelled, only_changes, told_as}
use Rattle.cs_store.proofs.log.body.read_changes.Goals as goal

pub returns-in_err-changes-clause-reads : goal.returns-in_err-changes-clause-reads
returns-in_err-changes-clause-reads c =
    told_as _ _ _ _ c.from_residual-in_err-changes.ensures.0 c.from_residual-in_err-changes.ensures.1
    (none_by_unfit c.changesets.ensures c.normal_is_taken.ensures c.normal_again.ensures c.no_fault_where_fit.ensures _ _ c.in_ok-groups.groups c.in_err-changes.field-0.0 _ refl c.tables.ensures.tables c.in_ok-groups.ensures.reads.0 c.in_ok-groups.ensures.reads.1 c.in_err-changes.ensures.fault)

pub returns-in_err-changes-clause-only : goal.returns-in_err-changes-clause-only
returns-in_err-changes-clause-only c =
    only_changes c.changesets.ensures c.normal_is_taken.ensures c.normal_again.ensures c.one_normal_form.ensures c.args.catalog.now c.args.bytes.now _ c.tables.ensures.tables (returns-in_err-changes-clause-reads c)

pub returns-then-not-branch-clause-reads : goal.returns-then-not-branch-clause-reads
returns-then-not-branch-clause-reads c =
    none_unspelled c.changesets.ensures c.normal_is_taken.ensures c.normal_again.ensures c.one_normal_form.ensures _ _ _ _ c.tables.ensures.tables c.in_ok-groups.ensures.reads.0 c.in_ok-groups.ensures.reads.1 c.in_ok-changes.ensures.normal (λ is. search rules)

pub returns-then-not-branch-clause-only : goal.returns-then-not-branch-clause-only
returns-then-not-branch-clause-only c =
    only_changes c.changesets.ensures c.normal_is_taken.ensures c.normal_again.ensures c.one_normal_form.ensures c.args.catalog.now c.args.bytes.now _ c.tables.ensures.tables (returns-then-not-branch-clause-reads c)

pub returns-clause-only : goal.returns-clause-only
returns-clause-only c =
    only_changes c.changesets.ensures c.normal_is_taken.ensures c.normal_again.ensures c.one_normal_form.ensures c.args.catalog.now c.args.bytes.now (Ok c.in_ok-changes.changes) c.tables.ensures.tables (search rules)
