use Rattle.cs_record.specs.Facts.{extends_through}
use Rattle.cs_normalising.proofs.table_form.lend_changes.Goals as goal

pub returns-in_err-lend_group-clause-kept : goal.returns-in_err-lend_group-clause-kept
returns-in_err-lend_group-clause-kept c =
    extends_through c.args.lent.now.items c.loop-group.lent.items c.lend_group.new.lent.items _ c.loop-group.invariant c.in_err-lend_group.ensures.kept
