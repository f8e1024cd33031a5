use Rattle.cs_record.specs.Facts.{extends_through}
use Rattle.cs_column_bytes.proofs.spelling.put_tables.Goals as goal

pub returns-in_err-put_table-clause-kept : goal.returns-in_err-put_table-clause-kept
returns-in_err-put_table-clause-kept c =
    extends_through c.args.out.now.items c.loop-table.out.items c.put_table.new.out.items _ c.loop-table.invariant c.in_err-put_table.ensures.kept
