use Rattle.cs_padding.proofs.OneEdits.{one_pending_edits, one_row_edits}
use Rattle.cs_padding.proofs.laws.one_edits.Goals as goal

pub returns-clause-rows : goal.returns-clause-rows
returns-clause-rows c = one_row_edits c.listings.ensures.one

pub returns-clause-pending : goal.returns-clause-pending
returns-clause-pending c = one_pending_edits c.listings.ensures.one
