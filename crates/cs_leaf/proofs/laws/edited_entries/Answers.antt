use Rattle.cs_leaf.proofs.Editing.{fold_before, fold_behind, rows_edited, sorted_edits}
use Rattle.cs_leaf.proofs.laws.edited_entries.Goals as goal

pub returns : goal.returns
returns c = record { behind = fold_behind; before = fold_before; order = sorted_edits; maps = rows_edited }
