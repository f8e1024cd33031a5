use Rattle.std.proofs.Common.{sym, ◌∙◌}
use Rattle.cs_normal.proofs.KeyedLemmas.OneForm.{update_kept}
use Rattle.cs_normal.proofs.keyed.one_form.is_normal.Goals as goal

pub returns-in-Update : goal.returns-in-Update
returns-in-Update c =
    λ t. rw c.in-Update.is (update_kept c.args.marks.now c.in-Update.flag c.in-Update.old_fields c.in-Update.new_fields (sym c.are_normal.ensures ∙ t))
