use Rattle.std.proofs.Common.{◌∙◌, ap, not, sym}
use Rattle.cs_pending.specs.Steps.{ok_weaker, pushed_as}
use Rattle.cs_pending.proofs.settling.push_row.Goals as goal

pub returns : goal.returns
returns c =
    ok_weaker c.push_edit.result _ _ (pushed_as _ c.args.place.now.number c.args.place.now.key.now _ _ _ _ (ap not (sym c.are_same.ensures ∙ c.if-are_same.false)) c.row_body.ensures) c.push_edit.ensures
