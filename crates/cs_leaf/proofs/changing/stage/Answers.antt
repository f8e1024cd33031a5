use Rattle.std.proofs.Common.{◌≡◌, List, fold, subst, arith, IfOk}
use Rattle.cs_store.specs.edits.Edits.{BodyEdit}
use Rattle.cs_leaf.specs.Edits.{edited}
use Rattle.cs_leaf.proofs.Merges.{only_one}
use Rattle.cs_leaf.proofs.changing.stage.Goals as goal

pub returns-clause-after : goal.returns-clause-after
returns-clause-after c =
    let one = only_one c.args.edits.now c.get-edit.result (omega arith) c.get-edit.ensures in
    subst (λ (edits : List BodyEdit). IfOk c.stage_one.result (λ change. change.1 ≡ fold edited c.args.leaf edits)) one c.stage_one.ensures.after
