use Rattle.std.proofs.Common.{◌++◌, ◌∷◌, [], ap, ◌∙◌}
use Rattle.cs_apply.proofs.places.put_waiting.Goals as goal

pub returns : goal.returns
returns c = record {
  made = c.in_ok-push-4.ensures.ok ∙ ap (λ edit. c.args.places.now.made ++ edit ∷ []) c.new.ensures;
  stand_ins = c.in_ok-push-3.ensures.items ∙ ap (λ at. c.args.places.now.stand_ins.items ++ at ∷ []) c.len.ensures;
  slots = c.in_ok-push.ensures.ok;
  groups = c.in_ok-push-2.ensures.items;
}
