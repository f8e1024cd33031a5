use Rattle.std.proofs.Common.{◌≡◌, ◌≤◌, ◌<◌, ◌+◌, ◌++◌, ◌∷◌, [], length, take, drop, get_or, sym, ap, ◌∙◌, arith}
use Rattle.std.specs.Prelude.{slice_set, slice_range}
use Rattle.std.proofs.lemmas.List.{length-set, take_more_set, drop-set-lt, append_assoc}
use Rattle.std.proofs.lemmas.List.Edits.{between_more}
use Rattle.std.proofs.lemmas.Option.{slice_get-get_or}
use Rattle.cs_store.specs.edits.Edits.{BodyEdit}
use Rattle.cs_apply.specs.Woven.{stand_in}
use Rattle.cs_apply.proofs.Meshing.{rest_at, same_behind}
use Rattle.cs_apply.proofs.edits.move_edits.Goals as goal

pub loop-at-preserved : goal.loop-at-preserved
loop-at-preserved c =
    let old = c.args.edits.now in
    let from = c.args.from in
    let edits = c.loop-at.edits in
    let new = c.copy_to.new.self in
    let at = c.loop-at.at in
    let next = c.loop-at.next in
    let before = c.loop-at.invariant in
    let rising : from ≤ at = omega arith in
    let few : next ≤ at = omega (arith, before.next, c.requires.down) in
    let less : at < length edits = omega (arith, c.loop-at-test.true, c.requires.within, before.as_many) in
    let within : at < length old = omega (arith, less, before.as_many) in
    let edit = get_or edits at stand_in in
    let put : new ≡ slice_set edits next edit = c.copy_to.ensures edit (slice_get-get_or edits at stand_in less) in
    let here : get_or edits at stand_in ≡ get_or old at stand_in =
    cc (sym (rest_at edits at stand_in less) ∙ (before.behind ∙ rest_at old at stand_in within)) in record {
      next = omega (arith, before.next);
      moved =
          ap (take (next + 1)) put
          ∙ (take_more_set edits next edit (omega (arith, few, less))
          ∙ (ap (λ front. front ++ edit ∷ []) before.moved
          ∙ (append_assoc (take c.args.kept old) (slice_range old from at) (edit ∷ [])
          ∙ ap (λ rest. take c.args.kept old ++ rest)
          (ap (λ (e : BodyEdit). slice_range old from at ++ e ∷ []) here ∙ sym (between_more old from at stand_in rising within)))));
      behind =
          ap (drop (at + 1)) put
          ∙ (drop-set-lt (at + 1) edits next edit (omega (arith, few)) ∙ same_behind at (at + 1) edits old (omega arith) before.behind);
      as_many = ap length put ∙ (length-set edits next edit ∙ before.as_many);
    }
