use Rattle.std.proofs.Common.{◌≡◌, ℕ, List, length, ap, sym, subst, ◌∙◌}
use Rattle.std.proofs.lemmas.List.{length-replicate, with_items_is}
use Rattle.cs_apply.specs.Numbers.{numbers_told, HaveNumbers}
use Rattle.cs_apply.proofs.Told.{numbers_given}
use Rattle.cs_apply.proofs.numbers.Numbers.of_waiting.Goals as goal

pub returns : goal.returns
returns c =
    let fresh = c.in_ok-told.told in
    let told = c.put_numbers.new.told in
    let value = c.as_mut_slice.ensures.value in
    let is = c.in_ok-told.ensures.items_if_clones_equal (λ y clone. clone) in
    let as_long : length told ≡ length fresh.items = c.put_numbers.ensures.length ∙ ap length value in
    let numbered = numbers_given c.args.groups.now c.args.waiting.now c.args.count c.as_mut_slice.result.now told (value ∙ is)
    (as_long ∙ (ap length is ∙ length-replicate c.args.count 0)) c.put_numbers.ensures.put c.put_numbers.ensures.kept in
    subst (λ (items : List ℕ). HaveNumbers c.args.groups.now c.args.waiting.now c.args.count (numbers_told c.args.count items))
    (sym (with_items_is fresh told (as_long ∙ sym fresh.ok.0))) numbered
