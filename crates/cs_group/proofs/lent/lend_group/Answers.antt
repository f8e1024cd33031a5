use Rattle.std.proofs.Common.{◌≡◌, ◌∙◌, ◌++◌, ℕ, length, map, refl, ap, arith}
use Rattle.cs_group.proofs.Placed.{lent_more}
use Rattle.cs_group.proofs.lent.lend_group.Goals as goal

pub returns : goal.returns
returns c = λ t groups so_far.
    let parts = c.args.parts.now.items in
    let of = c.args.of.now.items in
    let place : c.in-Ok.place ≡ length parts = omega (arith, c.in-Ok.ensures, c.len.ensures) in
    let first : c.len-first.result ≡ length of = omega (arith, c.len-first.ensures) in
    lent_more groups c.args.number c.args.group.now parts c.push.new.self.items of c.put_part.new.of.items _ refl c.as_slice-changes.ensures first
    c.in_ok-push.ensures.items (c.in_ok-put_part.ensures ∙ ap (λ (n : ℕ). of ++ map (λ _. n) c.as_slice-changes.result.now) place) so_far
