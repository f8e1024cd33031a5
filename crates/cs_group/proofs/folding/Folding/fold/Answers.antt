use Rattle.std.proofs.Common.{◌≡◌, ◌++◌, ◌∷◌, [], List, ℕ, ap, ◌∙◌, None, arith}
use Rattle.std.specs.Prelude.{slice_index}
use Rattle.cs_order.specs.Order.{Keys, key_at}
use Rattle.cs_normal.specs.keyed.Changes.{Changes}
use Rattle.cs_group.specs.Steps.Joining.{behind, fold_places}
use Rattle.cs_group.proofs.Folds.{pushed}
use Rattle.cs_group.proofs.folding.Folding.fold.Goals as goal

pub returns-in_ok-push : goal.returns-in_ok-push
returns-in_ok-push g c = λ keys so_far is.
    let old = c.args.self.now in
    let group = c.args.group.now in
    let key = key_at keys (slice_index group 0) in
    let o = fold_places c.args.marks.now (g.L.Lends.seen c.args.changes.now) None group in
    let first : key_at old.keys.0 c.first_of.result ≡ key = ap (λ (ks : Keys). key_at ks c.first_of.result) is.keys_are ∙ ap (λ (p : ℕ). key_at keys p) c.first_of.ensures in
    let keyed : c.push.new.self.1 ≡ old.keys.1 ++ key ∷ [] = c.in_ok-push.ensures.ok ∙ ap (λ (k : List ℕ). old.keys.1 ++ k ∷ []) first in
    let done = pushed old.keys.1 c.push.new.self.1 old.left c.fold_group.new.out key o is.as_many c.in_ok-fold_group.ensures (omega (arith, c.if-len-before.true)) keyed in
    record {
      keys_are = c.push.ensures.keys ∙ is.keys_are;
      as_many = done.0;
      entries = done.1 ∙ ap (λ (es : Changes). es ++ behind key o) is.entries;
    }
