use Rattle.std.proofs.Common.{rules, ◌≡◌, List, ℕ, ◌∷◌}
use Rattle.std.specs.Prelude.{option_map}
use Rattle.cs_text.specs.parse.Texts.{bytes_in}
use Rattle.cs_text.proofs.ParseLemmas.TextLemmas.{list_more}
use Rattle.cs_text.proofs.parse.texts.read_bytes.Goals as goal

pub loop-rest-preserved : goal.loop-rest-preserved
loop-rest-preserved c =
    let first : bytes_in c.loop-rest.rest.now ≡ option_map {U = List ℕ} (λ bytes. c.in-Some.byte ∷ bytes) (bytes_in c.in-Some.more.now) =
    search rules in
    rw c.in_ok-push.ensures.items (list_more _ _ _ _ _ c.loop-rest.invariant first)
