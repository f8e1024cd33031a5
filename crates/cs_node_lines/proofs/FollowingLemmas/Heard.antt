-- What is heard with the clash that is seen is heard by the wishes alone.
use Rattle.std.proofs.Common.{◌≡◌, List, refl, subst}
use Rattle.std.specs.Prelude.{None}
use Rattle.cs_conflict.specs.declared.clash.Clash.{Clash}
use Rattle.cs_conflict.specs.declared.wish.Wish.{Wish}
use Rattle.cs_conflict.specs.wish_list.Wished.{IsWished}
use Rattle.cs_node_lines.specs.following.Laws.{SeenIsHeard}
use Rattle.cs_node_lines.specs.following.Seen.{IsSeen, Seeing}
use Rattle.cs_node_lines.proofs.FollowingLemmas.Alike.{answers_so}

-- these wishes are left
abbrev Stands : Seeing → List Wish → Type 0
Stands seeing wishes = seeing.wishes ≡ wishes

follows : (p after : Seeing) (wishes : List Wish) (clash : Clash) (wish : Wish) → Stands p wishes → IsSeen p clash wish after
    → (next : List Wish) × IsWished wishes clash wish next × Stands after next
follows p after wishes clash wish so seen =
    (after.wishes, subst (λ (ws : List Wish). IsWished ws clash wish after.wishes) so seen.wished, refl)

pub seen_is_heard : SeenIsHeard
seen_is_heard before after answer wishes result seen heard =
    let first : Seeing = record { wishes = wishes; seen = None } in
    let last : Seeing = record { wishes = heard.unused; seen = seen } in
    let n = answers_so IsSeen IsWished Stands follows before.tables after.tables answer result before.position after.position before.view heard.left first last wishes refl heard.answers in
    record { left = heard.left; unused = n.0; answers = n.1; shows = heard.shows }
