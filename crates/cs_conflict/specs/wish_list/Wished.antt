-- Clashes that are answered by a list of wishes.
use Rattle.std.specs.Prelude.{◌≡◌, List, [], ◌∷◌}
use Rattle.cs_conflict.specs.Wishes.{guarded}
use Rattle.cs_conflict.specs.declared.clash.Clash.{Clash}
use Rattle.cs_conflict.specs.declared.wish.Wish.{Wish}
use Rattle.cs_conflict.specs.declared.wish.Wish.TheVariants.{Take}

-- the next wish: Take where they have run out
abbrev pub next_wish : List Wish → Wish
next_wish [] = Take
next_wish (wish ∷ wishes) = wish

-- those behind it
abbrev pub wishes_left : List Wish → List Wish
wishes_left [] = []
wishes_left (wish ∷ wishes) = wishes

-- the answer to a clash is the next wish, made lawful
pub record IsWished (before : List Wish) (clash : Clash) (wish : Wish) (after : List Wish) : Type 0 where
  pub is : wish ≡ guarded (next_wish before) clash.conflict.kind clash.covers
  pub left : after ≡ wishes_left before
