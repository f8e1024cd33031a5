-- Closures that answer clashes. `calls` is what is known of calls of the closure.
use Rattle.std.specs.Prelude.{◌≡◌}
use Rattle.std.specs.Fn.{Mut, AlwaysReturns}
use Rattle.std.specs.Borrow.{Bor}
use Rattle.cs_conflict.specs.Wishes.{IsLawfulWish, guarded}
use Rattle.cs_conflict.specs.declared.clash.Clash.{Clash}
use Rattle.cs_conflict.specs.declared.wish.Wish.{Wish}

-- the wish is a lawful answer to the clash
abbrev pub IsLawfulAt : Clash → Wish → Type 0
IsLawfulAt clash wish = IsLawfulWish wish clash.conflict.kind clash.covers

-- the closure answers each clash lawfully, from this state on: now, and in each state that calls lead to
abbrev pub WishesLawfully : {F : Type 0} → Mut F (Bor Clash × Unit {0}) Wish → F → Type 0
WishesLawfully calls closure = AlwaysReturns calls (λ args wish. IsLawfulAt args.0.now wish) closure

-- the wish is what the closure asks for, made lawful
abbrev pub IsGuarded : {F : Type 0} → (F → Clash → Wish → F → Type 0) → F → Clash → Wish → F → Type 0
IsGuarded asks before clash wish after =
    (asked : Wish) × asks before clash asked after × (wish ≡ guarded asked clash.conflict.kind clash.covers)
