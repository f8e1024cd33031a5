-- What is wished at a clash, a conflict of another's change with an own one.
use Rattle.std.specs.Prelude.{Bool, false}
use Rattle.cs_conflict.specs.Lawful.{IsLawful}
use Rattle.cs_conflict.specs.declared.kind.Kind.{Kind}
use Rattle.cs_conflict.specs.declared.kind.Kind.TheVariants.{NotFound}
use Rattle.cs_conflict.specs.declared.conflict.Resolution.{Resolution}
use Rattle.cs_conflict.specs.declared.conflict.Resolution.TheVariants.{Omit, Replace, Abort}
use Rattle.cs_conflict.specs.declared.wish.Wish.{Wish}
use Rattle.cs_conflict.specs.declared.wish.Wish.TheVariants.{Keep, Take, Stop}

-- the answer to the conflict
abbrev pub resolution_of : Wish → Resolution
resolution_of Keep = Omit
resolution_of Take = Replace
resolution_of Stop = Abort

-- the answer is lawful: Keep only where the local change covers the remote one, Take only where there is a row
abbrev pub IsLawfulWish : Wish → Kind → Bool → Type 0
IsLawfulWish wish kind covered = IsLawful (resolution_of wish) kind covered

-- the wish made lawful: Keep where the local change doesn't cover the remote one becomes Take, Take where there is no row
-- becomes Keep, and any other stands
unfoldable pub guarded : Wish → Kind → Bool → Wish
guarded Keep kind false = Take
guarded Take NotFound covered = Keep
guarded wish kind covered = wish
