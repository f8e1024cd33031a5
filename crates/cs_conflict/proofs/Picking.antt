-- What is known behind a call of a closure that answers lawfully, and wishes made lawful.
use Rattle.std.proofs.Common.{◌≡◌, ◌∙◌, Bool, true, false, [], ◌∷◌, refl}
use Rattle.std.specs.Fn.{Mut, Called, AlwaysReturns}
use Rattle.cs_change.specs.Action.{Action, Inserts, Deletes, Updates, is_delete}
use Rattle.cs_conflict.specs.Lawful.{covers}
use Rattle.cs_conflict.specs.Pickers.{IsLawfulAt}
use Rattle.cs_conflict.specs.Wishes.{IsLawfulWish, guarded}
use Rattle.cs_conflict.specs.declared.clash.Clash.{Clash}
use Rattle.cs_conflict.specs.declared.kind.Kind.{Kind}
use Rattle.cs_conflict.specs.declared.kind.Kind.TheVariants.{DataDiffers, NotFound, KeyConflict}
use Rattle.cs_conflict.specs.declared.wish.Wish.{Wish}
use Rattle.cs_conflict.specs.declared.wish.Wish.TheVariants.{Keep, Take, Stop}

module _ {F X R : Type 0} (calls : Mut F X R) (P : X → R → Type 0) where
  -- what this call answers has P, and so have the answers of the calls behind it
  pub after_call : {f f' : F} {x : X} {r : R} → AlwaysReturns calls P f → Called calls f x r f' → P x r × AlwaysReturns calls P f'
  after_call {f} {f'} {x} {r} always called =
      ((always.at (x ∷ []) r f' called).0, record { at = λ xs. (always.at (x ∷ xs) r f' called).1 })

-- a DELETE touches whatever the other change does
delete_covers : (local remote : Action) → is_delete local ≡ true → covers local remote ≡ true
unfolding covers
delete_covers (Inserts new) remote is = cc
delete_covers (Deletes old) remote is = refl
delete_covers (Updates old new) remote is = cc

pub not_found_is_covered : (clash : Clash) → clash.conflict.kind ≡ NotFound → clash.covers ≡ true
not_found_is_covered clash is = clash.covers_is ∙ delete_covers _ _ (clash.not_found is)

made_lawful : (wish : Wish) (why : Kind) (covered : Bool) → (why ≡ NotFound → covered ≡ true) → IsLawfulWish (guarded wish why covered) why covered
unfolding guarded
made_lawful Keep why true gone = refl
made_lawful Keep why false gone = λ is. let wrong = gone is in cc
made_lawful Take DataDiffers covered gone = λ is. cc
made_lawful Take NotFound covered gone = gone refl
made_lawful Take KeyConflict covered gone = λ is. cc
made_lawful Stop why covered gone = tt

pub guarded_is_lawful : (wish : Wish) (clash : Clash) → IsLawfulAt clash (guarded wish clash.conflict.kind clash.covers)
guarded_is_lawful wish clash =
    made_lawful wish clash.conflict.kind clash.covers (not_found_is_covered clash)

pub lawful_stands : (wish : Wish) (why : Kind) (covered : Bool) → IsLawfulWish wish why covered → guarded wish why covered ≡ wish
unfolding guarded
lawful_stands Keep why true lawful = refl
lawful_stands Keep why false lawful = cc
lawful_stands Take DataDiffers covered lawful = refl
lawful_stands Take NotFound covered lawful = absurd (lawful refl)
lawful_stands Take KeyConflict covered lawful = refl
lawful_stands Stop why covered lawful = refl
