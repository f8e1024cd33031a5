-- A run without stops is one in which none came.
use Rattle.std.proofs.Common.{[], ◌∷◌, refl, ap, inl, arith}
use Rattle.cs_world.specs.World.{World}
use Rattle.cs_world.specs.declared.event.Event.{Event}
use Rattle.cs_world.specs.declared.event.Event.TheVariants.{AskCatch, AskPull, AskWiden, Deliver, MakePush, OnEdit, Resend, Restart}
use Rattle.cs_world.specs.StopsLaws.{RunsWhole}
use Rattle.cs_world.specs.Stops.{IsNotLost, opened}
use Rattle.cs_world.specs.Stops as stops

none_lost : (world : World) (event : Event) → IsNotLost (opened world) event
none_lost world (OnEdit r asked) = tt
none_lost world (MakePush r) = tt
none_lost world (Resend r) = tt
none_lost world (AskPull r limit) = tt
none_lost world (AskCatch r limit) = tt
none_lost world (Deliver k wishes) = λ at. let few = at.1 in omega (arith, few)
none_lost world (Restart r) = tt
none_lost world (AskWiden wider) = tt

pub runs_whole : RunsWhole
runs_whole limit world next [] [] same = ap opened same
runs_whole limit world next [] (outcome ∷ outcomes) never = absurd never
runs_whole limit world next (event ∷ events) [] never = absurd never
runs_whole limit world next (event ∷ events) (outcome ∷ outcomes) (between, step, more) =
    (opened between, stops.whole outcome (none_lost world event) step (λ place. inl refl) refl, runs_whole limit between next events outcomes more)
