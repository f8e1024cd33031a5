-- The events of a turn have outcomes.
use Rattle.std.proofs.Common.{◌<◌, ◌^◌, ℕ, suc, List, [], length, arith}
use Rattle.std.specs.Prelude.{IsUtf8}
use Rattle.std.specs.List.{AllByRecursion}
use Rattle.cs_conflict.specs.declared.wish.Wish.{Wish}
use Rattle.cs_world.specs.Laws.{CatchHasStep, DeliverHasStep, HasStep, PushHasStep, ResendHasStep, StepsAreSound}
use Rattle.cs_world.specs.Sound.{IsSound}
use Rattle.cs_world.specs.World.{World}
use Rattle.cs_world.specs.declared.event.Event.TheVariants.{Deliver}
use Rattle.cs_meeting.specs.Asks.{asked_event}
use Rattle.cs_meeting.specs.Laws.{HasTurn, SomeTurn, TurnTellsBytes}
use Rattle.cs_meeting.specs.declared.ask.Ask.{Ask}
use Rattle.cs_meeting.specs.declared.ask.Ask.TheVariants as ask

module _ (catches : CatchHasStep) (resends : ResendHasStep) (pushes : PushHasStep) (limit r : ℕ) (world : World) where
  asks_step : IsSound limit world → AllByRecursion (λ table. IsUtf8 table.name) world.tables → (what : Ask) → HasStep limit world (asked_event r what)
  asks_step is names ask.Catch = catches limit r 1000 world (omega arith)
  asks_step is names ask.Resend = resends limit r world
  asks_step is names ask.Push = pushes limit r world is names

pub some_turn : CatchHasStep → ResendHasStep → PushHasStep → DeliverHasStep → StepsAreSound → SomeTurn
some_turn catches resends pushes delivers sound limit r wishes what world small is names bytes =
    let asking = asks_step catches resends pushes limit r world is names what in
    let asked_sound = (sound limit world asking.1 (asked_event r what) asking.0 small is asking.3).0 in
    let told = bytes asking.1 asking.0 asking.3 in
    let serving = delivers limit (length world.messages) [] asking.1 small asked_sound (told.0 (length world.messages)) in
    let served_sound = (sound limit asking.1 serving.1 (Deliver (length world.messages) []) serving.0 small asked_sound serving.3).0 in
    let hearing = delivers limit (suc (length world.messages)) wishes serving.1 small served_sound (told.1 serving.1 serving.0 serving.3 (suc (length world.messages))) in
    record {
      asked = asking.1;
      served = serving.1;
      new = hearing.1;
      asking = asking.0;
      serving = serving.0;
      hearing = hearing.0;
      asks = asking.3;
      serves = serving.3;
      hears = hearing.3;
      is_asked = asking.2;
      is_served = serving.2;
      is_heard = hearing.2;
    }
