-- A push of a replica that some store shows has a result that says something of it, and some store shows what it leaves.
use Rattle.std.proofs.Common.{List, Result, Ok, Err, refl, inl, inr}
use Rattle.std.specs.Prelude.{◌⊎◌}
use Rattle.cs_normal.specs.declared.normal.TableChanges.{TableChanges}
use Rattle.cs_exchange.specs.pushing.Laws.{IsOfPush, MadeOrPushFault}
use Rattle.cs_exchange.specs.pushing.Pushes.{IsPushFault, IsPushMade, grounded, pushed, request_of}
use Rattle.cs_exchange.specs.declared.pushing.fault.PushFault.{PushFault}
use Rattle.cs_store.specs.Contents.{Contents}
use Rattle.cs_wire.specs.Requests.{Asked}
use Rattle.cs_replica.specs.StepLaws.{IsOfPushed, PushHasResult}
use Rattle.cs_replica.specs.Step.{IsPushAsked, Member}

push_ends : (before : Member)
    → ((changes : List TableChanges) × (new : Contents) × IsPushMade before.tables before.position before.view new changes)
    ⊎ ((fault : PushFault) × IsOfPush fault × IsPushFault fault before.tables before.position before.view)
    → (result : Result Asked PushFault) × (after : Member) × IsOfPushed result × IsPushAsked result before after
push_ends before (inl (changes, new, made)) = (
  Ok (request_of (pushed before.position changes) changes),
  record before { position = pushed before.position changes; view = grounded before.view },
  tt,
  (changes, new, refl, made, refl),
)
push_ends before (inr (fault, of, is)) = (Err fault, before, of, (refl, is))

pub push_has_result : MadeOrPushFault → PushHasResult
push_has_result law before are named shown =
    push_ends before (law before.tables shown.contents before.position before.view are named shown.shows)
