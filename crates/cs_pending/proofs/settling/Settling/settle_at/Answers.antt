use Rattle.std.proofs.Common.{ap, not}
use Rattle.std.specs.Option.{option_copied}
use Rattle.cs_pending.specs.Placing.{standing_of}
use Rattle.cs_pending.specs.Settled.{Catalogs}
use Rattle.cs_pending.specs.Steps.{settle_step}
use Rattle.cs_pending.proofs.settling.Settling.settle_at.Goals as goal

pub returns-clause-settled : goal.returns-clause-settled
returns-clause-settled c = λ tables contents begun view are found base_stands mine_stands stands settles.
    let law : Catalogs tables = record { are = are; one = c.catalogs.ensures.place; key = c.one_key_stands.ensures; net_takes = c.net_takes.ensures } in
    settle_step tables law c.commits.ensures.edits c.commits.ensures.bodies contents begun c.args.place.now.number c.args.place.now.table.now c.args.place.now.key.now
    (standing_of (option_copied c.args.stood) (option_copied c.args.stood_base)) _ _ c.args.self.now _ view (not c.are_same-was.result) c.in_ok-is.is'
    found base_stands mine_stands stands settles
    (ap not c.are_same-was.ensures) c.in_ok-is.ensures.is c.in_ok-push_row.ensures c.in_ok-is.ensures.pushed c.in_ok-self.ensures
