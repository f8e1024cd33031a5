use Rattle.std.proofs.Common.{◌≡◌, ◌<◌, List, ℕ, get_or, length, map, sym, ap, ◌∙◌, arith}
use Rattle.cs_order.specs.Order.{Keys}
use Rattle.cs_tasks.specs.Places.{places_held}
use Rattle.cs_tasks.proofs.LentKeys.{same_table}
use Rattle.cs_tasks.proofs.task_places.TaskPlaces.table.Goals as goal

pub returns-in-Lent : goal.returns-in-Lent
returns-in-Lent c =
    let are : map (λ key. c.in-Lent.table) c.in-Lent.keys ≡ c.args.self.now.0 =
    ap (λ held. (places_held held).0) (sym c.in-Lent.is) ∙ ap (λ (p : List ℕ × Keys). p.0) c.self.view_is in
    let within : c.args.at < length c.in-Lent.keys = omega (arith, c.if-at-len.true, c.len.ensures) in
    same_table c.in-Lent.table c.in-Lent.keys c.args.at within ∙ ap (λ (tables : List ℕ). get_or tables c.args.at 0) are
