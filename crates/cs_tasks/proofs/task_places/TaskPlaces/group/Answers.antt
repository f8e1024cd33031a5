use Rattle.std.proofs.Common.{List, ℕ, map, sym, ap, ◌∙◌, ◌≡◌, subst}
use Rattle.std.specs.Prelude.{IfOk}
use Rattle.std.specs.Int.{to_be_bytes, w32}
use Rattle.cs_order.specs.Groups.{IsGrouping}
use Rattle.cs_order.specs.Order.{Keys}
use Rattle.cs_store.specs.States.{place_bytes}
use Rattle.cs_tasks.specs.Places.{places_held}
use Rattle.cs_tasks.proofs.Fronts.{groupings_behind}
use Rattle.cs_tasks.proofs.task_places.TaskPlaces.group.Goals as goal

pub returns-in-Lent : goal.returns-in-Lent
returns-in-Lent c =
    let are : map (place_bytes c.in-Lent.table) c.in-Lent.keys ≡ c.args.self.now.1 =
    ap (λ held. (places_held held).1) (sym c.in-Lent.is) ∙ ap (λ (p : List ℕ × Keys). p.1) c.self.view_is in
    subst (λ (ks : Keys). IfOk c.group_keys.result (λ groups. IsGrouping ks groups)) are
    (groupings_behind (to_be_bytes w32 c.in-Lent.table) c.in-Lent.keys c.group_keys.result (rw c.as_slice.ensures at c.group_keys.ensures))
