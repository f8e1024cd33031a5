use Rattle.std.proofs.Common.{List, ℕ, ap, map, ◌∙◌}
use Rattle.cs_order.specs.Groups.{places_of}
use Rattle.cs_order.specs.Order.{Keys}
use Rattle.cs_normal.specs.Placed.{table_name}
use Rattle.cs_normalising.proofs.Placed.{found_in}
use Rattle.cs_normalising.proofs.groups.find_table.Goals as goal

pub returns-in-Some : goal.returns-in-Some
returns-in-Some c =
    let tables = c.args.catalog.now in
    let names = rw c.in-Some.is at c.requires in
    let places = c.of.ensures ∙ ap (λ (ns : Keys). places_of ns c.as_bytes.result.now) names ∙ ap (λ (n : List ℕ). places_of (map table_name tables) n) c.as_bytes.ensures.value in
    found_in tables c.args.name.now c.of.result.now places c.first_place.result c.first_place.ensures
