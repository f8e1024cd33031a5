use Rattle.std.proofs.Common.{ap, List, ℕ, ◌∙◌}
use Rattle.std.specs.List.{flat_map}
use Rattle.std.proofs.lemmas.Result.{IfOk-weaker}
use Rattle.cs_order.specs.Groups.{places_of}
use Rattle.cs_order.specs.Order.{Keys}
use Rattle.cs_normalising.specs.Steps.Named.{changes_at, names_of}
use Rattle.cs_normalising.proofs.Placed.{changes_at_places}
use Rattle.cs_normalising.proofs.table_form.lend_named.Goals as goal

pub returns-in-Some : goal.returns-in-Some
returns-in-Some c =
    let table = c.args.table.now in
    let groups = c.args.groups.now in
    let names = rw c.in-Some.is at c.requires in
    let name = c.as_bytes.ensures.value ∙ c.as_str.ensures in
    let places = c.of-places.ensures ∙ ap (λ (ns : Keys). places_of ns c.as_bytes.result.now) names ∙ ap (λ (n : List ℕ). places_of (names_of groups) n) name in
    IfOk-weaker c.lend_places.result _ _ (λ lent is. is ∙ ap (λ (ps : List ℕ). flat_map (changes_at groups) ps) places ∙ changes_at_places table.name groups) c.lend_places.ensures
