use Rattle.std.proofs.Common.{◌≡◌, List, ℕ, ap, sym, refl, ◌∙◌, arith, drop, length-drop}
use Rattle.cs_order.specs.Groups.{places_of}
use Rattle.cs_order.specs.Order.{Keys}
use Rattle.cs_normal.specs.Steps.FirstTables.{first_is, is_new, with_new}
use Rattle.cs_normal.proofs.FirstByName.{front_next, new_is_first, seen_more}
use Rattle.cs_normal.proofs.HeaderTables.{front_none, front_whole}
use Rattle.cs_normal.proofs.headers.many_tables.Goals as goal

pub loop-place-init : goal.loop-place-init
loop-place-init c = record {
  front = rw c.new-tables.ensures.items (front_none c.args.headers.now);
  seen = λ table. rw c.new-tables.ensures.items refl;
}

pub loop-place-preserved : goal.loop-place-preserved
loop-place-preserved c =
    let headers = c.args.headers.now in
    let tables = c.loop-place.tables.items in
    let place = c.loop-place.place in
    let table = c.index-headers-place.result in
    let within = c.loop-place-test.true in
    let is = c.index-headers-place.is in
    let names = c.in_ok-names.ensures ∙ c.in_ok-lend_table_names.ensures in
    let name = c.as_bytes.ensures.value ∙ c.as_str.ensures in
    let places = c.of-places.ensures ∙ ap (λ (ns : Keys). places_of ns c.as_bytes.result.now) names in
    let named = rw name at places in
    let test : c.is_first.result ≡ is_new tables table = c.is_first.ensures ∙ ap (λ (ps : List ℕ). first_is place ps) named ∙ sym (new_is_first headers place table within is tables c.loop-place.invariant.seen) in
    let grown : c.put_first.new.tables.items ≡ with_new tables table = rw test at c.in_ok-put_first.ensures in
    record {
      front = front_next headers place table within is tables c.put_first.new.tables.items c.loop-place.invariant.seen c.loop-place.invariant.front grown;
      seen = rw grown (seen_more headers place table within is tables c.loop-place.invariant.seen);
    }

pub returns : goal.returns
returns c =
    let left = length-drop c.loop-place.place c.args.headers.now in
    front_whole 1000 c.args.headers.now c.loop-place.tables.items (drop c.loop-place.place c.args.headers.now) (omega (arith, left, c.loop-place-test.false)) c.loop-place.invariant.front
