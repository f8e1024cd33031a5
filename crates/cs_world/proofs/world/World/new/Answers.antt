use Rattle.std.proofs.Common.{◌≡◌, ◌∷◌, [], length, ap, subst, sym, ◌∙◌, arith, length-append}
use Rattle.std.specs.Vec.Iter.{into_iter_items}
use Rattle.std.proofs.lemmas.List.Elements.{All-head, All-tail}
use Rattle.cs_store.specs.declared.log.entry.TheConstants.{MAX_ENTRIES}
use Rattle.cs_store.specs.Contents.{nothing}
use Rattle.cs_world.specs.Opened.{IsNewReplica}
use Rattle.cs_world.proofs.Begun.{is_new, new_leaves, new_stands, none_yet, one_more}
use Rattle.cs_world.proofs.world.World.new.Goals as goal

pub loop-store-init : goal.loop-store-init
loop-store-init g c = record {
  news = none_yet g.S.RowStore c.args.catalog.now c.in_ok-opened.opened.items c.in_ok-opened.ensures.items;
  bare = rw c.into_iter-store-iterator.ensures.into_iter_gives.0 c.requires.replicas;
  counted = let none = ap length c.in_ok-opened.ensures.items in let all = ap length c.into_iter-store-iterator.ensures.into_iter_gives.0 in omega (arith, none, all);
}

pub overflow_cast-number : goal.overflow_cast-number
overflow_cast-number g c =
    let counted = c.loop-store.invariant.counted in omega (arith, c.len-number.ensures, counted, c.requires.count)

pub open_replica-requires-clause-bare : goal.open_replica-requires-clause-bare
open_replica-requires-clause-bare g c =
    All-head (λ store. g.S.RowStore.contents store ≡ nothing) c.in-Some.store (into_iter_items c.next.new.self) (rw c.in-Some.ensures.steps.0 at c.loop-store.invariant.bare)

pub open_replica-requires-clause-small : goal.open_replica-requires-clause-small
open_replica-requires-clause-small g c =
    let counted = c.loop-store.invariant.counted in let one = ap length c.in-Some.ensures.steps.0 in omega (arith, c.len-number.ensures, counted, one, c.requires.count)

pub loop-store-preserved : goal.loop-store-preserved
loop-store-preserved g c =
    let first = c.in-Some.ensures.steps.0 in
    let number : c.len-number.result ≡ length c.loop-store.opened.items = omega (arith, c.len-number.ensures) in
    record {
      news = one_more g.S.RowStore c.args.catalog.now c.loop-store.opened.items c.in_ok-open_replica.field-0 c.loop-store.invariant.news
          (subst (λ n. IsNewReplica g.S.RowStore c.args.catalog.now n c.in_ok-open_replica.field-0) number c.in_ok-open_replica.ensures) c.push.new.self.items c.in_ok-push.ensures.items;
      bare = All-tail (λ store. g.S.RowStore.contents store ≡ nothing) c.in-Some.store (into_iter_items c.next.new.self) (rw first at c.loop-store.invariant.bare);
      counted = let one = ap length first in let more = ap length c.in_ok-push.ensures.items in let n = length-append c.loop-store.opened.items (c.in_ok-open_replica.field-0 ∷ []) in
          omega (arith, one, more, n, c.loop-store.invariant.counted);
    }

pub returns : goal.returns
returns g c =
    is_new g.S.RowStore MAX_ENTRIES c.args.catalog.now c.tables-tables.ensures.tables c.first_is_sound.ensures c.widen_is_entry.ensures.origin c.in_ok-hub.hub c.loop-store.opened.items c.new.result.items c.new.ensures.items
    (length c.args.replicas.items) (let none : length (into_iter_items c.loop-store.store-iterator) ≡ 0 = sym c.loop-store.store-iterator.rest.ok.0 ∙ c.in-None.ensures.steps.0 in omega (arith, none, c.loop-store.invariant.counted)) (omega (arith, c.requires.count)) c.in_ok-hub.ensures.catalog c.in_ok-hub.ensures.shown c.loop-store.invariant.news

pub invariant_of-result : goal.invariant_of-result
invariant_of-result g c = λ all.
    let n = new_stands g.S.RowStore MAX_ENTRIES c.args.catalog.now (length c.args.replicas.items) _
    (is_new g.S.RowStore MAX_ENTRIES c.args.catalog.now c.tables-tables.ensures.tables c.first_is_sound.ensures c.widen_is_entry.ensures.origin c.in_ok-hub.hub c.loop-store.opened.items c.new.result.items c.new.ensures.items
    (length c.args.replicas.items) (let none : length (into_iter_items c.loop-store.store-iterator) ≡ 0 = sym c.loop-store.store-iterator.rest.ok.0 ∙ c.in-None.ensures.steps.0 in omega (arith, none, c.loop-store.invariant.counted)) (omega (arith, c.requires.count)) c.in_ok-hub.ensures.catalog c.in_ok-hub.ensures.shown c.loop-store.invariant.news) all in
    (n.0, n.1, new_leaves g.S.RowStore MAX_ENTRIES c.args.catalog.now c.in_ok-hub.hub c.loop-store.opened.items c.new.result.items c.in_ok-hub.ensures.alone c.loop-store.invariant.news all n.0)
