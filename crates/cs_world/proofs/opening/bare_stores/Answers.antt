use Rattle.std.proofs.Common.{◌≡◌, [], ◌∷◌, length, ap, arith, length-append}
use Rattle.std.proofs.lemmas.List.Elements.{All-append, All-cons, All-nil}
use Rattle.cs_map_store.specs.declared.map_store.MapStore.{MapStore}
use Rattle.cs_store.specs.Contents.{nothing}
use Rattle.cs_world.proofs.opening.bare_stores.Goals as goal

pub loop-number-init : goal.loop-number-init
loop-number-init c = record {
  bare = rw c.in_ok-stores.ensures.items (All-nil (λ (store : MapStore). store.held ≡ nothing));
  count = let none = ap length c.in_ok-stores.ensures.items in omega (arith, none);
}

pub loop-number-preserved : goal.loop-number-preserved
loop-number-preserved c = record {
  bare = rw c.in_ok-push.ensures.items (All-append (λ (store : MapStore). store.held ≡ nothing) c.loop-number.stores.items (c.new.result ∷ []) c.loop-number.invariant.bare
      (All-cons (λ (store : MapStore). store.held ≡ nothing) c.new.result [] (ap (λ (s : MapStore). s.held) c.new.ensures) (All-nil (λ (store : MapStore). store.held ≡ nothing))));
  count = let more = ap length c.in_ok-push.ensures.items in let n = length-append c.loop-number.stores.items (c.new.result ∷ []) in omega (arith, more, n, c.loop-number.invariant.count);
}

pub returns-clause-bare : goal.returns-clause-bare
returns-clause-bare c = c.loop-number.invariant.bare

pub returns-clause-count : goal.returns-clause-count
returns-clause-count c = omega (arith, c.loop-number.invariant.count, c.loop-number-test.false, c.loop-number.auto.number-end)
