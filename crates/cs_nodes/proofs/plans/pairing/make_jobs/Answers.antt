use Rattle.std.proofs.Common.{◌∷◌, length, sym, ap, ◌∙◌, arith}
use Rattle.std.specs.Vec.Iter.{into_iter_items}
use Rattle.cs_nodes.proofs.PlansLemmas.Paired.{ids_more, taken_all, taken_more}
use Rattle.cs_nodes.proofs.plans.pairing.make_jobs.Goals as goal

pub plans-preserved : goal.plans-preserved
plans-preserved g c =
    let first = ap length c.in-Some.ensures.steps.0 in
    record {
      plans_are = taken_more (λ job. job.plan) c.args.plans.items c.plans.jobs.items c.push_reserved.new.self.items c.new.result (into_iter_items c.plans.plan-iterator) (into_iter_items c.next.new.self) c.plans.invariant.plans_are
          (c.in-Some.ensures.steps.0 ∙ ap (λ plan. plan ∷ into_iter_items c.next.new.self) (sym c.new.ensures.plan)) c.push_reserved.ensures.items;
      ids_are = ids_more c.plans.jobs.items c.push_reserved.new.self.items c.new.result c.plans.invariant.ids_are (omega (arith, c.new.ensures.id, c.len-in-plans.ensures)) c.push_reserved.ensures.items;
      even = let port = ap length c.in-Some-next.ensures.items in omega (arith, first, port, c.plans.invariant.even);
      room = omega (arith, first, c.plans.invariant.room, c.push_reserved.ensures.len, c.push_reserved.ensures.capacity);
    }

pub returns : goal.returns
returns g c = record {
  plans_are = taken_all (λ job. job.plan) c.args.plans.items c.plans.jobs.items (into_iter_items c.plans.plan-iterator) c.plans.invariant.plans_are (sym c.plans.plan-iterator.rest.ok.0 ∙ c.in-None.ensures.steps.0);
  ids_are = c.plans.invariant.ids_are;
}
