use Rattle.std.proofs.Common.{◌≡◌, ◌++◌, List, ℕ, length, sym, ap, subst, ◌∙◌, arith}
use Rattle.std.specs.List.{All, slice_range}
use Rattle.std.proofs.lemmas.List.{length-map}
use Rattle.cs_leaf.specs.Entries.{IsFrontOf, IsSpotIn, entries_at, entry_at}
use Rattle.cs_leaf.specs.declared.leaf.Spot.{Spot}
use Rattle.cs_leaf.proofs.Packing.{run_order, run_within, slice_entries, slice_long, slice_within, tight_grown}
use Rattle.cs_leaf.proofs.leaf.Leaf.push_run.Goals as goal

pub put_run-requires-clause-bound : goal.put_run-requires-clause-bound
put_run-requires-clause-bound c =
    let bytes = c.leaf.inside.bytes.items in
    let spots = c.leaf.inside.spots.items in
    let from = c.args.from in
    let found = c.run_from-run.result in
    let seen = c.as_slice.result.now in
    let run = slice_range seen from found.to in
    let there : All (IsSpotIn c.as_slice-2.result.now) run =
    subst (λ (bs : List ℕ). All (IsSpotIn bs) run) (sym c.as_slice-2.ensures.value)
    (subst (λ (ss : List Spot). All (IsSpotIn bytes) (slice_range ss from found.to)) (sym c.as_slice.ensures.value) (slice_within bytes spots from found.to c.leaf.invariant.0)) in
    let long : length seen ≡ length c.args.leaf.now = ap length c.as_slice.ensures.value ∙ sym (length-map spots (entry_at bytes)) ∙ ap length c.leaf.view_is in
    let bound = c.run_from-run.ensures.bound in
    let size = slice_long seen from found.to (omega (arith, long, bound.1, c.requires.1)) in
    (run_order c.as_slice-2.result.now run found.start found.end c.run_from-run.ensures.run there, run_within c.as_slice-2.result.now run found.start found.end c.run_from-run.ensures.run there (omega (arith, size, bound.0)))

pub invariant_of-self-2 : goal.invariant_of-self-2
invariant_of-self-2 c =
    let was = c.self.inside in
    let its = c.put_run.ensures in (
      its.within,
      subst (IsFrontOf c.note_front.new.front) c.as_slice-4.ensures.value c.note_front.ensures,
      tight_grown (entries_at was.bytes.items was.spots.items) _ (entries_at c.put_run.new.bytes.items c.put_run.new.spots.items)
          was.used (length was.bytes.items) (length c.put_run.new.bytes.items) _ c.self.invariant.2 c.in_ok-put_run.ensures.ok c.in_ok-put_run.ensures.len (omega arith),
    )

pub returns-clause-pushed : goal.returns-clause-pushed
returns-clause-pushed c =
    let bytes = c.leaf.inside.bytes.items in
    let spots = c.leaf.inside.spots.items in
    let from = c.args.from in
    let to = c.run_from-run.result.to in
    c.in_ok-put_run.ensures.ok
    ∙ (λ i. c.self.view_is i ++ entries_at (c.as_slice-2.ensures.value i) (slice_range (c.as_slice-3.ensures.value i) from to))
    ∙ ap (λ es. c.args.self.now ++ es) (slice_entries bytes spots from to ∙ ap (λ es. slice_range es from to) c.leaf.view_is)
