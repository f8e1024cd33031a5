use Rattle.std.proofs.Common.{◌≡◌, ◌++◌, length, map, take, ◌∙◌, arith}
use Rattle.std.specs.List.{slice_range}
use Rattle.std.proofs.lemmas.List.{take_all}
use Rattle.cs_leaf.specs.Entries.{entries_at, shifted}
use Rattle.cs_leaf.proofs.Packing.{entries_joined, shifted_long, shifted_run, no_spot, run_ordered, run_pushed}
use Rattle.cs_leaf.proofs.leaf.put_run.Goals as goal

pub shifted-requires-clause-order : goal.shifted-requires-clause-order
shifted-requires-clause-order c =
    run_ordered c.args.source.now c.args.run.now c.args.start c.args.end c.loop-at.at no_spot (omega arith) c.requires.run c.requires.there

pub returns-clause-within : goal.returns-clause-within
returns-clause-within c =
    let bytes = c.args.bytes.now.items in
    let source = c.args.source.now in
    let run = c.args.run.now in
    let start = c.args.start in
    let new = c.extend_from_slice.new.self.items in
    let grown = c.in_ok-extend_from_slice.ensures.items in
    let held : c.len-held.result ≡ length bytes = omega arith in
    let every : take c.loop-at.at run ≡ run = take_all c.loop-at.at run (omega arith) in
    let its = shifted_run bytes source new start c.args.end grown c.requires.bound.1 run start (omega arith) c.requires.run c.requires.there in
    run_pushed bytes (slice_range source start c.args.end) new c.args.spots.now.items (map (λ s. shifted s start (length bytes)) run) c.loop-at.spots.items c.requires.held its.0 grown
    (c.loop-at.invariant.items ∙ (λ i. c.reserve.ensures.items i ++ map (λ s. shifted s start (held i)) (every i)))

pub returns-clause-ok : goal.returns-clause-ok
returns-clause-ok c =
    let bytes = c.args.bytes.now.items in
    let source = c.args.source.now in
    let run = c.args.run.now in
    let start = c.args.start in
    let new = c.extend_from_slice.new.self.items in
    let grown = c.in_ok-extend_from_slice.ensures.items in
    let held : c.len-held.result ≡ length bytes = omega arith in
    let every : take c.loop-at.at run ≡ run = take_all c.loop-at.at run (omega arith) in
    let its = shifted_run bytes source new start c.args.end grown c.requires.bound.1 run start (omega arith) c.requires.run c.requires.there in
    entries_joined bytes (slice_range source start c.args.end) new c.args.spots.now.items (map (λ s. shifted s start (length bytes)) run) c.loop-at.spots.items (entries_at source run) c.requires.held grown
    (c.loop-at.invariant.items ∙ (λ i. c.reserve.ensures.items i ++ map (λ s. shifted s start (held i)) (every i))) its.1

pub returns-clause-len : goal.returns-clause-len
returns-clause-len c =
    shifted_long c.args.bytes.now.items c.args.source.now c.extend_from_slice.new.self.items c.args.start c.args.end c.in_ok-extend_from_slice.ensures.items c.requires.bound.1 c.args.run.now c.requires.bound.0 c.requires.run c.requires.there
