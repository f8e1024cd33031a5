use Rattle.std.proofs.Common.{rules, ℕ, List, sym, subst}
use Rattle.cs_record.specs.Facts.{tail}
use Rattle.cs_store.specs.log.Steps.{AreNextChanges, IsNextChange}
use Rattle.cs_store.proofs.LogLemmas.Seen.{AreSoFar, none_so_far, one_more, whole_group}
use Rattle.cs_store.proofs.log.stored.behind_changes.Goals as goal

pub loop-room-init : goal.loop-room-init
loop-room-init c = none_so_far c.args.marks.now c.args.bytes.now c.new-last.result.items

pub returns-then-ends_group : goal.returns-then-ends_group
returns-then-ends_group c =
    let marks = c.args.marks.now in
    let bytes = c.args.bytes.now in
    let left = c.loop-room.left.now in
    let last = c.loop-room.last.items in
    let next = c.next_change.new.last.items in
    let len = c.in-Some.len in
    let is : IsNextChange marks last next left len = search rules in
    subst (λ (rest : List ℕ). AreNextChanges marks bytes rest) (sym (tail left len)) (whole_group marks bytes last next left len c.loop-room.invariant is)

pub loop-room-preserved : goal.loop-room-preserved
loop-room-preserved c =
    let marks = c.args.marks.now in
    let bytes = c.args.bytes.now in
    let left = c.loop-room.left.now in
    let last = c.loop-room.last.items in
    let next = c.next_change.new.last.items in
    let len = c.in-Some.len in
    let is : IsNextChange marks last next left len = search rules in
    subst (λ (rest : List ℕ). AreSoFar marks bytes next rest) (sym (tail left len)) (one_more marks bytes last next left len c.loop-room.invariant is)
