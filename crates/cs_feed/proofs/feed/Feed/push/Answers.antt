use Rattle.std.proofs.Common.{◌≡◌, ℕ, List, ◌++◌, ◌∙◌, sym, ap, subst, refl}
use Rattle.cs_changeset.specs.declared.fault.FirstFault.{FirstFault}
use Rattle.cs_feed.specs.Feeding.{IsFaultSoFar}
use Rattle.cs_feed.proofs.Pushed.{same_fault, scan_tells, told_again, same_answer}
use Rattle.cs_feed.proofs.Reached.{none_so_far, reached_more}
use Rattle.cs_feed.proofs.feed.Feed.push.Goals as goal
use Rattle.cs_feed.proofs.feed.Feed.push.Goals.{in-Ok-state, in-Err-state}

pub returns-in-Err-clause-told : goal.returns-in-Err-clause-told
returns-in-Err-clause-told c =
    let so_far = rw (c.in-Err.is, c.self.view_is) at c.self.invariant in
    λ fault offset told. rw c.from.ensures (told_again c.changesets.ensures c.args.self.now c.args.piece.now c.in-Err.told.fault fault c.in-Err.told.offset offset so_far told)

pub returns-in-Err-clause-again : goal.returns-in-Err-clause-again
returns-in-Err-clause-again c =
    let so_far = rw (c.in-Err.is, c.self.view_is) at c.self.invariant in
    λ fault offset told. (rw c.from.ensures (same_answer c.in-Err.told.fault fault c.in-Err.told.offset offset (same_fault c.changesets.ensures c.args.self.now c.in-Err.told.fault fault c.in-Err.told.offset offset so_far told)), refl)

pub returns-in_err-extend_from_slice-clause-again : goal.returns-in_err-extend_from_slice-clause-again
returns-in_err-extend_from_slice-clause-again c =
    let scanned = rw (c.in-Ok.is, c.self.view_is) at c.self.invariant in
    λ fault offset told. absurd (none_so_far c.changesets.ensures c.args.self.now c.in-Ok.reached.at c.in-Ok.reached.stage scanned.0 scanned.1 fault offset told)

pub scan-self-inside-requires : goal.scan-self-inside-requires
scan-self-inside-requires c =
    let scanned = rw c.in-Ok.is at c.self.invariant in
    let more = reached_more c.self.inside.bytes.items c.args.piece.now c.in-Ok.reached.at c.in-Ok.reached.stage scanned.0 in
    rw (c.as_slice.ensures.value, c.in_ok-extend_from_slice.ensures.items) more

pub returns-clause-told : goal.returns-clause-told
returns-clause-told c = λ fault offset told.
    let same : c.as_slice.result.now ≡ c.args.self.now ++ c.args.piece.now = c.as_slice.ensures.value ∙ c.in_ok-extend_from_slice.ensures.items ∙ ap (λ (b : List ℕ). b ++ c.args.piece.now) c.self.view_is in
    let there = subst (IsFaultSoFar fault offset) (sym same) told in
    let found = scan_tells c.changesets.ensures c.as_slice.result.now c.scan-self-inside.result c.scan-self-inside.ensures fault offset there in
    elim c.match-self-2.branch [
      | in-Ok-state w ↦ (let never = w.in-Ok-state.is in let is = found.1 in cc)
      | in-Err-state w ↦
          (let is = found.1 in
          let same_told : w.in-Err-state.told ≡ found.0 = cc in
          rw (w.result-is, w.from-in-Err-state.ensures) (ap (λ (t : FirstFault). t.fault) same_told ∙ found.2, ap (λ (t : FirstFault). t.offset) same_told ∙ found.3))
    ]

pub returns-clause-again : goal.returns-clause-again
returns-clause-again c =
    let scanned = rw (c.in-Ok.is, c.self.view_is) at c.self.invariant in
    λ fault offset told. absurd (none_so_far c.changesets.ensures c.args.self.now c.in-Ok.reached.at c.in-Ok.reached.stage scanned.0 scanned.1 fault offset told)
