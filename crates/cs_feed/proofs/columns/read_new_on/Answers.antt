use Rattle.std.proofs.Common.{◌≡◌, ℕ, ◌-◌, length, inr, arith, sym, ap, subst}
use Rattle.cs_change.specs.Spelling.{marks_of, is_nonzero}
use Rattle.cs_changeset.specs.Records.{InNew, new_rules}
use Rattle.cs_record.specs.Spelling.{record_of}
use Rattle.cs_feed.specs.Steps.{ChangesAhead, ChangesWrong, NewReached}
use Rattle.cs_feed.proofs.Stages.{new_starts, new_on, new_kept}
use Rattle.cs_feed.proofs.Told.{column_early, column_told, column_within}
use Rattle.cs_feed.proofs.columns.read_new_on.Goals as goal

pub new-fields-requires : goal.new-fields-requires
new-fields-requires c = rw c.bytes_of.ensures (c.requires.fields, (c.requires.fit, sym c.requires.spelled))

pub loop-mark-init : goal.loop-mark-init
loop-mark-init c = record {
  rises = omega arith;
  so_far = new_starts c.args.bytes.now c.args.marks.now _ c.args.left c.args.old c.args.from _ c.split_at.ensures.back c.requires (rw c.bytes_of.ensures at c.new-fields.ensures);
}

pub loop-mark-preserved : goal.loop-mark-preserved
loop-mark-preserved c =
    let bytes = c.args.bytes.now in
    let marks = c.args.marks.now in
    let so_far = rw (c.in-Some-Some.ensures.cases.0, c.in-Some-Some.ensures') at c.loop-mark.invariant.so_far in
    record {
      rises = omega (arith, c.loop-mark.invariant.rises);
      so_far = new_on bytes marks c.in-Some-Some.mark.now c.in-Some-Some.more.now c.in-Some-Some.before c.in-Some-Some.behind c.loop-mark.at c.in-Ok.len c.args.old.end _ so_far c.in-Ok.ensures.0 c.in-Ok.ensures.1;
    }

pub later-requires : goal.later-requires
later-requires c = omega (arith, column_within (InNew (is_nonzero c.in-Some-Some.mark.now) c.in-Some-Some.before) c.args.bytes.now c.loop-mark.at c.in-Err.told.fault c.in-Err.told.offset c.loop-mark.invariant.so_far.within c.in-Err.ensures)

pub overflow_sub-start : goal.overflow_sub-start
overflow_sub-start c = omega (arith, c.loop-mark.invariant.so_far.short, ap length c.bytes.ensures.1)

pub returns-in-None : goal.returns-in-None
returns-in-None c =
    let bytes = c.args.bytes.now in
    let marks = c.args.marks.now in
    let at = c.loop-mark.at in
    let end = c.args.old.end in
    let so_far = rw (c.in-Some-Some.ensures.cases.0, c.in-Some-Some.ensures') at c.loop-mark.invariant.so_far in
    let keys = marks_of marks in
    let kept = new_kept bytes marks c.loop-mark.rest.now c.loop-mark.fields at end c.loop-mark.invariant.so_far in
    let start : end - length (record_of c.loop-mark.fields) ≡ end - length c.bytes.result.now = ap (λ (n : ℕ). end - n) (ap length c.bytes.ensures.1) in (
      c.loop-mark.invariant.rises,
      subst (λ (n : ℕ). NewReached bytes marks (length c.loop-mark.rest.now) (record { start = n; end = end }) at) start kept,
      inr (column_early (InNew (is_nonzero c.in-Some-Some.mark.now) c.in-Some-Some.before) (new_rules (marks_of c.in-Some-Some.more.now) c.in-Some-Some.behind) (λ _. ChangesAhead keys) (λ _. ChangesWrong keys) bytes at so_far.within so_far.leads c.columns.ensures c.in-Err.told.fault c.in-Err.told.offset c.in-Err.ensures c.in-None.ensures),
    )

pub returns-in-Some : goal.returns-in-Some
returns-in-Some c =
    let bytes = c.args.bytes.now in
    let at = c.loop-mark.at in
    let so_far = rw (c.in-Some-Some.ensures.cases.0, c.in-Some-Some.ensures') at c.loop-mark.invariant.so_far in
    let keys = marks_of c.args.marks.now in
    let later = c.in-Some.ensures in
    (rw later.1 later.0, rw (later.1, later.2) (column_told (InNew (is_nonzero c.in-Some-Some.mark.now) c.in-Some-Some.before) (new_rules (marks_of c.in-Some-Some.more.now) c.in-Some-Some.behind) (λ _. ChangesAhead keys) (λ _. ChangesWrong keys) bytes at so_far.within so_far.leads c.in-Err.told.fault c.in-Err.told.offset c.in-Err.ensures))
