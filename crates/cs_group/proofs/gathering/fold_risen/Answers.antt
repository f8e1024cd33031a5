use Rattle.std.proofs.Common.{[], subst, arith, List, ℕ}
use Rattle.std.specs.List.{All}
use Rattle.std.proofs.lemmas.List.{take_all}
use Rattle.std.proofs.lemmas.List.Elements.{All-more}
use Rattle.cs_group.specs.Steps.Folding.{AreFolded, none_folded}
use Rattle.cs_group.specs.Steps.Gathering.{lent_changes, lent_numbers}
use Rattle.cs_group.specs.Steps.Reading.{Rise}
use Rattle.cs_group.proofs.Folds.{folded_more}
use Rattle.cs_group.proofs.gathering.fold_risen.Goals as goal

pub loop-at-init : goal.loop-at-init
loop-at-init g c = record { rise = λ k d within. absurd (omega (arith, within)); folded = none_folded c.args.begun }

pub loop-at-preserved : goal.loop-at-preserved
loop-at-preserved g c =
    let changes = c.args.changes.now in
    let groups = c.args.groups.now in
    let up = c.numbers_rise.ensures.0 c.if-not-numbers_rise.false in
    record {
      rise = All-more (Rise (lent_numbers changes)) groups c.loop-at.at [] (omega arith) c.loop-at.invariant.rise (subst (Rise (lent_numbers changes)) c.group-group.ensures up);
      folded = folded_more (g.F.Folds.Step c.args.marks.now (lent_changes changes)) groups c.loop-at.at c.group-group.result.now c.args.begun c.loop-at.folding c.fold_lent.new.self (omega arith) c.group-group.ensures c.in_ok-fold_lent.ensures c.loop-at.invariant.folded;
    }

pub returns-clause-rise : goal.returns-clause-rise
returns-clause-rise g c =
    subst (All (Rise (lent_numbers c.args.changes.now))) (take_all c.loop-at.at c.args.groups.now (omega (arith, c.loop-at-test.false))) c.loop-at.invariant.rise

pub returns-clause-folded : goal.returns-clause-folded
returns-clause-folded g c =
    subst (λ (gs : List (List ℕ)). AreFolded (g.F.Folds.Step c.args.marks.now (lent_changes c.args.changes.now)) gs c.args.begun c.loop-at.folding) (take_all c.loop-at.at c.args.groups.now (omega (arith, c.loop-at-test.false))) c.loop-at.invariant.folded
