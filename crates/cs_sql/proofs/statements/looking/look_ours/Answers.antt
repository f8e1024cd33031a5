use Rattle.std.specs.Prelude.{MatchOption}
use Rattle.std.proofs.Common.{◌≡◌, Option, true, false, sym, subst, ◌∙◌, arith}
use Rattle.sqlite.specs.Effect.{Database}
use Rattle.sqlite.specs.Held.{state}
use Rattle.sqlite.specs.State.{HasCleanDisk}
use Rattle.cs_sql.specs.declared.statements.counting.LogFound.{LogFound}
use Rattle.cs_sql.specs.statements.Found.{AreApart, AreCountable, IsCounted}
use Rattle.cs_sql.proofs.StatementsLemmas.Adopting.{foreign_pending, foreign_store, found_ours, none_left, untouched, untouched_then}
use Rattle.cs_sql.proofs.statements.looking.look_ours.Goals as goal

pub returns-then-branch-clause-found : goal.returns-then-branch-clause-found
returns-then-branch-clause-found g c clean =
    let s0 = state g.S.Store c.args.conn.now in
    let s1 = state g.S.Store c.count_front.new.conn in
    let s2 = state g.S.Store c.is_pending_apart.new.conn in
    let c1 : HasCleanDisk s1 = omega (arith, clean, c.is_pending_apart.ensures.survives.clean) in
    let c0 : HasCleanDisk s0 = omega (arith, c1, c.count_front.ensures.survives.clean) in
    let counted = subst (λ (o : Option LogFound). MatchOption o (¬ AreCountable s0.now.trees) (IsCounted s0.now.trees)) c.in-Some.is (c.in_ok-log.ensures.counted c1) in
    let u = c.in_ok-log.ensures.ok c1 in
    let apart = subst (λ (d : Database). AreApart (d.trees 5)) u.0.now_is ((c.in_ok-is_pending_apart.ensures.apart clean).0 c.if-branch.true) in
    let found = found_ours s0.now c.in-Some.log (c.requires.ours c0) (c.requires.sound c0) counted apart in
    (found, untouched_then s0 s1 s2 (c.requires.serves c0) u (c.in_ok-is_pending_apart.ensures.ok clean))

pub returns-in_default-clause-found : goal.returns-in_default-clause-found
returns-in_default-clause-found g c clean =
    let s0 = state g.S.Store c.args.conn.now in
    let s1 = state g.S.Store c.count_front.new.conn in
    let c0 : HasCleanDisk s0 = omega (arith, clean, c.count_front.ensures.survives.clean) in
    let fails : ¬ AreCountable s0.now.trees = none_left c.in_ok-log.field-0 _ _ c.in_default.not-Some (c.in_ok-log.ensures.counted clean) in
    (foreign_store s0.now (c.requires.ours c0) fails, untouched s0 s1 (c.requires.serves c0) (c.in_ok-log.ensures.ok clean))

pub returns-else-branch-clause-found : goal.returns-else-branch-clause-found
returns-else-branch-clause-found g c clean =
    let s0 = state g.S.Store c.args.conn.now in
    let s1 = state g.S.Store c.count_front.new.conn in
    let s2 = state g.S.Store c.is_pending_apart.new.conn in
    let c1 : HasCleanDisk s1 = omega (arith, clean, c.is_pending_apart.ensures.survives.clean) in
    let c0 : HasCleanDisk s0 = omega (arith, c1, c.count_front.ensures.survives.clean) in
    let u = c.in_ok-log.ensures.ok c1 in
    let fails : ¬ AreApart (s0.now.trees 5) = λ apart.
    let e : true ≡ false = sym ((c.in_ok-is_pending_apart.ensures.apart clean).1 (subst (λ (d : Database). AreApart (d.trees 5)) (sym u.0.now_is) apart)) ∙ c.if-branch.false in absurd cc in
    (foreign_pending s0.now (c.requires.ours c0) fails, untouched_then s0 s1 s2 (c.requires.serves c0) u (c.in_ok-is_pending_apart.ensures.ok clean))
