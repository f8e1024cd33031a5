use Rattle.std.specs.Prelude.{MatchOption}
use Rattle.std.proofs.Common.{Option, subst, arith}
use Rattle.sqlite.specs.Held.{state}
use Rattle.sqlite.specs.State.{HasCleanDisk}
use Rattle.cs_sql.specs.declared.statements.counting.LogFound.{LogFound}
use Rattle.cs_sql.specs.statements.Found.{AreCountable, IsCounted}
use Rattle.cs_sql.proofs.StatementsLemmas.Adopting.{foreign_front, found_front, untouched}
use Rattle.cs_sql.proofs.statements.looking.look_front.Goals as goal

pub returns-in-Some-clause-found : goal.returns-in-Some-clause-found
returns-in-Some-clause-found g c clean =
    let s0 = state g.S.Store c.args.conn.now in
    let s1 = state g.S.Store c.count_front.new.conn in
    let c0 : HasCleanDisk s0 = omega (arith, clean, c.count_front.ensures.survives.clean) in
    let counted = subst (λ (o : Option LogFound). MatchOption o (¬ AreCountable s0.now.trees) (IsCounted s0.now.trees)) c.in-Some.is (c.in_ok-log.ensures.counted clean) in
    let found = found_front s0.now c.in-Some.log (c.requires.front c0) (c.requires.sound c0) counted in
    ((c.requires.front c0, found.0, found.1), untouched s0 s1 (c.requires.serves c0) (c.in_ok-log.ensures.ok clean))

pub returns-in-None-clause-found : goal.returns-in-None-clause-found
returns-in-None-clause-found g c clean =
    let s0 = state g.S.Store c.args.conn.now in
    let s1 = state g.S.Store c.count_front.new.conn in
    let c0 : HasCleanDisk s0 = omega (arith, clean, c.count_front.ensures.survives.clean) in
    let none = subst (λ (o : Option LogFound). MatchOption o (¬ AreCountable s0.now.trees) (IsCounted s0.now.trees)) c.in-None.is (c.in_ok-log.ensures.counted clean) in
    (foreign_front s0.now (c.requires.front c0) none, untouched s0 s1 (c.requires.serves c0) (c.in_ok-log.ensures.ok clean))
