use Rattle.std.proofs.Common.{◌≡◌, ◌∙◌, true, false, sym, subst, arith}
use Rattle.std.proofs.lemmas.Result.{err_from_is_err_and}
use Rattle.sqlite.specs.Effect.{Database}
use Rattle.sqlite.specs.Held.{state}
use Rattle.sqlite.specs.State.{HasCleanDisk}
use Rattle.cs_sql.specs.statements.Found.{HasFront}
use Rattle.cs_sql.proofs.StatementsLemmas.Adopting.{front_counted, front_rises, match_then}
use Rattle.cs_sql.proofs.CauseLemmas.{caused_unchanged}
use Rattle.cs_sql.proofs.StatementsLemmas.Granting.{ids_granted}
use Rattle.cs_sql.proofs.StatementsLemmas.Meanings.{ids_are}
use Rattle.cs_sql.specs.declared.parts.Part.TheVariants as part
use Rattle.cs_sql.proofs.statements.counting.count_front.Goals as goal
use Rattle.cs_sql.proofs.statements.counting.count_front.Goals.{else-rows-via-then-rows+then-meta+else-log, else-rows-via-then-rows+else-meta, else-rows-via-else-rows}

pub read_ids-requires-clause-plain : goal.read_ids-requires-clause-plain
read_ids-requires-clause-plain g c clean = (ids_are part.Rows (state g.S.Store c.args.conn.now).now.schema (c.requires.front clean)).2

pub read_ids-requires-2-clause-plain : goal.read_ids-requires-2-clause-plain
read_ids-requires-2-clause-plain g c clean =
    let front = c.requires.front (omega (arith, clean, c.read_ids.ensures.survives.clean)) in
    (ids_are part.Meta (state g.S.Store c.read_ids.new.conn).now.schema (subst (λ (d : Database). HasFront d.schema) (sym (c.in_ok-rows.ensures.ok clean).0.now_is) front)).2

pub read_ids-requires-3-clause-plain : goal.read_ids-requires-3-clause-plain
read_ids-requires-3-clause-plain g c clean =
    let c1 : HasCleanDisk (state g.S.Store c.read_ids.new.conn) = omega (arith, clean, c.read_ids-2.ensures.survives.clean) in
    let front = c.requires.front (omega (arith, c1, c.read_ids.ensures.survives.clean)) in
    let same = (c.in_ok-meta.ensures.ok clean).0.now_is ∙ (c.in_ok-rows.ensures.ok c1).0.now_is in
    (ids_are part.Log (state g.S.Store c.read_ids-2.new.conn).now.schema (subst (λ (d : Database). HasFront d.schema) (sym same) front)).2

pub returns-then-log-clause-counted : goal.returns-then-log-clause-counted
returns-then-log-clause-counted g c clean =
    let s0 = state g.S.Store c.args.conn.now in
    let s1 = state g.S.Store c.read_ids.new.conn in
    let s2 = state g.S.Store c.read_ids-2.new.conn in
    let s3 = state g.S.Store c.read_ids-3.new.conn in
    let c2 : HasCleanDisk s2 = omega (arith, clean, c.read_ids-3.ensures.survives.clean) in
    let c1 : HasCleanDisk s1 = omega (arith, c2, c.read_ids-2.ensures.survives.clean) in
    let c0 : HasCleanDisk s0 = omega (arith, c1, c.read_ids.ensures.survives.clean) in
    let rises = front_rises s0 s1 s2 s3 c.in_ok-rows.rows c.in_ok-meta.meta c.in_ok-log.log (c.requires.front c0) (c.in_ok-rows.ensures.ok c1).0.now_is (c.in_ok-meta.ensures.ok c2).0.now_is
    (c.in_ok-rows.ensures.shown c1) (c.in_ok-meta.ensures.shown c2) (c.in_ok-log.ensures.shown clean) in
    match_then _ _ _ _ c.of_log.result (λ many can. let few = (rises can).3 in absurd (omega (arith, many, few)))
    (λ found is. front_counted s0 s1 s2 s3 c.in_ok-rows.rows c.in_ok-meta.meta c.in_ok-log.log found (c.requires.front c0) (c.in_ok-rows.ensures.ok c1).0.now_is (c.in_ok-meta.ensures.ok c2).0.now_is
    (c.in_ok-rows.ensures.shown c1) (c.in_ok-meta.ensures.shown c2) (c.in_ok-log.ensures.shown clean) c.if-rows.true c.if-meta.true c.if-log.true is.0 is.1 is.2) c.of_log.ensures

pub returns-else-rows-clause-counted : goal.returns-else-rows-clause-counted
returns-else-rows-clause-counted g c clean can =
    let s0 = state g.S.Store c.args.conn.now in
    let s1 = state g.S.Store c.read_ids.new.conn in
    let s2 = state g.S.Store c.read_ids-2.new.conn in
    let s3 = state g.S.Store c.read_ids-3.new.conn in
    let c2 : HasCleanDisk s2 = omega (arith, clean, c.read_ids-3.ensures.survives.clean) in
    let c1 : HasCleanDisk s1 = omega (arith, c2, c.read_ids-2.ensures.survives.clean) in
    let c0 : HasCleanDisk s0 = omega (arith, c1, c.read_ids.ensures.survives.clean) in
    let rises = front_rises s0 s1 s2 s3 c.in_ok-rows.rows c.in_ok-meta.meta c.in_ok-log.log (c.requires.front c0) (c.in_ok-rows.ensures.ok c1).0.now_is (c.in_ok-meta.ensures.ok c2).0.now_is
    (c.in_ok-rows.ensures.shown c1) (c.in_ok-meta.ensures.shown c2) (c.in_ok-log.ensures.shown clean) can in
    elim c.else-rows.branch [
      | else-rows-via-then-rows+then-meta+else-log w ↦ let e : true ≡ false = sym rises.2 ∙ w.if-log.false in absurd cc
      | else-rows-via-then-rows+else-meta w ↦ let e : true ≡ false = sym rises.1 ∙ w.if-meta.false in absurd cc
      | else-rows-via-else-rows w ↦ let e : true ≡ false = sym rises.0 ∙ w.if-rows.false in absurd cc
    ]

pub returns-in_err-rows-clause-cause : goal.returns-in_err-rows-clause-cause
returns-in_err-rows-clause-cause g c clean =
    let p = err_from_is_err_and c.from_residual.result c.from_residual.ensures.1 in
    rw (p.1, p.2) (c.in_err-rows.ensures.cause clean (ids_granted part.Rows (state g.S.Store c.args.conn.now).now (c.requires.front (omega (arith, clean, c.read_ids.ensures.survives.clean)))))

pub returns-in_err-meta-clause-cause : goal.returns-in_err-meta-clause-cause
returns-in_err-meta-clause-cause g c clean =
    let s0 = state g.S.Store c.args.conn.now in
    let s1 = state g.S.Store c.read_ids.new.conn in
    let s2 = state g.S.Store c.read_ids-2.new.conn in
    let c1 : HasCleanDisk s1 = omega (arith, clean, c.read_ids-2.ensures.survives.clean) in
    let c0 : HasCleanDisk s0 = omega (arith, c1, c.read_ids.ensures.survives.clean) in
    let u = c.in_ok-rows.ensures.ok c1 in
    let front = subst (λ (d : Database). HasFront d.schema) (sym u.0.now_is) (c.requires.front c0) in
    let p = err_from_is_err_and c.from_residual-in_err-meta.result c.from_residual-in_err-meta.ensures.1 in
    rw (p.1, p.2) (caused_unchanged s0 s1 s2 (λ _. ⊥) c.in_err-meta.field-0.0 c.read_ids.ensures.survives u (c.in_err-meta.ensures.cause clean (ids_granted part.Meta s1.now front)))

pub returns-in_err-log-clause-cause : goal.returns-in_err-log-clause-cause
returns-in_err-log-clause-cause g c clean =
    let s0 = state g.S.Store c.args.conn.now in
    let s1 = state g.S.Store c.read_ids.new.conn in
    let s2 = state g.S.Store c.read_ids-2.new.conn in
    let s3 = state g.S.Store c.read_ids-3.new.conn in
    let c2 : HasCleanDisk s2 = omega (arith, clean, c.read_ids-3.ensures.survives.clean) in
    let c1 : HasCleanDisk s1 = omega (arith, c2, c.read_ids-2.ensures.survives.clean) in
    let c0 : HasCleanDisk s0 = omega (arith, c1, c.read_ids.ensures.survives.clean) in
    let u = c.in_ok-rows.ensures.ok c1 in
    let w = c.in_ok-meta.ensures.ok c2 in
    let front = subst (λ (d : Database). HasFront d.schema) (sym (w.0.now_is ∙ u.0.now_is)) (c.requires.front c0) in
    let p = err_from_is_err_and c.from_residual-in_err-log.result c.from_residual-in_err-log.ensures.1 in
    rw (p.1, p.2) (caused_unchanged s0 s1 s3 (λ _. ⊥) c.in_err-log.field-0.0 c.read_ids.ensures.survives u
    (caused_unchanged s1 s2 s3 (λ _. ⊥) c.in_err-log.field-0.0 c.read_ids-2.ensures.survives w (c.in_err-log.ensures.cause clean (ids_granted part.Log s2.now front))))
