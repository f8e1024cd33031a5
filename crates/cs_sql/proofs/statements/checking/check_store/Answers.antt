use Rattle.std.proofs.Common.{IsTrue, List, arith, subst}
use Rattle.std.specs.Prelude.{◌↔◌}
use Rattle.sqlite.specs.Held.{state}
use Rattle.sqlite.specs.State.{HasCleanDisk}
use Rattle.cs_value.specs.declared.catalog.TableDef.{TableDef}
use Rattle.cs_sql.specs.declared.statements.checking.Unordered.TheVariants as own
use Rattle.cs_sql.specs.statements.Checked.{HasOwn}
use Rattle.cs_sql.specs.statements.Tables.{contents_in}
use Rattle.cs_sql.proofs.StatementsLemmas.Holding.{all_whole, none_whole}
use Rattle.cs_sql.proofs.statements.checking.check_store.Goals as goal

pub returns-in_default-clause-ok : goal.returns-in_default-clause-ok
returns-in_default-clause-ok g c clean =
    let it = c.in_ok-present.ensures.ok clean in
    (it.0, none_whole c.args.catalog.now (contents_in (state g.S.Store c.args.conn.now).now.trees) (rw c.in_default.is at it.1))

pub returns-clause-ok : goal.returns-clause-ok
returns-clause-ok g c clean =
    let s0 = state g.S.Store c.args.conn.now in
    let s1 = state g.S.Store c.check_log.new.conn in
    let s2 = state g.S.Store c.check_part.new.conn in
    let s3 = state g.S.Store c.check_part-2.new.conn in
    let c3 : HasCleanDisk s3 = omega (arith, clean, c.check_part-3.ensures.survives.clean) in
    let c2 : HasCleanDisk s2 = omega (arith, c3, c.check_part-2.ensures.survives.clean) in
    let c1 : HasCleanDisk s1 = omega (arith, c2, c.check_part.ensures.survives.clean) in
    let it = c.in_ok-present.ensures.ok c1 in
    all_whole c.decoding.ensures.one c.args.catalog.now c.in-Some.present s0 s1 s2 s3 c.in_ok-rows.rows c.in_ok-pending.pending c.in_ok-meta.meta c.all_three.result c.tables.ensures.tables it.0 (rw c.in-Some.is at it.1)
    (subst (λ (t : List TableDef). IsTrue s1.is_open × (IsTrue c.in_ok-rows.rows ↔ HasOwn own.Rows t (contents_in s1.now.trees))) c.catalog-catalog.ensures (c.in_ok-rows.ensures.ok c2))
    (subst (λ (t : List TableDef). IsTrue s2.is_open × (IsTrue c.in_ok-pending.pending ↔ HasOwn own.Pending t (contents_in s2.now.trees))) c.catalog-catalog.ensures (c.in_ok-pending.ensures.ok c3))
    (subst (λ (t : List TableDef). IsTrue s3.is_open × (IsTrue c.in_ok-meta.meta ↔ HasOwn own.Meta t (contents_in s3.now.trees))) c.catalog-catalog.ensures (c.in_ok-meta.ensures.ok clean))
    (c.in_ok-present.ensures.same c1) (c.in_ok-rows.ensures.same c2) (c.in_ok-pending.ensures.same c3) c.all_three.ensures
