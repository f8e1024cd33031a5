use Rattle.std.proofs.Common.{◌≡◌, pos, subst, rules, arith, None, IfSome, IsTrue}
use Rattle.std.specs.FinMap.{get}
use Rattle.sqlite.specs.Held.{state}
use Rattle.sqlite.specs.Effect.{Database}
use Rattle.sqlite.specs.State.{Survives, HasCleanDisk}
use Rattle.sqlite.proofs.Callers.{survives_begin}
use Rattle.sqlite.proofs.StateLemmas.{survives_then}
use Rattle.cs_sql.specs.statements.Tables.{contents_in}
use Rattle.cs_sql.specs.statements.Steps.{HasBatch, with_batch, Edits}
use Rattle.cs_sql.proofs.StatementsLemmas.Chains.{survives_commit}
use Rattle.cs_sql.proofs.statements.writing.commit_batch.Goals as goal

pub returns-clause-survives : goal.returns-clause-survives
returns-clause-survives g c =
    let start = state g.S.Store c.args.conn.now in
    let mid = state g.S.Store c.probe.new.conn in
    let begun = c.transaction-tx.ensures.begun in
    let first = state g.S.Store c.transaction-tx.result.conn.now in
    let last = state g.S.Store c.write_batch.new.tx.conn.now in
    let end = state g.S.Store c.commit.new.self.0 in
    let batch = c.args.batch.now in
    let version = pos c.args.version in
    let unchanged = λ (early : HasCleanDisk first). let there : HasCleanDisk mid = rw begun at early in c.in_ok-probe.ensures.ok there in
    let opened = λ (early : HasCleanDisk first). let it : IsTrue first.is_open = rw begun (unchanged early).0.is_open in let both : IsTrue start.is_open × IsTrue first.is_open = ((unchanged early).0.was_open, it) in both in
    let same = λ (late : HasCleanDisk last). let u = unchanged (omega (arith, late, c.write_batch.ensures.survives.clean)) in let it : first.now ≡ start.now = rw begun u.0.now_is in it in
    let writes = λ (late : HasCleanDisk last). subst (λ (d : Database). Edits (with_batch batch version (contents_in d.trees)) first last) (same late) (c.in_ok-write_batch.ensures.ok late) in
    let free = λ (late : HasCleanDisk last) (open_then : IsTrue last.is_open).
    subst (λ (d : Database). IfSome batch.log (λ _. get (contents_in d.trees).log version ≡ None)) (same late) (c.in_ok-write_batch.ensures.free late open_then) in
    let committed = survives_begin g.S.Store c.probe.new.conn end (HasBatch batch version start)
    (rw begun at (survives_commit start first last end batch version opened c.write_batch.ensures.survives writes free c.commit.ensures.survives)) in
    let whole = survives_then start mid end (λ _. ⊥) (HasBatch batch version start) (HasBatch batch version start) (λ _ db none. absurd none) (λ _ db it. it) c.probe.ensures.survives committed in
    let given : c.commit.new.self.0 ≡ c.conn-2-1.given.0 = search rules in
    subst (λ h. Survives start (state g.S.Store h) (HasBatch batch version start)) given whole
