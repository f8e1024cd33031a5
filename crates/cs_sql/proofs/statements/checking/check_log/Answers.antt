use Rattle.std.proofs.Common.{refl, sym, subst, List, [], ℕ, Bool}
use Rattle.sqlite.specs.Listing.{understood}
use Rattle.sqlite.proofs.Callers.{IsPlain}
use Rattle.sqlite.specs.Held.{state}
use Rattle.cs_store.specs.Whole.{AreJudged, log_bodies}
use Rattle.cs_sql.specs.declared.parts.Part.TheVariants as part
use Rattle.cs_sql.specs.schema.Schemas.{store_schema}
use Rattle.cs_sql.specs.statements.Tables.{contents_in}
use Rattle.cs_sql.proofs.StatementsLemmas.Bodies.{log_judged}
use Rattle.cs_sql.proofs.StatementsLemmas.Meanings.{all_plain}
use Rattle.cs_sql.proofs.statements.checking.check_log.Goals as goal

pub read_ready-requires-clause-plain : goal.read_ready-requires-clause-plain
read_ready-requires-clause-plain g c = subst (λ (s : List ℕ). IsPlain (understood store_schema s)) (sym c.query.ensures) (all_plain part.Log)

pub read_ready-requires-clause-starts : goal.read_ready-requires-clause-starts
read_ready-requires-clause-starts g c = λ are on. subst (λ (b : Bool). AreJudged c.new-judge.result.present [] b c.new-judge.result.present) (sym on) refl

pub returns-then-decode-clause-ok : goal.returns-then-decode-clause-ok
returns-then-decode-clause-ok g c clean =
    let it = c.in_ok-read_ready.ensures.ok clean in
    let opening = c.args.catalog.now in
    let judge = c.read_ready.new.reader in
    let made = c.new-judge.ensures in
    let old = state g.S.Store c.args.conn.now in (
      it.0,
      subst (λ (b : Bool). AreJudged opening (log_bodies (contents_in old.now.trees)) b judge.present) c.if-decode.true
          (log_judged opening c.new-judge.result.present judge.present c.new-judge.result.decode judge.decode c.query.result.now old (state g.S.Store c.read_ready.new.conn) it.2 c.tables.ensures.tables made.0 made.1 c.query.ensures
          it.1 it.3 it.4),
    )

pub returns-clause-ok : goal.returns-clause-ok
returns-clause-ok g c clean =
    let it = c.in_ok-read_ready.ensures.ok clean in
    let opening = c.args.catalog.now in
    let judge = c.read_ready.new.reader in
    let made = c.new-judge.ensures in
    let old = state g.S.Store c.args.conn.now in (
      it.0,
      subst (λ (b : Bool). AreJudged opening (log_bodies (contents_in old.now.trees)) b judge.present) c.if-decode.false
          (log_judged opening c.new-judge.result.present judge.present c.new-judge.result.decode judge.decode c.query.result.now old (state g.S.Store c.read_ready.new.conn) it.2 c.tables.ensures.tables made.0 made.1 c.query.ensures
          it.1 it.3 it.4),
    )
