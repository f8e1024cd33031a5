use Rattle.std.proofs.Common.{◌∙◌, refl, sym, ap, subst, List, ℕ}
use Rattle.sqlite.specs.Listing.{understood}
use Rattle.sqlite.proofs.Callers.{IsPlain}
use Rattle.sqlite.specs.Held.{state}
use Rattle.cs_sql.specs.schema.Schemas.{store_schema}
use Rattle.cs_sql.specs.statements.Checked.{part_of}
use Rattle.cs_sql.specs.statements.Tables.{all_text}
use Rattle.cs_sql.proofs.StatementsLemmas.Holding.{judged}
use Rattle.cs_sql.proofs.StatementsLemmas.Meanings.{all_plain}
use Rattle.cs_sql.proofs.statements.checking.check_part.Goals as goal

pub read_ready-requires-clause-plain : goal.read_ready-requires-clause-plain
read_ready-requires-clause-plain g c = subst (λ (s : List ℕ). IsPlain (understood store_schema s)) (sym (c.query.ensures ∙ ap all_text c.part.ensures)) (all_plain (part_of c.args.part))

pub read_ready-requires-clause-starts : goal.read_ready-requires-clause-starts
read_ready-requires-clause-starts g c = (refl, refl, λ t. (λ _. tt, λ _. t))

pub returns-clause-ok : goal.returns-clause-ok
returns-clause-ok g c clean =
    let it = c.in_ok-read_ready.ensures.ok clean in
    let made = c.new-judge.ensures in (
      it.0,
      judged c.args.part c.args.catalog.now c.new-judge.result.catalog.now c.new-judge.result.part c.read_ready.new.reader.all_own c.query.result.now (state g.S.Store c.args.conn.now) (state g.S.Store c.read_ready.new.conn) it.2
          (c.query.ensures ∙ ap all_text c.part.ensures) it.1 it.3 made.0 made.1 (it.4.2 made.2),
    )
