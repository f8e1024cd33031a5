use Rattle.std.proofs.Common.{sym, subst}
use Rattle.sqlite.specs.Held.{state}
use Rattle.sqlite.specs.State.{HasCleanDisk}
use Rattle.cs_sql.specs.schema.Schemas.{front_schema}
use Rattle.cs_sql.specs.statements.Found.{front_in}
use Rattle.cs_sql.specs.Keeping.{IsFresh}
use Rattle.cs_sql.proofs.Whole.{completed_fresh, completed_survives, given_back, told_fails}
use Rattle.cs_sql.proofs.store.SqlStore.extend.Goals as goal

pub returns-in-Ok-clause-made : goal.returns-in-Ok-clause-made
returns-in-Ok-clause-made g c = subst (λ s. HasCleanDisk (state g.A.Store s.conn) → IsFresh g.A.Store s (front_in (state g.A.Store c.args.conn).now.trees)) (sym c.over.ensures.made) (λ clean.
    let done = c.in-Ok.ensures.ok clean in
    completed_fresh g.A.Store (state g.A.Store c.args.conn) c.complete.new.conn c.args.log done (λ db left. g.met.A.Store.settled c.complete.new.conn.store db done.is_open left) (c.over.ensures.opens clean))

pub returns-in-Ok-clause-survives : goal.returns-in-Ok-clause-survives
returns-in-Ok-clause-survives g c =
    rw c.over.ensures.made (completed_survives (state g.A.Store c.args.conn) (state g.A.Store c.complete.new.conn) c.args.log c.requires.front c.requires.kept c.requires.log c.complete.ensures.survives)

pub returns-in-Err-clause-kept : goal.returns-in-Err-clause-kept
returns-in-Err-clause-kept g c =
    given_back g.A.Store front_schema (state g.A.Store c.args.conn) c.complete.new.conn c.complete.ensures.idle c.requires.front
    (completed_survives (state g.A.Store c.args.conn) (state g.A.Store c.complete.new.conn) c.args.log c.requires.front c.requires.kept c.requires.log c.complete.ensures.survives) c.in-Err.ensures.err

pub returns-in-Err-clause-cause : goal.returns-in-Err-clause-cause
returns-in-Err-clause-cause g c clean = told_fails (state g.A.Store c.args.conn) (state g.A.Store c.complete.new.conn) c.in-Err.error c.fault_of.result c.fault_of.ensures.memory (c.in-Err.ensures.cause clean)
