use Rattle.std.proofs.Common.{sym, subst}
use Rattle.sqlite.specs.Held.{state}
use Rattle.sqlite.specs.State.{HasCleanDisk}
use Rattle.cs_store.specs.Contents.{nothing}
use Rattle.cs_sql.specs.Keeping.{IsFresh}
use Rattle.cs_sql.specs.schema.Schemas.{no_schema}
use Rattle.cs_sql.proofs.Whole.{given_back, laid_fresh, laid_log, laid_survives, told_fails}
use Rattle.cs_sql.proofs.store.SqlStore.make.Goals as goal

pub over-requires-clause-log : goal.over-requires-clause-log
over-requires-clause-log g c clean = laid_log (state g.A.Store c.args.conn) (state g.A.Store c.lay_out.new.conn) (c.in-Ok.ensures.ok clean)

pub returns-in-Ok-clause-made : goal.returns-in-Ok-clause-made
returns-in-Ok-clause-made g c = subst (λ s. HasCleanDisk (state g.A.Store s.conn) → IsFresh g.A.Store s nothing) (sym c.over.ensures.made) (λ clean.
    let laid = c.in-Ok.ensures.ok clean in
    laid_fresh g.A.Store (state g.A.Store c.args.conn) c.lay_out.new.conn laid (λ db left. g.met.A.Store.settled c.lay_out.new.conn.store db laid.is_open left) (c.over.ensures.opens clean))

pub returns-in-Err-clause-cause : goal.returns-in-Err-clause-cause
returns-in-Err-clause-cause g c clean = told_fails (state g.A.Store c.args.conn) (state g.A.Store c.lay_out.new.conn) c.in-Err.error c.fault_of.result c.fault_of.ensures.memory (c.in-Err.ensures.cause clean)

pub returns-in-Ok-clause-survives : goal.returns-in-Ok-clause-survives
returns-in-Ok-clause-survives g c = rw c.over.ensures.made (laid_survives (state g.A.Store c.args.conn) (state g.A.Store c.lay_out.new.conn) c.requires.fresh c.lay_out.ensures.survives)

pub returns-in-Err-clause-kept : goal.returns-in-Err-clause-kept
returns-in-Err-clause-kept g c =
    given_back g.A.Store no_schema (state g.A.Store c.args.conn) c.lay_out.new.conn c.lay_out.ensures.idle c.requires.fresh
    (laid_survives (state g.A.Store c.args.conn) (state g.A.Store c.lay_out.new.conn) c.requires.fresh c.lay_out.ensures.survives) c.in-Err.ensures.err
