use Rattle.std.proofs.Common.{inl, inr, not, ap, sym, subst, ◌∙◌}
use Rattle.sqlite.specs.Held.{state}
use Rattle.sqlite.specs.State.{HasCleanDisk}
use Rattle.cs_sql.specs.Keeping.{IsAdopted}
use Rattle.cs_sql.proofs.Whole.{all_back, all_caused, all_leave, all_survive, fresh_adopted, front_adopted, leaves_held, ours_adopted, quiet_back, told_fails}
use Rattle.cs_sql.proofs.store.SqlStore.adopt.Goals as goal

pub returns-in-Ok-Fresh-clause-survives : goal.returns-in-Ok-Fresh-clause-survives
returns-in-Ok-Fresh-clause-survives g c =
    let found = rw c.in-Ok-Fresh.field-0-is at c.in-Ok-Fresh.ensures.found in
    all_survive g.A.Store (state g.A.Store c.args.conn) (state g.A.Store c.look.new.conn) (λ clean. (found clean).1.now) c.make.result c.look.ensures.survives c.make.ensures.survives

pub returns-in-Ok-Fresh-clause-kept : goal.returns-in-Ok-Fresh-clause-kept
returns-in-Ok-Fresh-clause-kept g c =
    let found = rw c.in-Ok-Fresh.field-0-is at c.in-Ok-Fresh.ensures.found in
    all_back g.A.Store (state g.A.Store c.args.conn) (state g.A.Store c.look.new.conn) (λ clean. (found clean).1.now) c.make.result c.look.ensures.survives c.look.ensures.same c.make.ensures.kept

pub returns-in-Ok-Front-clause-survives : goal.returns-in-Ok-Front-clause-survives
returns-in-Ok-Front-clause-survives g c =
    let found = rw c.in-Ok-Front.field-0-is at c.in-Ok-Front.ensures.found in
    all_survive g.A.Store (state g.A.Store c.args.conn) (state g.A.Store c.look.new.conn) (λ clean. (found clean).1.now) c.extend.result c.look.ensures.survives c.extend.ensures.survives

pub returns-in-Ok-Front-clause-kept : goal.returns-in-Ok-Front-clause-kept
returns-in-Ok-Front-clause-kept g c =
    let found = rw c.in-Ok-Front.field-0-is at c.in-Ok-Front.ensures.found in
    all_back g.A.Store (state g.A.Store c.args.conn) (state g.A.Store c.look.new.conn) (λ clean. (found clean).1.now) c.extend.result c.look.ensures.survives c.look.ensures.same c.extend.ensures.kept

pub returns-in-Ok-Fresh-clause-adopted : goal.returns-in-Ok-Fresh-clause-adopted
returns-in-Ok-Fresh-clause-adopted g c =
    let found = rw c.in-Ok-Fresh.field-0-is at c.in-Ok-Fresh.ensures.found in
    fresh_adopted g.A.Store (state g.A.Store c.args.conn) (state g.A.Store c.look.new.conn) c.make.result (λ clean. (found clean).0) (λ clean. (found clean).1) c.make.ensures.survives c.make.ensures.made

pub returns-in-Ok-Front-clause-adopted : goal.returns-in-Ok-Front-clause-adopted
returns-in-Ok-Front-clause-adopted g c =
    let found = rw c.in-Ok-Front.field-0-is at c.in-Ok-Front.ensures.found in
    front_adopted g.A.Store (state g.A.Store c.args.conn) (state g.A.Store c.look.new.conn) c.extend.result c.in-Ok-Front.log (λ clean. (found clean).0) (λ clean. (found clean).1) c.extend.ensures.survives c.extend.ensures.made

pub returns-in-Ok-Ours-clause-adopted : goal.returns-in-Ok-Ours-clause-adopted
returns-in-Ok-Ours-clause-adopted g c =
    let found = rw c.in-Ok-Ours.field-0-is at c.in-Ok-Ours.ensures.found in
    subst (λ s. HasCleanDisk (state g.A.Store s.conn) → IsAdopted g.A.Store (state g.A.Store c.args.conn) s) (sym c.over.ensures.made) (λ clean.
    let it = found clean in
    ours_adopted g.A.Store (state g.A.Store c.args.conn) c.look.new.conn c.in-Ok-Ours.log it.0 it.1 (λ db left. g.met.A.Store.settled c.look.new.conn.store db it.1.is_open left) (c.over.ensures.opens clean))

pub returns-in-Ok-Fresh-clause-cause : goal.returns-in-Ok-Fresh-clause-cause
returns-in-Ok-Fresh-clause-cause g c =
    let found = rw c.in-Ok-Fresh.field-0-is at c.in-Ok-Fresh.ensures.found in
    all_caused g.A.Store (state g.A.Store c.args.conn) (state g.A.Store c.look.new.conn) c.make.result c.look.ensures.survives (λ clean. (found clean).1) c.make.ensures.kept c.make.ensures.cause

pub returns-in-Ok-Front-clause-cause : goal.returns-in-Ok-Front-clause-cause
returns-in-Ok-Front-clause-cause g c =
    let found = rw c.in-Ok-Front.field-0-is at c.in-Ok-Front.ensures.found in
    all_caused g.A.Store (state g.A.Store c.args.conn) (state g.A.Store c.look.new.conn) c.extend.result c.look.ensures.survives (λ clean. (found clean).1) c.extend.ensures.kept c.extend.ensures.cause

pub returns-in-Ok-Foreign-clause-cause : goal.returns-in-Ok-Foreign-clause-cause
returns-in-Ok-Foreign-clause-cause g c clean told =
    let found = rw c.in-Ok-Foreign.field-0-is at c.in-Ok-Foreign.ensures.found in
    let it = found clean in inr (record { is_open = it.1.was_open; found = it.0 })

pub returns-in-Err-clause-cause : goal.returns-in-Err-clause-cause
returns-in-Err-clause-cause g c clean told =
    inl (told_fails (state g.A.Store c.args.conn) (state g.A.Store c.look.new.conn) c.in-Err.error c.fault_of.result c.fault_of.ensures.memory (c.in-Err.ensures.cause clean) told)

pub returns-in-Ok-Fresh-clause-leaves : goal.returns-in-Ok-Fresh-clause-leaves
returns-in-Ok-Fresh-clause-leaves g c =
    all_leave g.A.Store (state g.A.Store c.args.conn) c.make.result c.schema.ensures.live (λ opened. c.is_autocommit.ensures.settled (c.is_autocommit.ensures.value ∙ ap not c.requires.idle) opened)
    (λ db opened left. g.met.A.Store.settled c.args.conn.store db opened left) (returns-in-Ok-Fresh-clause-kept g c)

pub returns-in-Ok-Front-clause-leaves : goal.returns-in-Ok-Front-clause-leaves
returns-in-Ok-Front-clause-leaves g c =
    all_leave g.A.Store (state g.A.Store c.args.conn) c.extend.result c.schema.ensures.live (λ opened. c.is_autocommit.ensures.settled (c.is_autocommit.ensures.value ∙ ap not c.requires.idle) opened)
    (λ db opened left. g.met.A.Store.settled c.args.conn.store db opened left) (returns-in-Ok-Front-clause-kept g c)

pub returns-in-Ok-Foreign-clause-leaves : goal.returns-in-Ok-Foreign-clause-leaves
returns-in-Ok-Foreign-clause-leaves g c =
    let start = state g.A.Store c.args.conn in
    leaves_held start (state g.A.Store c.look.new.conn) c.schema.ensures.live (λ opened. c.is_autocommit.ensures.settled (c.is_autocommit.ensures.value ∙ ap not c.requires.idle) opened)
    (λ db opened left. g.met.A.Store.settled c.args.conn.store db opened left) (quiet_back g.A.Store start c.look.new.conn c.look.ensures.idle c.look.ensures.survives c.look.ensures.same).survives

pub returns-in-Err-clause-leaves : goal.returns-in-Err-clause-leaves
returns-in-Err-clause-leaves g c =
    let start = state g.A.Store c.args.conn in
    leaves_held start (state g.A.Store c.look.new.conn) c.schema.ensures.live (λ opened. c.is_autocommit.ensures.settled (c.is_autocommit.ensures.value ∙ ap not c.requires.idle) opened)
    (λ db opened left. g.met.A.Store.settled c.args.conn.store db opened left) (quiet_back g.A.Store start c.look.new.conn c.look.ensures.idle c.look.ensures.survives c.look.ensures.same).survives
