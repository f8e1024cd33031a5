use Rattle.std.proofs.Common.{inl, inr, ◌≡◌, ◌∙◌, [], refl, sym, ap, subst, arith, rules}
use Rattle.std.specs.Prelude.{option_copied}
use Rattle.std.proofs.lemmas.Result.{err_from_is_err_and}
use Rattle.sqlite.specs.Held.{Held, state}
use Rattle.sqlite.specs.State.{HasCleanDisk, IsUnchanged, Survives, Shown}
use Rattle.sqlite.specs.Values.{bound}
use Rattle.sqlite.proofs.Callers.{begun_plain}
use Rattle.cs_sql.specs.statements.Steps.{Stays}
use Rattle.cs_sql.proofs.StatementsLemmas.Finding.{stays_unchanged}
use Rattle.cs_sql.proofs.StatementsLemmas.Streams.{begun_quiet, refused_stays, read_quiet, failed_stays, on_unchanged, ended_shown, read_on}
use Rattle.cs_sql.specs.Causes.{IsCaused}
use Rattle.cs_sql.proofs.CauseLemmas.{query_caused, reading_caused}
use Rattle.cs_sql.proofs.statements.streaming.read_each.Goals as goal

pub returns-in_err-rows-clause-same : goal.returns-in_err-rows-clause-same
returns-in_err-rows-clause-same g c clean =
    let held = rw c.in_err-rows.was at c.query.follows.holds-at-none in
    let late = state g.S.Store c.query.follows.lender-at-none in
    refused_stays c.args.sql.now (bound c.args.params.now) (state g.S.Store c.args.conn.now) c.requires.plain c.requires.serves late c.in_err-rows.field-0.0 held.survives clean (held.err clean)

pub returns-in_err-rows-clause-survives : goal.returns-in_err-rows-clause-survives
returns-in_err-rows-clause-survives g c =
    let held = rw c.in_err-rows.was at c.query.follows.holds-at-none in
    begun_quiet c.args.sql.now (bound c.args.params.now) (state g.S.Store c.args.conn.now) c.requires.plain c.requires.serves (state g.S.Store c.query.follows.lender-at-none) held.survives

pub rows-init : goal.rows-init
rows-init g c =
    let made = c.in_ok-rows.ensures in
    let start = state g.S.Store c.args.conn.now in (
      refl,
      made.mode,
      begun_quiet c.args.sql.now (bound c.args.params.now) start c.requires.plain c.requires.serves (state g.S.Store c.in_ok-rows.rows.conn.now) made.survives,
      λ clean.
          let begun = begun_plain g.S.Store c.args.sql.now (bound c.args.params.now) c.args.conn.now c.in_ok-rows.rows.conn.now (c.requires.plain (omega (arith, clean, made.survives.clean))) (made.begun clean) in
          ([], begun.0, begun.1, c.requires.starts),
    )

pub rows-preserved : goal.rows-preserved
rows-preserved g c =
    let start = state g.S.Store c.args.conn.now in
    let way = c.rows.invariant in
    let here = sym c.get.ensures ∙ ap option_copied c.in-Some.is in (
      c.advance.ensures.same_reference ∙ way.0,
      λ idle. c.advance.ensures.mode (way.1 idle),
      read_quiet c.args.sql.now (bound c.args.params.now) start c.requires.plain c.requires.serves (state g.S.Store c.rows.rows.conn.now) (state g.S.Store c.advance.new.self.conn.now) way.2 c.advance.ensures.survives,
      read_on g.S.Store g.R.Reader.has_read c.args.sql.now (bound c.args.params.now) start c.args.reader.now c.rows.rows.conn.now c.advance.new.self.conn.now c.rows.reader c.advance.ensures.survives way.3 c.in_ok-advance.ensures.same
          _ c.in-Some.row.now c.read.new.self here c.in_ok-advance.ensures.ok c.in_ok-read.ensures.more,
    )

pub returns-in_err-advance-clause-mode : goal.returns-in_err-advance-clause-mode
returns-in_err-advance-clause-mode g c idle =
    let same : c.advance.new.self.conn.now ≡ c.conn-in_err-advance-1.given.0 = search rules in
    ap (λ (h : Held _). h.in_transaction) (sym same) ∙ c.advance.ensures.mode (c.rows.invariant.1 idle)

pub returns-in_err-advance-clause-same : goal.returns-in_err-advance-clause-same
returns-in_err-advance-clause-same g c clean =
    let start = state g.S.Store c.args.conn.now in
    let old = state g.S.Store c.rows.rows.conn.now in
    let new = state g.S.Store c.advance.new.self.conn.now in
    let same : c.advance.new.self.conn.now ≡ c.conn-in_err-advance-1.given.0 = search rules in
    let late : HasCleanDisk new = subst (λ h. HasCleanDisk (state g.S.Store h)) (sym same) clean in
    let early : HasCleanDisk old = omega (arith, late, c.advance.ensures.survives.clean) in
    let was = c.rows.invariant.3 early in
    let first = c.rows.invariant.2 in
    let failed = c.in_err-advance.ensures.err late c.args.sql.now (bound c.args.params.now) was.0 was.1 in
    subst (λ h. Stays start (state g.S.Store h)) same
    (failed_stays c.args.sql.now (bound c.args.params.now) start c.requires.plain c.requires.serves old new c.in_err-advance.field-0.0 was.2 (omega (arith, early, first.clean)) failed)

pub returns-in_err-advance-clause-survives : goal.returns-in_err-advance-clause-survives
returns-in_err-advance-clause-survives g c =
    let start = state g.S.Store c.args.conn.now in
    let same : c.advance.new.self.conn.now ≡ c.conn-in_err-advance-1.given.0 = search rules in
    subst (λ h. Survives start (state g.S.Store h) (λ _. ⊥)) same
    (read_quiet c.args.sql.now (bound c.args.params.now) start c.requires.plain c.requires.serves (state g.S.Store c.rows.rows.conn.now) (state g.S.Store c.advance.new.self.conn.now) c.rows.invariant.2 c.advance.ensures.survives)

pub returns-in_default-clause-mode : goal.returns-in_default-clause-mode
returns-in_default-clause-mode g c idle =
    let same : c.advance.new.self.conn.now ≡ c.conn-in_default-1.given.0 = search rules in
    ap (λ (h : Held _). h.in_transaction) (sym same) ∙ c.advance.ensures.mode (c.rows.invariant.1 idle)

pub returns-in_default-clause-same : goal.returns-in_default-clause-same
returns-in_default-clause-same g c clean =
    let start = state g.S.Store c.args.conn.now in
    let same : c.advance.new.self.conn.now ≡ c.conn-in_default-1.given.0 = search rules in
    let late : HasCleanDisk (state g.S.Store c.advance.new.self.conn.now) = subst (λ h. HasCleanDisk (state g.S.Store h)) (sym same) clean in
    subst (λ h. Stays start (state g.S.Store h)) same (stays_unchanged start (state g.S.Store c.advance.new.self.conn.now)
    (on_unchanged g.S.Store g.R.Reader.has_read c.args.sql.now (bound c.args.params.now) start c.args.reader.now c.rows.rows.conn.now c.advance.new.self.conn.now c.rows.reader c.advance.ensures.survives c.rows.invariant.3 c.in_ok-advance.ensures.same late))

pub returns-in_default-clause-survives : goal.returns-in_default-clause-survives
returns-in_default-clause-survives g c =
    let start = state g.S.Store c.args.conn.now in
    let same : c.advance.new.self.conn.now ≡ c.conn-in_default-1.given.0 = search rules in
    subst (λ h. Survives start (state g.S.Store h) (λ _. ⊥)) same
    (read_quiet c.args.sql.now (bound c.args.params.now) start c.requires.plain c.requires.serves (state g.S.Store c.rows.rows.conn.now) (state g.S.Store c.advance.new.self.conn.now) c.rows.invariant.2 c.advance.ensures.survives)

pub returns-in_default-clause-ok : goal.returns-in_default-clause-ok
returns-in_default-clause-ok g c clean =
    let start = state g.S.Store c.args.conn.now in
    let same : c.advance.new.self.conn.now ≡ c.conn-in_default-1.given.0 = search rules in
    let late : HasCleanDisk (state g.S.Store c.advance.new.self.conn.now) = subst (λ h. HasCleanDisk (state g.S.Store h)) (sym same) clean in
    subst (λ h. IsUnchanged start (state g.S.Store h)) same
    (on_unchanged g.S.Store g.R.Reader.has_read c.args.sql.now (bound c.args.params.now) start c.args.reader.now c.rows.rows.conn.now c.advance.new.self.conn.now c.rows.reader c.advance.ensures.survives c.rows.invariant.3 c.in_ok-advance.ensures.same late)

pub returns-in_default-clause-shown : goal.returns-in_default-clause-shown
returns-in_default-clause-shown g c clean =
    let start = state g.S.Store c.args.conn.now in
    let same : c.advance.new.self.conn.now ≡ c.conn-in_default-1.given.0 = search rules in
    let late : HasCleanDisk (state g.S.Store c.advance.new.self.conn.now) = subst (λ h. HasCleanDisk (state g.S.Store h)) (sym same) clean in
    let early : HasCleanDisk (state g.S.Store c.rows.rows.conn.now) = omega (arith, late, c.advance.ensures.survives.clean) in
    let first = c.rows.invariant.2 in
    let none = sym c.get.ensures ∙ ap option_copied c.in_default.is in
    let it = ended_shown g.S.Store g.R.Reader.has_read c.args.sql.now (bound c.args.params.now) start c.args.reader.now c.rows.rows.conn.now c.advance.new.self.conn.now c.rows.reader c.advance.ensures.survives c.rows.invariant.3 c.in_ok-advance.ensures.same
    (c.requires.plain (omega (arith, early, first.clean))) _ none (c.in_ok-advance.ensures.ok late) late in
    (it.0, subst (λ h. Shown c.args.sql.now (bound c.args.params.now) start (state g.S.Store h) it.0) same it.1, it.2)

pub returns-in_err-read-clause-mode : goal.returns-in_err-read-clause-mode
returns-in_err-read-clause-mode g c idle =
    let same : c.advance.new.self.conn.now ≡ c.conn-in_err-read-1.given.0 = search rules in
    ap (λ (h : Held _). h.in_transaction) (sym same) ∙ c.advance.ensures.mode (c.rows.invariant.1 idle)

pub returns-in_err-read-clause-same : goal.returns-in_err-read-clause-same
returns-in_err-read-clause-same g c clean =
    let start = state g.S.Store c.args.conn.now in
    let same : c.advance.new.self.conn.now ≡ c.conn-in_err-read-1.given.0 = search rules in
    let late : HasCleanDisk (state g.S.Store c.advance.new.self.conn.now) = subst (λ h. HasCleanDisk (state g.S.Store h)) (sym same) clean in
    subst (λ h. Stays start (state g.S.Store h)) same (stays_unchanged start (state g.S.Store c.advance.new.self.conn.now)
    (on_unchanged g.S.Store g.R.Reader.has_read c.args.sql.now (bound c.args.params.now) start c.args.reader.now c.rows.rows.conn.now c.advance.new.self.conn.now c.rows.reader c.advance.ensures.survives c.rows.invariant.3 c.in_ok-advance.ensures.same late))

pub returns-in_err-read-clause-survives : goal.returns-in_err-read-clause-survives
returns-in_err-read-clause-survives g c =
    let start = state g.S.Store c.args.conn.now in
    let same : c.advance.new.self.conn.now ≡ c.conn-in_err-read-1.given.0 = search rules in
    subst (λ h. Survives start (state g.S.Store h) (λ _. ⊥)) same
    (read_quiet c.args.sql.now (bound c.args.params.now) start c.requires.plain c.requires.serves (state g.S.Store c.rows.rows.conn.now) (state g.S.Store c.advance.new.self.conn.now) c.rows.invariant.2 c.advance.ensures.survives)

pub returns-clause-mode : goal.returns-clause-mode
returns-clause-mode g c idle =
    let same : c.rows.rows.conn.now ≡ c.conn-2-1.given.0 = search rules in
    ap (λ (h : Held _). h.in_transaction) (sym same) ∙ c.rows.invariant.1 idle

pub returns-clause-same : goal.returns-clause-same
returns-clause-same g c clean =
    let start = state g.S.Store c.args.conn.now in
    let same : c.rows.rows.conn.now ≡ c.conn-2-1.given.0 = search rules in
    let late : HasCleanDisk (state g.S.Store c.rows.rows.conn.now) = subst (λ h. HasCleanDisk (state g.S.Store h)) (sym same) clean in
    subst (λ h. Stays start (state g.S.Store h)) same (stays_unchanged start (state g.S.Store c.rows.rows.conn.now) (c.rows.invariant.3 late).2)

pub returns-clause-survives : goal.returns-clause-survives
returns-clause-survives g c =
    let start = state g.S.Store c.args.conn.now in
    let same : c.rows.rows.conn.now ≡ c.conn-2-1.given.0 = search rules in
    subst (λ h. Survives start (state g.S.Store h) (λ _. ⊥)) same c.rows.invariant.2

pub returns-in_err-rows-clause-cause : goal.returns-in_err-rows-clause-cause
returns-in_err-rows-clause-cause g c clean grants =
    let held = rw c.in_err-rows.was at c.query.follows.holds-at-none in
    let plain = c.requires.plain (omega (arith, clean, held.survives.clean)) in
    let p = err_from_is_err_and c.from_residual.result c.from_residual.ensures.1 in
    rw (p.1, p.2) (inl (query_caused c.args.sql.now (bound c.args.params.now) (state g.S.Store c.args.conn.now) (state g.S.Store c.query.follows.lender-at-none) plain grants c.in_err-rows.field-0.0 (held.err clean)))

pub returns-in_err-advance-clause-cause : goal.returns-in_err-advance-clause-cause
returns-in_err-advance-clause-cause g c clean grants =
    let start = state g.S.Store c.args.conn.now in
    let old = state g.S.Store c.rows.rows.conn.now in
    let new = state g.S.Store c.advance.new.self.conn.now in
    let same : c.advance.new.self.conn.now ≡ c.conn-in_err-advance-1.given.0 = search rules in
    let late : HasCleanDisk new = subst (λ h. HasCleanDisk (state g.S.Store h)) (sym same) clean in
    let early : HasCleanDisk old = omega (arith, late, c.advance.ensures.survives.clean) in
    let was = c.rows.invariant.3 early in
    let first = c.rows.invariant.2 in
    let plain = c.requires.plain (omega (arith, early, first.clean)) in
    let failed = c.in_err-advance.ensures.err late c.args.sql.now (bound c.args.params.now) was.0 was.1 in
    let p = err_from_is_err_and c.from_residual-in_err-advance.result c.from_residual-in_err-advance.ensures.1 in
    rw (p.1, p.2) (inl (subst (λ h. IsCaused start (state g.S.Store h) c.in_err-advance.field-0.0) same
    (reading_caused c.args.sql.now (bound c.args.params.now) start old new (λ _. ⊥) plain grants c.in_err-advance.field-0.0 first was.2 failed)))

pub returns-in_err-read-clause-cause : goal.returns-in_err-read-clause-cause
returns-in_err-read-clause-cause g c clean grants =
    let p = err_from_is_err_and c.from_residual-in_err-read.result c.from_residual-in_err-read.ensures.1 in rw (p.1, p.2) (inr c.in_err-read.ensures.told)
