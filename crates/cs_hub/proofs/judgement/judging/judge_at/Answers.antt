use Rattle.std.proofs.Common.{◌≡◌, ℕ, arith, min, rules, subst}
use Rattle.cs_normal.specs.Normal.{FitsCatalog}
use Rattle.cs_hub.specs.log_store.Versions.{tables_by}
use Rattle.cs_hub.proofs.JudgementLemmas.Decided.{refused, to_append}
use Rattle.cs_hub.proofs.judgement.judging.judge_at.Goals as goal

pub recall-requires-clause-fits : goal.recall-requires-clause-fits
recall-requires-clause-fits g c =
    let below : min c.args.head.base c.args.catalogs.now.newest ≡ c.args.head.base = omega (arith, c.newest-newest.ensures, c.if-head-newest-2.true) in
    record {
      changes = (c.tables.ensures.normal, subst (λ (n : ℕ). FitsCatalog (tables_by c.args.catalogs.now n) c.args.changes) below c.requires.fits);
      widens = tt;
      size = c.requires.size;
    }

pub try_entry-requires : goal.try_entry-requires
try_entry-requires g c =
    let newest : min c.args.head.base c.args.catalogs.now.newest ≡ c.args.catalogs.now.newest = omega (arith, c.newest-newest.ensures, c.if-head-newest.false, c.if-head-newest-2.false) in
    record {
      fits = record {
        changes = (c.tables.ensures.normal, subst (λ (n : ℕ). FitsCatalog (tables_by c.args.catalogs.now n) c.args.changes) newest c.requires.fits);
        widens = tt;
        size = c.requires.size;
      };
    }

pub returns-in-Ok-clause-judged : goal.returns-in-Ok-clause-judged
returns-in-Ok-clause-judged g c = λ honest log shows.
    to_append c.args.limit c.args.catalogs.now (record { head = c.args.head; changes = c.args.changes }) (search rules) (g.S.RowStore.contents c.args.store.now) c.in-Ok.batch log
    (omega (arith, c.newest-newest.ensures, c.if-head-newest.false, c.if-head-newest-2.false)) (omega (arith, c.newest-newest.ensures, c.if-newest-limit.false)) (c.in-Ok.ensures.tried honest) shows

pub returns-in-Err-clause-judged : goal.returns-in-Err-clause-judged
returns-in-Err-clause-judged g c = λ honest log shows.
    refused c.args.limit c.args.catalogs.now (record { head = c.args.head; changes = c.args.changes }) (search rules) (g.S.RowStore.contents c.args.store.now) log c.in-Err.fault c.from.result
    (omega (arith, c.newest-newest.ensures, c.if-head-newest.false, c.if-head-newest-2.false)) (omega (arith, c.newest-newest.ensures, c.if-newest-limit.false)) shows c.tables.ensures.normal
    (record { memory = c.from.ensures.0; device = c.from.ensures.1; conflict = c.from.ensures.2 })
    (c.in-Err.ensures.refused honest log shows)
