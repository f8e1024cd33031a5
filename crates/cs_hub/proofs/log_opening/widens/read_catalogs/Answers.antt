use Rattle.std.proofs.Common.{List, ℕ, ◌+◌, ◌++◌, ◌∙◌, ap, arith, subst, sym}
use Rattle.cs_value.specs.declared.catalog.TableDef.{TableDef}
use Rattle.cs_pending.specs.Storing.{then_well, went_well}
use Rattle.cs_store.specs.Contents.{Contents, log_entry}
use Rattle.cs_store.specs.Written.{optional_entry}
use Rattle.cs_store.specs.log.Stored.{IsEntryOf}
use Rattle.cs_store.specs.log.Widens.{widen_at}
use Rattle.cs_hub.specs.log_store.Later.{tables_behind}
use Rattle.cs_hub.proofs.LogOpeningLemmas.Followed.{one_followed}
use Rattle.cs_hub.proofs.log_opening.widens.read_catalogs.Goals as goal

pub loop-version-preserved : goal.loop-version-preserved
loop-version-preserved g c = record {
  read = then_well g.S.RowStore (Unit {0}) (Unit {0}) (Unit {0}) c.args.store.now c.loop-version.store c.stored_at.new.store (λ t. t) (λ honest t. t)
      c.loop-version.invariant.read (went_well g.S.RowStore _ _ _ _ _ c.in-Ok.ensures.reads);
  opening = c.in_ok-follow_stored.ensures.opening ∙ c.loop-version.invariant.opening;
  newest = c.in_ok-follow_stored.ensures.counted ∙ ap (λ (n : ℕ). n + 1) c.loop-version.invariant.newest;
  widens = λ honest log shows all.
      let was = c.in-Ok.ensures.reads.was_honest honest in
      one_followed c.widens_grow.ensures c.args.begun.opening (g.S.RowStore.contents c.args.store.now) log shows c.loop-version.version (omega (arith, c.loop-version-test.true, all))
      c.loop-version.catalogs.widens c.follow_stored.new.catalogs.widens (c.loop-version.invariant.widens was log shows all) (optional_entry c.in-Ok.stored)
      (c.in-Ok.ensures.found honest ∙ ap (λ (held : Contents). log_entry held c.loop-version.version) (c.loop-version.invariant.read.same was))
      (λ entry fits is.
      c.in_ok-follow_stored.ensures.widens entry (subst (λ (t : List TableDef). IsEntryOf (tables_behind t c.loop-version.catalogs.widens) entry) (sym c.loop-version.invariant.opening) fits) is
      ∙ ap (λ (n : ℕ). c.loop-version.catalogs.widens ++ widen_at n entry.body) c.loop-version.invariant.newest);
}
