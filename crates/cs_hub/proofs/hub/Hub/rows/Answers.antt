use Rattle.std.proofs.Common.{List, ℕ, ◌∙◌, arith, length, refl, subst, sym, take}
use Rattle.std.specs.Prelude.{IfOk}
use Rattle.cs_value.specs.declared.catalog.TableDef.{TableDef}
use Rattle.cs_pending.specs.Shows.{ShowsRows}
use Rattle.cs_pending.specs.rows.Rows.{AreRowsOf}
use Rattle.cs_store.specs.log.Log.{state_of}
use Rattle.cs_hub.proofs.LogStoreLemmas.Versions.{newest_shown}
use Rattle.cs_hub.proofs.Shown.{at_rest, count_by, log_rows, named_in, read_when}
use Rattle.cs_hub.proofs.hub.Hub.rows.Goals as goal

pub returns-clause-listed : goal.returns-clause-listed
returns-clause-listed g c =
    rw (← c.self.view_is) (λ honest log shows def at.
    let held = g.S.RowStore.contents c.self.inside.store in
    let opening = c.self.inside.catalogs.opening in
    let newest = c.present.ensures ∙ newest_shown c.catalog_by_widens.ensures c.self.inside.catalogs log shows.2 shows.1 in
    let there = named_in (take (length log) log) opening c.args.table def.name (def, at, refl) in
    subst (λ (name : List ℕ). IfOk c.rows_of.result (λ rows. AreRowsOf (state_of log name) rows.items)) there.2
    (c.rows_of.ensures.listed honest (at_rest (state_of log))
    (subst (λ (t : List TableDef). ShowsRows t held (at_rest (state_of log))) (sym newest) (log_rows c.log_states.ensures opening held log (rw c.opening.ensures at c.tables-tables.ensures.tables) shows.0))
    there.0 (rw newest there.1)))

pub returns-clause-none : goal.returns-clause-none
returns-clause-none g c =
    rw (← c.self.view_is) (λ past.
    c.rows_of.ensures.none (rw c.present.ensures (omega (arith, past, count_by c.self.inside.catalogs.opening c.self.inside.catalogs.widens c.self.inside.catalogs.newest))))

pub returns-clause-reads : goal.returns-clause-reads
returns-clause-reads g c =
    rw (← c.self.view_is)
    (read_when g.S.RowStore _ _ _ _ _ _
    (λ (log, shows).
    let held = g.S.RowStore.contents c.self.inside.store in
    let newest = c.present.ensures ∙ newest_shown c.catalog_by_widens.ensures c.self.inside.catalogs log shows.2 shows.1 in
    (at_rest (state_of log), subst (λ (t : List TableDef). ShowsRows t held (at_rest (state_of log))) (sym newest) (log_rows c.log_states.ensures c.self.inside.catalogs.opening held log (rw c.opening.ensures at c.tables-tables.ensures.tables) shows.0)))
    c.rows_of.ensures.reads)
