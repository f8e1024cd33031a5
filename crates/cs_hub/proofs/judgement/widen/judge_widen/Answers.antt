use Rattle.std.proofs.Common.{List, Ok, ◌≡◌, ◌+◌, ◌∙◌, ap, arith, refl, subst, sym}
use Rattle.cs_value.specs.declared.catalog.TableDef.{TableDef}
use Rattle.cs_store.specs.log.Stored.{IsEntryOf}
use Rattle.cs_store.specs.declared.log.entry.LogEntry.{LogEntry}
use Rattle.cs_hub.specs.appending.Appended.{IsAppendFault}
use Rattle.cs_hub.specs.log_store.Versions.{newest_tables}
use Rattle.cs_hub.specs.judgement.Hub.{with_entry}
use Rattle.cs_hub.specs.judgement.Judged.{hub_of}
use Rattle.cs_hub.specs.judgement.Widens.{WidenAsked, Widens, entry_of_widen}
use Rattle.cs_hub.specs.declared.judgement.push.Pushed.TheVariants.{Accepted}
use Rattle.cs_hub.proofs.JudgementLemmas.Widened.{bad, full, no_conflict, of_table, to_append}
use Rattle.cs_hub.proofs.judgement.widen.judge_widen.Goals as goal

pub returns-then-head-newest-2-clause-judged : goal.returns-then-head-newest-2-clause-judged
returns-then-head-newest-2-clause-judged g c = λ honest log shows.
    let asked : WidenAsked = record { number = c.args.head.number; base = c.args.head.base; table = c.args.table.now; width = c.args.width } in
    let is : of_table c.args.head.number c.args.width c.from_string.result ≡ entry_of_widen asked = ap (of_table c.args.head.number c.args.width) (c.from_string.ensures ∙ c.in_ok-from_str.ensures.ok) in
    c.recall_widen.ensures.judged honest log shows asked is refl

pub returns-then-newest-limit-clause-judged : goal.returns-then-newest-limit-clause-judged
returns-then-newest-limit-clause-judged g c = λ honest log shows.
    let asked : WidenAsked = record { number = c.args.head.number; base = c.args.head.base; table = c.args.table.now; width = c.args.width } in
    let is : of_table c.args.head.number c.args.width c.from_string.result ≡ entry_of_widen asked = ap (of_table c.args.head.number c.args.width) (c.from_string.ensures ∙ c.in_ok-from_str.ensures.ok) in
    let last : c.args.head.base ≡ c.args.catalogs.now.newest = omega (arith, c.newest-newest.ensures, c.if-head-newest.false, c.if-head-newest-2.false) in
    full c.catalog_by_widens.ensures c.args.limit c.args.catalogs.now asked (g.S.RowStore.contents c.args.store.now) log shows last (omega (arith, c.newest-newest.ensures, c.if-newest-limit.true))

pub returns-then-not-branch-clause-judged : goal.returns-then-not-branch-clause-judged
returns-then-not-branch-clause-judged g c = λ honest log shows.
    let asked : WidenAsked = record { number = c.args.head.number; base = c.args.head.base; table = c.args.table.now; width = c.args.width } in
    let is : of_table c.args.head.number c.args.width c.from_string.result ≡ entry_of_widen asked = ap (of_table c.args.head.number c.args.width) (c.from_string.ensures ∙ c.in_ok-from_str.ensures.ok) in
    let last : c.args.head.base ≡ c.args.catalogs.now.newest = omega (arith, c.newest-newest.ensures, c.if-head-newest.false, c.if-head-newest-2.false) in
    bad c.catalog_by_widens.ensures c.args.limit c.args.catalogs.now asked (g.S.RowStore.contents c.args.store.now) log shows last
    (rw c.present.ensures at c.tables-tables.ensures.tables) c.most_bytes.ensures (omega (arith, c.newest-newest.ensures, c.if-newest-limit.false))
    (λ fits.
    let told = c.in_ok-is_entry_of.ensures.1
    (subst (λ (t : List TableDef). IsEntryOf t (of_table c.args.head.number c.args.width c.from_string.result)) (sym c.present-2.ensures) (subst (IsEntryOf (newest_tables c.args.catalogs.now)) (sym is) fits)) in
    let never = c.if-not-branch.true in
    cc)

pub returns-in-Ok-clause-judged : goal.returns-in-Ok-clause-judged
returns-in-Ok-clause-judged g c = λ honest log shows.
    let asked : WidenAsked = record { number = c.args.head.number; base = c.args.head.base; table = c.args.table.now; width = c.args.width } in
    let is : of_table c.args.head.number c.args.width c.from_string.result ≡ entry_of_widen asked = ap (of_table c.args.head.number c.args.width) (c.from_string.ensures ∙ c.in_ok-from_str.ensures.ok) in
    let last : c.args.head.base ≡ c.args.catalogs.now.newest = omega (arith, c.newest-newest.ensures, c.if-head-newest.false, c.if-head-newest-2.false) in
    let fits : IsEntryOf (newest_tables c.args.catalogs.now) (entry_of_widen asked) =
    subst (IsEntryOf (newest_tables c.args.catalogs.now)) is (subst (λ (t : List TableDef). IsEntryOf t (of_table c.args.head.number c.args.width c.from_string.result)) c.present-2.ensures (c.in_ok-is_entry_of.ensures.0 c.if-not-branch.false)) in
    let hub = hub_of c.args.catalogs.now.opening log in
    subst (λ (e : LogEntry). Widens c.args.limit hub asked (Ok (Accepted (c.args.head.base + 1))) (with_entry hub e)) (sym is)
    (to_append c.catalog_by_widens.ensures c.args.limit c.args.catalogs.now asked (g.S.RowStore.contents c.args.store.now) log shows last (omega (arith, c.newest-newest.ensures, c.if-newest-limit.false)) fits)

pub returns-in-Err-clause-judged : goal.returns-in-Err-clause-judged
returns-in-Err-clause-judged g c = λ honest log shows.
    let asked : WidenAsked = record { number = c.args.head.number; base = c.args.head.base; table = c.args.table.now; width = c.args.width } in
    let is : of_table c.args.head.number c.args.width c.from_string.result ≡ entry_of_widen asked = ap (of_table c.args.head.number c.args.width) (c.from_string.ensures ∙ c.in_ok-from_str.ensures.ok) in
    let fits : IsEntryOf (newest_tables c.args.catalogs.now) (entry_of_widen asked) =
    subst (IsEntryOf (newest_tables c.args.catalogs.now)) is (subst (λ (t : List TableDef). IsEntryOf t (of_table c.args.head.number c.args.width c.from_string.result)) c.present-2.ensures (c.in_ok-is_entry_of.ensures.0 c.if-not-branch.false)) in
    no_conflict c.catalog_by_widens.ensures c.args.limit c.args.catalogs.now asked (g.S.RowStore.contents c.args.store.now) log shows fits c.in-Err.fault c.from.result c.from.ensures.0 c.from.ensures.1
    (subst (λ (e : LogEntry). IsAppendFault c.args.catalogs.now.opening log e c.in-Err.fault) is (c.in-Err.ensures.refused honest log shows))
