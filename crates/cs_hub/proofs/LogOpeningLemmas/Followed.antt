-- The tables that a stored log widens, as its entries are read.
use Rattle.std.proofs.Common.{◌≡◌, ◌+◌, ◌<◌, ◌∙◌, ◌++◌, ◌∷◌, [], ℕ, zero, suc, List, Option, Some, option_map, length, take, slice_get, refl, sym, ap, subst, arith}
use Rattle.std.proofs.Math.Seq.{take-length}
use Rattle.std.proofs.lemmas.List.{length-take-le, take_all}
use Rattle.cs_value.specs.declared.catalog.TableDef.{TableDef}
use Rattle.cs_store.specs.Contents.{Contents, LogItem, log_entry}
use Rattle.cs_store.specs.log.Log.{catalog_at, catalog_of}
use Rattle.cs_store.specs.log.Stored.{IsEntryOf}
use Rattle.cs_store.specs.log.Widens.{WidenAt, WidensGrow, widen_at, widens_from}
use Rattle.cs_store.specs.declared.log.entry.LogEntry.{LogEntry}
use Rattle.cs_hub.specs.log_store.Later.{tables_behind}
use Rattle.cs_hub.specs.log_store.Shows.{ShowsLog, item_of_entry}
use Rattle.cs_hub.proofs.LogStoreLemmas.Versions.{behind_shown}

entry_at : (log : List LogEntry) (version : ℕ) → version < length log → (entry : LogEntry) × (slice_get log version ≡ Some entry) × (take (suc version) log ≡ take version log ++ entry ∷ [])
entry_at [] version less = absurd (omega (arith, less))
entry_at (entry ∷ log) zero less = (entry, refl, refl)
entry_at (first ∷ log) (suc version) less =
    let rest = entry_at log version (omega (arith, less)) in (rest.0, rest.1, ap (λ (es : List LogEntry). first ∷ es) rest.2)

-- with one entry more they are those of the longer front
pub one_followed : WidensGrow → (opening : List TableDef) (contents : Contents) (log : List LogEntry) → ShowsLog opening contents log → (version : ℕ) → version < length log → (before after : List WidenAt) → before ≡ widens_from 0 (take version log)
    → (stored : Option LogItem) → stored ≡ log_entry contents version
    → ((entry : LogEntry) → IsEntryOf (tables_behind opening before) entry → stored ≡ Some (item_of_entry entry) → after ≡ before ++ widen_at version entry.body)
    → after ≡ widens_from 0 (take (version + 1) log)
one_followed law opening contents log shows version less before after were stored is told =
    let at = entry_at log version less in
    let front = take version log in
    let entry = at.0 in
    let count : length front ≡ version = length-take-le version log (omega (arith, less)) in
    let behind : tables_behind opening before ≡ catalog_at opening log version = behind_shown opening before front were ∙ ap (catalog_of opening) (take-length front) in
    let fits = subst (λ (t : List TableDef). IsEntryOf t entry) (sym behind) (shows.fit version entry at.1) in
    let there = is ∙ shows.entries.stored version ∙ ap (option_map item_of_entry) at.1 in
    told entry fits there
    ∙ ap (λ (ws : List WidenAt). ws ++ widen_at version entry.body) were
    ∙ ap (λ (n : ℕ). widens_from 0 front ++ widen_at n entry.body) (sym count)
    ∙ sym (law front entry)
    ∙ sym (ap (widens_from 0) at.2)
    ∙ ap (λ (n : ℕ). widens_from 0 (take n log)) (let e : suc version ≡ version + 1 = omega arith in e)

pub all_followed : (log : List LogEntry) (count : ℕ) (widens : List WidenAt) → count ≡ length log → widens ≡ widens_from 0 (take count log) → widens ≡ widens_from 0 log
all_followed log count widens all is = is ∙ ap (widens_from 0) (take_all count log (omega (arith, all)))
