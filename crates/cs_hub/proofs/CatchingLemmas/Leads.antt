-- Entries of a log, taken together, lead from version to version.
use Rattle.std.proofs.Common.{◌≡◌, ◌+◌, ◌≤◌, ℕ, suc, List, [], ◌∷◌, ◌++◌, drop, length, map, take, Some, refl, sym, ap, subst, arith, inl, length-append}
use Rattle.std.specs.Prelude.{◌≢◌, slice_get}
use Rattle.std.specs.List.{All, AllByRecursion}
use Rattle.std.proofs.lemmas.List.{drop-take, length-drop, take-append-le}
use Rattle.std.proofs.lemmas.List.Elements.{All-drop, All-from_recursion, All-map, All-take, recursion_from_All}
use Rattle.cs_value.specs.declared.catalog.TableDef.{TableDef}
use Rattle.cs_group.specs.Leads.{JoinLeads}
use Rattle.cs_group.specs.Tables.{OneJoin}
use Rattle.cs_normal.specs.Normal.{IsNormalChangeset}
use Rattle.cs_store.specs.log.Entry.{entry_changes}
use Rattle.cs_store.specs.log.Laws.{CatalogsAreTables, LogStates, PlainSlices}
use Rattle.cs_store.specs.log.Log.{IsLog, catalog_at, entries_between, tables_at}
use Rattle.cs_store.specs.declared.log.entry.LogEntry.{LogEntry}
use Rattle.cs_hub.specs.catching.Consolidated.{IsConsolidated, IsShort}
use Rattle.cs_hub.proofs.CatchingLemmas.Plain.{IsPlain, all_plain}
use Rattle.cs_hub.specs.catching.Laws.{CaughtAreOthers, CaughtIsShort, ConsolidatedLeads, OneConsolidated, OthersAsLogGrows, SameEntries}

pub one_consolidated : OneJoin → OneConsolidated
one_consolidated law tables entries some other are s o =
    law tables (map entry_changes entries) some other are s.of_tables.0 o.of_tables.0 s.of_tables.1 o.of_tables.1 s.joined o.joined

take_front : (log more : List LogEntry) (version : ℕ) → version ≤ length log → take version (log ++ more) ≡ take version log
take_front log more version within = rw take-append-le refl

pub same_entries : SameEntries
same_entries log more from to within = ap (λ (es : List LogEntry). drop from es) (take_front log more to within)

-- what holds at each place holds of all
pub at_each : (P : LogEntry → Type 0) (log : List LogEntry) → ((version : ℕ) (entry : LogEntry) → slice_get log version ≡ Some entry → P entry) → AllByRecursion P log
at_each P [] each = tt
at_each P (first ∷ log) each = (each 0 first refl, at_each P log (λ version entry there. each (suc version) entry there))

abbrev HasNormal : LogEntry → Type 0
HasNormal entry = IsNormalChangeset (entry_changes entry)

all_normal : (tables : List TableDef) (log : List LogEntry) → IsLog tables log → All HasNormal log
all_normal tables log is = All-from_recursion HasNormal log (at_each HasNormal log (λ version entry there. (is version entry there).normal))

pub consolidated_leads : CatalogsAreTables → JoinLeads → PlainSlices → LogStates → ConsolidatedLeads
consolidated_leads catalogs join slices states opening log from to changes are is less within plain one =
    let entries = entries_between log from to in
    let normal : All HasNormal entries = All-drop HasNormal from (take to log) (All-take HasNormal to log (all_normal opening log is)) in
    join (catalog_at opening log from) (map entry_changes entries) changes (tables_at log from) (tables_at log to) (catalogs opening log from are is)
    (recursion_from_All IsNormalChangeset (map entry_changes entries) (All-map IsNormalChangeset entry_changes entries normal))
    one.of_tables.1 one.joined (states opening log from are is) (slices opening log from to is less plain)

-- ---- what is told as one

abbrev OfOthers : ℕ → LogEntry → Type 0
OfOthers origin entry = entry.origin ≢ origin

pub caught_are_others : CaughtAreOthers
caught_are_others tables log asker limit first count changes inside (not, run, one) =
    let others = (run.each count (omega arith)).others in
    let whole : take count (drop first log) ≡ entries_between log first (first + count) = sym (drop-take first count log) in
    record {
      rising = omega arith;
      within = omega (arith, inside, run.there, length-drop first log);
      changes = changes;
      spelled = refl;
      together = subst (λ (es : List LogEntry). IsConsolidated tables es changes) whole one;
      others = subst (All (OfOthers asker)) whole (λ k d inside. (λ own. others k d inside (inl own)));
      plain = subst (All IsPlain) whole (all_plain asker (take count (drop first log)) others);
    }

pub caught_is_short : OneJoin → CaughtIsShort
caught_is_short law tables asker limit entries count changes are (not, run, one) =
    let told = (run.each count (omega arith)).short in
    subst IsShort (one_consolidated law tables (take count entries) told.0 changes are told.1 one) told.2

pub others_as_log_grows : OthersAsLogGrows
others_as_log_grows tables log more origin first next bytes is =
    let same = sym (same_entries log more first next is.within) in
    record {
      rising = is.rising;
      within = omega (arith, is.within, length-append log more);
      changes = is.changes;
      spelled = is.spelled;
      together = subst (λ (es : List LogEntry). IsConsolidated tables es is.changes) same is.together;
      others = subst (All (OfOthers origin)) same is.others;
      plain = subst (All IsPlain) same is.plain;
    }
