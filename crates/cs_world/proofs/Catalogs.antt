-- Catalogs along a log: what stays where no entry widens a table, and what stays anyhow.
use Rattle.std.proofs.Common.{◌≡◌, ◌<◌, ◌≤◌, ◌+◌, ◌∙◌, Bool, true, false, ℕ, zero, suc, List, [], ◌∷◌, length, map, Option, Some, None, option_map, slice_get, refl, sym, ap, arith}
use Rattle.std.specs.Prelude.{IsUtf8, if◌then◌else◌}
use Rattle.std.specs.List.{AllByRecursion}
use Rattle.std.specs.Str.{bytes_eq}
use Rattle.std.proofs.lemmas.List.{length-map}
use Rattle.std.proofs.lemmas.Option.{slice_get-map}
use Rattle.cs_value.specs.declared.catalog.TableDef.{TableDef}
use Rattle.cs_store.specs.log.Entry.{WidensNone}
use Rattle.cs_store.specs.log.Laws.{CatalogNext}
use Rattle.cs_store.specs.log.Log.{catalog_after, catalog_at, catalog_next, catalog_of}
use Rattle.cs_store.specs.declared.log.body.Body.{Body}
use Rattle.cs_store.specs.declared.log.body.Body.TheVariants.{Changes, Widen}
use Rattle.cs_store.specs.declared.log.entry.LogEntry.{LogEntry}
use Rattle.cs_widening.specs.Widening.{up_to, widened_tables}
use Rattle.cs_world.proofs.Found.{there_below}

-- ---- entries that widen none

-- a body that widens none leaves the catalog
pub plain_after : (tables : List TableDef) (body : Body) → WidensNone body → catalog_after tables body ≡ tables
plain_after tables (Changes changes) plain = refl
plain_after tables (Widen table width) plain = absurd plain

-- so do such entries from a version on
pub plain_on : CatalogNext → (opening : List TableDef) (log : List LogEntry) (from count : ℕ) → from + count ≤ length log
    → ((at : ℕ) (entry : LogEntry) → at < count → slice_get log (from + at) ≡ Some entry → WidensNone entry.body)
    → catalog_at opening log (from + count) ≡ catalog_at opening log from
plain_on next opening log from zero within plain = let n : from + 0 ≡ from = omega arith in ap (catalog_at opening log) n
plain_on next opening log from (suc count) within plain =
    let entry = there_below log (from + count) (omega (arith, within)) in
    let n : from + suc count ≡ from + count + 1 = omega arith in
    ap (catalog_at opening log) n
    ∙ (next opening log (from + count) entry.0 entry.1
    ∙ (plain_after (catalog_at opening log (from + count)) entry.0.body (plain count entry.0 (omega arith) entry.1)
    ∙ plain_on next opening log from count (omega (arith, within)) (λ at e below there. plain at e (omega (arith, below)) there)))

-- ---- names

abbrev pub AreNamed : List TableDef → Type 0
AreNamed tables = AllByRecursion (λ table. IsUtf8 table.name) tables

named_one : (wide : Bool) (width : ℕ) (table : TableDef) → IsUtf8 table.name → IsUtf8 (if wide then record table { key_marks = up_to width false table.key_marks } else table).name
named_one true width table named = named
named_one false width table named = named

named_wider : (name : List ℕ) (width : ℕ) (tables : List TableDef) → AreNamed tables → AreNamed (widened_tables name width tables)
named_wider name width [] named = tt
named_wider name width (table ∷ tables) named = (named_one (bytes_eq table.name name) width table named.0, named_wider name width tables named.1)

named_after : (tables : List TableDef) (body : Body) → AreNamed tables → AreNamed (catalog_after tables body)
named_after tables (Changes changes) named = named
named_after tables (Widen name width) named = named_wider name width tables named

-- the tables of a log have the names that the first ones have
pub named_of : (opening : List TableDef) (log : List LogEntry) → AreNamed opening → AreNamed (catalog_of opening log)
named_of opening [] named = named
named_of opening (entry ∷ log) named = named_of (catalog_next opening entry) log (named_after opening entry.body named)

abbrev names_of : List TableDef → List (List ℕ)
names_of tables = map (λ (table : TableDef). table.name) tables

same_one : (wide : Bool) (width : ℕ) (table : TableDef) → (if wide then record table { key_marks = up_to width false table.key_marks } else table).name ≡ table.name
same_one true width table = refl
same_one false width table = refl

same_wider : (name : List ℕ) (width : ℕ) (tables : List TableDef) → names_of (widened_tables name width tables) ≡ names_of tables
same_wider name width [] = refl
same_wider name width (table ∷ tables) =
    ap (λ (n : List ℕ). n ∷ names_of (widened_tables name width tables)) (same_one (bytes_eq table.name name) width table)
    ∙ ap (λ (more : List (List ℕ)). table.name ∷ more) (same_wider name width tables)

same_after : (tables : List TableDef) (body : Body) → names_of (catalog_after tables body) ≡ names_of tables
same_after tables (Changes changes) = refl
same_after tables (Widen name width) = same_wider name width tables

same_names : (opening : List TableDef) (log : List LogEntry) → names_of (catalog_of opening log) ≡ names_of opening
same_names opening [] = refl
same_names opening (entry ∷ log) = same_names (catalog_next opening entry) log ∙ same_after opening entry.body

named_so : (name : List ℕ) (found : Option TableDef) → option_map (λ (table : TableDef). table.name) found ≡ Some name → (first : TableDef) × (found ≡ Some first) × (first.name ≡ name)
named_so name None is = absurd (cc)
named_so name (Some first) is = (first, refl, cc)

-- at each place the first tables have one of the same name, and there are as many
pub opened_as : (opening : List TableDef) (log : List LogEntry) (place : ℕ) (table : TableDef) → slice_get (catalog_of opening log) place ≡ Some table
    → (first : TableDef) × (slice_get opening place ≡ Some first) × (first.name ≡ table.name)
opened_as opening log place table there =
    let its = slice_get-map (λ (t : TableDef). t.name) (catalog_of opening log) place in
    let ours = slice_get-map (λ (t : TableDef). t.name) opening place in
    let same : slice_get (names_of (catalog_of opening log)) place ≡ slice_get (names_of opening) place = ap (λ (ns : List (List ℕ)). slice_get ns place) (same_names opening log) in
    named_so table.name (slice_get opening place) (sym ours ∙ (sym same ∙ (its ∙ ap (option_map (λ (t : TableDef). t.name)) there)))

pub as_many : (opening : List TableDef) (log : List LogEntry) → length (catalog_of opening log) ≡ length opening
as_many opening log =
    sym (length-map (catalog_of opening log) (λ (t : TableDef). t.name))
    ∙ (ap (λ (ns : List (List ℕ)). length ns) (same_names opening log) ∙ length-map opening (λ (t : TableDef). t.name))
