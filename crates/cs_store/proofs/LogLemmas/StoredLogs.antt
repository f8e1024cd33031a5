-- Logs as they are stored: there is one.
use Rattle.std.proofs.Common.{◌≡◌, ℕ, zero, suc, List, [], ◌∷◌, ◌++◌, length, Option, Some, slice_get, refl, sym, ap, subst, ◌∙◌}
use Rattle.std.specs.Option.{option_map}
use Rattle.cs_value.specs.Catalog.{AreTables}
use Rattle.cs_value.specs.declared.catalog.TableDef.{TableDef}
use Rattle.cs_store.specs.log.Laws.{CatalogsAreTables, OneBody, OneStoredLog, stored_entry}
use Rattle.cs_store.specs.log.Log.{IsLog, IsNextEntry, catalog_at}
use Rattle.cs_store.specs.declared.log.body.Body.{Body}
use Rattle.cs_store.specs.declared.log.entry.LogEntry.{LogEntry}
use Rattle.cs_store.proofs.LogLemmas.Logs.{appended_is_log, empty_is_log}
use Rattle.cs_store.proofs.LogLemmas.States.{AreNext, are_next}

abbrev StoredAlike : List LogEntry → List LogEntry → Type 0
StoredAlike some other =
    (version : ℕ) → option_map stored_entry (slice_get some version) ≡ option_map stored_entry (slice_get other version)

-- two entries behind one log that are stored alike are one
one_next : OneBody → CatalogsAreTables → (opening : List TableDef) (before : List LogEntry) (one other : LogEntry) → AreTables opening → IsLog opening before
    → IsNextEntry opening before one → IsNextEntry opening before other → stored_entry one ≡ stored_entry other → one ≡ other
one_next body catalogs opening before one other are log next its same =
    let tables = catalog_at opening before (length before) in
    let bodies : one.body ≡ other.body = body tables one.body other.body (catalogs opening before (length before) are log) (next.normal, next.defined.0) (its.normal, its.defined.0) next.widens its.widens (ap (λ (e : ℕ × ℕ × List ℕ). e.2) same) in
    ap (λ (o : ℕ). record { origin = o; number = one.number; body = one.body }) (ap (λ (e : ℕ × ℕ × List ℕ). e.0) same)
    ∙ ap (λ (n : ℕ). record { origin = other.origin; number = n; body = one.body }) (ap (λ (e : ℕ × ℕ × List ℕ). e.1) same)
    ∙ ap (λ (b : Body). record { origin = other.origin; number = other.number; body = b }) bodies

some_same : (x y : ℕ × ℕ × List ℕ) → ◌≡◌ {A = Option (ℕ × ℕ × List ℕ)} (Some x) (Some y) → x ≡ y
some_same x y e = cc

one_log : OneBody → CatalogsAreTables → (opening : List TableDef) (before some other : List LogEntry) → AreTables opening → IsLog opening before
    → AreNext opening before some → AreNext opening before other → StoredAlike some other → some ≡ other
one_log body catalogs opening before [] [] are log next its alike = refl
one_log body catalogs opening before [] (y ∷ ys) are log next its alike = let e = alike 0 in cc
one_log body catalogs opening before (x ∷ xs) [] are log next its alike = let e = alike 0 in cc
one_log body catalogs opening before (x ∷ xs) (y ∷ ys) are log next its alike =
    let first : x ≡ y = one_next body catalogs opening before x y are log next.0 its.0 (some_same (stored_entry x) (stored_entry y) (alike zero)) in
    let rest : xs ≡ ys =
    one_log body catalogs opening (before ++ x ∷ []) xs ys are (appended_is_log opening before x log next.0) next.1
    (subst (λ (e : LogEntry). AreNext opening (before ++ e ∷ []) ys) (sym first) its.1) (λ version. alike (suc version)) in
    ap (λ (e : LogEntry). e ∷ xs) first ∙ ap (λ (l : List LogEntry). y ∷ l) rest

pub one_stored_log : OneBody → CatalogsAreTables → OneStoredLog
one_stored_log body catalogs opening some other are is its alike =
    one_log body catalogs opening [] some other are (empty_is_log opening) (are_next opening [] some is) (are_next opening [] other its) alike
