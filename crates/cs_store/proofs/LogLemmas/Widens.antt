-- The catalog at a version, by the tables that a log widens.
use Rattle.std.proofs.Common.{◌≡◌, ℕ, zero, suc, ◌+◌, ◌<◌, ◌≤◌, true, false, nat_lt, List, [], ◌∷◌, ◌++◌, take, length, refl, sym, ap, subst, ◌∙◌, arith, append_assoc}
use Rattle.std.proofs.lemmas.Bool.Decides.{nat_tests}
use Rattle.std.proofs.lemmas.List.{append-nil}
use Rattle.cs_value.specs.declared.catalog.TableDef.{TableDef}
use Rattle.cs_widening.specs.Widening.{widened_tables}
use Rattle.cs_store.specs.log.Log.{catalog_next, catalog_of}
use Rattle.cs_store.specs.log.Widens.{CatalogByWidens, WidensGrow, WidenAt, catalog_by, widen_at, widens_from}
use Rattle.cs_store.specs.declared.log.body.Body.{Body}
use Rattle.cs_store.specs.declared.log.body.Body.TheVariants.{Changes, Widen}
use Rattle.cs_store.specs.declared.log.entry.LogEntry.{LogEntry}

not_below : (n m : ℕ) → m ≤ n → nat_lt n m ≡ false
not_below n m le = grind (arith, nat_tests)

below : (n m : ℕ) → n < m → nat_lt n m ≡ true
below n m lt = grind (arith, nat_tests)

-- one that stands at a version doesn't count there
first_not : (opening : List TableDef) (from version : ℕ) (body : Body) (more : List WidenAt) → version ≤ from → catalog_by opening more version ≡ opening → catalog_by opening (widen_at from body ++ more) version ≡ opening
first_not opening from version (Changes changes) more le rest = rest
first_not opening from version (Widen table width) more le rest = simp (not_below from version le) refl

-- nor do those behind it
none_counts : (opening : List TableDef) (from version : ℕ) (log : List LogEntry) → version ≤ from → catalog_by opening (widens_from from log) version ≡ opening
none_counts opening from version [] le = refl
none_counts opening from version (entry ∷ log) le =
    first_not opening from version entry.body (widens_from (from + 1) log) le (none_counts opening (from + 1) version log (omega (arith, le)))

-- one below it does
first_counts : (opening : List TableDef) (from version : ℕ) (body : Body) (more : List WidenAt) (end : List TableDef) → from < version
    → ((tables : List TableDef) → (other : Body) → (other ≡ body) → tables ≡ catalog_next opening (record { origin = 0; number = 0; body = other }) → catalog_by tables more version ≡ end)
    → catalog_by opening (widen_at from body ++ more) version ≡ end
first_counts opening from version (Changes changes) more end lt rest = rest opening (Changes changes) refl refl
first_counts opening from version (Widen table width) more end lt rest = simp (below from version lt) (rest (widened_tables table width opening) (Widen table width) refl refl)

counted : (opening : List TableDef) (from count : ℕ) (log : List LogEntry) → catalog_by opening (widens_from from log) (from + count) ≡ catalog_of opening (take count log)
counted opening from zero log = none_counts opening from (from + 0) log (omega arith)
counted opening from (suc count) [] = refl
counted opening from (suc count) (entry ∷ log) =
    let rest : (tables : List TableDef) → catalog_by tables (widens_from (from + 1) log) (from + suc count) ≡ catalog_of tables (take count log) =
    λ tables. subst (λ (version : ℕ). catalog_by tables (widens_from (from + 1) log) version ≡ catalog_of tables (take count log)) (let e : (from + 1) + count ≡ from + suc count = omega arith in e) (counted tables (from + 1) count log) in
    first_counts opening from (from + suc count) entry.body (widens_from (from + 1) log) (catalog_of (catalog_next opening entry) (take count log)) (omega arith)
    (λ tables other is next. rest tables ∙ ap (λ (t : List TableDef). catalog_of t (take count log)) (next ∙ ap (λ (b : Body). catalog_next opening (record { origin = 0; number = 0; body = b })) is))

pub catalog_by_widens : CatalogByWidens
catalog_by_widens opening log version =
    subst (λ (v : ℕ). catalog_by opening (widens_from 0 log) v ≡ catalog_of opening (take version log)) (let e : 0 + version ≡ version = omega arith in e) (counted opening 0 version log)

grow_from : (from : ℕ) (log : List LogEntry) (entry : LogEntry) → widens_from from (log ++ entry ∷ []) ≡ widens_from from log ++ widen_at (from + length log) entry.body
grow_from from [] entry =
    append-nil (widen_at from entry.body) ∙ ap (λ (v : ℕ). widen_at v entry.body) (let e : from ≡ from + 0 = omega arith in e)
grow_from from (first ∷ log) entry =
    ap (λ (l : List WidenAt). widen_at from first.body ++ l)
    (grow_from (from + 1) log entry ∙ ap (λ (v : ℕ). widens_from (from + 1) log ++ widen_at v entry.body) (let e : (from + 1) + length log ≡ from + suc (length log) = omega arith in e))
    ∙ sym (append_assoc (widen_at from first.body) (widens_from (from + 1) log) (widen_at (from + suc (length log)) entry.body))

pub widens_grow : WidensGrow
widens_grow log entry =
    grow_from 0 log entry ∙ ap (λ (v : ℕ). widens_from 0 log ++ widen_at v entry.body) (let e : 0 + length log ≡ length log = omega arith in e)
