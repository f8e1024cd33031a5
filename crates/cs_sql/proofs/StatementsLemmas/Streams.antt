-- What a connection shows whose answer is read one row at a time.
use Rattle.std.proofs.Common.{◌≡◌, inl, inr, ℕ, List, [], ◌∷◌, ◌++◌, Option, Some, None, Result, Ok, Err, OnOk, IsTrue, sym, ap, subst, ◌∙◌, arith}
use Rattle.sqlite.specs.Store.{Ghosts}
use Rattle.sqlite.specs.Held.{Held, state}
use Rattle.sqlite.specs.Given.{Advances, GivesOn, HasGiven}
use Rattle.sqlite.specs.Order.{Row}
use Rattle.sqlite.specs.Effect.{Database}
use Rattle.sqlite.specs.Schema.{Schema}
use Rattle.sqlite.specs.Listing.{understood, reads_listing, IsSourceOf}
use Rattle.sqlite.specs.Clock.{timed}
use Rattle.sqlite.specs.declared.error.Error.{Error}
use Rattle.sqlite.specs.State.{State, HasCleanDisk, Survives, Shown, ShowsRows, FailsToQuery, IsUnchanged, CommitsShowing}
use Rattle.sqlite.proofs.Callers.{IsPlain, never_commits, unchanged_then}
use Rattle.sqlite.proofs.StateLemmas.{survives_then}
use Rattle.cs_sql.specs.schema.Schemas.{store_schema}
use Rattle.cs_sql.specs.statements.Tables.{IsKept}
use Rattle.cs_sql.specs.statements.Steps.{IsReady, Serves, Stays}
use Rattle.cs_sql.proofs.StatementsLemmas.Finding.{stays_failed, stays_then, stays_unchanged}

-- what is shown of a connection that has not changed since an earlier moment is shown of that
pub shown_since : (sql : List ℕ) (params : Row) (start old new : State) (rows : List Row) → IsPlain (understood start.now.schema sql) → IsUnchanged start old → Shown sql params old new rows → Shown sql params start new rows
unfolding Shown
shown_since sql params start old new rows plain same h =
    let now : old.now ≡ start.now = same.0.now_is in
    let known : understood old.now.schema sql ≡ understood start.now.schema sql = ap (λ (d : Database). understood d.schema sql) now in
    let bare = (subst IsPlain (sym known ∙ h.1.is) plain).0 in
    let full = timed params h.0.formats h.1.now in
    let it = subst (ShowsRows old new sql h.0 full rows) bare h.2 in (
      h.0,
      record { is = sym known ∙ h.1.is; whole = h.1.whole; given = h.1.given; now = h.1.now },
      subst (ShowsRows start new sql h.0 full rows) (sym bare) (it.0, subst (λ (d : Database). IsSourceOf (reads_listing d.schema sql) d it.0) now it.1, it.2, unchanged_then start old new same it.3),
    )

module _ (sql : List ℕ) (params : Row) (start : State) (plain : HasCleanDisk start → IsPlain (understood start.now.schema sql)) (serves : HasCleanDisk start → Serves start) where
  -- a query that is begun commits nothing
  pub begun_quiet : (new : State) → Survives start new (CommitsShowing sql params start) → Survives start new (λ _. ⊥)
  begun_quiet new s = record {
    clean = s.clean;
    shield = s.shield;
    counts = s.counts;
    limit = s.limit;
    closes = s.closes;
    crash = λ clean db left. elim (s.crash clean db left) [ inl before ↦ inl before | inr commits ↦ absurd (never_commits sql params start db (plain (omega (arith, clean, s.clean))) commits) ];
  }

  -- a query that isn't begun leaves what was shown
  pub refused_stays : (new : State) (e : Error) → Survives start new (CommitsShowing sql params start) → HasCleanDisk new → FailsToQuery sql params start new e → Stays start new
  refused_stays new e s clean h = let early : HasCleanDisk start = omega (arith, clean, s.clean) in stays_failed sql params start new (plain early) e (λ _. (serves early).settled) h

  -- nor does one more row of it, or a fault on the way
  pub read_quiet : (old new : State) → Survives start old (λ _. ⊥) → Survives old new (λ _. ⊥) → Survives start new (λ _. ⊥)
  read_quiet old new first second = survives_then start old new (λ _. ⊥) (λ _. ⊥) (λ _. ⊥) (λ _ db none. none) (λ _ db none. none) first second

  pub failed_stays : (old new : State) (e : Error) → IsUnchanged start old → HasCleanDisk start → FailsToQuery sql params old new e → Stays start new
  failed_stays old new e same clean h =
      let now : old.now ≡ start.now = same.0.now_is in
      let plain_now : IsPlain (understood old.now.schema sql) = subst (λ (d : Database). IsPlain (understood d.schema sql)) (sym now) (plain clean) in
      stays_then start old new (stays_unchanged start old same) (stays_failed sql params old new plain_now e (λ _. same.0.committed_is ∙ (serves clean).settled ∙ sym now) h)

-- what is known of a query that is under way since a moment
abbrev pub IsUnderWay : {S R : Type 0} → Ghosts S → (R → R → List Row → Type 0) → List ℕ → Row → State → R → Held S → R → Type 0
IsUnderWay g has_read sql params start first conn reader =
    HasCleanDisk (state g conn) → (given : List Row) × HasGiven g sql params conn given × IsUnchanged start (state g conn) × has_read first reader given

module _ {S R : Type 0} (g : Ghosts S) (has_read : R → R → List Row → Type 0) (sql : List ℕ) (params : Row) (start : State) (first : R) (old new : Held S) (reader : R)
    (survives : Survives (state g old) (state g new) (λ _. ⊥)) (way : IsUnderWay g has_read sql params start first old reader) (same : HasCleanDisk (state g new) → IsUnchanged (state g old) (state g new)) where
  was_clean : HasCleanDisk (state g new) → HasCleanDisk (state g old)
  was_clean clean = omega (arith, clean, survives.clean)

  -- it has gone on, and what was shown has not changed
  pub on_unchanged : HasCleanDisk (state g new) → IsUnchanged start (state g new)
  on_unchanged clean = unchanged_then start (state g old) (state g new) (way (was_clean clean)).2 (same clean)

  -- at its end the rows are the answer
  pub ended_shown : IsPlain (understood start.now.schema sql) → (row : Option Row) → row ≡ None → Advances g old new row → HasCleanDisk (state g new)
      → (rows : List Row) × Shown sql params start (state g new) rows × has_read first reader rows
  ended_shown plain row none advances clean =
      let was = way (was_clean clean) in
      let shown = subst (GivesOn g sql params old new was.0) none (advances sql params was.0 was.1) in
      (was.0, shown_since sql params start (state g old) (state g new) was.0 plain was.2 shown, was.3)

  -- and a row that is read is one more of them
  pub read_on : (row : Option Row) (values : Row) (next : R) → row ≡ Some values → (HasCleanDisk (state g new) → Advances g old new row)
      → ((begun : R) (rows : List Row) → has_read begun reader rows → has_read begun next (rows ++ values ∷ [])) → IsUnderWay g has_read sql params start first new next
  read_on row values next some advances reads clean =
      let was = way (was_clean clean) in
      let given = subst (GivesOn g sql params old new was.0) some (advances clean sql params was.0 was.1) in
      (was.0 ++ values ∷ [], given, on_unchanged clean, reads first was.0 was.3)

-- ---- a query on the store's tables, after a probe

pub ready_serves : (start mid : State) → (HasCleanDisk start → IsTrue start.is_open → IsReady start) → (HasCleanDisk mid → IsUnchanged start mid) → Survives start mid (λ _. ⊥) → HasCleanDisk mid → Serves mid
ready_serves start mid ready probed first clean =
    let u = probed clean in let was = ready (omega (arith, clean, first.clean)) u.0.was_open in record { is_open = u.0.is_open; settled = u.0.committed_is ∙ was.settled ∙ sym u.0.now_is }

pub ready_plain : (sql : List ℕ) (start mid : State) → (HasCleanDisk start → IsTrue start.is_open → IsReady start) → (HasCleanDisk mid → IsUnchanged start mid) → Survives start mid (λ _. ⊥) → IsPlain (understood store_schema sql)
    → HasCleanDisk mid → IsPlain (understood mid.now.schema sql)
ready_plain sql start mid ready probed first plain clean =
    let u = probed clean in
    let was = ready (omega (arith, clean, first.clean)) u.0.was_open in
    subst (λ (s : Schema). IsPlain (understood s sql)) (sym (ap (λ (d : Database). d.schema) u.0.now_is ∙ was.kept.schema)) plain

pub probed_stays : (start mid new : State) → (HasCleanDisk mid → IsUnchanged start mid) → Survives mid new (λ _. ⊥) → (HasCleanDisk new → Stays mid new) → HasCleanDisk new → Stays start new
probed_stays start mid new probed second stays clean = stays_then start mid new (stays_unchanged start mid (probed (omega (arith, clean, second.clean)))) (stays clean)

pub probed_quiet : (start mid new : State) → Survives start mid (λ _. ⊥) → Survives mid new (λ _. ⊥) → Survives start new (λ _. ⊥)
probed_quiet start mid new first second = survives_then start mid new (λ _. ⊥) (λ _. ⊥) (λ _. ⊥) (λ _ db none. none) (λ _ db none. none) first second

-- what is shown after a probe is shown of what stood before it
module _ (sql : List ℕ) (params : Row) (start mid new : State) (ready : HasCleanDisk start → IsTrue start.is_open → IsReady start) (probed : HasCleanDisk mid → IsUnchanged start mid) (first : Survives start mid (λ _. ⊥))
    (plain : IsPlain (understood store_schema sql)) (late : HasCleanDisk mid) where
  pub probed_rows : (rows : List Row) → Shown sql params mid new rows → IsTrue start.is_open × IsKept start.now × Shown sql params start new rows
  probed_rows rows shown =
      let u = probed late in
      let was = ready (omega (arith, late, first.clean)) u.0.was_open in
      let plain_then = subst (λ (s : Schema). IsPlain (understood s sql)) (sym was.kept.schema) plain in
      (u.0.was_open, was.kept, shown_since sql params start mid new rows plain_then u shown)

  pub probed_shown : {R : Type 0} (has_read : R → R → List Row → Type 0) (begun reader : R) → (rows : List Row) × Shown sql params mid new rows × has_read begun reader rows
      → IsTrue start.is_open × IsKept start.now × (rows : List Row) × Shown sql params start new rows × has_read begun reader rows
  probed_shown has_read begun reader it = let was = probed_rows it.0 it.1 in (was.0, was.1, it.0, was.2, it.2)

pub ok_shown : {E : Type 0} (P Q : Type 0) (r : Result (Unit {0}) E) → (P → Q) → OnOk r P → OnOk r Q
ok_shown P Q (Ok x) f h = f h
ok_shown P Q (Err e) f h = tt
