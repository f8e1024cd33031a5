-- The store after a commit, and as it is made.
use Rattle.std.specs.Prelude.{◌↔◌, is_some, IsSome}
use Rattle.std.proofs.Common.{◌≡◌, ◌⊎◌, inl, inr, [], ℕ, pos, ◌+◌, ◌<◌, ◌^◌, true, Option, Some, None, Result, Ok, Err, IfOk, IfErr, IfSome, IsTrue, false, refl, sym, ap, subst, ◌∙◌, arith, cond}
use Rattle.std.specs.FinMap.{get, len, contains_key, get-insert, len-insert, len-empty}
use Rattle.std.specs.Ordering.{eq_by_cmp, int_cmp}
use Rattle.std.specs.Cmp.{eq_by_cmp_equiv}
use Rattle.std.proofs.lemmas.Bool.{cases_Bool}
use Rattle.std.proofs.lemmas.Map.Lookups.{exact_signed}
use Rattle.std.proofs.lemmas.Cmp.{int_cmp_total}
use Rattle.cs_order.specs.Facts.{equal_from}
use Rattle.sqlite.specs.Store.{Ghosts}
use Rattle.sqlite.specs.State.{State, HasCleanDisk, IsLive, Survives}
use Rattle.sqlite.specs.Effect.{Database, IsDatabase}
use Rattle.sqlite.specs.Schema.{Schema}
use Rattle.sqlite.specs.declared.error.Error.{Error}
use Rattle.sqlite.specs.declared.error.Error.TheVariants.{SqliteFailure}
use Rattle.sqlite.specs.declared.error.ErrorCode.TheVariants.{OutOfMemory}
use Rattle.sqlite.specs.Tree.{Trees}
use Rattle.sqlite.specs.Held.{Held, IsNew, state}
use Rattle.sqlite.specs.Steps.{IsEmpty, over_memory}
use Rattle.sqlite_trees.specs.declared.memory.MemStore.{MemStore}
use Rattle.sqlite.proofs.StateLemmas.{survives_then}
use Rattle.cs_store.specs.Contents.{Contents, HasEachEntry, Log, LogItem, nothing}
use Rattle.cs_store.specs.Calls.{Commits}
use Rattle.cs_store.specs.Written.{after_batch, with_entry, optional_entry, item_of}
use Rattle.cs_store.specs.declared.batch.StoredEntry.{StoredEntry}
use Rattle.cs_store.specs.declared.batch.Batch.{Batch}
use Rattle.cs_store.specs.declared.fault.StoreFault.{StoreFault}
use Rattle.cs_store.specs.declared.fault.StoreFault.TheVariants.{Device, Memory}
use Rattle.cs_sql.specs.schema.Schemas.{no_schema, front_schema, store_over, store_schema}
use Rattle.cs_sql.specs.declared.parts.Part.TheVariants.{Pending}
use Rattle.cs_sql.specs.schema.Making.{AddsTable, AreCompleted, AreLaidOut, IsCompleted, IsEmptyIn, IsLaidOut, IsUndone}
use Rattle.cs_sql.specs.statements.Tables.{AreKept, IsKept, contents_in}
use Rattle.cs_sql.specs.statements.Steps.{HasBatch, IsReady, IsWritten, Stays, with_batch}
use Rattle.cs_sql.specs.declared.statements.counting.LogFound.{LogFound}
use Rattle.cs_sql.specs.statements.Found.{IsFrontKept, IsFrontOf, IsLogOf, IsStoreOf, IsUntouched, front_in}
use Rattle.cs_sql.specs.Causes.{EngineFails, IsCaused}
use Rattle.cs_sql.specs.Keeping.{Kept, IsSteady, IsFresh, IsAdopted, IsAt, IsGivenBack, IsHeldIn, IsMadeOf, IsToldAs, LeavesHeld, LeavesStore, MayLeave, OpenAsStore, ShowsForeign, ShowsStore, count_with, holds, made_over}
use Rattle.cs_sql.proofs.CauseLemmas.{fails_later}
use Rattle.cs_sql.proofs.OneSchema.{shows_same, shows_store}
use Rattle.cs_sql.proofs.StatementsLemmas.Adopting.{front_some, store_apart, store_some}

-- ---- a commit

counted_more : (log : Log) (n : ℕ) (entry : Option StoredEntry) → n ≡ len log → IfSome entry (λ _. get log (pos n) ≡ None) → count_with n (optional_entry entry) ≡ len (with_entry (pos n) log (optional_entry entry))
counted_more log n None is free = is
counted_more log n (Some v) is free = let lacks : contains_key log (pos n) ≡ false = rw free refl in ap (λ m. m + 1) is ∙ sym (len-insert int_cmp_total log (pos n) (item_of v) ∙ ap (λ b. cond b (len log) (len log + 1)) lacks)

abbrev HasEach : Log → Type 0
HasEach log = (version : ℕ) → version < len log → IsSome (get log (pos version))

-- an entry at a version that had none, the first above the count, fills no gap and leaves none
whole_still : (log : Log) (n : ℕ) (entry : Option StoredEntry) → n ≡ len log → IfSome entry (λ _. get log (pos n) ≡ None) → HasEach log ↔ HasEach (with_entry (pos n) log (optional_entry entry))
whole_still log n None is free = (λ each. each, λ each. each)
whole_still log n (Some v) is free =
    let count = counted_more log n (Some v) is free in
    let at = λ (version : ℕ). get-insert int_cmp_total log (pos n) (item_of v) (pos version) in (
      λ each version less. elim (cases_Bool (eq_by_cmp int_cmp (pos version) (pos n))) [
        | inl here ↦ ap is_some (at version) ∙ rw here refl
        | inr other ↦
            let apart : version ≡ n → ⊥ = λ same. let yes : eq_by_cmp int_cmp (pos version) (pos n) ≡ true = subst (λ (k : ℕ). eq_by_cmp int_cmp (pos version) (pos k) ≡ true) same ((eq_by_cmp_equiv int_cmp_total).refl (pos version)) in
            let no : true ≡ false = sym yes ∙ other in absurd cc in
            ap is_some (at version) ∙ ap (λ b. is_some (cond b (Some (item_of v)) (get log (pos version)))) other ∙ each version (omega (arith, less, count, is, apart))
      ],
      λ each version less.
          let other : eq_by_cmp int_cmp (pos version) (pos n) ≡ false = elim (cases_Bool (eq_by_cmp int_cmp (pos version) (pos n))) [
            | inl same ↦ absurd (let k : pos version ≡ pos n = exact_signed (pos version) (pos n) (equal_from _ same) in let m : version ≡ n = cc in omega (arith, less, is, m))
            | inr apart ↦ apart
          ] in
          sym (ap is_some (at version) ∙ ap (λ b. is_some (cond b (Some (item_of v)) (get log (pos version)))) other) ∙ each version (omega (arith, less, count, is)),
    )

through : {A B C : Type 0} → A ↔ B → B ↔ C → A ↔ C
through p q = (λ a. q.0 (p.0 a), λ c. p.1 (q.1 c))

-- what is said of a log with the entry of a batch
log_written : (before after : Contents) (batch : Batch) (log next : LogFound) → IsLogOf before log → after ≡ with_batch batch (pos log.entries) before → IfSome batch.log (λ _. get before.log (pos log.entries) ≡ None)
    → next.entries ≡ count_with log.entries (optional_entry batch.log) → next.is_whole ≡ log.is_whole → next.entries < 2 ^ 32 → IsLogOf after next
log_written before after batch log next old is free entries whole fits = record {
  fits = fits;
  counted = entries ∙ counted_more before.log log.entries batch.log old.counted free ∙ sym (ap (λ (k : Contents). len k.log) is);
  whole = subst (λ b. IsTrue b ↔ HasEachEntry after) (sym whole) (subst (λ (k : Contents). IsTrue log.is_whole ↔ HasEachEntry k) (sym is) (through old.whole (whole_still before.log log.entries batch.log old.counted free)));
}

-- ---- what a stop leaves

pub quiet_leaves : (old new : State) → Survives old new (λ _. ⊥) → (HasCleanDisk old → LeavesStore old) → HasCleanDisk new → LeavesStore new
quiet_leaves old new quiet opens clean trees left = elim (quiet.crash clean trees left) [ inl before ↦ opens (omega (arith, clean, quiet.clean)) trees before | inr none ↦ absurd none ]

-- a connection that is open on a store's tables leaves what it shows
pub settled_leaves : (s : State) (log : LogFound) → IsTrue s.is_open → IsLive s → IsReady s → IsLogOf (contents_in s.now.trees) log → ((db : Trees) → s.may_leave db → db ≡ s.committed.trees) → LeavesStore s
settled_leaves s log opened live ready is leaves trees left =
    let same : s.now ≡ store_over s.now.trees = λ i. record { schema = ready.kept.schema i; trees = s.now.trees } in
    let kept : AreKept s.now.trees = record { sound = subst IsDatabase same (live opened).0; kept = subst IsKept same ready.kept } in
    subst OpenAsStore (sym (leaves trees left ∙ ap (λ (d : Database). d.trees) ready.settled)) (record { kept = kept; log = log; log_is = is })

-- a store that is closed
pub closed_shows : {S : Type 0} (g : Ghosts S) (conn last : Held S) (log : LogFound) → IsSteady g conn last log → IsLive (state g conn) → HasCleanDisk (state g conn) → IsTrue (state g conn).is_open
    → ShowsStore (contents_in (state g last).now.trees) (state g conn)
closed_shows g conn last log steady live clean opened =
    let ready = steady.ready clean opened in
    let held : contents_in (state g conn).now.trees ≡ contents_in (state g last).now.trees = steady.same clean opened in
    let same : (state g conn).now ≡ store_over (state g conn).now.trees = λ i. record { schema = ready.kept.schema i; trees = (state g conn).now.trees } in
    let kept : AreKept (state g conn).now.trees = record { sound = subst IsDatabase same (live opened).0; kept = subst IsKept same ready.kept } in
    let is : IsLogOf (contents_in (state g conn).now.trees) log = subst (λ (k : Contents). IsLogOf k log) (sym held) (steady.log clean) in
    let back : (state g conn).now.trees ≡ (state g conn).committed.trees = ap (λ (d : Database). d.trees) (sym ready.settled) in
    record { settled = ready.settled; opens = subst OpenAsStore back (record { kept = kept; log = log; log_is = is }); held_is = sym held ∙ ap contents_in back }

-- what a stop may leave of a commit opens as a store too
module _ {S : Type 0} (g : Ghosts S) (old : Kept S) (conn : Held S) (batch : Batch) (next : LogFound) (steady : IsSteady g old.conn old.last old.log)
    (survives : Survives (state g old.conn) (state g conn) (HasBatch batch (pos old.log.entries) (state g old.conn)))
    (entries : next.entries ≡ count_with old.log.entries (optional_entry batch.log)) (whole : next.is_whole ≡ old.log.is_whole) (fits : next.entries < 2 ^ 32) where
  batch_opens : HasCleanDisk (state g old.conn) → (trees : Trees) → HasBatch batch (pos old.log.entries) (state g old.conn) trees → OpenAsStore trees
  batch_opens early trees has =
      let there = steady.same early has.was_open in
      record {
        kept = has.kept;
        log = next;
        log_is = log_written (contents_in (state g old.conn).now.trees) (contents_in trees) batch old.log next (subst (λ (k : Contents). IsLogOf k old.log) (sym there) (steady.log early)) has.contents has.free entries whole fits;
      }

  written_leaves : HasCleanDisk (state g conn) → LeavesStore (state g conn)
  written_leaves clean trees left =
      let early : HasCleanDisk (state g old.conn) = omega (arith, clean, survives.clean) in
      elim (survives.crash clean trees left) [ inl before ↦ steady.left early trees before | inr has ↦ batch_opens early trees has ]

  pub written_steady : conn.in_transaction ≡ false → (HasCleanDisk (state g conn) → IsWritten (with_batch batch (pos old.log.entries) (contents_in (state g old.conn).now.trees)) (state g old.conn) (state g conn))
      → (HasCleanDisk (state g conn) → IfSome batch.log (λ _. get (contents_in (state g old.conn).now.trees).log (pos old.log.entries) ≡ None)) → IsSteady g conn conn next
  written_steady idle written free = record {
    idle = idle;
    ready = λ clean _. (written clean).ready;
    same = λ _ _. refl;
    log = λ clean.
        let w = written clean in
        let early : HasCleanDisk (state g old.conn) = omega (arith, clean, survives.clean) in
        let there = steady.same early w.was_open in
        log_written (contents_in (state g old.conn).now.trees) (contents_in (state g conn).now.trees) batch old.log next (subst (λ (k : Contents). IsLogOf k old.log) (sym there) (steady.log early)) w.contents (free clean) entries whole fits;
    left = written_leaves;
  }

  -- a commit that failed
  pub undone_steady : conn.in_transaction ≡ false → (HasCleanDisk (state g conn) → IsUndone (state g old.conn) (state g conn)) → IsSteady g conn old.last old.log
  undone_steady idle undone = record {
    idle = idle;
    ready = λ clean opened.
        let early : HasCleanDisk (state g old.conn) = omega (arith, clean, survives.clean) in
        let u = undone clean in
        let was = steady.ready early (u.was_open opened) in
        let same : (state g conn).now ≡ (state g old.conn).now = u.now opened ∙ was.settled in
        record { kept = subst IsKept (sym same) was.kept; settled = u.committed opened ∙ was.settled ∙ sym same };
    same = λ clean opened.
        let early : HasCleanDisk (state g old.conn) = omega (arith, clean, survives.clean) in
        let u = undone clean in
        let was = steady.ready early (u.was_open opened) in
        ap (λ (d : Database). contents_in d.trees) (u.now opened ∙ was.settled) ∙ steady.same early (u.was_open opened);
    log = λ clean. steady.log (omega (arith, clean, survives.clean));
    left = written_leaves;
  }

-- ---- a commit that failed

batch_is : (log : LogFound) (batch : Batch) (contents : Contents) → IsLogOf contents log → with_batch batch (pos log.entries) contents ≡ after_batch batch contents
batch_is log batch contents is = ap (λ (n : ℕ). with_batch batch (pos n) contents) is.counted

failed_again : (fault : StoreFault) (T : Type 0) → ◌≡◌ {A = Result T StoreFault} (Err fault) (Err Device) → fault ≡ Device
failed_again fault T e = cc

pub commit_failed : {S : Type 0} (g : Ghosts S) (old : Kept S) (conn : Held S) (batch : Batch) (failures : ℕ) (fault : StoreFault) → IsSteady g old.conn old.last old.log
    → Survives (state g old.conn) (state g conn) (HasBatch batch (pos old.log.entries) (state g old.conn)) → IsToldAs fault old.failures failures
    → Commits (λ (s : Kept S). HasCleanDisk (state g s.conn)) (λ (s : Kept S). holds g s) (λ (s : Kept S). s.failures) (λ (s : Kept S). MayLeave g s) (λ (s : Kept S). s.misreads) {T = Unit {0}} (after_batch batch (holds g old)) old
    (record { conn = conn; last = old.last; log = old.log; failures = failures; misreads = old.misreads }) (Err fault)
commit_failed g old conn batch failures fault steady survives told = record {
  was_honest = λ clean. omega (arith, clean, survives.clean);
  ok = λ _. tt;
  err = λ _. refl;
  durable = λ _. tt;
  crash = λ clean left m.
      let early : HasCleanDisk (state g old.conn) = omega (arith, clean, survives.clean) in
      elim (survives.crash clean m.0 m.1) [
        | inl before ↦ inl (m.0, before, m.2)
        | inr has ↦ inr (m.2 ∙ has.contents ∙ ap (with_batch batch (pos old.log.entries)) (steady.same early has.was_open) ∙ batch_is old.log batch (holds g old) (steady.log early))
      ];
  failures = record { kept = tt; later = told.later; cause = λ e. told.cause (failed_again fault (Unit {0}) e) };
  as_read = refl;
}

-- ---- a store that is made

pub over_steady : {S : Type 0} (g : Ghosts S) (conn : Held S) (log : LogFound) → conn.in_transaction ≡ false → (HasCleanDisk (state g conn) → IsReady (state g conn))
    → (HasCleanDisk (state g conn) → IsLogOf (contents_in (state g conn).now.trees) log) → (HasCleanDisk (state g conn) → LeavesStore (state g conn)) → IsSteady g conn conn log
over_steady g conn log idle ready is opens = record { idle = idle; ready = λ clean _. ready clean; same = λ _ _. refl; log = is; left = opens }

laid_is : (trees : Trees) → IsEmptyIn store_schema trees → contents_in trees ≡ nothing
laid_is trees empty = rw (empty.0, empty.1.0, empty.1.1.0, empty.1.1.1.0) refl

laid_kept : (db : Database) → db.schema ≡ store_schema → IsEmptyIn store_schema db.trees → IsKept db
laid_kept db schema empty = record {
  schema = schema;
  rows = rw empty.0 (record { typed = tt; ids_apart = tt; keys_apart = tt });
  meta = rw empty.1.0 (record { typed = tt; ids_apart = tt; keys_apart = tt });
  log = rw empty.1.1.0 (record { typed = tt; ids_apart = tt; keys_apart = tt });
  pending = rw empty.1.1.1.0 (record { typed = tt; ids_apart = tt; keys_apart = tt });
}

pub laid_ready : (old new : State) → IsLaidOut old new → IsReady new
laid_ready old new laid = record { kept = laid_kept new.now laid.schema_is laid.empty; settled = laid.settled }

abbrev pub empty_log : LogFound
empty_log = record { entries = 0; is_whole = true }

laid_log_is : (trees : Trees) → IsEmptyIn store_schema trees → IsLogOf (contents_in trees) empty_log
laid_log_is trees empty = subst (λ (k : Contents). IsLogOf k empty_log) (sym (laid_is trees empty)) (record {
  counted = sym (len-empty int_cmp LogItem);
  whole = (λ _ version less. absurd (let none = len-empty int_cmp LogItem in omega (arith, less, none)), λ _. refl);
  fits = omega arith;
})

pub laid_log : (old new : State) → IsLaidOut old new → IsLogOf (contents_in new.now.trees) empty_log
laid_log old new laid = laid_log_is new.now.trees laid.empty

laid_opens : (trees : Trees) → AreLaidOut trees → OpenAsStore trees
laid_opens trees laid = record {
  kept = record { sound = laid.0; kept = laid_kept (store_over trees) refl laid.1 };
  log = empty_log;
  log_is = laid_log_is trees laid.1;
}

pub laid_survives : (old new : State) → (HasCleanDisk old → IsAt no_schema old) → Survives old new AreLaidOut → Survives old new (IsMadeOf old.now)
laid_survives old new at s = record {
  clean = s.clean;
  shield = s.shield;
  counts = s.counts;
  limit = s.limit;
  closes = s.closes;
  crash = λ clean db left. elim (s.crash clean db left) [ inl before ↦ inl before | inr laid ↦ inr (laid_opens db laid, inl ((at (omega (arith, clean, s.clean))).schema_is, laid_is db laid.1)) ];
}

completed_is : (old new : Trees) → AddsTable Pending old new → contents_in new ≡ front_in old
completed_is old new adds = rw (adds.others.0, adds.others.1.0, adds.others.1.1.0, adds.empty) refl

completed_kept : (old new : Database) → IsFrontKept old.trees → new.schema ≡ store_schema → AddsTable Pending old.trees new.trees → IsKept new
completed_kept old new kept schema adds = record {
  schema = schema;
  rows = rw adds.others.0 kept.rows;
  meta = rw adds.others.1.0 kept.meta;
  log = rw adds.others.1.1.0 kept.log;
  pending = rw adds.empty (record { typed = tt; ids_apart = tt; keys_apart = tt });
}

pub completed_ready : (old new : State) → IsFrontKept old.now.trees → IsCompleted old new → IsReady new
completed_ready old new kept done = record { kept = completed_kept old.now new.now kept done.schema_is done.added; settled = done.settled }

pub completed_log : (old new : State) (log : LogFound) → IsLogOf (front_in old.now.trees) log → IsCompleted old new → IsLogOf (contents_in new.now.trees) log
completed_log old new log is done = subst (λ (k : Contents). IsLogOf k log) (sym (completed_is old.now.trees new.now.trees done.added)) is

completed_opens : (old : Database) (trees : Trees) (log : LogFound) → IsFrontKept old.trees → IsLogOf (front_in old.trees) log → AreCompleted old.trees trees → OpenAsStore trees
completed_opens old trees log kept is done = record {
  kept = record { sound = done.0; kept = completed_kept old (store_over trees) kept refl done.1 };
  log = log;
  log_is = subst (λ (k : Contents). IsLogOf k log) (sym (completed_is old.trees trees done.1)) is;
}

pub completed_survives : (old new : State) (log : LogFound) → (HasCleanDisk old → IsAt front_schema old) → (HasCleanDisk old → IsFrontKept old.now.trees) → (HasCleanDisk old → IsLogOf (front_in old.now.trees) log)
    → Survives old new (AreCompleted old.now.trees) → Survives old new (IsMadeOf old.now)
completed_survives old new log at kept is s = record {
  clean = s.clean;
  shield = s.shield;
  counts = s.counts;
  limit = s.limit;
  closes = s.closes;
  crash = λ clean db left.
      let early : HasCleanDisk old = omega (arith, clean, s.clean) in
      elim (s.crash clean db left) [ inl before ↦ inl before | inr done ↦ inr (completed_opens old.now db log (kept early) (is early) done, inr (log, ((at early).schema_is, kept early, is early), completed_is old.now.trees db done.1)) ];
}

-- a store just made over a connection that is open holds what it shows, and a stop leaves that alone
fresh_over : {S : Type 0} (g : Ghosts S) (conn : Held S) (log : LogFound) (found : Contents) → contents_in (state g conn).now.trees ≡ found → (state g conn).committed ≡ (state g conn).now
    → ((db : Trees) → (state g conn).may_leave db → db ≡ (state g conn).committed.trees) → LeavesStore (state g conn) → IsFresh g (made_over conn log) found
fresh_over g conn log found is settled leaves opens = record {
  holds_is = is;
  durable = λ left m. m.2 ∙ ap contents_in (leaves m.0 m.1 ∙ ap (λ (d : Database). d.trees) settled) ∙ is;
  opens = opens;
}

pub laid_fresh : {S : Type 0} (g : Ghosts S) (start : State) (conn : Held S) → IsLaidOut start (state g conn) → ((db : Trees) → (state g conn).may_leave db → db ≡ (state g conn).committed.trees)
    → LeavesStore (state g conn) → IsFresh g (made_over conn empty_log) nothing
laid_fresh g start conn laid leaves opens = fresh_over g conn empty_log nothing (laid_is (state g conn).now.trees laid.empty) laid.settled leaves opens

pub completed_fresh : {S : Type 0} (g : Ghosts S) (start : State) (conn : Held S) (log : LogFound) → IsCompleted start (state g conn) → ((db : Trees) → (state g conn).may_leave db → db ≡ (state g conn).committed.trees)
    → LeavesStore (state g conn) → IsFresh g (made_over conn log) (front_in start.now.trees)
completed_fresh g start conn log done leaves opens = fresh_over g conn log (front_in start.now.trees) (completed_is start.now.trees (state g conn).now.trees done.added) done.settled leaves opens

-- ---- a connection that is given back

pub undone_stays : (schema : Schema) (old new : State) → IsAt schema old → IsUndone old new → Stays old new
undone_stays schema old new at undone = record { was_open = undone.was_open; now = λ opened. undone.now opened ∙ at.settled; committed = undone.committed }

pub given_back : {S : Type 0} (g : Ghosts S) (schema : Schema) (start : State) (conn : Held S) → conn.in_transaction ≡ false → (HasCleanDisk start → IsAt schema start) → Survives start (state g conn) (IsMadeOf start.now)
    → (HasCleanDisk (state g conn) → IsUndone start (state g conn)) → IsGivenBack g start conn
given_back g schema start conn idle at survives undone = record {
  idle = idle;
  stays = λ clean. undone_stays schema start (state g conn) (at (omega (arith, clean, survives.clean))) (undone clean);
  survives = survives;
}

pub quiet_back : {S : Type 0} (g : Ghosts S) (start : State) (conn : Held S) → conn.in_transaction ≡ false → Survives start (state g conn) (λ _. ⊥) → (HasCleanDisk (state g conn) → Stays start (state g conn)) → IsGivenBack g start conn
quiet_back g start conn idle quiet stays = record { idle = idle; stays = stays; survives = made_none start (state g conn) quiet }
  where
    made_none : (old new : State) → Survives old new (λ _. ⊥) → Survives old new (IsMadeOf old.now)
    made_none old new s = record {
      clean = s.clean;
      shield = s.shield;
      counts = s.counts;
      limit = s.limit;
      closes = s.closes;
      crash = λ clean db left. elim (s.crash clean db left) [ inl before ↦ inl before | inr none ↦ absurd none ];
    }

-- ---- a database that was looked at

pub untouched_at : (schema : Schema) (old new : State) → old.now.schema ≡ schema → IsUntouched old new → IsAt schema new
untouched_at schema old new is u = record { is_open = u.is_open; settled = u.settled; schema_is = ap (λ (d : Database). d.schema) u.now ∙ is }

-- what is made of a database that was looked at is made of it as it was
survives_later : (start mid new : State) → (HasCleanDisk mid → mid.now ≡ start.now) → Survives start mid (λ _. ⊥) → Survives mid new (IsMadeOf mid.now) → Survives start new (IsMadeOf start.now)
survives_later start mid new same first s =
    survives_then start mid new (λ _. ⊥) (IsMadeOf mid.now) (IsMadeOf start.now) (λ _ db none. absurd none) (λ clean db made. subst (λ (d : Database). IsMadeOf d db) (same (omega (arith, clean, s.clean))) made) first s

pub all_survive : {S X : Type 0} (g : Ghosts S) (start mid : State) → (HasCleanDisk mid → mid.now ≡ start.now) → (r : Result (Kept S) X) → Survives start mid (λ _. ⊥) → IfOk r (λ s. Survives mid (state g s.conn) (IsMadeOf mid.now))
    → IfOk r (λ s. Survives start (state g s.conn) (IsMadeOf start.now))
all_survive g start mid same (Ok s) first h = survives_later start mid (state g s.conn) same first h
all_survive g start mid same (Err e) first h = tt

stays_then : (a b c : State) → Stays a b → Stays b c → Stays a c
stays_then a b c p q = record {
  was_open = λ o. p.was_open (q.was_open o);
  now = λ o. q.now o ∙ p.now (q.was_open o);
  committed = λ o. q.committed o ∙ p.committed (q.was_open o);
}

pub all_back : {S F : Type 0} (g : Ghosts S) (start mid : State) → (HasCleanDisk mid → mid.now ≡ start.now) → (r : Result (Kept S) (Held S × F)) → Survives start mid (λ _. ⊥) → (HasCleanDisk mid → Stays start mid)
    → IfErr r (λ e. IsGivenBack g mid e.0) → IfErr r (λ e. IsGivenBack g start e.0)
all_back g start mid same (Ok s) first stays h = tt
all_back g start mid same (Err e) first stays h = record {
  idle = h.idle;
  stays = λ clean. stays_then start mid (state g e.0) (stays (omega (arith, clean, h.survives.clean))) (h.stays clean);
  survives = survives_later start mid (state g e.0) same first h.survives;
}

pub fresh_adopted : {S X : Type 0} (g : Ghosts S) (start mid : State) (r : Result (Kept S) X) → (HasCleanDisk mid → start.now.schema ≡ no_schema) → (HasCleanDisk mid → IsUntouched start mid) → IfOk r (λ s. Survives mid (state g s.conn) (IsMadeOf mid.now))
    → IfOk r (λ s. HasCleanDisk (state g s.conn) → IsFresh g s nothing) → IfOk r (λ s. HasCleanDisk (state g s.conn) → IsAdopted g start s)
fresh_adopted g start mid (Err e) schema untouched survives made = tt
fresh_adopted g start mid (Ok s) schema untouched survives made = λ clean.
    let early : HasCleanDisk mid = omega (arith, clean, survives.clean) in
    let u = untouched early in
    let f = made clean in
    record { was_open = u.was_open; from = inl (schema early, f.holds_is); durable = λ left m. f.durable left m ∙ sym f.holds_is; opens = f.opens }

pub front_adopted : {S X : Type 0} (g : Ghosts S) (start mid : State) (r : Result (Kept S) X) (log : LogFound) → (HasCleanDisk mid → IsFrontOf log start.now) → (HasCleanDisk mid → IsUntouched start mid)
    → IfOk r (λ s. Survives mid (state g s.conn) (IsMadeOf mid.now)) → IfOk r (λ s. HasCleanDisk (state g s.conn) → IsFresh g s (front_in mid.now.trees)) → IfOk r (λ s. HasCleanDisk (state g s.conn) → IsAdopted g start s)
front_adopted g start mid (Err e) log front untouched survives made = tt
front_adopted g start mid (Ok s) log front untouched survives made = λ clean.
    let early : HasCleanDisk mid = omega (arith, clean, survives.clean) in
    let u = untouched early in
    let f = made clean in
    let holds_it : holds g s ≡ front_in start.now.trees = f.holds_is ∙ ap (λ (d : Database). front_in d.trees) u.now in
    record { was_open = u.was_open; from = inr (inl (log, front early, holds_it)); durable = λ left m. f.durable left m ∙ sym f.holds_is; opens = f.opens }

pub ours_adopted : {S : Type 0} (g : Ghosts S) (start : State) (conn : Held S) (log : LogFound) → IsStoreOf log start.now → IsUntouched start (state g conn)
    → ((db : Trees) → (state g conn).may_leave db → db ≡ (state g conn).committed.trees) → LeavesStore (state g conn) → IsAdopted g start (made_over conn log)
ours_adopted g start conn log ours u leaves opens =
    let holds_it : contents_in (state g conn).now.trees ≡ contents_in start.now.trees = ap (λ (d : Database). contents_in d.trees) u.now in
    record {
      was_open = u.was_open;
      from = inr (inr (log, ours, holds_it));
      durable = λ left m. m.2 ∙ ap contents_in (leaves m.0 m.1 ∙ ap (λ (d : Database). d.trees) u.settled);
      opens = opens;
    }

pub ours_ready : (old new : State) → IsKept old.now → IsUntouched old new → IsReady new
ours_ready old new kept u = record { kept = subst IsKept (sym u.now) kept; settled = u.settled }

pub ours_log : (old new : State) (log : LogFound) → IsLogOf (contents_in old.now.trees) log → IsUntouched old new → IsLogOf (contents_in new.now.trees) log
ours_log old new log is u = subst (λ (d : Database). IsLogOf (contents_in d.trees) log) (sym u.now) is

-- ---- what a connection that is given back leaves

-- what a store over what was made holds is what a store over what was shown would
holds_made : (db : Database) (trees : Trees) (held : Contents) → IsHeldIn db held
    → ((db.schema ≡ no_schema) × (contents_in trees ≡ nothing)) ⊎ ((log : LogFound) × IsFrontOf log db × (contents_in trees ≡ front_in db.trees)) → held ≡ contents_in trees
holds_made db trees held (inl fresh) (inl none) = fresh.1 ∙ sym none.1
holds_made db trees held (inl fresh) (inr front) = absurd (front_some (sym front.1.0 ∙ fresh.0))
holds_made db trees held (inr (inl was)) (inl none) = absurd (front_some (sym was.1.0 ∙ none.0))
holds_made db trees held (inr (inl was)) (inr front) = was.2 ∙ sym front.2
holds_made db trees held (inr (inr ours)) (inl none) = absurd (store_some (sym ours.1.0.schema ∙ none.0))
holds_made db trees held (inr (inr ours)) (inr front) = absurd (store_apart (sym ours.1.0.schema ∙ front.1.0))

-- no view is in a database that a store takes
held_bare : (db : Database) (held : Contents) → IsHeldIn db held → db.schema.views ≡ []
held_bare db held (inl fresh) = ap (λ (s : Schema). s.views) fresh.0
held_bare db held (inr (inl front)) = ap (λ (s : Schema). s.views) front.1.0
held_bare db held (inr (inr ours)) = ap (λ (s : Schema). s.views) ours.1.0.schema

pub leaves_held : (old new : State) → IsLive old → (IsTrue old.is_open → old.now ≡ old.committed) → ((db : Trees) → IsTrue old.is_open → old.may_leave db → db ≡ old.committed.trees) → Survives old new (IsMadeOf old.now) → HasCleanDisk new
    → LeavesHeld old new
leaves_held old new live settled leaves survives clean opened db sound left held is = elim (survives.crash clean db.trees left) [
  | inl before ↦
      let same : db.trees ≡ old.now.trees = leaves db.trees opened before ∙ ap (λ (d : Database). d.trees) (sym (settled opened)) in
      subst (λ d. IsHeldIn d held) (sym (shows_same old.now db (held_bare old.now held is) (live opened).0 sound same)) is
  | inr made ↦
      let opens = made.0 in
      let shows = shows_store db.trees db opens.kept.sound sound refl in
      inr (inr (opens.log, subst (IsStoreOf opens.log) (sym shows) (opens.kept.kept, opens.log_is), holds_made old.now db.trees held is made.1))
]

pub all_leave : {S F : Type 0} (g : Ghosts S) (start : State) (r : Result (Kept S) (Held S × F)) → IsLive start → (IsTrue start.is_open → start.now ≡ start.committed) → ((db : Trees) → IsTrue start.is_open → start.may_leave db → db ≡ start.committed.trees)
    → IfErr r (λ e. IsGivenBack g start e.0) → IfErr r (λ e. HasCleanDisk (state g e.0) → LeavesHeld start (state g e.0))
all_leave g start (Ok s) live settled leaves back = tt
all_leave g start (Err e) live settled leaves back = leaves_held start (state g e.0) live settled leaves back.survives

-- ---- why a connection is given back

-- a fault that isn't told as want of memory is one of the engine's
pub told_fails : (old new : State) (e : Error) (fault : StoreFault) → (e ≡ SqliteFailure OutOfMemory → fault ≡ Memory) → IsCaused old new e → fault ≡ Device → EngineFails old new
told_fails old new e fault memory (inl is) told = absurd (let same : Memory ≡ Device = sym (memory is) ∙ told in cc)
told_fails old new e fault memory (inr fails) told = fails

pub all_caused : {S : Type 0} (g : Ghosts S) (start mid : State) (r : Result (Kept S) (Held S × StoreFault)) → Survives start mid (λ _. ⊥) → (HasCleanDisk mid → IsUntouched start mid) → IfErr r (λ e. IsGivenBack g mid e.0)
    → IfErr r (λ e. HasCleanDisk (state g e.0) → e.1 ≡ Device → EngineFails mid (state g e.0)) → IfErr r (λ e. HasCleanDisk (state g e.0) → e.1 ≡ Device → EngineFails start (state g e.0) ⊎ ShowsForeign start)
all_caused g start mid (Ok s) first untouched back fails = tt
all_caused g start mid (Err e) first untouched back fails = λ clean told.
    let early : HasCleanDisk mid = let later = back.survives.clean in omega (arith, clean, later) in
    inl (fails_later start mid (state g e.0) (λ _. ⊥) first (λ _. (untouched early).is_open) (fails clean told))

-- ---- a store in memory

only_fault : (fault : StoreFault) → ¬ (fault ≡ Device) → fault ≡ Memory
only_fault Memory none = refl
only_fault Device none = absurd (none refl)

memory_serves : (conn given : Held MemStore) → IsEmpty (state over_memory conn) → IsNew conn → ¬ EngineFails (state over_memory conn) (state over_memory given)
memory_serves conn given empty fresh (inl disk) = absurd (omega (arith, disk))
memory_serves conn given empty fresh (inr (inl shut)) = absurd (let both : true ≡ false = sym empty.0.is_open ∙ shut in cc)
memory_serves conn given empty fresh (inr (inr limit)) = absurd (let none = subst IsSome fresh.unlimited limit in cc)

-- no store in memory is refused but for want of memory
pub only_memory : (conn given : Held MemStore) (fault : StoreFault) → IsEmpty (state over_memory conn) → IsNew conn → (fault ≡ Device → EngineFails (state over_memory conn) (state over_memory given)) → fault ≡ Memory
only_memory conn given fault empty fresh fails = only_fault fault (λ told. memory_serves conn given empty fresh (fails told))
