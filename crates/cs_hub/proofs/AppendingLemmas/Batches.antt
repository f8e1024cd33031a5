-- An entry that was tried, and its commit.
use Rattle.std.proofs.Common.{◌≡◌, ◌+◌, ◌∙◌, ◌∷◌, ◌++◌, [], ℕ, List, length, Option, Some, None, IsSome, Result, Ok, Err, refl, sym, ap, subst, arith, length-append}
use Rattle.cs_value.specs.Key.{Place}
use Rattle.cs_value.specs.Catalog.{AreTables}
use Rattle.cs_value.specs.declared.catalog.TableDef.{TableDef}
use Rattle.cs_normal.specs.State.{State, IsDefinedOn}
use Rattle.cs_normal.specs.declared.normal.TableChanges.{TableChanges}
use Rattle.cs_widening.specs.Widening.{widened, widened_tables}
use Rattle.cs_store.specs.log.Entry.{MayWiden, changes_of_body, entry_changes}
use Rattle.cs_store.specs.log.Log.{IsMade, IsNextEntry, catalog_at, catalog_next, state_of}
use Rattle.cs_store.specs.log.Widens.{CatalogByWidens, WidenAt, WidensGrow, widen_at, widens_from}
use Rattle.cs_store.specs.log.Stored.{IsEntryOf}
use Rattle.cs_store.specs.declared.log.body.Body.{Body}
use Rattle.cs_store.specs.declared.log.body.Body.TheVariants.{Changes, Widen}
use Rattle.cs_store.specs.declared.log.entry.LogEntry.{LogEntry}
use Rattle.cs_store.specs.Calls.{Commits}
use Rattle.cs_store.specs.Contents.{Contents}
use Rattle.cs_store.specs.States.{AreEdits, Holds}
use Rattle.cs_store.specs.Written.{after_batch}
use Rattle.cs_store.specs.declared.batch.Batch.{Batch}
use Rattle.cs_store.specs.edits.Edits.{BodyEdit}
use Rattle.cs_store.specs.declared.fault.StoreFault.{StoreFault}
use Rattle.cs_store.specs.declared.fault.StoreFault.TheVariants as stored
use Rattle.cs_store.specs.declared.store.RowStore.{Ghosts}
use Rattle.cs_pending.specs.Calls.{ReadsStore, WritesStore}
use Rattle.cs_pending.specs.Storing.{WasRead, committed, not_committed, not_read, only_read, same_err, then_not_written, then_written}
use Rattle.cs_hub.specs.log_store.Laws.{AppendShows}
use Rattle.cs_hub.specs.log_store.Later.{tables_behind}
use Rattle.cs_hub.specs.log_store.Versions.{ShowsBy, ShowsSomeBy, Versions, newest_tables}
use Rattle.cs_hub.specs.appending.Appended.{AppendsEntry, IsAppendFault, IsAppendedIn, IsFirstConflict}
use Rattle.cs_hub.specs.appending.Steps.{IsBatchOf, IsMadeBy, IsNotTried, IsTried}
use Rattle.cs_hub.specs.declared.appending.fault.AppendFault.{AppendFault}
use Rattle.cs_hub.specs.declared.appending.fault.AppendFault.TheVariants.{Memory, Conflict as OnConflict, Device}
use Rattle.cs_hub.proofs.LogStoreLemmas.Versions.{behind_shown, newest_shown}

some_is : (left : Option Place) (place : Place) → left ≡ Some place → IsSome left
some_is None place e = absurd cc
some_is (Some p) place e = refl

-- what is made is defined
defined_by : (tables : List TableDef) (body : Body) (before after : State) → IsMade tables body before after → IsDefinedOn tables (changes_of_body body) before
defined_by tables (Changes changes) before after applied = (applied.0, λ name key. some_is _ _ (applied.1 name key))
defined_by tables (Widen table width) before after made = (tt, λ name key. refl)

-- what a changeset leaves, it makes
pub changes_made : (tables : List TableDef) (changes : List TableChanges) (contents : Contents) (before : State) (edits : List BodyEdit) → IsTried tables changes contents before edits → IsMadeBy tables (Changes changes) contents before edits
changes_made tables changes contents before edits tried = tried

-- and so are the columns that a table gets
pub widen_made : (tables : List TableDef) (table : List ℕ) (width : ℕ) (contents : Contents) (before : State) (edits : List BodyEdit) → MayWiden tables (Widen table width)
    → AreEdits (widened_tables table width tables) contents edits (widened table width before) → IsMadeBy tables (Widen table width) contents before edits
widen_made tables table width contents before edits may edits_are = (widened table width before, (may, λ name key. refl), edits_are)

module _ (law : CatalogByWidens) (versions : Versions) where
  abbrev Newest : List TableDef
  Newest = newest_tables versions

  abbrev Present : List LogEntry → List TableDef
  Present log = catalog_at versions.opening log (length log)

  same_tables : (contents : Contents) (log : List LogEntry) → ShowsBy versions contents log → Newest ≡ Present log
  same_tables contents log shows = newest_shown law versions log shows.2 shows.1

  pub holds_newest : (contents : Contents) (log : List LogEntry) → ShowsBy versions contents log → Holds Newest contents (state_of log)
  holds_newest contents log shows = subst (λ (t : List TableDef). Holds t contents (state_of log)) (sym (same_tables contents log shows)) shows.0.rows

  module _ (entry : LogEntry) (are : AreTables versions.opening) (fits : IsEntryOf Newest entry) where
    -- the batch of an entry that was tried leaves it appended
    pub appended_in : AppendShows → (old : Contents) (edits : List BodyEdit) (batch : Batch)
        → ((before : State) → Holds Newest old before → IsMadeBy Newest entry.body old before edits)
        → IsBatchOf entry edits batch → IsAppendedIn versions entry old (after_batch batch old)
    appended_in appends old edits batch makes is log shows =
        let same = same_tables old log shows in
        let here : IsEntryOf (Present log) entry = subst (λ (t : List TableDef). IsEntryOf t entry) same fits in
        let made : IsMadeBy (Present log) entry.body old (state_of log) edits = subst (λ (t : List TableDef). IsMadeBy t entry.body old (state_of log) edits) same (makes (state_of log) (holds_newest old log shows)) in
        let next : IsNextEntry versions.opening log entry =
        record { normal = here.changes.0; defined = defined_by (Present log) entry.body (state_of log) made.0 made.1; widens = here.widens } in (
          next,
          appends versions.opening old log entry batch are shows.0 (record {
            next = next;
            fits = here;
            after = made.0;
            made = made.1;
            edits = subst (λ (es : List BodyEdit). AreEdits (catalog_next (Present log) entry) old es made.0) (sym is.rows) made.2;
            no_pending = is.pending;
            no_meta = is.meta;
            item = is.log;
          }),
        )

    -- what is told of one that can't be
    pub told : (contents : Contents) (log : List LogEntry) (fault : AppendFault) → ShowsBy versions contents log → IsNotTried Newest (entry_changes entry) (state_of log) fault → IsAppendFault versions.opening log entry fault
    told contents log Memory shows not = tt
    told contents log (OnConflict conflict) shows not =
        let same = same_tables contents log shows in (
          (λ next. not.0 (subst (λ (t : List TableDef). IsDefinedOn t (entry_changes entry) (state_of log)) (sym same) next.defined)),
          subst (λ (t : List TableDef). IsFirstConflict t (entry_changes entry) (state_of log) conflict) same not.1,
        )
    told contents log Device shows not = tt

-- the tables of the longer log
pub grown_shown : WidensGrow → (versions : Versions) (old new : Contents) (entry : LogEntry) (added : List WidenAt)
    → (MayWiden (tables_behind versions.opening versions.widens) entry.body → added ≡ widen_at versions.newest entry.body)
    → IsAppendedIn versions entry old new → (log : List LogEntry) → ShowsBy versions old log
    → ShowsBy (record { opening = versions.opening; newest = versions.newest + 1; widens = versions.widens ++ added }) new (log ++ entry ∷ [])
grown_shown law versions old new entry added adds appended log shows =
    let is = appended log shows in
    let behind = behind_shown versions.opening versions.widens log shows.2 in
    let may : MayWiden (tables_behind versions.opening versions.widens) entry.body = subst (λ (t : List TableDef). MayWiden t entry.body) (sym behind) is.0.widens in (
      is.1,
      (let count : versions.newest + 1 ≡ length (log ++ entry ∷ []) = omega (arith, shows.1, length-append log (entry ∷ [])) in count),
      ap (λ (ws : List WidenAt). ws ++ added) shows.2
          ∙ ap (λ (ws : List WidenAt). widens_from 0 log ++ ws) (adds may ∙ ap (λ (n : ℕ). widen_at n entry.body) shows.1)
          ∙ sym (law log entry),
    )

-- a fault of a store is told as itself
pub was_device : (fault : StoreFault) (told : AppendFault) → (fault ≡ stored.Memory → told ≡ Memory) × (fault ≡ stored.Device → told ≡ Device) → told ≡ Device → fault ≡ stored.Device
was_device stored.Memory told is at = absurd (let m = is.0 refl in cc)
was_device stored.Device told is at = refl

module _ {S : Type 0} (g : Ghosts S) (versions : Versions) (entry : LogEntry) where
  -- whoever shows a log holds rows of its tables
  holds_rows : CatalogByWidens → (old : S) → ShowsSomeBy versions (g.contents old) → (before : State) × Holds (newest_tables versions) (g.contents old) before
  holds_rows law old (log, shows) = (state_of log, holds_newest law versions (g.contents old) log shows)

  -- memory was wanting before anything was written
  pub not_begun : {T : Type 0} (old : S) → WritesStore g {T = T} stored.Device (ShowsSomeBy versions (g.contents old)) (IsAppendedIn versions entry (g.contents old)) old old (Err stored.Memory)
  not_begun {T} old =
      only_read g {T = T} {U = T} stored.Device stored.Memory (ShowsSomeBy versions (g.contents old)) (IsAppendedIn versions entry (g.contents old)) old old
      (not_read g stored.Device stored.Memory (ShowsSomeBy versions (g.contents old)) old (λ is. let no = is in cc))

  -- a commit of a batch that appends the entry
  pub wrote : (old new : S) (batch : Batch) (result : Result (Unit {0}) StoreFault) → (g.honest old → AppendsEntry versions entry (g.contents old) batch)
      → Commits g.honest g.contents g.failed g.may_leave g.misreads (after_batch batch (g.contents old)) old new result
      → WritesStore g stored.Device (ShowsSomeBy versions (g.contents old)) (IsAppendedIn versions entry (g.contents old)) old new result
  wrote old new batch (Ok t) tried commits =
      committed g stored.Device (ShowsSomeBy versions (g.contents old)) (IsAppendedIn versions entry (g.contents old)) (after_batch batch (g.contents old)) old new t t tried commits
  wrote old new batch (Err fault) tried commits =
      not_committed g fault (ShowsSomeBy versions (g.contents old)) (IsAppendedIn versions entry (g.contents old)) (after_batch batch (g.contents old)) old new tried commits

  module _ (old mid new : S) (read : WasRead g (ShowsSomeBy versions (g.contents old)) old mid) where
    -- what was tried on what the store held is tried on what it holds
    pub still : (batch : Batch) → (g.honest mid → AppendsEntry versions entry (g.contents old) batch) → g.honest mid → AppendsEntry versions entry (g.contents mid) batch
    still batch tried h = subst (λ (was : Contents). AppendsEntry versions entry was batch) (sym (read.same h)) (tried h)

    there : g.honest mid → ShowsSomeBy versions (g.contents old) → ShowsSomeBy versions (g.contents mid)
    there h shows = subst (ShowsSomeBy versions) (sym (read.same h)) shows

    since : g.honest mid → (c : Contents) → IsAppendedIn versions entry (g.contents mid) c → IsAppendedIn versions entry (g.contents old) c
    since h c i = subst (λ (was : Contents). IsAppendedIn versions entry was c) (read.same h) i

    abbrev Writes : {T E : Type 0} → E → S → Result T E → Type 0
    Writes device from result =
        WritesStore g device (ShowsSomeBy versions (g.contents from)) (IsAppendedIn versions entry (g.contents from)) from new result

    pub then_wrote : {T U : Type 0} (t : T) (u : U) → Writes stored.Device mid (Ok t) → Writes Device old (Ok u)
    then_wrote t u writes =
        then_written g (IsAppendedIn versions entry (g.contents mid)) (IsAppendedIn versions entry (g.contents old)) (ShowsSomeBy versions (g.contents old)) (ShowsSomeBy versions (g.contents mid)) (ShowsSomeBy versions (g.contents old))
        old mid new (λ r. r) there since read stored.Device Device t u writes

    pub then_wrote_not : {T U : Type 0} (fault : StoreFault) (told : AppendFault) → (told ≡ Device → fault ≡ stored.Device) → Writes {T = T} stored.Device mid (Err fault) → Writes {T = U} Device old (Err told)
    then_wrote_not {T} {U} fault told was writes =
        then_not_written g (IsAppendedIn versions entry (g.contents mid)) (IsAppendedIn versions entry (g.contents old)) (ShowsSomeBy versions (g.contents old)) (ShowsSomeBy versions (g.contents mid)) (ShowsSomeBy versions (g.contents old))
        old mid new (λ r. r) there since read {T = T} {U = U} stored.Device fault Device told was writes

  -- ---- what was tried, told by the log that was shown

  -- reads of rows of the tables are reads of a log
  pub as_log_read : CatalogByWidens → {T U : Type 0} (old new : S) (t : T) (u : U) → ReadsStore g Device ((before : State) × Holds (newest_tables versions) (g.contents old) before) old new (Ok t)
      → ReadsStore g Device (ShowsSomeBy versions (g.contents old)) old new (Ok u)
  as_log_read law old new t u reads = record {
    was_honest = reads.was_honest;
    same = reads.same;
    crash = reads.crash;
    kept = reads.kept;
    later = reads.later;
    cause = λ e. absurd cc;
    as_read = λ h r. reads.as_read h (holds_rows law old r);
  }

  pub as_log_refused : CatalogByWidens → {T U : Type 0} (old new : S) (fault : AppendFault) → ReadsStore g {T = T} Device ((before : State) × Holds (newest_tables versions) (g.contents old) before) old new (Err fault)
      → ReadsStore g {T = U} Device (ShowsSomeBy versions (g.contents old)) old new (Err fault)
  as_log_refused law old new fault reads = record {
    was_honest = reads.was_honest;
    same = reads.same;
    crash = reads.crash;
    kept = tt;
    later = reads.later;
    cause = λ e. reads.cause (same_err fault Device e);
    as_read = λ h r. reads.as_read h (holds_rows law old r);
  }
