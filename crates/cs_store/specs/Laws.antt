-- The laws of stores: one answer for each input, how calls follow one another, and what a commit leaves at each place.
use Rattle.std.specs.Prelude.{◌≡◌, ◌≢◌, ◌<◌, ◌+◌, ◌-◌, ◌^◌, ℕ, pos, if◌then◌else◌, nat_eq, ◌&&◌, List, [], ◌∷◌, Option, None, Result, Ok, IsOk, OnOk, OnErr, IfErr, fold, is_some}
use Rattle.std.specs.FinMap.{empty, get, insert, len}
use Rattle.std.specs.List.{AllByRecursion}
use Rattle.cs_order.specs.Order.{same_bytes}
use Rattle.cs_store.specs.edits.Edits.{BodyEdit}
use Rattle.cs_store.specs.declared.batch.MetaEdit.{MetaEdit}
use Rattle.cs_store.specs.declared.batch.StoredEntry.{StoredEntry}
use Rattle.cs_store.specs.declared.batch.Batch.{Batch}
use Rattle.cs_store.specs.declared.names.MetaName.{MetaName}
use Rattle.cs_store.specs.declared.fault.StoreFault.{StoreFault}
use Rattle.cs_store.specs.declared.fault.StoreFault.TheVariants.{Memory}
use Rattle.cs_store.specs.Contents.{Bodies, Contents, IsListing, LogItem, StorePlace, name_text, nothing, stored_tables, stored_pending, meta_value, log_entry, log_count}
use Rattle.cs_store.specs.Written.{after_batch, edit_body, optional_bytes, optional_entry, store_place}
use Rattle.cs_store.specs.Calls.{Commits, CountsFailures, OnlyReads, refusal}
use Rattle.cs_store.specs.declared.store.RowStore.{Ghosts}

-- ---- one answer

-- a table has one listing
abbrev pub OneListing : Type 0
OneListing =
    (table : List ℕ → Option (List ℕ)) (some others : List (List ℕ × List ℕ))
    → IsListing table some → IsListing table others → some ≡ others

-- a table of two rows, and its listing
abbrev pub TwoRows : Contents
TwoRows = record nothing { rows = insert (insert empty (pos 5, 98 ∷ []) (2 ∷ [])) (pos 5, 97 ∷ []) (1 ∷ []) }

abbrev pub ListsTwoRows : Type 0
ListsTwoRows = IsListing (stored_tables TwoRows 5) ((97 ∷ [], 1 ∷ []) ∷ (98 ∷ [], 2 ∷ []) ∷ [])

module _ {S : Type 0} (g : Ghosts S) where
  -- commits of one batch that succeed leave one store, and a stop then leaves one
  abbrev pub OneCommit : Type 0
  OneCommit =
      (after : Contents) (old new next : S) (result other : Result (Unit {0}) StoreFault)
      → Commits g.honest g.contents g.failed g.may_leave g.misreads after old new result
      → Commits g.honest g.contents g.failed g.may_leave g.misreads after old next other
      → g.honest new → g.honest next
      → OnOk result (OnOk other ((g.contents new ≡ g.contents next)
      × ((some others : Contents) → g.may_leave new some → g.may_leave next others → some ≡ others)))

  -- commits of one batch that are refused leave one store
  abbrev pub OneRefusal : Type 0
  OneRefusal =
      (after : Contents) (old new next : S) (result other : Result (Unit {0}) StoreFault)
      → Commits g.honest g.contents g.failed g.may_leave g.misreads after old new result
      → Commits g.honest g.contents g.failed g.may_leave g.misreads after old next other
      → g.honest new → g.honest next → OnErr result (OnErr other (g.contents new ≡ g.contents next))

  -- ---- calls after calls

  -- reads after a read that succeeded are reads
  abbrev pub ReadsThenReads : Type 0 → Type 0 → Type 0
  ReadsThenReads T U =
      (old middle new : S) (first : Result T StoreFault) (second : Result U StoreFault)
      → OnlyReads g.honest g.contents g.failed g.may_leave g.misreads old middle first → IsOk first
      → OnlyReads g.honest g.contents g.failed g.may_leave g.misreads middle new second
      → OnlyReads g.honest g.contents g.failed g.may_leave g.misreads old new second

  -- a read and then a commit of what is made of the contents are that commit, also in what a stop may leave
  abbrev pub ReadsThenCommits : Type 0 → Type 0 → Type 0
  ReadsThenCommits T U =
      (after : Contents → Contents) (old middle new : S) (first : Result T StoreFault) (second : Result U StoreFault)
      → OnlyReads g.honest g.contents g.failed g.may_leave g.misreads old middle first → IsOk first
      → Commits g.honest g.contents g.failed g.may_leave g.misreads (after (g.contents middle)) middle new second
      → Commits g.honest g.contents g.failed g.may_leave g.misreads (after (g.contents old)) old new second

  -- reads after a commit that succeeded, where they succeed, are that commit
  abbrev pub CommitsThenReads : Type 0 → Type 0 → Type 0
  CommitsThenReads T U =
      (after : Contents) (old middle new : S) (first : Result T StoreFault) (second : Result U StoreFault)
      → Commits g.honest g.contents g.failed g.may_leave g.misreads after old middle first → IsOk first
      → OnlyReads g.honest g.contents g.failed g.may_leave g.misreads middle new second → IsOk second
      → Commits g.honest g.contents g.failed g.may_leave g.misreads after old new second

  -- a read that fails, told as the failure of a commit, is that commit
  abbrev pub FailsToCommit : Type 0 → Type 0 → Type 0
  FailsToCommit T U =
      (after : Contents) (old new : S) (fault : StoreFault)
      → OnlyReads g.honest g.contents g.failed g.may_leave g.misreads old new (refusal T fault)
      → Commits g.honest g.contents g.failed g.may_leave g.misreads after old new (refusal U fault)

  -- a read that answers something else, or whose fault is told of another answer, is that read
  abbrev pub ReadsAlike : Type 0 → Type 0 → Type 0
  ReadsAlike T U =
      (old new : S)
      → ((answer : T) (other : U) → OnlyReads g.honest g.contents g.failed g.may_leave g.misreads old new (Ok answer) → OnlyReads g.honest g.contents g.failed g.may_leave g.misreads old new (Ok other))
      × ((fault : StoreFault) → OnlyReads g.honest g.contents g.failed g.may_leave g.misreads old new (refusal T fault) → OnlyReads g.honest g.contents g.failed g.may_leave g.misreads old new (refusal U fault))

abbrev pub success : Result (Unit {0}) StoreFault
success = Ok tt

-- a commit as the clauses have it, of any contents to any other
abbrev pub CommitCanBe : Type 0
CommitCanBe =
    (before after : Contents)
    → Commits (λ _. Unit {0}) (λ held. held) (λ _. 0) (λ held left. left ≡ held) (λ _. 0) after before after success

-- ---- faults

-- where the count stood still below its last value, a fault is want of memory
abbrev pub OnlyMemory : Type 0 → Type 0
OnlyMemory T =
    (result : Result T StoreFault) (count : ℕ)
    → count < 2 ^ 64 - 1 → CountsFailures result count count → IfErr result (λ fault. fault ≡ Memory)

-- ---- what is written

-- what edits leave at a place where a row or a pending change or none stood: what the last edit there says
abbrev pub row_after : List BodyEdit → ℕ → List ℕ → Option (List ℕ) → Option (List ℕ)
row_after [] table key body = body
row_after (edit ∷ edits) table key body =
    row_after edits table key
    (if nat_eq table edit.table && same_bytes key edit.key then edit.body else body)

-- the same of a value
abbrev pub value_after : List MetaEdit → MetaName → Option (List ℕ) → Option (List ℕ)
value_after [] name value = value
value_after (edit ∷ edits) name value =
    value_after edits name
    (if same_bytes (name_text name) (name_text edit.name) then optional_bytes edit.value else value)

-- what a batch leaves at each place of the tables
abbrev pub WritesRows : Type 0
WritesRows =
    (batch : Batch) (before : Contents) (table : ℕ) (key : List ℕ)
    → stored_tables (after_batch batch before) table key
    ≡ row_after batch.rows table key (stored_tables before table key)

-- the same of its pending changes
abbrev pub WritesPending : Type 0
WritesPending =
    (batch : Batch) (before : Contents) (table : ℕ) (key : List ℕ)
    → stored_pending (after_batch batch before) table key
    ≡ row_after batch.pending table key (stored_pending before table key)

-- what it leaves at each name
abbrev pub WritesMeta : Type 0
WritesMeta =
    (batch : Batch) (before : Contents) (name : MetaName)
    → meta_value (after_batch batch before) name ≡ value_after batch.meta.items name (meta_value before name)

-- what an entry, if there is one, leaves at a version: its own is how many there were, and no other changes
abbrev pub entry_after : Option StoredEntry → Contents → ℕ → Option LogItem
entry_after entry before version =
    if is_some entry && nat_eq version (log_count before) then optional_entry entry else log_entry before version

-- what it leaves at each version
abbrev pub WritesLog : Type 0
WritesLog =
    (batch : Batch) (before : Contents) (version : ℕ)
    → log_entry (after_batch batch before) version ≡ entry_after batch.log before version

-- where the version of a new entry is free, there is one more
abbrev pub CountsLog : Type 0
CountsLog =
    (batch : Batch) (before : Contents)
    → log_entry before (log_count before) ≡ None
    → log_count (after_batch batch before) ≡ (if is_some batch.log then log_count before + 1 else log_count before)

-- a place that none of the edits names
abbrev pub IsNoPlaceOf : List BodyEdit → StorePlace → Type 0
IsNoPlaceOf edits place = AllByRecursion (λ edit. store_place edit ≢ place) edits

-- what a batch's edits don't name it leaves: places, also under numbers of no table, and names that are none of ours
abbrev pub KeepsOtherRows : Type 0
KeepsOtherRows =
    (batch : Batch) (before : Contents) (place : StorePlace)
    → IsNoPlaceOf batch.rows place
    → get (after_batch batch before).rows place ≡ get before.rows place

abbrev pub KeepsOtherPending : Type 0
KeepsOtherPending =
    (batch : Batch) (before : Contents) (place : StorePlace)
    → IsNoPlaceOf batch.pending place
    → get (after_batch batch before).pending place ≡ get before.pending place

abbrev pub KeepsOtherNames : Type 0
KeepsOtherNames =
    (batch : Batch) (before : Contents) (text : List ℕ)
    → ((name : MetaName) → name_text name ≢ text)
    → get (after_batch batch before).meta text ≡ get before.meta text

-- what edits of bodies leave at each place, one after another
abbrev pub ReadsEdits : Type 0
ReadsEdits =
    (bodies : Bodies) (edits : List BodyEdit) (table : ℕ) (key : List ℕ)
    → get (fold edit_body bodies edits) (pos table, key) ≡ row_after edits table key (get bodies (pos table, key))

-- one where there is a body
abbrev pub one_if_some : Option (List ℕ) → ℕ
one_if_some body = if is_some body then 1 else 0

-- an edit of a place: one body less where one stood, and one more where it sets one
abbrev pub CountsBodies : Type 0
CountsBodies =
    (bodies : Bodies) (edit : BodyEdit)
    → len (edit_body bodies edit) + one_if_some (get bodies (store_place edit))
    ≡ len bodies + one_if_some edit.body

-- no two names have one text
abbrev pub NamesApart : Type 0
NamesApart = (some other : MetaName) → name_text some ≡ name_text other → some ≡ other
