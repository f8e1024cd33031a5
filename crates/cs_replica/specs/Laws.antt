-- The laws of replicas that stand on a log.
use Rattle.std.specs.Prelude.{◌≡◌, ◌+◌, ◌<◌, ◌≤◌, ◌^◌, ℕ, List, ◌++◌, length, Some, None, Result, Ok, Err, slice_get, Contains}
use Rattle.std.specs.List.{AllByRecursion}
use Rattle.cs_varint.specs.Bytes.{AreBytes}
use Rattle.cs_value.specs.Catalog.{AreTables}
use Rattle.cs_value.specs.declared.catalog.TableDef.{TableDef}
use Rattle.cs_normal.specs.State.{AreSame, IsApplied}
use Rattle.cs_normal.specs.declared.normal.TableChanges.{TableChanges}
use Rattle.cs_store.specs.log.Log.{IsMade, catalog_at, tables_at}
use Rattle.cs_store.specs.declared.log.entry.LogEntry.{LogEntry}
use Rattle.cs_store.specs.Contents.{Contents}
use Rattle.cs_conflict.specs.declared.clash.Clash.{Clash}
use Rattle.cs_conflict.specs.declared.wish.Wish.{Wish}
use Rattle.cs_pending.specs.Edits.{Asked, edit}
use Rattle.cs_pending.specs.Laws.{empty_view}
use Rattle.cs_pending.specs.View.{View, middle}
use Rattle.cs_pending.specs.position.Shows.{ShowsAt, base}
use Rattle.cs_pending.specs.declared.position.position.Position.{Position}
use Rattle.cs_exchange.specs.declared.pulling.fault.AnswerFault.{AnswerFault}
use Rattle.cs_exchange.specs.declared.pulling.fault.AnswerFault.TheVariants.{Memory, Device, BadEntry}
use Rattle.cs_exchange.specs.taking.Laws.{AnswersLawfully, PicksOnce}
use Rattle.cs_wire.specs.Entries.{ToldEntry}
use Rattle.cs_wire.specs.declared.answer.Answer.{Answer}
use Rattle.cs_wire.specs.declared.answer.Answer.TheVariants.{Short, Entries, Merged}
use Rattle.cs_replica.specs.Answered.{Answers}
use Rattle.cs_replica.specs.Edited.{with_pending}
use Rattle.cs_replica.specs.Stands.{StandsOn}
use Rattle.cs_replica.specs.declared.told.Told.{Told}

-- a replica at version 0 with no row and nothing pending or under way stands on every log
abbrev pub FirstStands : Type 0
FirstStands =
    (log : List LogEntry) (position : Position)
    → position.version ≡ 0
    → position.flight ≡ None
    → StandsOn log position empty_view

-- one that stands on a log stands on it as it grows
abbrev pub StandsLonger : Type 0
StandsLonger =
    (log more : List LogEntry) (position : Position) (view : View)
    → StandsOn log position view
    → StandsOn (log ++ more) position view

-- an edit leaves it there
abbrev pub EditStands : Type 0
EditStands =
    (tables : List TableDef) (log : List LogEntry) (name : List ℕ) (asked : Asked) (old new : Contents) (position : Position) (pending : ℕ) (view next : View)
    → AreTables tables
    → ShowsAt tables old position view
    → edit tables name asked view ≡ Ok next
    → ShowsAt tables new (with_pending position pending) next
    → StandsOn log position view
    → StandsOn log (with_pending position pending) next

-- so does what leaves the version and the log's rows as they were: a push that is made
abbrev pub KeptStands : Type 0
KeptStands =
    (log : List LogEntry) (position other : Position) (view next : View)
    → other.version ≡ position.version
    → AreSame (base position.flight view) (base other.flight next)
    → StandsOn log position view
    → StandsOn log other next

-- what makes of the log's rows what the next entry makes of them, by the catalog at the version, stands on the log one version further.
-- That is the own entry that is confirmed, and another's that is taken
abbrev pub EntryStands : Type 0
EntryStands =
    (opening : List TableDef) (log : List LogEntry) (entry : LogEntry) (position other : Position) (view next : View)
    → slice_get log position.version ≡ Some entry
    → other.version ≡ position.version + 1
    → IsMade (catalog_at opening log position.version) entry.body (base position.flight view) (base other.flight next)
    → StandsOn log position view
    → StandsOn log other next

-- so does, at another version, what leaves of the log's rows what a changeset makes of them. The changeset leads from the log's tables
-- at this version to those at the other
abbrev pub LeadStands : Type 0
LeadStands =
    (tables : List TableDef) (log : List LogEntry) (next : ℕ) (changes : List TableChanges) (position other : Position) (view left : View)
    → next ≤ length log
    → IsApplied tables changes (tables_at log position.version) (tables_at log next)
    → other.version ≡ next
    → IsApplied tables changes (base position.flight view) (base other.flight left)
    → StandsOn log position view
    → StandsOn log other left

-- what is under way is defined on the log's tables at the version, and leaves of them the rows before what is pending
abbrev pub FlightFits : Type 0
FlightFits =
    (tables : List TableDef) (contents : Contents) (log : List LogEntry) (position : Position) (changes : List TableChanges) (view : View)
    → AreTables tables
    → ShowsAt tables contents position view
    → position.flight ≡ Some changes
    → StandsOn log position view
    → IsApplied tables changes (tables_at log position.version) (middle view)

-- two replicas that stand on one log at one version, with nothing under way and nothing pending, have the same rows
abbrev pub EqualAtRest : Type 0
EqualAtRest =
    (tables : List TableDef) (log : List LogEntry) (contents others : Contents) (position other : Position) (view seen : View)
    → ShowsAt tables contents position view
    → ShowsAt tables others other seen
    → StandsOn log position view
    → StandsOn log other seen
    → position.version ≡ other.version
    → position.flight ≡ None
    → other.flight ≡ None
    → position.pending ≡ 0
    → other.pending ≡ 0
    → (table : TableDef) (key : List ℕ) → Contains tables table → view.tables table.name key ≡ seen.tables table.name key

-- a result that says something of the answer
abbrev pub IsOfAnswer : Result Told AnswerFault → Type 0
IsOfAnswer (Ok told) = Unit {0}
IsOfAnswer (Err (Memory count)) = ⊥
IsOfAnswer (Err (Device count)) = ⊥
IsOfAnswer (Err (BadEntry count)) = Unit {0}

-- by a picker that answers each clash once, an answer of the hub has one result. It leaves one list of tables, one position, one thing in
-- the store, and one state of the picker, whichever view of the store is meant
abbrev pub OneAnswered : {P : Type 0} → (P → Clash → Wish → P → Type 0) → Type 0
OneAnswered {P} picks =
    (tables wide its : List TableDef) (answer : Answer) (old new last : Contents) (position here there : Position) (before seen : View)
    (some other : Result Told AnswerFault) (p q r : P)
    → AreTables tables
    → PicksOnce picks
    → ShowsAt tables old position before
    → ShowsAt tables old position seen
    → IsOfAnswer some
    → IsOfAnswer other
    → Answers picks tables answer some position before p wide here new q
    → Answers picks tables answer other position seen p its there last r
    → (some ≡ other) × (wide ≡ its) × (here ≡ there) × (new ≡ last) × (q ≡ r)

-- the bodies of its entries are bytes, or its changeset is
abbrev pub IsInBytes : Answer → Type 0
IsInBytes (Short answer) = Unit {0}
IsInBytes (Entries first entries) = AllByRecursion (λ (told : ToldEntry). AreBytes told.body) entries
IsInBytes (Merged origin first next changeset) = AreBytes changeset

-- there is one, by a picker that has a lawful answer to each clash. An answer of the hub in bytes has a result, and there is a store that
-- holds what is left
abbrev pub AnswerHasResult : {P : Type 0} → (P → Clash → Wish → P → Type 0) → (P → Type 0) → Type 0
AnswerHasResult {P} picks is_ready =
    (tables : List TableDef) (answer : Answer) (old : Contents) (position : Position) (before : View) (p : P)
    → AreTables tables
    → IsInBytes answer
    → position.version < 2 ^ 64
    → ShowsAt tables old position before
    → AnswersLawfully picks is_ready
    → is_ready p
    → (result : Result Told AnswerFault) × (others : List TableDef) × (other : Position) × (new : Contents) × (q : P) × IsOfAnswer result
    × Answers picks tables answer result position before p others other new q
