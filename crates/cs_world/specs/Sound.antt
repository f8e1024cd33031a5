-- What holds of every world that began with nothing, whatever happened in it (profile of this project).
use Rattle.std.specs.Prelude.{◌≡◌, ◌≢◌, ◌+◌, ◌<◌, ◌≤◌, ℕ, List, length, Some, slice_get}
use Rattle.cs_value.specs.Catalog.{AreTables}
use Rattle.cs_value.specs.declared.catalog.TableDef.{TableDef}
use Rattle.cs_store.specs.log.Log.{IsLog, catalog_at, tables_at}
use Rattle.cs_store.specs.log.Stored.{AreChangesOf, IsEntryOf}
use Rattle.cs_store.specs.declared.log.body.Body.{Body}
use Rattle.cs_store.specs.declared.log.body.Body.TheVariants.{Changes, Widen}
use Rattle.cs_store.specs.declared.log.entry.LogEntry.{LogEntry}
use Rattle.cs_store.specs.declared.log.entry.TheConstants.{MAX_CHANGESET}
use Rattle.cs_normal.specs.Normal.{normal_spelling}
use Rattle.cs_normal.specs.State.{IsDefinedOn}
use Rattle.cs_normal.specs.declared.normal.TableChanges.{TableChanges}
use Rattle.cs_pending.specs.position.Laws.{FitsPosition}
use Rattle.cs_pending.specs.position.Shows.{ShowsAt}
use Rattle.cs_exchange.specs.pushing.Pushes.{request_of}
use Rattle.cs_hub.specs.catching.Told.{AreOthersAsOne}
use Rattle.cs_replica.specs.Stands.{StandsOn}
use Rattle.cs_store.specs.Contents.{Contents}
use Rattle.cs_wire.specs.Entries.{ToldEntry}
use Rattle.cs_wire.specs.Laws.{HasNumbersInRange}
use Rattle.cs_wire.specs.Requests.{Asked, AsksCatch, AsksPull, AsksPush, AsksWiden}
use Rattle.cs_wire.specs.Told.{told_entry}
use Rattle.cs_wire.specs.declared.answer.Answer.{Answer}
use Rattle.cs_wire.specs.declared.answer.Answer.TheVariants.{Short, Entries, Merged}
use Rattle.cs_wire.specs.declared.push_head.PushHead.{PushHead}
use Rattle.cs_wire.specs.declared.short_answer.ShortAnswer.{ShortAnswer}
use Rattle.cs_wire.specs.declared.short_answer.ShortAnswer.TheVariants.{Accepted, Stale, Refused}
use Rattle.cs_hub.specs.declared.judgement.widen.TheConstants.{WIDEN_ORIGIN}
use Rattle.cs_world.specs.World.{Asks, FitsSent, IsMember, IsMessage, Member, Orders, Replies, Sent, Tells, World}

-- the code of a refusal that tells of a conflict
abbrev pub conflict_code : ℕ
conflict_code = 41

-- this was asked, by whatever replica
abbrev pub WasAsked : World → Asked → Type 0
WasAsked world asked = (k : ℕ) × (r : ℕ) × IsMessage world k (Asks r asked)

-- this was, for no replica
abbrev pub WasOrdered : World → Asked → Type 0
WasOrdered world asked = (k : ℕ) × IsMessage world k (Orders asked)

-- what an entry does was offered to the hub: as a push, or as a wider table
abbrev pub WasOffered : World → PushHead → Body → Type 0
WasOffered world head (Changes changes) = WasAsked world (AsksPush head (normal_spelling changes))
WasOffered world head (Widen table width) =
    (head.origin ≡ WIDEN_ORIGIN) × WasOrdered world (AsksWiden head.number head.base width table)

-- on so many first entries
abbrev pub WasOfferedAt : World → ℕ → LogEntry → Type 0
WasOfferedAt world base entry =
    WasOffered world (record { origin = entry.origin; number = entry.number; base = base }) entry.body

-- ---- what a message says is so

-- a push is of a changeset in normal form of the tables of its base, a version that there is, and defined on them. Its replica has
-- counted it
pub record IsTruePush (world : World) (head : PushHead) (changeset : List ℕ) : Type 0 where
  pub changes : List TableChanges
  pub spelled : changeset ≡ normal_spelling changes
  pub of_tables : AreChangesOf (catalog_at world.tables world.log head.base) changes
  pub size : length (normal_spelling changes) ≤ MAX_CHANGESET
  pub within : head.base ≤ length world.log
  pub defined : IsDefinedOn (catalog_at world.tables world.log head.base) changes (tables_at world.log head.base)
  pub counted : (member : Member) → IsMember world head.origin member → head.number ≤ member.position.number

-- an accepted push is the entry before the version that is told
pub record IsAcceptedIn (log : List LogEntry) (origin number version : ℕ) : Type 0 where
  pub at : ℕ
  pub entry : LogEntry
  pub next : version ≡ at + 1
  pub there : slice_get log at ≡ Some entry
  pub by : entry.origin ≡ origin
  pub numbered : entry.number ≡ number

-- entries that are told are the log's, each at its version
abbrev pub ArePartOf : List LogEntry → ℕ → List ToldEntry → Type 0
ArePartOf log first entries =
    (at : ℕ) (told : ToldEntry) → slice_get entries at ≡ Some told
    → (entry : LogEntry) × (slice_get log (first + at) ≡ Some entry) × (told ≡ told_entry entry)

abbrev pub IsTrueShort : World → ShortAnswer → Type 0
IsTrueShort world (Accepted origin number version) = IsAcceptedIn world.log origin number version
IsTrueShort world (Stale newest) = Unit {0}
IsTrueShort world (Refused code) = code ≢ conflict_code

abbrev pub IsTrueAnswer : World → Answer → Type 0
IsTrueAnswer world (Short short) = IsTrueShort world short
IsTrueAnswer world (Entries first entries) = ArePartOf world.log first entries
IsTrueAnswer world (Merged origin first next changeset) =
    AreOthersAsOne (catalog_at world.tables world.log first) world.log origin first next changeset

abbrev pub IsTrueAsked : World → Asked → Type 0
IsTrueAsked world (AsksPush head changeset) = IsTruePush world head changeset
IsTrueAsked world (AsksPull first count) = Unit {0}
IsTrueAsked world (AsksCatch origin first count) = Unit {0}
IsTrueAsked world (AsksWiden number base width table) = ⊥

-- for no replica a wider table is asked for, and nothing else
abbrev pub IsTrueOrder : Asked → Type 0
IsTrueOrder (AsksPush head changeset) = ⊥
IsTrueOrder (AsksPull first count) = ⊥
IsTrueOrder (AsksCatch origin first count) = ⊥
IsTrueOrder (AsksWiden number base width table) = Unit {0}

abbrev pub IsTrue : World → Sent → Type 0
IsTrue world (Asks r asked) = IsTrueAsked world asked
IsTrue world (Tells r answer) = IsTrueAnswer world answer
IsTrue world (Orders asked) = IsTrueOrder asked
IsTrue world (Replies answer) = IsTrueAnswer world answer

-- ---- what holds of a replica

-- it has its number as its id, which no wider table's entry has as its origin, and the tables that the catalog has at its version. Some
-- store shows it, it stands on the log, and the push that is under way was sent
pub record IsPlaced (world : World) (r : ℕ) (member : Member) : Type 0 where
  pub id : member.position.id ≡ r
  pub small : r < WIDEN_ORIGIN
  pub fits : FitsPosition member.position
  pub tables : member.tables ≡ catalog_at world.tables world.log member.position.version
  pub are : AreTables member.tables
  pub contents : Contents
  pub shown : ShowsAt member.tables contents member.position member.view
  pub stands : StandsOn world.log member.position member.view
  pub sent : (changes : List TableChanges) → member.position.flight ≡ Some changes → WasAsked world (request_of member.position changes)

-- ---- what holds of a world

-- an entry of these tables, whose numbers are in range
abbrev pub IsStoredEntry : List TableDef → LogEntry → Type 0
IsStoredEntry tables entry = IsEntryOf tables entry × HasNumbersInRange entry

-- each entry of the log is one, by the catalog at its version
abbrev pub AreStored : List TableDef → List LogEntry → Type 0
AreStored opening log =
    (version : ℕ) (entry : LogEntry) → slice_get log version ≡ Some entry → IsStoredEntry (catalog_at opening log version) entry

pub record IsSound (limit : ℕ) (world : World) : Type 0 where
  pub tables : AreTables world.tables
  pub log : IsLog world.tables world.log
  pub entries : AreStored world.tables world.log
  pub short : length world.log ≤ limit
  pub placed : (r : ℕ) (member : Member) → IsMember world r member → IsPlaced world r member
  pub spelled : (k : ℕ) (message : Sent) → IsMessage world k message → FitsSent message
  pub true : (k : ℕ) (message : Sent) → IsMessage world k message → IsTrue world message
  -- two pushes of one origin and number are one push
  pub once : (head other : PushHead) (changeset its : List ℕ) → WasAsked world (AsksPush head changeset) → WasAsked world (AsksPush other its)
      → head.origin ≡ other.origin → head.number ≡ other.number → (head.base ≡ other.base) × (changeset ≡ its)
  -- each entry of the log was offered on those before it
  pub offered : (at : ℕ) (entry : LogEntry) → slice_get world.log at ≡ Some entry → WasOfferedAt world at entry
