-- The laws of worlds.
use Rattle.std.specs.Prelude.{◌≡◌, ◌<◌, ◌^◌, ℕ, List, IsUtf8}
use Rattle.std.specs.List.{AllByRecursion}
use Rattle.cs_value.specs.Catalog.{AreTables}
use Rattle.cs_value.specs.declared.catalog.TableDef.{TableDef}
use Rattle.cs_value.specs.declared.edit.Edit.{Edit}
use Rattle.cs_conflict.specs.declared.wish.Wish.{Wish}
use Rattle.cs_hub.specs.Serves.{ServesIf}
use Rattle.cs_hub.specs.judgement.Judged.{hub_of}
use Rattle.cs_store.specs.declared.log.entry.LogEntry.{LogEntry}
use Rattle.cs_replica.specs.StepLaws.{IsInRange}
use Rattle.cs_opening.specs.Fresh.{first_position}
use Rattle.cs_pending.specs.Laws.{empty_view}
use Rattle.cs_pending.specs.position.Shows.{ShowsAt}
use Rattle.cs_replica.specs.Laws.{IsInBytes}
use Rattle.cs_store.specs.Contents.{Contents}
use Rattle.cs_exchange.specs.taking.Laws.{PicksOnce}
use Rattle.cs_wire.specs.Answers.{FitsAnswer, answer_spelling}
use Rattle.cs_wire.specs.Requests.{Asked, FitsRequest, request_spelling}
use Rattle.cs_wire.specs.Entries.{ToldEntry}
use Rattle.cs_wire.specs.declared.answer.Answer.{Answer}
use Rattle.cs_wire.specs.declared.answer.Answer.TheVariants.{Entries, Merged}
use Rattle.cs_conflict.specs.wish_list.Wished.{IsWished}
use Rattle.cs_hub.specs.declared.judgement.widen.TheConstants.{WIDEN_ORIGIN}
use Rattle.cs_world.specs.Headline.{Headline, IsGood}
use Rattle.cs_world.specs.Merges.{CatchesAsMerge, EachMerges, PullsAsMerges, count_in}
use Rattle.cs_world.specs.Sound.{IsSound}
use Rattle.cs_world.specs.Same.{IsRefused, IsSameWorld}
use Rattle.cs_world.specs.Wider.{Wider}
use Rattle.cs_world.specs.Steps.{Step, Steps, asked_of_wider}
use Rattle.cs_world.specs.World.{IsMember, IsMessage, IsRequest, Member, Tells, World, first_world}
use Rattle.cs_world.specs.declared.event.Event.{Event}
use Rattle.cs_world.specs.declared.event.Event.TheVariants.{AskCatch, AskPull, AskWiden, Deliver, MakePush, OnEdit, Resend, Restart}
use Rattle.cs_world.specs.declared.outcome.Outcome.{Outcome}

-- a replica to which nothing has happened, shown by some store
pub record IsFirstMember (tables : List TableDef) (r : ℕ) (member : Member) : Type 0 where
  pub tables_are : member.tables ≡ tables
  pub position : member.position ≡ first_position r
  pub view : member.view ≡ empty_view
  pub small : r < WIDEN_ORIGIN
  pub contents : Contents
  pub shown : ShowsAt tables contents member.position member.view

-- a world in which nothing has happened is sound
abbrev pub FirstIsSound : Type 0
FirstIsSound =
    (limit : ℕ) (tables : List TableDef) (members : List Member)
    → AreTables tables
    → ((r : ℕ) (member : Member) → IsMember (first_world tables members) r member → IsFirstMember tables r member)
    → IsSound limit (first_world tables members)

-- each event keeps it sound, and hands no replica a bad entry
abbrev pub StepsAreSound : Type 0
StepsAreSound =
    (limit : ℕ) (old new : World) (event : Event) (outcome : Outcome)
    → limit < 2 ^ 32
    → IsSound limit old
    → Step limit old event outcome new
    → IsSound limit new × IsGood outcome

-- what is sound has the headline
abbrev pub SoundHasHeadline : Type 0
SoundHasHeadline = (limit : ℕ) (world : World) → IsSound limit world → Headline world

-- by wishes in a list each clash has one answer
abbrev pub WishesPickOnce : Type 0
WishesPickOnce = PicksOnce IsWished

-- what the hub of a sound world answers to what was asked of it spells an answer
abbrev pub AnswersFit : Type 0
AnswersFit =
    (limit : ℕ) (world : World) (k : ℕ) (asked : Asked) (bytes : List ℕ) (log : List LogEntry)
    → limit < 2 ^ 32
    → IsSound limit world
    → IsRequest world k asked
    → ServesIf (Unit {0}) limit (hub_of world.tables world.log) (request_spelling asked) bytes (hub_of world.tables log)
    → (answer : Answer) × FitsAnswer answer × (bytes ≡ answer_spelling answer)

-- in a sound world entries that reach a replica are pulled, as many as the outcome tells. Each is a three-way merge of the log's tables at
-- the replica's version, its own rows, and the log's tables at the next version
abbrev pub PullsMerge : Type 0
PullsMerge =
    (limit k r first : ℕ) (entries : List ToldEntry) (wishes : List Wish) (outcome : Outcome) (old new : World) (before after : Member)
    → limit < 2 ^ 32
    → IsSound limit old
    → IsMessage old k (Tells r (Entries first entries))
    → IsMember old r before
    → IsMember new r after
    → Step limit old (Deliver k wishes) outcome new
    → PullsAsMerges old (count_in outcome) wishes before after

-- entries that reach it taken together are merged at once, as many as the outcome tells, or none is
abbrev pub CatchesMerge : Type 0
CatchesMerge =
    (limit k r origin first next : ℕ) (changeset : List ℕ) (wishes : List Wish) (outcome : Outcome) (old new : World) (before after : Member)
    → limit < 2 ^ 32
    → IsSound limit old
    → IsMessage old k (Tells r (Merged origin first next changeset))
    → IsMember old r before
    → IsMember new r after
    → Step limit old (Deliver k wishes) outcome new
    → CatchesAsMerge old next (count_in outcome) changeset wishes before after

-- and so each event does that makes its step behind others
abbrev pub EventsMerge : Type 0
EventsMerge =
    (limit : ℕ) (world : World) (events : List Event) (outcomes : List Outcome)
    → limit < 2 ^ 32
    → IsSound limit world
    → EachMerges limit world events outcomes

-- ---- one outcome an event

-- in the same world an event has one outcome, and leaves the same world: but for refusals
abbrev pub OneStep : Type 0
OneStep =
    (limit : ℕ) (old its new last : World) (event : Event) (some other : Outcome)
    → IsSound limit old
    → IsSound limit its
    → IsSameWorld old its
    → (IsRefused some new → ⊥)
    → (IsRefused other last → ⊥)
    → Step limit old event some new
    → Step limit its event other last
    → (some ≡ other) × IsSameWorld new last

-- none of the outcomes is a refusal in the world after all
abbrev pub NoneRefused : List Outcome → World → Type 0
NoneRefused outcomes world = AllByRecursion (λ (outcome : Outcome). IsRefused outcome world → ⊥) outcomes

-- so events one after another have one list of outcomes, where none is a refusal
abbrev pub OneRun : Type 0
OneRun =
    (limit : ℕ) (old its new last : World) (events : List Event) (some other : List Outcome)
    → limit < 2 ^ 32
    → IsSound limit old
    → IsSound limit its
    → IsSameWorld old its
    → NoneRefused some new
    → NoneRefused other last
    → Steps limit old events some new
    → Steps limit its events other last
    → (some ≡ other) × IsSameWorld new last

-- ---- an outcome for each event

-- the event has an outcome that is no refusal
abbrev pub HasStep : ℕ → World → Event → Type 0
HasStep limit old event = (outcome : Outcome) × (new : World) × (IsRefused outcome new → ⊥) × Step limit old event outcome new

-- in a sound world an edit has one; its values have spellings
abbrev pub EditHasStep : Type 0
EditHasStep = (limit r : ℕ) (asked : Edit) (world : World) → IsSound limit world → IsInRange asked → HasStep limit world (OnEdit r asked)

-- and a push; the names of the tables are text
abbrev pub PushHasStep : Type 0
PushHasStep =
    (limit r : ℕ) (world : World)
    → IsSound limit world
    → AllByRecursion (λ table. IsUtf8 table.name) world.tables
    → HasStep limit world (MakePush r)

-- and a push that is to be sent once more
abbrev pub ResendHasStep : Type 0
ResendHasStep = (limit r : ℕ) (world : World) → HasStep limit world (Resend r)

-- and a question for entries
abbrev pub AskHasStep : Type 0
AskHasStep = (limit r count : ℕ) (world : World) → count < 2 ^ 32 → HasStep limit world (AskPull r count)

-- taken together too
abbrev pub CatchHasStep : Type 0
CatchHasStep = (limit r count : ℕ) (world : World) → count < 2 ^ 32 → HasStep limit world (AskCatch r count)

-- and a wider table that is asked for
abbrev pub OrderHasStep : Type 0
OrderHasStep = (limit : ℕ) (wider : Wider) (world : World) → FitsRequest (asked_of_wider wider) → HasStep limit world (AskWiden wider)

-- and a store that is read again
abbrev pub RestartHasStep : Type 0
RestartHasStep = (limit r : ℕ) (world : World) → HasStep limit world (Restart r)

-- and, in a sound world, a message that arrives, or none; of entries that are told the bodies are bytes
abbrev pub DeliverHasStep : Type 0
DeliverHasStep =
    (limit k : ℕ) (wishes : List Wish) (world : World)
    → limit < 2 ^ 32
    → IsSound limit world
    → ((r : ℕ) (answer : Answer) → IsMessage world k (Tells r answer) → IsInBytes answer)
    → HasStep limit world (Deliver k wishes)
