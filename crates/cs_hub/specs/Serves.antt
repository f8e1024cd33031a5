-- The hub's answer to the bytes of a request, and the hub after it. (Profile of this project.)
use Rattle.std.specs.Prelude.{◌≡◌, ◌≢◌, ◌⊎◌, ℕ, ◌+◌, ◌<◌, ◌≤◌, List, drop, length, map, Result, Ok, Err}
use Rattle.cs_normalising.specs.NormalFormOf.{IsNormalFormOf, IsUnfit}
use Rattle.cs_normal.specs.Normal.{normal_spelling}
use Rattle.cs_normal.specs.declared.normal.TableChanges.{TableChanges}
use Rattle.cs_normalising.specs.declared.unfit.Unfit.{Unfit}
use Rattle.cs_normalising.specs.declared.unfit.Unfit.TheVariants as unfit
use Rattle.cs_change.specs.Spelling.{FitsChangeset, changeset_spelling}
use Rattle.cs_change.specs.declared.group.Group.{Group}
use Rattle.cs_changeset.specs.Reading.{IsChangesetFault}
use Rattle.cs_changeset.specs.declared.fault.Fault.{Fault}
use Rattle.cs_store.specs.log.Log.{catalog_at}
use Rattle.cs_store.specs.declared.log.entry.LogEntry.{LogEntry}
use Rattle.cs_hub.specs.catching.Catches.{Catches}
use Rattle.cs_hub.specs.declared.catching.caught.Caught.{Caught}
use Rattle.cs_hub.specs.declared.catching.caught.Caught.TheVariants as caught
use Rattle.cs_hub.specs.judgement.Hub.{HubState, entries_from, judging}
use Rattle.cs_hub.specs.judgement.Pushes.{Push, Pushes}
use Rattle.cs_hub.specs.judgement.Widens.{WidenAsked, Widens}
use Rattle.cs_hub.specs.declared.judgement.widen.TheConstants.{WIDEN_ORIGIN}
use Rattle.cs_hub.specs.declared.judgement.fault.HubFault.{HubFault}
use Rattle.cs_hub.specs.declared.judgement.fault.HubFault.TheVariants.{Ahead, Device}
use Rattle.cs_hub.specs.declared.judgement.push.Pushed.{Pushed}
use Rattle.cs_hub.specs.declared.judgement.push.Pushed.TheVariants as pushed
use Rattle.cs_hub.specs.Refusals.{refusal_of_hub, refusal_code}
use Rattle.cs_hub.specs.declared.refusal.Refusal.{Refusal}
use Rattle.cs_hub.specs.declared.refusal.Refusal.TheVariants.{NoRequest, NoChangeset, NoForm, ByHub}
use Rattle.cs_wire.specs.Answers.{answer_spelling}
use Rattle.cs_wire.specs.Requests.{Asked, AsksCatch, AsksPush, AsksPull, AsksWiden, ReadsRequest}
use Rattle.cs_wire.specs.Told.{told_entry}
use Rattle.cs_wire.specs.declared.answer.Answer.{Answer}
use Rattle.cs_wire.specs.declared.answer.Answer.TheVariants.{Short, Entries, Merged}
use Rattle.cs_wire.specs.declared.fault.WireFault.{WireFault}
use Rattle.cs_wire.specs.declared.push_head.PushHead.{PushHead}
use Rattle.cs_wire.specs.declared.short_answer.ShortAnswer.TheVariants.{Accepted, Stale, Refused}

-- what became of a push whose changeset was yet to be read: it was taken, or the request is refused
abbrev pub Outcome : Type 0
Outcome = Result Pushed Refusal

abbrev pub or_refusal : Result Pushed HubFault → Outcome
or_refusal (Ok pushed) = Ok pushed
or_refusal (Err fault) = Err (refusal_of_hub fault)

-- a push whose changeset is in normal form
abbrev pub TakesNormal : ℕ → HubState → Push → Outcome → HubState → Type 0
TakesNormal limit old push outcome new =
    (told : Result Pushed HubFault) × Pushes limit old push told new × (outcome ≡ or_refusal told)

-- a push whose changeset was read: what is wrong by the catalog, or what becomes of its normal form
abbrev pub TakesGroups : ℕ → HubState → PushHead → List Group → Outcome → HubState → Type 0
TakesGroups limit old head groups outcome new =
    ((fault : Unfit) × (fault ≢ unfit.Memory) × IsUnfit fault (judging old head.base) groups
    × (outcome ≡ Err (NoForm fault)) × (new ≡ old))
    ⊎ ((changes : List TableChanges) × IsNormalFormOf (judging old head.base) groups changes
    × TakesNormal limit old (record { head = head; changes = changes }) outcome new)

-- a push with the bytes of a changeset: what is wrong with these, or what becomes of the changeset
abbrev pub TakesBytes : ℕ → HubState → PushHead → List ℕ → Outcome → HubState → Type 0
TakesBytes limit old head changeset outcome new =
    ((fault : Fault) × (offset : ℕ) × IsChangesetFault fault offset changeset
    × (outcome ≡ Err (NoChangeset fault)) × (new ≡ old))
    ⊎ ((groups : List Group) × FitsChangeset groups × (changeset ≡ changeset_spelling groups)
    × TakesGroups limit old head groups outcome new)

-- new columns of a table
abbrev pub TakesWiden : ℕ → HubState → WidenAsked → Outcome → HubState → Type 0
TakesWiden limit old asked outcome new =
    (told : Result Pushed HubFault) × Widens limit old asked told new × (outcome ≡ or_refusal told)

-- the numbers by which they are told
abbrev pub widen_head : ℕ → ℕ → PushHead
widen_head number base = record { origin = WIDEN_ORIGIN; number = number; base = base }

-- the answer that tells what became of a push
abbrev pub push_answer : PushHead → Outcome → Answer
push_answer head (Ok (pushed.Accepted version)) = Short (Accepted head.origin head.number version)
push_answer head (Ok (pushed.Stale newest)) = Short (Stale newest)
push_answer head (Err refusal) = Short (Refused (refusal_code refusal))

-- the answer that tells of a refusal
abbrev pub refused : Refusal → List ℕ
refused refusal = answer_spelling (Short (Refused (refusal_code refusal)))

-- the answer that tells what a replica catches up by, from a version of the log on. It is the entry there, or so many as one
-- changeset
abbrev pub caught_answer : ℕ → ℕ → List LogEntry → Caught → Answer
caught_answer asker first log caught.Alone = Entries first (map told_entry (entries_from first 1 log))
caught_answer asker first log (caught.Merged count changes) = Merged asker first (first + count) (normal_spelling changes)

-- the bytes tell a replica what it catches up by
abbrev pub TellsCaught : HubState → ℕ → ℕ → ℕ → List ℕ → Type 0
TellsCaught old asker first count bytes =
    (told : Caught) × Catches (catalog_at old.opening old.log first) asker count (drop first old.log) told
    × (bytes ≡ answer_spelling (caught_answer asker first old.log told))

-- the answer to what is asked, or to bytes that ask nothing
abbrev pub AnswersAsked : ℕ → HubState → Result Asked WireFault → List ℕ → HubState → Type 0
AnswersAsked limit old (Err fault) bytes new = (bytes ≡ refused (NoRequest fault)) × (new ≡ old)
AnswersAsked limit old (Ok (AsksPull first count)) bytes new =
    (((length old.log < first) × (bytes ≡ refused (ByHub Ahead)))
    ⊎ ((first ≤ length old.log) × (bytes ≡ answer_spelling (Entries first (map told_entry (entries_from first count old.log))))))
    × (new ≡ old)
AnswersAsked limit old (Ok (AsksCatch asker first count)) bytes new =
    (((length old.log < first) × (bytes ≡ refused (ByHub Ahead)))
    ⊎ ((first ≤ length old.log) × TellsCaught old asker first count bytes))
    × (new ≡ old)
AnswersAsked limit old (Ok (AsksWiden number base width table)) bytes new =
    (outcome : Outcome)
    × TakesWiden limit old (record { number = number; base = base; table = table; width = width }) outcome new
    × (bytes ≡ answer_spelling (push_answer (widen_head number base) outcome))
AnswersAsked limit old (Ok (AsksPush head changeset)) bytes new =
    (outcome : Outcome) × TakesBytes limit old head changeset outcome new
    × (bytes ≡ answer_spelling (push_answer head outcome))

-- the hub, whose log has at most so many entries, answers the bytes of a request with these bytes, and is then another
abbrev pub Serves : ℕ → HubState → List ℕ → List ℕ → HubState → Type 0
Serves limit old request answer new =
    (asked : Result Asked WireFault) × ReadsRequest request asked × AnswersAsked limit old asked answer new

-- the same over a store whose device may fail: then that is told, and nothing has changed
abbrev pub ServesIf : Type 0 → ℕ → HubState → List ℕ → List ℕ → HubState → Type 0
ServesIf device_failed limit old request answer new =
    Serves limit old request answer new ⊎ (device_failed × (answer ≡ refused (ByHub Device)) × (new ≡ old))

-- a hub that is as it was
abbrev pub IsSame : HubState → HubState → Type 0
IsSame old new = new ≡ old
