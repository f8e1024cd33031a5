-- The lines that a new hub answers have one list of answers.
use Rattle.std.proofs.Common.{◌≡◌, ℕ, inl, inr, List, [], ◌∷◌, sym, subst}
use Rattle.std.specs.Prelude.{Result, Ok, Err}
use Rattle.cs_change.specs.declared.group.Group.{Group}
use Rattle.cs_lines.specs.Laws.{HasOneAnswerAlong}
use Rattle.cs_lines.specs.OneRun as once_run
use Rattle.cs_lines.specs.Served.{Answers, AnswersDecoded}
use Rattle.cs_normal.specs.Normal.{IsNormalChangeset}
use Rattle.cs_store.specs.log.Laws.{AppendedIsLog, EmptyIsLog}
use Rattle.cs_store.specs.log.Log.{IsNextEntry}
use Rattle.cs_hub.specs.judgement.Hub.{HubState, fresh, with_entry}
use Rattle.cs_hub.specs.judgement.Laws.{IsOfHub, WidensKeepLog}
use Rattle.cs_hub.specs.judgement.Pushes.{CanFollow, Push, Pushes, entry_of_push}
use Rattle.cs_hub.specs.declared.judgement.fault.HubFault.{HubFault}
use Rattle.cs_hub.specs.declared.judgement.push.Pushed.{Pushed}
use Rattle.cs_hub.specs.Laws.{OneHubRun, OneService}
use Rattle.cs_wire.specs.Requests.{Asked, AsksCatch, AsksPush, AsksPull, AsksWiden}
use Rattle.cs_wire.specs.declared.fault.WireFault.{WireFault}
use Rattle.cs_hub.specs.Serves.{AnswersAsked, IsSame, Outcome, Serves, TakesBytes, TakesGroups}
use Rattle.cs_wire.specs.declared.push_head.PushHead.{PushHead}

same_hub : (old new : HubState) → new ≡ old → IsOfHub old → IsOfHub new
same_hub old new same is = subst IsOfHub (sym same) is

-- a push that is appended is the next entry of the log
grown : AppendedIsLog → (old new : HubState) (push : Push) → IsNormalChangeset push.changes → CanFollow old push → new ≡ with_entry old (entry_of_push push) → IsOfHub old → IsOfHub new
grown law old new push normal follows same is =
    let next : IsNextEntry old.opening old.log (entry_of_push push) = record { normal = normal; defined = follows; widens = tt } in
    subst IsOfHub (sym same) (record { tables = is.tables; log = law old.opening old.log (entry_of_push push) is.log next })

pushes_keep : AppendedIsLog → (limit : ℕ) (old new : HubState) (push : Push) (answer : Result Pushed HubFault) → IsNormalChangeset push.changes → Pushes limit old push answer new → IsOfHub old → IsOfHub new
pushes_keep law limit old new push answer normal (inl (g, (a, s))) = same_hub old new s
pushes_keep law limit old new push answer normal (inr (g, inl (h, (a, s)))) = same_hub old new s
pushes_keep law limit old new push answer normal (inr (g, inr (h, inl (i, (a, s))))) = same_hub old new s
pushes_keep law limit old new push answer normal (inr (g, inr (h, inr (i, inl (j, (a, s)))))) = same_hub old new s
pushes_keep law limit old new push answer normal (inr (g, inr (h, inr (i, inr (j, inl (k, (a, s))))))) = same_hub old new s
pushes_keep law limit old new push answer normal (inr (g, inr (h, inr (i, inr (j, inr (k, inl (l, (a, s)))))))) = grown law old new push normal l s
pushes_keep law limit old new push answer normal (inr (g, inr (h, inr (i, inr (j, inr (k, inr (l, (a, s)))))))) = same_hub old new s

groups_keep : AppendedIsLog → (limit : ℕ) (old new : HubState) (head : PushHead) (groups : List Group) (outcome : Outcome) → TakesGroups limit old head groups outcome new → IsOfHub old → IsOfHub new
groups_keep law limit old new head groups outcome (inl (f, m, u, a, s)) = same_hub old new s
groups_keep law limit old new head groups outcome (inr (changes, form, (told, p, a))) =
    pushes_keep law limit old new (record { head = head; changes = changes }) told form.normal p

changeset_keeps : AppendedIsLog → (limit : ℕ) (old new : HubState) (head : PushHead) (changeset : List ℕ) (outcome : Outcome) → TakesBytes limit old head changeset outcome new → IsOfHub old → IsOfHub new
changeset_keeps law limit old new head changeset outcome (inl (f, at, w, a, s)) = same_hub old new s
changeset_keeps law limit old new head changeset outcome (inr (groups, fits, is, p)) = groups_keep law limit old new head groups outcome p

asked_keeps : AppendedIsLog → WidensKeepLog → (limit : ℕ) (old new : HubState) (asked : Result Asked WireFault) (answer : List ℕ) → AnswersAsked limit old asked answer new → IsOfHub old → IsOfHub new
asked_keeps law columns limit old new (Err fault) answer (a, s) = same_hub old new s
asked_keeps law columns limit old new (Ok (AsksPull first count)) answer (a, s) = same_hub old new s
asked_keeps law columns limit old new (Ok (AsksCatch asker first count)) answer (a, s) = same_hub old new s
asked_keeps law columns limit old new (Ok (AsksWiden number base width table)) answer (some, (told, p, is), a) = λ hub. columns limit old new (record { number = number; base = base; table = table; width = width }) told hub p
asked_keeps law columns limit old new (Ok (AsksPush head changeset)) answer (some, p, a) = changeset_keeps law limit old new head changeset some p

decoded_keeps : AppendedIsLog → WidensKeepLog → (limit : ℕ) (old new : HubState) (decoded : Result (List ℕ) _) (answer : List ℕ) → AnswersDecoded (Serves limit) old decoded answer new → IsOfHub old → IsOfHub new
decoded_keeps law columns limit old new (Ok request) answer (asked, asks, p) = asked_keeps law columns limit old new asked answer p
decoded_keeps law columns limit old new (Err fault) answer (a, s) = same_hub old new s

answer_keeps : AppendedIsLog → WidensKeepLog → (limit : ℕ) (old new : HubState) (line answer : List ℕ) → Answers (Serves limit) IsSame old line answer new → IsOfHub old → IsOfHub new
answer_keeps law columns limit old new line answer (inl served) = decoded_keeps law columns limit old new _ answer served
answer_keeps law columns limit old new line answer (inr (a, inl s)) = same_hub old new s
answer_keeps law columns limit old new line answer (inr (a, inr s)) = same_hub old new s

along : AppendedIsLog → WidensKeepLog → OneService → (limit : ℕ) (old : HubState) (lines : List (List ℕ)) → IsOfHub old → HasOneAnswerAlong (Serves limit) IsSame old lines
along law columns once limit old [] is = tt
along law columns once limit old (line ∷ lines) is = (
  λ request one other new next first second. once limit old new next request one other is first second,
  λ answer mid served. along law columns once limit mid lines (answer_keeps law columns limit old mid line answer served is),
)

pub one_hub_run : AppendedIsLog → WidensKeepLog → EmptyIsLog → OneService → (limit : ℕ) → OneHubRun limit
one_hub_run law columns begins once limit tables new last lines ones others are here there first second =
    once_run.one_run (Serves limit) IsSame (fresh tables) new last lines ones others
    (along law columns once limit (fresh tables) lines (record { tables = are; log = begins tables })) here there first second
