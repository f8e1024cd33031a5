-- A request that is judged, with nothing changed.
use Rattle.std.proofs.Common.{Vec, ◌≡◌, ◌≢◌, ◌∙◌, ◌+◌, ◌≤◌, ℕ, List, length, min, Result, Ok, Err, inl, inr, refl, sym, ap, subst, arith}
use Rattle.std.specs.Global.{Global}
use Rattle.std.specs.Prelude.{IfOk}
use Rattle.cs_value.specs.declared.catalog.TableDef.{TableDef}
use Rattle.cs_change.specs.Spelling.{FitsChangeset, changeset_spelling}
use Rattle.cs_change.specs.declared.group.Group.{Group}
use Rattle.cs_store.specs.Contents.{Contents}
use Rattle.cs_store.specs.declared.batch.Batch.{Batch}
use Rattle.cs_store.specs.log.Stored.{IsEntryOf}
use Rattle.cs_store.specs.log.Widens.{CatalogByWidens}
use Rattle.cs_store.specs.declared.log.entry.TheConstants.{MAX_CHANGESET}
use Rattle.cs_normal.specs.Normal.{FitsCatalog, IsNormalChangeset, normal_spelling}
use Rattle.cs_store.specs.declared.log.entry.LogEntry.{LogEntry}
use Rattle.cs_normalising.specs.NormalFormOf.{IsNormalFormOf}
use Rattle.cs_normal.specs.declared.normal.TableChanges.{TableChanges}
use Rattle.cs_hub.specs.judgement.Hub.{HubState, judging, with_entry}
use Rattle.cs_hub.specs.judgement.Judged.{IsJudgement, IsOfPush, hub_of}
use Rattle.cs_hub.specs.judgement.Pushes.{Push, Pushes, entry_of_push}
use Rattle.cs_hub.specs.declared.judgement.fault.HubFault.{HubFault}
use Rattle.cs_hub.specs.declared.judgement.fault.HubFault.TheVariants as hub
use Rattle.cs_hub.specs.declared.judgement.push.Judgement.{Judgement}
use Rattle.cs_hub.specs.declared.judgement.push.Judgement.TheVariants as judged
use Rattle.cs_hub.specs.declared.judgement.push.Pushed.{Pushed}
use Rattle.cs_hub.specs.declared.judgement.push.Pushed.TheVariants as pushed
use Rattle.cs_wire.specs.Requests.{Asked, AsksWiden, ReadsRequest}
use Rattle.cs_wire.specs.declared.fault.WireFault.{WireFault}
use Rattle.cs_wire.specs.declared.push_head.PushHead.{PushHead}
use Rattle.cs_hub.specs.appending.Appended.{AppendsEntry}
use Rattle.cs_hub.specs.log_store.Versions.{ShowsBy, Versions, judging_tables, newest_tables, tables_by}
use Rattle.cs_hub.specs.Follows.{FitsBehind}
use Rattle.cs_hub.specs.Judges.{IsJudged}
use Rattle.cs_hub.specs.Refusals.{refusal_of_hub}
use Rattle.cs_hub.specs.Serves.{AnswersAsked, Outcome, TakesBytes, TakesWiden, or_refusal, push_answer, refused, widen_head}
use Rattle.cs_wire.specs.Answers.{answer_spelling}
use Rattle.cs_hub.specs.judgement.Widens.{IsOfWiden, IsWidenJudgement, WidenAsked}
use Rattle.cs_hub.specs.declared.judgement.widen.TheConstants.{WIDEN_ORIGIN}
use Rattle.cs_hub.specs.Steps.{AnswersAskedIf, IsEntryToAppend, IsJudgedAs, JudgesBytes, JudgesWiden, TakesWidenIf}
use Rattle.cs_hub.specs.declared.judged.Judged.{Judged}
use Rattle.cs_hub.specs.declared.judged.Judged.TheVariants.{Reply, Append}
use Rattle.cs_hub.specs.declared.refusal.Refusal.{Refusal}
use Rattle.cs_hub.specs.declared.refusal.Refusal.TheVariants.{ByHub, Memory as NoMemory, NoChangeset, NoForm, NoRequest}
use Rattle.cs_hub.proofs.LogStoreLemmas.Versions.{judging_shown, newest_shown}

-- ---- the bytes of a push

abbrev pub push_of : PushHead → List TableChanges → Push
push_of head changes = record { head = head; changes = changes }

-- a changeset that the bytes spell, and its normal form
pub record HasForm (tables : List TableDef) (bytes : List ℕ) (changes : List TableChanges) : Type 0 where
  pub groups : List Group
  pub fits : FitsChangeset groups
  pub spelled : bytes ≡ changeset_spelling groups
  pub form : IsNormalFormOf tables groups changes

-- the normal form by the tables that are known at its base
pub has_form_at : CatalogByWidens → (versions : Versions) (contents : Contents) (log : List LogEntry) → ShowsBy versions contents log → (head : PushHead) (bytes : List ℕ) (groups : List Group) (changes : List TableChanges)
    → FitsChangeset groups × (bytes ≡ changeset_spelling groups) → IsNormalFormOf (judging_tables versions head.base) groups changes → HasForm (judging (hub_of versions.opening log) head.base) bytes changes
has_form_at law versions contents log shows head bytes groups changes (fits, spelled) normal = record {
  groups = groups;
  fits = fits;
  spelled = spelled;
  form = subst (λ (t : List TableDef). IsNormalFormOf t groups changes) (judging_shown law versions log shows.2 shows.1 head.base) normal;
}

-- what is to be appended is one of the newest tables
pub to_append_of : (versions : Versions) (limit : ℕ) (head : PushHead) (changes : List TableChanges) → IsNormalChangeset changes → FitsCatalog (judging_tables versions head.base) changes → length (normal_spelling changes) ≤ MAX_CHANGESET
    → (judgement : Judgement) → IsOfPush limit versions.newest (push_of head changes) judgement → IsEntryToAppend versions limit head judgement
to_append_of versions limit head changes normal fits size (judged.Told told) of = tt
to_append_of versions limit head changes normal fits size (judged.Append entry batch) of =
    let last : min head.base versions.newest ≡ versions.newest = omega (arith, of.1) in
    let fits_there = subst (λ (n : ℕ). FitsCatalog (tables_by versions n) changes) last fits in
    let is : IsEntryOf (newest_tables versions) (entry_of_push (push_of head changes)) = record { changes = (normal, fits_there); widens = tt; size = size } in
    (subst (IsEntryOf (newest_tables versions)) (sym of.0) is, of.1, of.2, ap (λ (e : LogEntry). e.origin) of.0, ap (λ (e : LogEntry). e.number) of.0)

-- and fits behind the log that is shown
pub fits_behind : CatalogByWidens → (versions : Versions) (contents : Contents) (log : List LogEntry) → ShowsBy versions contents log → (entry : LogEntry) (batch : Batch) → IsEntryOf (newest_tables versions) entry → AppendsEntry versions entry contents batch
    → FitsBehind versions.opening log entry
fits_behind law versions contents log shows entry batch of appends =
    (subst (λ (t : List TableDef). IsEntryOf t entry) (newest_shown law versions log shows.2 shows.1) of, (appends log shows).0)

-- a push by its normal form
to_bytes : (limit : ℕ) (head : PushHead) (bytes : List ℕ) (opening : List TableDef) (log : List LogEntry) (new : HubState) (changes : List TableChanges) (told : Result Pushed HubFault) (outcome : Outcome) → outcome ≡ or_refusal told → HasForm (judging (hub_of opening log) head.base) bytes changes
    → Pushes limit (hub_of opening log) (push_of head changes) told new → TakesBytes limit (hub_of opening log) head bytes outcome new
to_bytes limit head bytes opening log new changes told outcome is has pushes = inr (has.groups, has.fits, has.spelled, inr (changes, has.form, (told, pushes, is)))

module _ (device_failed : Type 0) (limit : ℕ) (head : PushHead) (bytes : List ℕ) (opening : List TableDef) (log : List LogEntry) (changes : List TableChanges) (has : HasForm (judging (hub_of opening log) head.base) bytes changes) where
  -- it was judged
  pub judged_so : (judgement : Judgement) → IsJudgement limit (hub_of opening log) (push_of head changes) (Ok judgement) → JudgesBytes device_failed limit (hub_of opening log) head bytes (Ok judgement)
  judged_so (judged.Told told) is = to_bytes limit head bytes opening log (hub_of opening log) changes (Ok told) (Ok told) refl has is
  judged_so (judged.Append entry batch) is =
      to_bytes limit head bytes opening log (with_entry (hub_of opening log) entry) changes (Ok (pushed.Accepted (head.base + 1))) (Ok (pushed.Accepted (head.base + 1))) refl has is

  pub refused_so : (fault : HubFault) → (fault ≡ hub.Device → device_failed) → IsJudgement limit (hub_of opening log) (push_of head changes) (Err fault)
      → JudgesBytes device_failed limit (hub_of opening log) head bytes (Err (refusal_of_hub fault))
  refused_so hub.Memory device is = is
  refused_so hub.Device device is = (device refl, is)
  refused_so hub.Ahead device is = to_bytes limit head bytes opening log (hub_of opening log) changes (Err hub.Ahead) (Err (ByHub hub.Ahead)) refl has is
  refused_so hub.Empty device is = to_bytes limit head bytes opening log (hub_of opening log) changes (Err hub.Empty) (Err (ByHub hub.Empty)) refl has is
  refused_so hub.Full device is = to_bytes limit head bytes opening log (hub_of opening log) changes (Err hub.Full) (Err (ByHub hub.Full)) refl has is
  refused_so hub.BadWiden device is = to_bytes limit head bytes opening log (hub_of opening log) changes (Err hub.BadWiden) (Err (ByHub hub.BadWiden)) refl has is
  refused_so (hub.Conflict conflict) device is =
      to_bytes limit head bytes opening log (hub_of opening log) changes (Err (hub.Conflict conflict)) (Err (ByHub (hub.Conflict conflict))) refl has is

-- ---- new columns

module _ (device_failed : Type 0) (limit : ℕ) (old : HubState) (asked : WidenAsked) where
  -- they were judged
  pub widen_so : (judgement : Judgement) → IsWidenJudgement limit old asked (Ok judgement) → JudgesWiden device_failed limit old asked (Ok judgement)
  widen_so (judged.Told told) is = (Ok told, is, refl)
  widen_so (judged.Append entry batch) is = (Ok (pushed.Accepted (asked.base + 1)), is, refl)

  pub widen_refused_so : (fault : HubFault) → (fault ≡ hub.Device → device_failed) → IsWidenJudgement limit old asked (Err fault) → JudgesWiden device_failed limit old asked (Err (refusal_of_hub fault))
  widen_refused_so hub.Memory device is = is
  widen_refused_so hub.Device device is = (device refl, is)
  widen_refused_so hub.Ahead device is = (Err hub.Ahead, is, refl)
  widen_refused_so hub.Empty device is = (Err hub.Empty, is, refl)
  widen_refused_so hub.Full device is = (Err hub.Full, is, refl)
  widen_refused_so hub.BadWiden device is = (Err hub.BadWiden, is, refl)
  widen_refused_so (hub.Conflict conflict) device is = (Err (hub.Conflict conflict), is, refl)

-- what is to be appended is one of the newest tables
pub widen_to_append_of : (versions : Versions) (limit : ℕ) (head : PushHead) (table : List ℕ) (width : ℕ) → head.origin ≡ WIDEN_ORIGIN → (judgement : Judgement)
    → IsOfWiden limit versions (record { number = head.number; base = head.base; table = table; width = width }) judgement → IsEntryToAppend versions limit head judgement
widen_to_append_of versions limit head table width origin (judged.Told told) of = tt
widen_to_append_of versions limit head table width origin (judged.Append entry batch) of =
    (of.3, of.1, of.2, ap (λ (e : LogEntry). e.origin) of.0 ∙ sym origin, ap (λ (e : LogEntry). e.number) of.0)

-- it is told so
module _ (limit : ℕ) (old new : HubState) (head : PushHead) (table : List ℕ) (width : ℕ) (origin : head.origin ≡ WIDEN_ORIGIN) where
  abbrev Asked2 : WidenAsked
  Asked2 = record { number = head.number; base = head.base; table = table; width = width }

  head_is : head ≡ widen_head head.number head.base
  head_is = ap (λ (o : ℕ). made o head.number head.base) origin
    where
      made : ℕ → ℕ → ℕ → PushHead
      made o n b = record { origin = o; number = n; base = b }

  pub widen_answered : (outcome : Outcome) (bytes : List ℕ) → TakesWiden limit old Asked2 outcome new → bytes ≡ answer_spelling (push_answer head outcome) → AnswersAsked limit old (Ok (AsksWiden head.number head.base width table)) bytes new
  widen_answered outcome bytes takes is = (outcome, takes, is ∙ ap (λ (h : PushHead). answer_spelling (push_answer h outcome)) head_is)

module _ (device_failed : Type 0) (limit : ℕ) (old : HubState) (head : PushHead) (table : List ℕ) (width : ℕ) (origin : head.origin ≡ WIDEN_ORIGIN) (bytes : List ℕ) where
  abbrev AnswersWiden : Type 0
  AnswersWiden = AnswersAskedIf device_failed limit old (Ok (AsksWiden head.number head.base width table)) bytes old

  by_hub : (fault : HubFault) → bytes ≡ answer_spelling (push_answer head (Err (ByHub fault))) → TakesWidenIf device_failed limit old (record { number = head.number; base = head.base; table = table; width = width }) (Err (ByHub fault)) old → AnswersWiden
  by_hub hub.Device is takes = inr (takes.0, is, refl)
  by_hub hub.Memory is takes = inl (widen_answered limit old old head table width origin (Err (ByHub hub.Memory)) bytes takes is)
  by_hub hub.Ahead is takes = inl (widen_answered limit old old head table width origin (Err (ByHub hub.Ahead)) bytes takes is)
  by_hub hub.Empty is takes = inl (widen_answered limit old old head table width origin (Err (ByHub hub.Empty)) bytes takes is)
  by_hub hub.Full is takes = inl (widen_answered limit old old head table width origin (Err (ByHub hub.Full)) bytes takes is)
  by_hub hub.BadWiden is takes = inl (widen_answered limit old old head table width origin (Err (ByHub hub.BadWiden)) bytes takes is)
  by_hub (hub.Conflict conflict) is takes = inl (widen_answered limit old old head table width origin (Err (ByHub (hub.Conflict conflict))) bytes takes is)

  pub widen_refusal_told : (refusal : Refusal) → ◌≢◌ {A = Outcome} (Err refusal) (Err NoMemory) → bytes ≡ answer_spelling (push_answer head (Err refusal))
      → TakesWidenIf device_failed limit old (record { number = head.number; base = head.base; table = table; width = width }) (Err refusal) old → AnswersWiden
  widen_refusal_told NoMemory some is takes = absurd (some refl)
  widen_refusal_told (NoRequest fault) some is takes = inl (widen_answered limit old old head table width origin (Err (NoRequest fault)) bytes takes is)
  widen_refusal_told (NoChangeset fault) some is takes = inl (widen_answered limit old old head table width origin (Err (NoChangeset fault)) bytes takes is)
  widen_refusal_told (NoForm unfit) some is takes = inl (widen_answered limit old old head table width origin (Err (NoForm unfit)) bytes takes is)
  widen_refusal_told (ByHub fault) some is takes = by_hub fault is takes

-- ---- a request

module _ (device_failed : Type 0) (limit : ℕ) (opening : List TableDef) (log : List LogEntry) where
  abbrev As : Result Asked WireFault → Judged → Type 0
  As = IsJudgedAs device_failed limit opening log

  pub no_request_so : (fault : WireFault) (bytes : Vec ℕ Global) → bytes.items ≡ refused (NoRequest fault) → As (Err fault) (Reply bytes)
  no_request_so fault bytes is = inl (is, refl)

  pub asked_so : (request : List ℕ) (asked : Result Asked WireFault) (told : Judged) → ReadsRequest request asked → As asked told → IsJudged device_failed limit opening log request told
  asked_so request asked (Reply bytes) reads (inl right) = inl (asked, reads, right)
  asked_so request asked (Reply bytes) reads (inr broken) = inr broken
  asked_so request asked (Append entry batch reply) reads is = (is.0, (asked, reads, is.1))

  pub each_so : {E : Type 0} (request : List ℕ) (asked : Result Asked WireFault) (least : ℕ) (result : Result Judged E) → limit ≡ least → ReadsRequest request asked → IfOk result (As asked)
      → IfOk result (IsJudged device_failed least opening log request)
  each_so request asked least (Ok told) same reads is = subst (λ (n : ℕ). IsJudged device_failed n opening log request told) same (asked_so request asked told reads is)
  each_so request asked least (Err want) same reads is = tt
