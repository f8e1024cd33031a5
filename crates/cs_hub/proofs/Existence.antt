-- Each request has an answer.
use Rattle.std.proofs.Common.{inl, inr, ℕ, List, [], ◌∷◌, drop, length, map, min, take, Result, Ok, Err, refl, subst}
use Rattle.std.specs.List.{All}
use Rattle.std.proofs.lemmas.Bool.{cases_lt}
use Rattle.std.proofs.lemmas.List.Elements.{All-from_recursion, recursion_from_All}
use Rattle.cs_value.specs.declared.catalog.TableDef.{TableDef}
use Rattle.cs_change.specs.Spelling.{FitsChangeset}
use Rattle.cs_change.specs.declared.group.Group.{Group}
use Rattle.cs_normalising.specs.Laws.{FormOrUnfit}
use Rattle.cs_changeset.specs.Laws.{ChangesetOrFault}
use Rattle.cs_varint.specs.Bytes.{AreBytes, bytes_behind}
use Rattle.cs_store.specs.log.Laws.{CatalogNext, CatalogsAreTables}
use Rattle.cs_store.specs.log.Log.{IsLog, catalog_at}
use Rattle.cs_store.specs.declared.log.entry.LogEntry.{LogEntry}
use Rattle.cs_hub.specs.catching.Laws.{CatchHasAnswer}
use Rattle.cs_hub.specs.judgement.Hub.{HubState, entries_from, judging}
use Rattle.cs_hub.specs.judgement.Laws.{IsOfHub, PushHasAnswer, WidenHasAnswer}
use Rattle.cs_hub.specs.declared.judgement.fault.HubFault.TheVariants.{Ahead}
use Rattle.cs_wire.specs.Laws.{AsksSomething}
use Rattle.cs_wire.specs.Requests.{Asked, AsksCatch, AsksPush, AsksPull, AsksWiden, ReadsRequest, push_numbers, push_tag}
use Rattle.cs_wire.specs.Answers.{answer_spelling}
use Rattle.cs_wire.specs.Numbers.{eight_bytes, four_bytes}
use Rattle.cs_wire.specs.Told.{told_entry}
use Rattle.cs_wire.specs.declared.answer.Answer.TheVariants.{Entries}
use Rattle.cs_wire.specs.declared.fault.WireFault.{WireFault}
use Rattle.cs_wire.specs.declared.push_head.PushHead.{PushHead}
use Rattle.cs_hub.specs.Laws.{RequestHasAnswer}
use Rattle.cs_hub.specs.Serves.{AnswersAsked, Outcome, TakesBytes, TakesGroups, caught_answer, or_refusal, push_answer, refused, widen_head}
use Rattle.cs_hub.specs.declared.refusal.Refusal.TheVariants.{NoRequest, NoChangeset, NoForm, ByHub}
use Rattle.cs_hub.proofs.CatchingLemmas.Plain.{Fits, IsPlain, plain_fit}

-- the laws below
pub record Found : Type 0 where
  pub asks : AsksSomething
  pub pushes : PushHasAnswer
  pub catches : CatchHasAnswer
  pub read : ChangesetOrFault
  pub decided : FormOrUnfit
  pub catalogs : CatalogsAreTables
  pub next : CatalogNext
  pub widens : WidenHasAnswer

abbrev Takes : ℕ → HubState → PushHead → (Outcome → HubState → Type 0) → Type 0
Takes limit old head holds = (outcome : Outcome) × (new : HubState) × holds outcome new

of_groups : Found → (limit : ℕ) (old : HubState) (head : PushHead) (groups : List Group) → IsOfHub old → FitsChangeset groups → Takes limit old head (TakesGroups limit old head groups)
of_groups laws limit old head groups hub fits =
    elim (laws.decided (judging old head.base) groups (laws.catalogs old.opening old.log (min head.base (length old.log)) hub.tables hub.log) fits) [
      | inr (fault, some, wrong) ↦ (Err (NoForm fault), old, inl (fault, some, wrong, refl, refl))
      | inl form ↦
          let told = laws.pushes limit old (record { head = head; changes = form.0 }) hub (form.1.normal, form.1.of_catalog) in
          (or_refusal told.0, told.1, inr (form.0, form.1, (told.0, told.2, refl)))
    ]

of_bytes : Found → (limit : ℕ) (old : HubState) (head : PushHead) (bytes : List ℕ) → IsOfHub old → AreBytes bytes → Takes limit old head (TakesBytes limit old head bytes)
of_bytes laws limit old head bytes hub small =
    elim (laws.read bytes small) [
      | inr (fault, offset, wrong) ↦ (Err (NoChangeset fault), old, inl (fault, offset, wrong, refl, refl))
      | inl (groups, fits, is) ↦
          let taken = of_groups laws limit old head groups hub fits in
          (taken.0, taken.1, inr (groups, fits, is, taken.2))
    ]

-- the bytes of a changeset stand in those of its push
small_changeset : (head : PushHead) (size : ℕ) (bytes : List ℕ) → AreBytes (push_tag ∷ push_numbers head size bytes) → AreBytes bytes
small_changeset head size bytes all =
    bytes_behind (four_bytes size) bytes
    (bytes_behind (eight_bytes head.base) _
    (bytes_behind (eight_bytes head.number) _
    (bytes_behind (four_bytes head.origin) _ (bytes_behind (push_tag ∷ []) _ all))))

-- as long as none widens a table, the entries of a log from a version on change the tables there
all_fit : CatalogNext → (opening : List TableDef) (log : List LogEntry) → IsLog opening log → (first count : ℕ) → All IsPlain (take count (drop first log)) → All (Fits (catalog_at opening log first)) (take count (drop first log))
all_fit law opening log is first count plain =
    All-from_recursion (Fits (catalog_at opening log first)) (take count (drop first log))
    (plain_fit law opening log is count first (recursion_from_All IsPlain (take count (drop first log)) plain))

of_asked : Found → (limit : ℕ) (old : HubState) (request : List ℕ) (asked : Result Asked WireFault) → IsOfHub old → AreBytes request → ReadsRequest request asked → (answer : List ℕ) × (new : HubState) × AnswersAsked limit old asked answer new
of_asked laws limit old request (Err fault) hub small asks = (refused (NoRequest fault), old, (refl, refl))
of_asked laws limit old request (Ok (AsksPull first count)) hub small asks =
    elim (cases_lt (length old.log) first) [
      | inl above ↦ (refused (ByHub Ahead), old, (inl (above, refl), refl))
      | inr within ↦ (answer_spelling (Entries first (map told_entry (entries_from first count old.log))), old, (inr (within, refl), refl))
    ]
of_asked laws limit old request (Ok (AsksWiden number base width table)) hub small asks =
    let told = laws.widens limit old (record { number = number; base = base; table = table; width = width }) in
    (answer_spelling (push_answer (widen_head number base) (or_refusal told.0)), told.1, (or_refusal told.0, (told.0, told.2, refl), refl))
of_asked laws limit old request (Ok (AsksCatch asker first count)) hub small asks =
    elim (cases_lt (length old.log) first) [
      | inl above ↦ (refused (ByHub Ahead), old, (inl (above, refl), refl))
      | inr within ↦
          let tables = catalog_at old.opening old.log first in
          let told = laws.catches tables asker count (drop first old.log) (laws.catalogs old.opening old.log first hub.tables hub.log) (all_fit laws.next old.opening old.log hub.log first) in
          (answer_spelling (caught_answer asker first old.log told.0), old, (inr (within, (told.0, told.1, refl)), refl))
    ]
of_asked laws limit old request (Ok (AsksPush head changeset)) hub small asks =
    let bytes : AreBytes changeset = small_changeset head (length changeset) changeset (subst AreBytes asks.1 small) in
    let taken = of_bytes laws limit old head changeset hub bytes in
    (answer_spelling (push_answer head taken.0), taken.1, (taken.0, taken.2, refl))

pub request_has_answer : Found → RequestHasAnswer
request_has_answer laws limit old request hub small =
    let asked = laws.asks request small in
    let told = of_asked laws limit old request asked.0 hub small asked.1 in
    (told.0, told.1, (asked.0, asked.1, told.2))
