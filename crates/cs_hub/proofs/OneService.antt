-- A request has one answer, and leaves one hub.
use Rattle.std.proofs.Common.{◌≡◌, ℕ, List, Result, Ok, Err, drop, length, min, inl, inr, sym, ap, subst, ◌∙◌, arith}
use Rattle.cs_value.specs.Catalog.{AreTables}
use Rattle.cs_change.specs.declared.group.Group.{Group}
use Rattle.cs_changeset.specs.declared.fault.Fault.{Fault}
use Rattle.cs_changeset.specs.Laws.{ChangesetLaws}
use Rattle.cs_normalising.specs.Laws.{NoFaultWhereFit, OneNormalForm, OneUnfit}
use Rattle.cs_normalising.specs.declared.unfit.Unfit.{Unfit}
use Rattle.cs_normal.specs.declared.normal.TableChanges.{TableChanges}
use Rattle.cs_hub.specs.catching.Laws.{OneCatch}
use Rattle.cs_hub.specs.declared.catching.caught.Caught.{Caught}
use Rattle.cs_store.specs.log.Laws.{CatalogsAreTables}
use Rattle.cs_store.specs.log.Log.{catalog_at}
use Rattle.cs_hub.specs.judgement.Hub.{HubState, judging}
use Rattle.cs_hub.specs.judgement.Laws.{OneAnswer, OneWidenAnswer}
use Rattle.cs_hub.specs.judgement.Widens.{WidenAsked}
use Rattle.cs_hub.specs.judgement.Pushes.{Push}
use Rattle.cs_wire.specs.Laws.{OneRequest}
use Rattle.cs_hub.specs.Laws.{OneService}
use Rattle.cs_wire.specs.Requests.{Asked, AsksCatch, AsksPush, AsksPull, AsksWiden}
use Rattle.cs_wire.specs.Answers.{answer_spelling}
use Rattle.cs_wire.specs.declared.fault.WireFault.{WireFault}
use Rattle.cs_hub.specs.Serves.{AnswersAsked, Outcome, TakesBytes, TakesGroups, TakesNormal, TakesWiden, TellsCaught, caught_answer, or_refusal, push_answer, widen_head}
use Rattle.cs_wire.specs.declared.push_head.PushHead.{PushHead}
use Rattle.cs_hub.specs.declared.refusal.Refusal.{Refusal}
use Rattle.cs_hub.specs.declared.refusal.Refusal.TheVariants.{NoChangeset, NoForm}

-- the laws below
pub record Below : Type 0 where
  pub changesets : ChangesetLaws
  pub form : OneNormalForm
  pub fit : NoFaultWhereFit
  pub unfit : OneUnfit
  pub request : OneRequest
  pub answer : OneAnswer
  pub caught : OneCatch
  pub widens : OneWidenAnswer

-- the catalog at each version is one
abbrev AreCatalogs : HubState → Type 0
AreCatalogs hub = (version : ℕ) → AreTables (catalog_at hub.opening hub.log version)

abbrev Agree : Outcome → Outcome → HubState → HubState → Type 0
Agree one other new last = (one ≡ other) × (new ≡ last)

refuse : (old new last : HubState) (one other : Outcome) (some told : Refusal) → some ≡ told → one ≡ Err some → other ≡ Err told → new ≡ old → last ≡ old → Agree one other new last
refuse old new last one other some told same a b n m = (a ∙ ap (λ (r : Refusal). Err r) same ∙ sym b, n ∙ sym m)

pushes_agree : (laws : Below) (limit : ℕ) (old new last : HubState) (push : Push) (one other : Outcome) → TakesNormal limit old push one new → TakesNormal limit old push other last → Agree one other new last
pushes_agree laws limit old new last push one other (some, p, a) (others, q, b) =
    let both = laws.answer limit old new last push some others p q in
    (a ∙ ap or_refusal both.0 ∙ sym b, both.1)

forms_agree : (laws : Below) (limit : ℕ) (old new last : HubState) (head : PushHead) (some others : List TableChanges) (one other : Outcome) → some ≡ others
    → TakesNormal limit old (record { head = head; changes = some }) one new
    → TakesNormal limit old (record { head = head; changes = others }) other last
    → Agree one other new last
forms_agree laws limit old new last head some others one other same p q =
    pushes_agree laws limit old new last (record { head = head; changes = others }) one other (subst (λ (c : List TableChanges). TakesNormal limit old (record { head = head; changes = c }) one new) same p) q

groups_agree : (laws : Below) (limit : ℕ) (old new last : HubState) (head : PushHead) (groups : List Group) (one other : Outcome) → AreCatalogs old → TakesGroups limit old head groups one new → TakesGroups limit old head groups other last → Agree one other new last
groups_agree laws limit old new last head groups one other are (inl (f, m, u, a, n)) (inl (g, k, v, b, l)) =
    refuse old new last one other (NoForm f) (NoForm g) (ap (λ (h : Unfit). NoForm h) (laws.unfit f g (judging old head.base) groups (are (min head.base (length old.log))) u v m k)) a b n l
groups_agree laws limit old new last head groups one other are (inl (f, m, u, a, n)) (inr (changes, form, p)) =
    absurd (m (laws.fit f (judging old head.base) groups (are (min head.base (length old.log))) form.fit u))
groups_agree laws limit old new last head groups one other are (inr (changes, form, p)) (inl (f, m, u, a, n)) =
    absurd (m (laws.fit f (judging old head.base) groups (are (min head.base (length old.log))) form.fit u))
groups_agree laws limit old new last head groups one other are (inr (some, form, p)) (inr (others, form', q)) =
    forms_agree laws limit old new last head some others one other (laws.form (judging old head.base) groups some others (are (min head.base (length old.log))) form form') p q

changesets_agree : (laws : Below) (limit : ℕ) (old new last : HubState) (head : PushHead) (changeset : List ℕ) (one other : Outcome) → AreCatalogs old → TakesBytes limit old head changeset one new → TakesBytes limit old head changeset other last → Agree one other new last
changesets_agree laws limit old new last head changeset one other are (inl (f, at, w, a, n)) (inl (g, there, v, b, m)) =
    refuse old new last one other (NoChangeset f) (NoChangeset g) (ap (λ (h : Fault). NoChangeset h) (laws.changesets.fault f g at there changeset w v).0) a b n m
changesets_agree laws limit old new last head changeset one other are (inl (f, at, w, a, n)) (inr (groups, fits, is, p)) =
    absurd (laws.changesets.right groups f at fits (rw is at w))
changesets_agree laws limit old new last head changeset one other are (inr (groups, fits, is, p)) (inl (f, at, w, a, n)) =
    absurd (laws.changesets.right groups f at fits (rw is at w))
changesets_agree laws limit old new last head changeset one other are (inr (groups, fits, is, p)) (inr (others, fits', is', q)) =
    let same : groups ≡ others = laws.changesets.one groups others fits fits' (sym is ∙ is') in
    groups_agree laws limit old new last head others one other are (subst (λ (g : List Group). TakesGroups limit old head g one new) same p) q

widens_agree : (laws : Below) (limit : ℕ) (old new last : HubState) (asked : WidenAsked) (one other : Outcome) → TakesWiden limit old asked one new → TakesWiden limit old asked other last → Agree one other new last
widens_agree laws limit old new last asked one other (some, p, a) (others, q, b) =
    let both = laws.widens limit old new last asked some others p q in
    (a ∙ ap or_refusal both.0 ∙ sym b, both.1)

caught_agree : (laws : Below) (old : HubState) (asker first count : ℕ) (answer other : List ℕ) → AreCatalogs old → TellsCaught old asker first count answer → TellsCaught old asker first count other → answer ≡ other
caught_agree laws old asker first count answer other are (told, catches, a) (others, catches', b) =
    let same : told ≡ others = laws.caught (catalog_at old.opening old.log first) asker count (drop first old.log) told others (are first) catches catches' in
    a ∙ ap (λ (c : Caught). answer_spelling (caught_answer asker first old.log c)) same ∙ sym b

asked_agree : (laws : Below) (limit : ℕ) (old new last : HubState) (asked : Result Asked WireFault) (answer other : List ℕ) → AreCatalogs old → AnswersAsked limit old asked answer new → AnswersAsked limit old asked other last → (answer ≡ other) × (new ≡ last)
asked_agree laws limit old new last (Err fault) answer other are (a, n) (b, m) = (a ∙ sym b, n ∙ sym m)
asked_agree laws limit old new last (Ok (AsksPull first count)) answer other are (inl (lt, a), n) (inl (lt', b), m) = (a ∙ sym b, n ∙ sym m)
asked_agree laws limit old new last (Ok (AsksPull first count)) answer other are (inl (lt, a), n) (inr (le, b), m) = absurd (omega arith)
asked_agree laws limit old new last (Ok (AsksPull first count)) answer other are (inr (le, a), n) (inl (lt, b), m) = absurd (omega arith)
asked_agree laws limit old new last (Ok (AsksPull first count)) answer other are (inr (le, a), n) (inr (le', b), m) = (a ∙ sym b, n ∙ sym m)
asked_agree laws limit old new last (Ok (AsksCatch asker first count)) answer other are (inl (lt, a), n) (inl (lt', b), m) = (a ∙ sym b, n ∙ sym m)
asked_agree laws limit old new last (Ok (AsksCatch asker first count)) answer other are (inl (lt, a), n) (inr (le, told), m) = absurd (omega arith)
asked_agree laws limit old new last (Ok (AsksCatch asker first count)) answer other are (inr (le, told), n) (inl (lt, b), m) = absurd (omega arith)
asked_agree laws limit old new last (Ok (AsksCatch asker first count)) answer other are (inr (le, told), n) (inr (le', also), m) =
    (caught_agree laws old asker first count answer other are told also, n ∙ sym m)
asked_agree laws limit old new last (Ok (AsksWiden number base width table)) answer other are (some, p, a) (others, q, b) =
    let both = widens_agree laws limit old new last (record { number = number; base = base; table = table; width = width }) some others p q in
    (a ∙ ap (λ (o : Outcome). answer_spelling (push_answer (widen_head number base) o)) both.0 ∙ sym b, both.1)
asked_agree laws limit old new last (Ok (AsksPush head changeset)) answer other are (some, p, a) (others, q, b) =
    let both = changesets_agree laws limit old new last head changeset some others are p q in
    (a ∙ ap (λ (o : Outcome). answer_spelling (push_answer head o)) both.0 ∙ sym b, both.1)

pub one_service : CatalogsAreTables → Below → OneService
one_service catalogs laws limit old new last request answer other hub (one, asks, answers) (two, asks', answers') =
    let same : one ≡ two = laws.request request one two asks asks' in
    let are : AreCatalogs old = λ version. catalogs old.opening old.log version hub.tables hub.log in
    asked_agree laws limit old new last two answer other are (subst (λ (a : Result Asked WireFault). AnswersAsked limit old a answer new) same answers) answers'
