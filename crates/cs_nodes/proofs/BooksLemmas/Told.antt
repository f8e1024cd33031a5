-- What a book tells.
use Rattle.std.proofs.Common.{Vec, ◌≡◌, ◌⊎◌, ℕ, ◌+◌, ◌≤◌, List, [], ◌∷◌, ◌++◌, length, min, Result, Ok, Err, inl, inr, sym, ap, subst, ◌∙◌, arith, append_assoc, length-append}
use Rattle.std.specs.Global.{Global}
use Rattle.std.specs.Prelude.{IfOk}
use Rattle.cs_value.specs.declared.catalog.TableDef.{TableDef}
use Rattle.cs_store.specs.declared.log.entry.LogEntry.{LogEntry}
use Rattle.cs_store.specs.Calls.{MoreFailures}
use Rattle.cs_hub.specs.judgement.Judged.{hub_of}
use Rattle.cs_nodes.specs.following.Standing.{Begins}
use Rattle.cs_hub.specs.Judges.{IsJudged}
use Rattle.cs_hub.specs.Laws.{ServedAgain, StaleBehindAnother}
use Rattle.cs_hub.specs.Serves.{Serves}
use Rattle.cs_hub.specs.declared.follow_fault.FollowFault.{FollowFault}
use Rattle.cs_hub.specs.declared.follow_fault.FollowFault.TheVariants.{Device, Undefined}
use Rattle.cs_hub.specs.declared.judged.Judged.{Judged}
use Rattle.cs_hub.specs.declared.judged.Judged.TheVariants.{Reply, Append}
use Rattle.cs_nodes.specs.books.Answers.{AnswersAll, AnswersOn, HasTaken, IsAnswered, IsStuckAt, device_answer, stuck_answer}
use Rattle.cs_store.specs.declared.log.entry.TheConstants.{MAX_ENTRIES}
use Rattle.cs_wire.specs.Answers.{answer_spelling}
use Rattle.cs_wire.specs.declared.answer.Answer.TheVariants.{Short}
use Rattle.cs_wire.specs.declared.short_answer.ShortAnswer.TheVariants.{Stale}
use Rattle.cs_spine.specs.Known.{Known, SpineCells}
use Rattle.cs_nodes.specs.books.Books.{BookState, most_cells}
use Rattle.cs_nodes.specs.books.Steps.{CameLater, Halts, IsFinished}

pub if_ok : {T E : Type 0} (result : Result T E) (P Q : T → Type 0) → ((t : T) → P t → Q t) → IfOk result P → IfOk result Q
if_ok (Ok t) P Q on is = on t is
if_ok (Err e) P Q on is = tt

-- ---- failures that rose in between

pub more_from : (old mid new : ℕ) → old ≤ mid → MoreFailures mid new → MoreFailures old new
more_from old mid new less more = omega (arith, less, more)

pub more_to : (old mid new : ℕ) → mid ≤ new → MoreFailures old mid → MoreFailures old new
more_to old mid new less more = omega (arith, less, more)

-- ---- a book that doesn't go on

-- what is told of that, by the fault
pub halts : (device_failed honest : Type 0) (tables : List TableDef) (known : List LogEntry) (taken : ℕ) (fault : FollowFault) (answer : List ℕ)
    → (◌≡◌ {A = Result (Unit {0}) FollowFault} (Err fault) (Err Device) → device_failed)
    → (◌≡◌ {A = Result (Unit {0}) FollowFault} (Err fault) (Err Undefined) → honest → IsStuckAt tables known taken)
    → ((fault ≡ Undefined) × (answer ≡ stuck_answer)) ⊎ ((fault ≡ Device) × (answer ≡ device_answer))
    → honest → Halts device_failed tables known taken answer
halts device_failed honest tables known taken fault answer device stuck (inl (is, told)) h = inl (stuck (ap (λ (f : FollowFault). Err f) is) h, told)
halts device_failed honest tables known taken fault answer device stuck (inr (is, told)) h = inr (device (ap (λ (f : FollowFault). Err f) is), told)

pub halts_later : (some other : Type 0) (tables : List TableDef) (known : List LogEntry) (taken : ℕ) (answer : List ℕ) → (some → other) → Halts some tables known taken answer → Halts other tables known taken answer
halts_later some other tables known taken answer on (inl is) = inl is
halts_later some other tables known taken answer on (inr (failed, told)) = inr (on failed, told)

-- where that isn't told as the device's failure it has finished
pub told_finished : {E : Type 0} (fault : FollowFault) (result : Result (Vec ℕ Global) E) → IfOk result (λ answer. ((fault ≡ Undefined) × (answer.items ≡ stuck_answer)) ⊎ ((fault ≡ Device) × (answer.items ≡ device_answer)))
    → IsAnswered result → IsFinished (Err fault)
told_finished fault (Ok answer) (inl (is, told)) answered = subst (λ (f : FollowFault). IsFinished (Err f)) (sym is) tt
told_finished fault (Ok answer) (inr (is, told)) answered = absurd (answered told)
told_finished fault (Err want) told answered = absurd answered

module _ (device_failed : Type 0) (limit : ℕ) (tables : List TableDef) (known : List LogEntry) (taken : ℕ) (request : List ℕ) where
  pub halted : (answer : List ℕ) → Halts device_failed tables known taken answer → AnswersOn device_failed limit tables known taken request answer
  halted answer (inl (stuck, told)) = inl (inr (record { stuck = stuck; told = told }))
  halted answer (inr broken) = inr broken

  -- ---- a book that has come to the last that is known

  module _ (level : taken ≡ length known) (front : HasTaken tables known taken) where
    -- what its hub answers
    pub replied : (answer : Vec ℕ Global) → IsJudged device_failed limit tables known request (Reply answer) → AnswersOn device_failed limit tables known taken request answer.items
    replied answer (inl serves) = inl (inl (record { level = level; front = front; serves = serves }))
    replied answer (inr (broken, told, same)) = inr (broken, told)

pub judged_later : (some other : Type 0) (limit : ℕ) (tables : List TableDef) (known : List LogEntry) (request : List ℕ) (told : Judged) → (some → other) → IsJudged some limit tables known request told → IsJudged other limit tables known request told
judged_later some other limit tables known request (Reply answer) on (inl serves) = inl serves
judged_later some other limit tables known request (Reply answer) on (inr (failed, told, same)) = inr (on failed, told, same)
judged_later some other limit tables known request (Append entry batch reply) on is = is

-- the entry of a push was set, and taken
pub set_mine : ServedAgain → (limit : ℕ) (tables : List TableDef) (before known : List LogEntry) (entry held : LogEntry) (taken : ℕ) (request reply answer : List ℕ)
    → Serves limit (hub_of tables before) request reply (hub_of tables (before ++ entry ∷ [])) → known ≡ before ++ held ∷ [] → held ≡ entry → taken ≡ length before + 1 → HasTaken tables known taken → answer ≡ reply
    → AnswersAll limit tables known taken request answer
set_mine again limit tables before known entry held taken request reply answer judged learned mine counted front told =
    let is : known ≡ before ++ entry ∷ [] = learned ∙ ap (λ (e : LogEntry). before ++ e ∷ []) mine in
    let served = again limit (hub_of tables before) (hub_of tables (before ++ entry ∷ [])) request reply judged in
    record {
      level = (let count : length known ≡ length before + 1 = ap length is ∙ length-append before (entry ∷ []) in omega (arith, counted, count));
      front = front;
      serves = subst (λ (l : List LogEntry). Serves limit (hub_of tables l) request answer (hub_of tables l)) (sym is)
          (subst (λ (a : List ℕ). Serves limit (hub_of tables (before ++ entry ∷ [])) request a (hub_of tables (before ++ entry ∷ []))) (sym told) served);
    }

-- a request that was judged by all that is known, within the cells
pub judged_here : {E : Type 0} (result : Result Judged E) (device_failed : Type 0) (limit : ℕ) (row : SpineCells) (tables : List TableDef) (known : List LogEntry) (request : List ℕ) → limit ≡ most_cells row
    → IfOk result (IsJudged device_failed (min limit MAX_ENTRIES) tables known request) → IfOk result (IsJudged device_failed (most_cells row) tables known request)
judged_here result device_failed limit row tables known request is judged =
    let least : min limit MAX_ENTRIES ≡ most_cells row = omega (arith, is) in
    subst (λ (n : ℕ). IfOk result (IsJudged device_failed n tables known request)) least judged

-- what its hub answers then is its answer
pub replies : {S : Type 0} (failed : S → ℕ) (old mid new : BookState S) (request : List ℕ) (answer : Vec ℕ Global) → failed old.hub.store ≤ failed mid.hub.store
    → new.row ≡ mid.row → new.pass ≡ mid.pass → new.hub.catalog ≡ mid.hub.catalog → new.hub.newest ≡ mid.hub.newest → mid.hub.newest ≡ length mid.pass.known → HasTaken mid.hub.catalog mid.pass.known mid.hub.newest
    → IsJudged (MoreFailures (failed mid.hub.store) (failed new.hub.store)) (most_cells mid.row) mid.hub.catalog mid.pass.known request (Reply answer)
    → AnswersOn (MoreFailures (failed old.hub.store) (failed new.hub.store)) (most_cells new.row) new.hub.catalog new.pass.known new.hub.newest request answer.items
replies failed old mid new request answer less row pass catalog newest level front judged =
    let device = MoreFailures (failed old.hub.store) (failed new.hub.store) in
    let known : new.pass.known ≡ mid.pass.known = ap (λ (p : Known). p.known) pass in
    let later = judged_later (MoreFailures (failed mid.hub.store) (failed new.hub.store)) device (most_cells mid.row) mid.hub.catalog mid.pass.known request (Reply answer)
    (more_from (failed old.hub.store) (failed mid.hub.store) (failed new.hub.store) less) judged in
    let here = replied device (most_cells mid.row) mid.hub.catalog mid.pass.known mid.hub.newest request level front answer later in
    subst (λ (r : SpineCells). AnswersOn device (most_cells r) new.hub.catalog new.pass.known new.hub.newest request answer.items) (sym row)
    (subst (λ (t : List TableDef). AnswersOn device (most_cells mid.row) t new.pass.known new.hub.newest request answer.items) (sym catalog)
    (subst (λ (k : List LogEntry). AnswersOn device (most_cells mid.row) mid.hub.catalog k new.hub.newest request answer.items) (sym known)
    (subst (λ (n : ℕ). AnswersOn device (most_cells mid.row) mid.hub.catalog mid.pass.known n request answer.items) (sym newest) here)))

-- what was to be appended is stale behind another entry
pub stale_later : {S : Type 0} → StaleBehindAnother → (old new : BookState S) (request answer : List ℕ) → CameLater (most_cells old.row) old.hub.catalog old.pass.known request
    → new.row ≡ old.row → new.hub.catalog ≡ old.hub.catalog → Begins old.pass.known new.pass.known → new.hub.newest ≡ length new.pass.known → HasTaken new.hub.catalog new.pass.known new.hub.newest
    → answer ≡ answer_spelling (Short (Stale new.hub.newest)) → AnswersAll (most_cells new.row) new.hub.catalog new.pass.known new.hub.newest request answer
stale_later law old new request answer came row catalog (more, is) level front told =
    let known = new.pass.known in
    let limit = most_cells old.row in
    let long : known ≡ came.before ++ came.held ∷ more = is ∙ ap (λ (l : List LogEntry). l ++ more) came.learned ∙ append_assoc came.before (came.held ∷ []) more in
    let here = subst (λ (l : List LogEntry). Serves limit (hub_of old.hub.catalog l) request (answer_spelling (Short (Stale (length l)))) (hub_of old.hub.catalog l)) (sym long)
    (law limit old.hub.catalog came.before more came.entry came.held request came.reply came.judged came.another) in
    let count : answer ≡ answer_spelling (Short (Stale (length known))) = told ∙ ap (λ (n : ℕ). answer_spelling (Short (Stale n))) level in
    record {
      level = level;
      front = front;
      serves = subst (λ (r : SpineCells). Serves (most_cells r) (hub_of new.hub.catalog known) request answer (hub_of new.hub.catalog known)) (sym row)
          (subst (λ (t : List TableDef). Serves limit (hub_of t known) request answer (hub_of t known)) (sym catalog)
          (subst (λ (a : List ℕ). Serves limit (hub_of old.hub.catalog known) request a (hub_of old.hub.catalog known)) (sym count) here));
    }

-- the entry of a push was set, and was to be taken
pub sent : {S : Type 0} (failed : S → ℕ) → ServedAgain → (old mid new : BookState S) (entry held : LogEntry) (request reply answer : List ℕ) → mid.row ≡ old.row → mid.hub ≡ old.hub
    → mid.pass.known ≡ old.pass.known ++ held ∷ [] → held ≡ entry → new.row ≡ mid.row → new.pass ≡ mid.pass → new.hub.catalog ≡ mid.hub.catalog → old.hub.newest ≡ length old.pass.known → HasTaken new.hub.catalog new.pass.known new.hub.newest
    → Serves (most_cells old.row) (hub_of old.hub.catalog old.pass.known) request reply (hub_of old.hub.catalog (old.pass.known ++ entry ∷ []))
    → ((answer ≡ reply) × (new.hub.newest ≡ mid.hub.newest + 1)) ⊎ Halts (MoreFailures (failed mid.hub.store) (failed new.hub.store)) new.hub.catalog new.pass.known new.hub.newest answer
    → AnswersOn (MoreFailures (failed old.hub.store) (failed new.hub.store)) (most_cells new.row) new.hub.catalog new.pass.known new.hub.newest request answer
sent failed again old mid new entry held request reply answer row hub learned mine rows pass catalog level front judged (inl (told, counted)) =
    let before = old.pass.known in
    let longer = before ++ entry ∷ [] in
    let tables : new.hub.catalog ≡ old.hub.catalog = catalog ∙ ap (λ h. h.catalog) hub in
    let newest : mid.hub.newest ≡ old.hub.newest = ap (λ h. h.newest) hub in
    let served = subst (λ (r : SpineCells). Serves (most_cells r) (hub_of new.hub.catalog before) request reply (hub_of new.hub.catalog longer)) (sym (rows ∙ row))
    (subst (λ (t : List TableDef). Serves (most_cells old.row) (hub_of t before) request reply (hub_of t longer)) (sym tables) judged) in
    inl (inl (set_mine again (most_cells new.row) new.hub.catalog before new.pass.known entry held new.hub.newest request reply answer served (ap (λ (p : Known). p.known) pass ∙ learned) mine (omega (arith, counted, newest, level)) front told))
sent failed again old mid new entry held request reply answer row hub learned mine rows pass catalog level front judged (inr halts) =
    let store : mid.hub.store ≡ old.hub.store = ap (λ h. h.store) hub in
    halted (MoreFailures (failed old.hub.store) (failed new.hub.store)) (most_cells new.row) new.hub.catalog new.pass.known new.hub.newest request answer
    (halts_later (MoreFailures (failed mid.hub.store) (failed new.hub.store)) (MoreFailures (failed old.hub.store) (failed new.hub.store)) new.hub.catalog new.pass.known new.hub.newest answer
    (λ more. subst (λ (n : ℕ). MoreFailures n (failed new.hub.store)) (ap failed store) more) halts)
