-- From what a call promises to a step of the node as it is shown.
use Rattle.std.proofs.Common.{◌≡◌, ◌≢◌, ◌≤◌, ◌<◌, ◌&&◌, ◌++◌, ◌∷◌, ℕ, zero, suc, Bool, false, not, List, [], length, take, Ok, Err, refl, sym, ap, subst, ◌∙◌, arith, append-nil}
use Rattle.std.specs.Prelude.{◌↔◌, ◌⊎◌, IsSome, IsTrue, Result}
use Rattle.std.specs.FinMap.{len}
use Rattle.std.proofs.lemmas.List.{take-append-le}
use Rattle.std.proofs.lemmas.List.Sums.{fold-append}
use Rattle.cs_conflict.specs.declared.wish.Wish.{Wish}
use Rattle.cs_pending.specs.EditLists.{asked_of_edit, table_of_edit}
use Rattle.cs_nodes.specs.following.Pulls.{PullsAll}
use Rattle.cs_nodes.specs.following.Pushes.{IsAtRest, PushesOn}
use Rattle.cs_nodes.specs.following.Standing.{Begins, TablesGoOn}
use Rattle.cs_nodes.specs.declared.following.fault.NodeFault.{NodeFault}
use Rattle.cs_nodes.specs.declared.following.fault.NodeFault.TheVariants as moving
use Rattle.cs_nodes.specs.declared.following.pushed.NodePush.{NodePush}
use Rattle.cs_nodes.specs.declared.following.pushed.NodePush.TheVariants.{Nothing, Behind}
use Rattle.cs_map_store.specs.Slots.{InMemory, held_by}
use Rattle.cs_nodes.specs.Nodes.{IsOfOpening, NodeState}
use Rattle.cs_pending.specs.Edits.{IsOfStore, edit}
use Rattle.cs_pending.specs.View.{View}
use Rattle.cs_pending.specs.declared.fault.EditFault.{EditFault}
use Rattle.cs_pending.specs.declared.fault.EditFault.TheVariants as editing
use Rattle.cs_pending.specs.position.Shows.{ShowsAt, ShowsSomeAt}
use Rattle.cs_pending.specs.declared.position.position.Position.{Position}
use Rattle.cs_nodes.specs.following.Edited.{IsEditedIn, with_pending}
use Rattle.cs_nodes.specs.following.Holding.{Shows}
use Rattle.cs_spine.specs.Known.{Known, SpineCells}
use Rattle.cs_store.specs.Calls.{MoreFailures}
use Rattle.cs_store.specs.log.Log.{catalog_at, catalog_next, catalog_of, entries_between}
use Rattle.cs_store.specs.declared.log.entry.LogEntry.{LogEntry}
use Rattle.cs_store.specs.Contents.{Contents}
use Rattle.cs_value.specs.declared.catalog.TableDef.{TableDef}
use Rattle.cs_value.specs.declared.edit.Edit.{Edit as Edits}
use Rattle.cs_conflict.specs.wish_list.Wished.{IsWished}
use Rattle.cs_nodes.specs.plans.Ends.{TurnsNode, node_at}
use Rattle.cs_nodes.specs.plans.Marks.{is_taken}
use Rattle.cs_nodes.specs.plans.Runs.{ComesTo, NodeAt, PullsBy, PushesBy, RunsStep, TellsNoDevice}
use Rattle.cs_nodes.specs.declared.plans.plan.Step.{Step}
use Rattle.cs_nodes.specs.declared.plans.plan.Step.TheVariants.{Edit, Pull, Push}
use Rattle.cs_nodes.specs.declared.plans.plan.StepOutcome.{StepOutcome}
use Rattle.cs_nodes.specs.declared.plans.plan.StepOutcome.TheVariants.{Edited, NotEdited, Pulled, Pushed, Failed}
use Rattle.cs_nodes.specs.declared.plans.plan.Stepped.{Stepped}
use Rattle.cs_nodes.proofs.PlansLemmas.Numbered.{failed_number, pull_number, told_number, unmade}

-- what a mark tells of a node
pub record Tells (old new : NodeState InMemory) (one : Stepped) (outcome : StepOutcome) (made : Bool) : Type 0 where
  pub outcome_is : one.outcome ≡ outcome
  pub known_is : one.mark.known ≡ length new.pass.known
  pub version_is : one.mark.version ≡ new.replica.position.version
  pub made_is : one.mark.made ≡ made

-- what a call makes of a node that shows this, and that its mark is right
pub record MakesOf (old new : NodeState InMemory) (step : Step) (outcome : StepOutcome) (made : Bool) (view : View) : Type 0 where
  pub next : View
  pub shows : Shows held_by new.replica next
  pub makes : ComesTo old.pass.spine.cap step outcome (node_at old view) (node_at new next) (held_by new.replica.store)
  pub number : IsTrue made ↔ (old.replica.position.number ≢ new.replica.position.number)

-- where nothing was misread so far, and the store shows the node, nothing is misread then, and it isn't told that a device failed
abbrev pub StaysQuiet : NodeState InMemory → NodeState InMemory → StepOutcome → Type 0
StaysQuiet old new outcome =
    old.replica.store.misreads ≡ 0 → ShowsSomeAt old.replica.catalog old.replica.position (held_by old.replica.store)
    → (new.replica.store.misreads ≡ 0) × TellsNoDevice outcome

no_more : (old new : ℕ) → old ≡ 0 → new ≡ old → MoreFailures old new → ⊥
no_more old new none same more = omega (arith, none, same, more)

-- by what a call says of its store: what can be read isn't misread, and a failed device is told only where one more was
pub stays_quiet : (old new : NodeState InMemory) (device : Type 0) (outcome : StepOutcome)
    → (Unit {0} → ShowsSomeAt old.replica.catalog old.replica.position (held_by old.replica.store) → new.replica.store.misreads ≡ old.replica.store.misreads)
    → (device → MoreFailures old.replica.store.misreads new.replica.store.misreads)
    → ((device → ⊥) → TellsNoDevice outcome)
    → StaysQuiet old new outcome
stays_quiet old new device outcome as_read cause tells none shown =
    let same = as_read tt shown in
    (same ∙ none, tells (λ failed. no_more old.replica.store.misreads new.replica.store.misreads none same (cause failed)))

-- a call that makes something of whatever the node showed
pub turned_to : (old new : NodeState InMemory) (step : Step) (one : Stepped) (outcome : StepOutcome) (made : Bool) → ((opening : List TableDef) → IsOfOpening opening old → IsOfOpening opening new) → new.pass.spine ≡ old.pass.spine
    → Begins old.pass.known new.pass.known → Tells old new one outcome made → StaysQuiet old new outcome
    → ((view : View) → Shows held_by old.replica view → MakesOf old new step outcome made view)
    → TurnsNode (λ cells. RunsStep cells step one) old new
turned_to old new step one outcome made same of begins tells stays does = record {
  catalog = same;
  spine = of;
  turned = λ none view shows.
      let d = does view shows in
      let quiet = stays none (view, shows) in (
        d.next,
        d.shows,
        quiet.0,
        record {
          begins = begins;
          left = held_by new.replica.store;
          shows = d.shows;
          makes = subst (λ (o : StepOutcome). ComesTo old.pass.spine.cap step o (node_at old view) (node_at new d.next) (held_by new.replica.store)) (sym tells.outcome_is) d.makes;
          marked = record {
            known = tells.known_is;
            version = tells.version_is;
            made = subst (λ (b : Bool). IsTrue b ↔ (old.replica.position.number ≢ new.replica.position.number)) (sym tells.made_is) d.number;
          };
          no_device = subst TellsNoDevice (sym tells.outcome_is) quiet.1;
        },
      );
}

-- ---- the tables that it has then

-- the same, where nothing was learned or taken
pub stays_of : (old new : NodeState InMemory) → new.replica.catalog ≡ old.replica.catalog → new.pass ≡ old.pass → new.replica.position.version ≡ old.replica.position.version
    → (opening : List TableDef) → IsOfOpening opening old → IsOfOpening opening new
stays_of old new same kept level opening is = record {
  within = let known : length new.pass.known ≡ length old.pass.known = ap (λ (p : Known). length p.known) kept in omega (arith, level, known, is.within);
  catalog = same ∙ is.catalog ∙ sym (ap (λ (p : Known). catalog_at opening p.known new.replica.position.version) kept ∙ ap (λ (n : ℕ). catalog_at opening old.pass.known n) level);
}

-- or what the entries make of them that were taken
pub goes_of : (old new : NodeState InMemory) → Begins old.pass.known new.pass.known → new.replica.position.version ≤ length new.pass.known
    → TablesGoOn new.pass.known old.replica.catalog old.replica.position.version new.replica.catalog new.replica.position.version
    → (opening : List TableDef) → IsOfOpening opening old → IsOfOpening opening new
goes_of old new begins within on opening is = record {
  within = within;
  catalog =
      let from = old.replica.position.version in
      let to = new.replica.position.version in
      let known = new.pass.known in
      let front : take from old.pass.known ≡ take from known = sym (ap (λ (l : List LogEntry). take from l) begins.1 ∙ take-append-le from old.pass.known begins.0 is.within) in
      on.catalog ∙ ap (λ (ts : List TableDef). catalog_of ts (entries_between known from to)) (is.catalog ∙ ap (λ (l : List LogEntry). catalog_of opening l) front)
      ∙ sym (ap (λ (l : List LogEntry). catalog_of opening l) (parts known from to on.onwards) ∙ fold-append catalog_next opening (take from known) (entries_between known from to));
}
  where
    parts : (known : List LogEntry) (from to : ℕ) → from ≤ to → take to known ≡ take from known ++ entries_between known from to
    parts known zero to less = refl
    parts [] (suc from) zero less = refl
    parts [] (suc from) (suc to) less = refl
    parts (x ∷ known) (suc from) zero less = absurd (omega (arith, less))
    parts (x ∷ known) (suc from) (suc to) less = ap (λ (l : List LogEntry). x ∷ l) (parts known from to (omega (arith, less)))

-- an edit, which was made or not
pub made_quiet : TellsNoDevice Edited
made_quiet = ((λ told. absurd (let no = told in cc)), (λ told. absurd (let no = told in cc)))

pub refused_quiet : (fault : EditFault) → (fault ≡ editing.Device → ⊥) → TellsNoDevice (NotEdited fault)
refused_quiet fault never = ((λ told. never (let same = told in cc)), (λ told. absurd (let no = told in cc)))

-- where nothing was learned
pub begins_same : (old new : NodeState InMemory) → new.pass ≡ old.pass → Begins old.pass.known new.pass.known
begins_same old new same = ([], ap (λ (p : Known). p.known) same ∙ sym (append-nil old.pass.known))

-- an edit that was made: so many changes are pending as the store, which shows something, counts
pub edit_made : (old new : NodeState InMemory) (asked : Edits) (one : Stepped) → new.replica.catalog ≡ old.replica.catalog → new.pass ≡ old.pass → Tells old new one Edited false
    → IsEditedIn old.replica.catalog old.replica.position (table_of_edit asked) (asked_of_edit asked) (held_by old.replica.store) (held_by new.replica.store)
    → new.replica.position ≡ with_pending old.replica.position new.replica.position.pending
    → ((view : View) × Shows held_by new.replica view) → StaysQuiet old new Edited
    → TurnsNode (λ cells. RunsStep cells (Edit asked) one) old new
edit_made old new asked one same kept tells edits moved shown quiet =
    turned_to old new (Edit asked) one Edited false (stays_of old new same kept (ap (λ (x : Position). x.version) moved)) (ap (λ (p : Known). p.spine) kept) (begins_same old new kept) tells quiet (λ view shows.
    let e = edits view shows in
    let place : with_pending old.replica.position (len (held_by new.replica.store).pending) ≡ new.replica.position =
    ap (λ (n : ℕ). with_pending old.replica.position n) (sym shown.1.counted) ∙ sym moved in
    let here : ShowsAt old.replica.catalog (held_by new.replica.store) new.replica.position e.0 =
    subst (λ (x : Position). ShowsAt old.replica.catalog (held_by new.replica.store) x e.0) place e.2 in
    let shows' : ShowsAt new.replica.catalog (held_by new.replica.store) new.replica.position e.0 =
    subst (λ (ts : List TableDef). ShowsAt ts (held_by new.replica.store) new.replica.position e.0) (sym same) here in
    record {
      next = e.0;
      shows = shows';
      makes = (e.1, moved, ap (λ (p : Known). p.known) kept, same);
      number = unmade false old.replica.position.number new.replica.position.number refl (ap (λ (x : Position). x.number) moved);
    })

-- an edit that was refused
pub edit_refused : (old new : NodeState InMemory) (asked : Edits) (fault : EditFault) (one : Stepped) → new.replica.catalog ≡ old.replica.catalog → new.pass ≡ old.pass → Tells old new one (NotEdited fault) false
    → held_by new.replica.store ≡ held_by old.replica.store
    → new.replica.position ≡ old.replica.position
    → ((view : View) → Shows held_by old.replica view → IsOfStore fault ⊎ (edit old.replica.catalog (table_of_edit asked) (asked_of_edit asked) view ≡ Err fault))
    → StaysQuiet old new (NotEdited fault)
    → TurnsNode (λ cells. RunsStep cells (Edit asked) one) old new
edit_refused old new asked fault one same kept tells holds stays refused quiet =
    turned_to old new (Edit asked) one (NotEdited fault) false (stays_of old new same kept (ap (λ (x : Position). x.version) stays)) (ap (λ (p : Known). p.spine) kept) (begins_same old new kept) tells quiet (λ view shows.
    let held : ShowsAt old.replica.catalog (held_by new.replica.store) old.replica.position view =
    subst (λ (c : Contents). ShowsAt old.replica.catalog c old.replica.position view) (sym holds) shows in
    let here : ShowsAt old.replica.catalog (held_by new.replica.store) new.replica.position view =
    subst (λ (x : Position). ShowsAt old.replica.catalog (held_by new.replica.store) x view) (sym stays) held in
    let shows' : ShowsAt new.replica.catalog (held_by new.replica.store) new.replica.position view =
    subst (λ (ts : List TableDef). ShowsAt ts (held_by new.replica.store) new.replica.position view) (sym same) here in
    let node : node_at new view ≡ node_at old view = (λ i. record { tables = same i; known = ap (λ (p : Known). p.known) kept i; position = stays i; view = view }) in
    record {
      next = view;
      shows = shows';
      makes = (refused view shows, node);
      number = unmade false old.replica.position.number new.replica.position.number refl (ap (λ (x : Position). x.number) stays);
    })

-- ---- a pull

abbrev pub pull_outcome : Result ℕ NodeFault → StepOutcome
pull_outcome (Ok count) = Pulled count
pull_outcome (Err fault) = Failed fault

pub pull_quiet : (result : Result ℕ NodeFault) → (result ≡ Err moving.Device → ⊥) → TellsNoDevice (pull_outcome result)
pull_quiet (Ok count) never = ((λ told. absurd (let no = told in cc)), (λ told. absurd (let no = told in cc)))
pull_quiet (Err fault) never = ((λ told. absurd (let no = told in cc)), (λ told. never (let same = told in cc)))

pull_makes : (cells : ℕ) (wishes : List Wish) (result : Result ℕ NodeFault) (old new : NodeAt) (left : Contents) → PullsBy cells wishes result old new left
    → ComesTo cells (Pull wishes) (pull_outcome result) old new left
pull_makes cells wishes (Ok count) old new left h = h
pull_makes cells wishes (Err fault) old new left h = h

-- a pull by wishes, behind which the node shows something
pub pull_turns : (old new : NodeState InMemory) (wishes picker unused : List Wish) (result : Result ℕ NodeFault) (one : Stepped) → TablesGoOn new.pass.known old.replica.catalog old.replica.position.version new.replica.catalog new.replica.position.version
    → new.replica.position.version ≤ length new.pass.known → new.pass.spine ≡ old.pass.spine
    → Begins old.pass.known new.pass.known → Tells old new one (pull_outcome result) false → picker ≡ wishes
    → ((view : View) → Shows held_by old.replica view
    → PullsAll IsWished old.replica.catalog new.pass.known result old.replica.position view picker new.replica.catalog new.replica.position (held_by new.replica.store) unused)
    → ((view : View) × Shows held_by new.replica view) → StaysQuiet old new (pull_outcome result)
    → TurnsNode (λ cells. RunsStep cells (Pull wishes) one) old new
pull_turns old new wishes picker unused result one on within of begins tells by pulls shown quiet =
    turned_to old new (Pull wishes) one (pull_outcome result) false (goes_of old new begins within on) of begins tells quiet (λ view shows.
    let p = pulls view shows in
    let pulled : PullsAll IsWished old.replica.catalog new.pass.known result old.replica.position view wishes new.replica.catalog new.replica.position (held_by new.replica.store) unused =
    subst (λ (w : List Wish). PullsAll IsWished old.replica.catalog new.pass.known result old.replica.position view w new.replica.catalog new.replica.position (held_by new.replica.store) unused) by p in
    record {
      next = shown.0;
      shows = shown.1;
      makes = pull_makes old.pass.spine.cap wishes result (node_at old view) (node_at new shown.0) (held_by new.replica.store) (unused, pulled);
      number = unmade false old.replica.position.number new.replica.position.number refl
          (pull_number IsWished old.replica.catalog new.pass.known result old.replica.position view picker new.replica.catalog new.replica.position (held_by new.replica.store) unused p);
    })

-- ---- a push

abbrev pub push_outcome : Result NodePush NodeFault → StepOutcome
push_outcome (Ok told) = Pushed told
push_outcome (Err fault) = Failed fault

pub push_quiet : (result : Result NodePush NodeFault) → (result ≡ Err moving.Device → ⊥) → TellsNoDevice (push_outcome result)
push_quiet (Ok pushed) never = ((λ told. absurd (let no = told in cc)), (λ told. absurd (let no = told in cc)))
push_quiet (Err fault) never = ((λ told. absurd (let no = told in cc)), (λ told. never (let same = told in cc)))

push_makes : (cells : ℕ) (wishes : List Wish) (result : Result NodePush NodeFault) (old new : NodeAt) (left : Contents) → PushesBy cells wishes result old new left
    → ComesTo cells (Push wishes) (push_outcome result) old new left
push_makes cells wishes (Ok told) old new left h = h
push_makes cells wishes (Err fault) old new left h = h

-- what was sent: it is told, or else a push is under way
abbrev pub is_there : Result NodePush NodeFault → Bool → Bool
is_there (Ok told) flies = is_taken told
is_there (Err fault) flies = flies

push_number : (tables : List TableDef) (known : List _) (position : Position) (view : View) (wishes : List Wish) (cells : ℕ) (was flies : Bool) (result : Result NodePush NodeFault) (learned : List _) (others : List TableDef) (other : Position) (new : Contents) (unused : List Wish)
    → IsTrue was ↔ IsSome position.flight → IsTrue flies ↔ IsSome other.flight → PushesOn IsWished tables known position view wishes cells result learned others other new unused
    → IsTrue (not was && is_there result flies) ↔ (position.number ≢ other.number)
push_number tables known position view wishes cells was flies (Ok told) learned others other new unused before after h =
    told_number IsWished tables known position view wishes cells was told learned others other new unused before h
push_number tables known position view wishes cells was flies (Err fault) learned others other new unused before after h =
    failed_number IsWished tables known position view wishes cells was flies fault learned others other new unused before after h

-- a push by wishes, behind which the node shows something
pub push_turns : (old new : NodeState InMemory) (cells : SpineCells) (wishes picker unused : List Wish) (was flies : Bool) (result : Result NodePush NodeFault) (one : Stepped)
    → TablesGoOn new.pass.known old.replica.catalog old.replica.position.version new.replica.catalog new.replica.position.version
    → new.replica.position.version ≤ length new.pass.known → new.pass.spine ≡ old.pass.spine → old.pass.spine ≡ cells
    → Begins old.pass.known new.pass.known → Tells old new one (push_outcome result) (not was && is_there result flies) → picker ≡ wishes
    → IsTrue was ↔ IsSome old.replica.position.flight → IsTrue flies ↔ IsSome new.replica.position.flight
    → ((view : View) → Shows held_by old.replica view
    → PushesOn IsWished old.replica.catalog old.pass.known old.replica.position view picker cells.cap result new.pass.known new.replica.catalog new.replica.position (held_by new.replica.store) unused)
    → (IsAtRest old.replica.position → result ≡ Ok Nothing)
    → ((IsAtRest old.replica.position → ⊥) → old.replica.position.version < length old.pass.known → result ≡ Ok Behind)
    → ((view : View) × Shows held_by new.replica view) → StaysQuiet old new (push_outcome result)
    → TurnsNode (λ cells. RunsStep cells (Push wishes) one) old new
push_turns old new cells wishes picker unused was flies result one on within of row begins tells by before after pushes nothing behind shown quiet =
    turned_to old new (Push wishes) one (push_outcome result) (not was && is_there result flies) (goes_of old new begins within on) of begins tells quiet (λ view shows.
    let p = pushes view shows in
    let wished : PushesOn IsWished old.replica.catalog old.pass.known old.replica.position view wishes cells.cap result new.pass.known new.replica.catalog new.replica.position (held_by new.replica.store) unused =
    subst (λ (w : List Wish). PushesOn IsWished old.replica.catalog old.pass.known old.replica.position view w cells.cap result new.pass.known new.replica.catalog new.replica.position (held_by new.replica.store) unused) by p in
    let pushed : PushesOn IsWished old.replica.catalog old.pass.known old.replica.position view wishes old.pass.spine.cap result new.pass.known new.replica.catalog new.replica.position (held_by new.replica.store) unused =
    subst (λ (c : SpineCells). PushesOn IsWished old.replica.catalog old.pass.known old.replica.position view wishes c.cap result new.pass.known new.replica.catalog new.replica.position (held_by new.replica.store) unused) (sym row) wished in
    record {
      next = shown.0;
      shows = shown.1;
      makes = push_makes old.pass.spine.cap wishes result (node_at old view) (node_at new shown.0) (held_by new.replica.store)
          (record { unused = unused; pushes = pushed; nothing = nothing; behind = behind });
      number = push_number old.replica.catalog old.pass.known old.replica.position view picker cells.cap was flies result new.pass.known new.replica.catalog new.replica.position (held_by new.replica.store) unused before after p;
    })
