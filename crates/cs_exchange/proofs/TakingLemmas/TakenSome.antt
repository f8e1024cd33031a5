-- An entry that is defined on the log's rows is taken, or the picker stops at it.
use Rattle.std.proofs.Common.{◌≡◌, ◌⊎◌, ◌||◌, ℕ, Bool, true, false, is_some, List, [], ◌∷◌, Option, Some, None, refl, sym, ap, ap₂, subst, ◌∙◌, inl, inr, if◌then◌else◌}
use Rattle.std.proofs.lemmas.Option.{same_Some}
use Rattle.std.specs.List.{AllByRecursion}
use Rattle.std.specs.Prelude.{Contains, IfSome}
use Rattle.cs_value.specs.Facts.{by_test}
use Rattle.cs_value.specs.Catalog.{AreTables}
use Rattle.cs_value.specs.Key.{Place}
use Rattle.cs_value.specs.declared.catalog.TableDef.{TableDef}
use Rattle.cs_change.specs.Action.{Action, action_any, after_any}
use Rattle.cs_change.specs.Laws.{NetTakes}
use Rattle.cs_change.specs.Net.{net}
use Rattle.cs_change.specs.Spelling.{FitsChange}
use Rattle.cs_change.specs.declared.change.Change.{Change}
use Rattle.cs_change.specs.netting.Combine.{with_flag_any}
use Rattle.cs_normal.specs.Normal.{IsNormalChangeset, change_of}
use Rattle.cs_normal.specs.State.{AppliedIsNet, DefinedIsApplied, IsApplied, IsDefinedOn, IsStateOf, MayStandAt, OneKeyStands, State}
use Rattle.cs_normal.specs.declared.normal.TableChanges.{TableChanges}
use Rattle.cs_conflict.specs.declared.clash.Clash.{Clash}
use Rattle.cs_conflict.specs.declared.conflict.Conflict.{Conflict}
use Rattle.cs_conflict.specs.declared.wish.Wish.{Wish}
use Rattle.cs_apply.specs.NormalTasks.{AreElsewhere, are_apart, keyed_tasks, one_table}
use Rattle.cs_tasks.specs.Tasks.{Task}
use Rattle.cs_pending.specs.Nets.{action_with_flag, net_fits, undo_net, undo_none}
use Rattle.cs_pending.specs.Settled.{spelled_place}
use Rattle.cs_pending.specs.Shows.{IsSoundOf}
use Rattle.cs_pending.specs.View.{Changed, View, direct_net, middle, undo}
use Rattle.cs_pending.specs.position.Shows.{base, flown}
use Rattle.cs_exchange.specs.taking.Laws.{TakenOrStopped}
use Rattle.cs_exchange.specs.taking.Takes.{IsTaken, StopsAt, StopsTaking, TakeAll, is_touched}
use Rattle.cs_exchange.proofs.TakingLemmas.TakenContents.{CanBeShown}
use Rattle.cs_exchange.proofs.TakingLemmas.EntryPlaces.{entry_tasks, of_entry}
use Rattle.cs_exchange.proofs.TakingLemmas.Whole.{where_none}
use Rattle.cs_exchange.proofs.TakingLemmas.Worked.{MergeLaws, Worked, take_all_as, work}

-- ---- the net change of two places, told without their table

-- the key columns of the table that a row at a place is of; for no row it doesn't matter which
pub marks_at : (tables : List TableDef) (name key : List ℕ) (place : Place) → MayStandAt tables name key place → List Bool
marks_at tables name key None stands = []
marks_at tables name key (Some row) (table, inside, named, of) = table.key_marks

module _ (laws : MergeLaws) (one_key : OneKeyStands) (tables : List TableDef) (are : AreTables tables) where
  net_named : (table : TableDef) (key : List ℕ) (b x : Place) (stands : MayStandAt tables table.name key b) → Contains tables table → net (marks_at tables table.name key b stands) b x ≡ net table.key_marks b x
  unfolding marks_at net
  net_named table key None None stands inside = refl
  net_named table key None (Some x) stands inside = refl
  net_named table key (Some b) x (other, among, named, of) inside =
      ap (λ (u : TableDef). net u.key_marks (Some b) x) (one_table laws.place tables other table are among inside named)

  undo_named : (name key : List ℕ) (b x : Place) (stands : MayStandAt tables name key b) → MayStandAt tables name key x → undo (net (marks_at tables name key b stands) b x) x ≡ b
  unfolding marks_at net undo
  undo_named name key None None stands stays = refl
  undo_named name key None (Some x) stands stays = refl
  undo_named name key (Some b) x (table, inside, named, of) stays =
      let here : MayStandAt tables table.name key (Some b) = (table, inside, refl, of) in
      let there = subst (λ (n : List ℕ). MayStandAt tables n key x) (sym named) stays in
      let keyed = one_key tables table key (Some b) x x are inside here there there in
      undo_net table.key_marks keyed.0 (Some b) x keyed.1 keyed.2

-- ---- what is pending then

none_of : {A : Type 0} (o : Option A) → is_some o ≡ false → o ≡ None
none_of None e = refl
none_of (Some a) e = absurd cc

neither : (a b : Bool) → (a || b) ≡ false → (a ≡ false) × (b ≡ false)
neither true b e = absurd cc
neither false b e = (refl, e)

module _ (laws : MergeLaws) (one_key : OneKeyStands) (tables : List TableDef) (are : AreTables tables) (flight : Option (List TableChanges)) (entry : List TableChanges) (normal : IsNormalChangeset entry) (before : View)
    (theirs rows : State) (theirs_state : IsStateOf tables theirs) (rows_state : IsStateOf tables rows) (applied : IsApplied tables entry (base flight before) theirs)
    (elsewhere : (name key : List ℕ) → AreElsewhere (name, key) (keyed_tasks tables entry) → rows name key ≡ before.tables name key) where
  pub pending_now : Changed
  pending_now name key =
      if is_touched flight entry name key then with_flag_any false (net (marks_at tables name key (theirs name key) (theirs_state name key)) (theirs name key) (rows name key))
      else before.pending name key

  abbrev pub now : View
  now = record { tables = rows; pending = pending_now }

  -- where the entry has no change the own row stays
  own_stays : (name key : List ℕ) → change_of name key entry ≡ None → rows name key ≡ before.tables name key
  own_stays name key none = elsewhere name key (where_none tables entry normal (keyed_tasks tables entry) refl name key (ap (λ (c : Option Change). is_some c) none))

  log_stays : (name key : List ℕ) → change_of name key entry ≡ None → theirs name key ≡ base flight before name key
  log_stays name key none =
      same_Some _ _ (sym (applied.1 name key) ∙ ap (λ (c : Option Change). after_any (action_any c) (base flight before name key)) none)

  pub pending_there : (name key : List ℕ) → is_touched flight entry name key ≡ true
      → pending_now name key ≡ with_flag_any false (net (marks_at tables name key (theirs name key) (theirs_state name key)) (theirs name key) (rows name key))
  unfolding pending_now
  pending_there name key e = simp e refl

  pub pending_untouched : (name key : List ℕ) → is_touched flight entry name key ≡ false → pending_now name key ≡ before.pending name key
  unfolding pending_now
  pending_untouched name key e = simp e refl

  -- an untouched place is as it was
  unchanged : (name key : List ℕ) → is_touched flight entry name key ≡ false → change_of name key entry ≡ None
  unchanged name key e = none_of (change_of name key entry) (neither (is_some (change_of name key entry)) (is_some (change_of name key (flown flight))) e).0

  pub row_stays : (name key : List ℕ) → is_touched flight entry name key ≡ false → rows name key ≡ before.tables name key
  row_stays name key e = own_stays name key (unchanged name key e)

  middle_stays : (name key : List ℕ) → is_touched flight entry name key ≡ false → middle now name key ≡ middle before name key
  middle_stays name key e = ap₂ (λ (c : Option Change) (x : Place). undo (action_any c) x) (pending_untouched name key e) (row_stays name key e)

  middle_is : (name key : List ℕ) → middle now name key ≡ theirs name key
  middle_is name key =
      by_test (is_touched flight entry name key) _
      (λ e. ap (λ (c : Option Change). undo (action_any c) (rows name key)) (pending_there name key e)
      ∙ ap (λ (c : Option Action). undo c (rows name key)) (action_with_flag false (net (marks_at tables name key (theirs name key) (theirs_state name key)) (theirs name key) (rows name key)))
      ∙ undo_named laws one_key tables are name key (theirs name key) (rows name key) (theirs_state name key) (rows_state name key))
      (λ e.
      let still = none_of (change_of name key (flown flight)) (neither (is_some (change_of name key entry)) (is_some (change_of name key (flown flight))) e).1 in
      let back : base flight before name key ≡ middle before name key =
      ap (λ (c : Option Change). undo (action_any c) (middle before name key)) still ∙ undo_none (middle before name key) in
      middle_stays name key e ∙ sym back ∙ sym (log_stays name key (unchanged name key e)))

  pending_touched : (table : TableDef) (key : List ℕ) → Contains tables table → is_touched flight entry table.name key ≡ true
      → pending_now table.name key ≡ direct_net table (middle now table.name key) (rows table.name key)
  pending_touched table key inside e =
      pending_there table.name key e
      ∙ ap (λ (c : Option Action). with_flag_any false c)
      (net_named laws one_key tables are table key (theirs table.name key) (rows table.name key) (theirs_state table.name key) inside
      ∙ ap (λ (b : Place). net table.key_marks b (rows table.name key)) (sym (middle_is table.name key)))

  all_as : (ts : List Task) → AllByRecursion (λ (t : Task). (middle now t.name t.key ≡ theirs t.name t.key) × (rows t.name t.key ≡ rows t.name t.key)) ts
  all_as [] = tt
  all_as (t ∷ ts) = ((middle_is t.name t.key, refl), all_as ts)

  pub now_is_taken : {P : Type 0} (picks : P → Clash → Wish → P → Type 0) (p q : P) → TakeAll picks (base flight before) before.tables theirs rows (keyed_tasks tables entry) p q → IsTaken picks tables flight entry before now p q
  now_is_taken picks p q takes = record {
    takes = subst (λ (ts : List Task). TakeAll picks (base flight before) before.tables (middle now) rows ts p q) (sym (entry_tasks tables entry normal applied.0))
        (take_all_as picks (base flight before) before.tables theirs (middle now) rows rows (keyed_tasks tables entry) (all_as (keyed_tasks tables entry)) p q takes);
    applied = (applied.0, λ n k. applied.1 n k ∙ ap (λ (x : Place). Some x) (sym (middle_is n k)));
    others = own_stays;
    pending = record { touched = pending_touched; untouched = pending_untouched };
  }

  middle_state : IsStateOf tables (middle now)
  middle_state name key = subst (λ (x : Place). MayStandAt tables name key x) (sym (middle_is name key)) (theirs_state name key)

  pub can_be_shown : NetTakes → IsSoundOf tables before.pending before.tables → ((table : TableDef) (key : List ℕ) → Contains tables table → IfSome (before.pending table.name key) (FitsChange table.key_marks)) → CanBeShown tables now
  can_be_shown net_takes sound fits = record {
    sound = record {
      before_state = middle_state;
      after_state = rows_state;
      net_of = λ table key inside. by_test (is_touched flight entry table.name key) _
          (λ e. ap (λ (c : Option Change). action_any c) (pending_touched table key inside e) ∙ action_with_flag false (net table.key_marks (middle now table.name key) (rows table.name key)))
          (λ e. ap (λ (c : Option Change). action_any c) (pending_untouched table.name key e) ∙ sound.net_of table key inside
          ∙ ap₂ (λ (b x : Place). net table.key_marks b x) (sym (middle_stays table.name key e)) (sym (row_stays table.name key e)));
    };
    fits = λ table key inside. by_test (is_touched flight entry table.name key) _
        (λ e. subst (λ (c : Option Change). IfSome c (FitsChange table.key_marks)) (sym (pending_touched table key inside e))
        (let stands = middle_state table.name key in
        let stays = rows_state table.name key in
        let keyed = one_key tables table key (middle now table.name key) (rows table.name key) (rows table.name key) are inside stands stays stays in
        net_fits net_takes table.key_marks keyed.0 (middle now table.name key) (rows table.name key) keyed.1 keyed.2
        (spelled_place tables table.name key (middle now table.name key) stands) (spelled_place tables table.name key (rows table.name key) stays)))
        (λ e. subst (λ (c : Option Change). IfSome c (FitsChange table.key_marks)) (sym (pending_untouched table.name key e)) (fits table key inside));
  }

-- ---- taken, or stopped at

pub stop_of : (tables : List TableDef) (flight : Option (List TableChanges)) (entry : List TableChanges) (before : View) {P : Type 0} (p : P) → IsNormalChangeset entry → IsDefinedOn tables entry (base flight before)
    → (picks : P → Clash → Wish → P → Type 0) (conflict : Conflict) (q : P) → StopsAt picks (base flight before) before.tables (keyed_tasks tables entry) p conflict q → StopsTaking picks tables flight entry before p conflict q
stop_of tables flight entry before p normal defined picks conflict q stops = record {
  defined = defined;
  stops = subst (λ (ts : List Task). StopsAt picks (base flight before) before.tables ts p conflict q) (sym (entry_tasks tables entry normal defined.0)) stops;
}

module _ (laws : MergeLaws) (one_key : OneKeyStands) (defined_is_applied : DefinedIsApplied) (applied_is_net : AppliedIsNet) {P : Type 0} (picks : P → Clash → Wish → P → Type 0) (is_ready : P → Type 0) where
  module _ (tables : List TableDef) (flight : Option (List TableChanges)) (entry : List TableChanges) (before : View) (p : P) (are : AreTables tables) (normal : IsNormalChangeset entry) (log_state : IsStateOf tables (base flight before))
      (own_state : IsStateOf tables before.tables) (defined : IsDefinedOn tables entry (base flight before)) (theirs : State) (applied : IsApplied tables entry (base flight before) theirs) where
    end_of : Worked picks is_ready laws tables are entry (base flight before) before.tables theirs log_state own_state applied (keyed_tasks tables entry) p
        → ((after : View) × (q : P) × IsTaken picks tables flight entry before after p q × is_ready q) ⊎ ((conflict : Conflict) × (q : P) × StopsTaking picks tables flight entry before p conflict q)
    end_of (inl (rows, q, takes, elsewhere, states, ready)) =
        let theirs_state = (applied_is_net tables entry (base flight before) theirs are normal log_state applied).0 in
        inl (
          now laws one_key tables are flight entry normal before theirs rows theirs_state states applied elsewhere,
          q,
          now_is_taken laws one_key tables are flight entry normal before theirs rows theirs_state states applied elsewhere picks p q takes,
          ready,
        )
    end_of (inr (conflict, q, stops)) = inr (conflict, q, stop_of tables flight entry before p normal defined picks conflict q stops)

  pub taken_or_stopped : TakenOrStopped picks is_ready
  taken_or_stopped tables contents position entry before p are normal shows defined answers ready =
      let flight = position.flight in
      let log_state = shows.under_way.sound.before_state in
      let own_state = shows.rows.sound.after_state in
      let made = (defined_is_applied tables entry (base flight before)).0 defined in
      end_of tables flight entry before p are normal log_state own_state defined made.0 made.1
      (work picks is_ready laws tables are entry (base flight before) before.tables made.0 log_state own_state made.1 answers (keyed_tasks tables entry) (are_apart tables entry normal) (of_entry tables entry normal defined.0) p ready)
