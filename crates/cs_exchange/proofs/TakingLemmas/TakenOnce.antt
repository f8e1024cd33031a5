-- An entry that is taken leaves one view.
use Rattle.std.proofs.Common.{◌≡◌, ◌⊎◌, ℕ, List, [], ◌∷◌, Option, None, refl, sym, ap, subst, ◌∙◌, inl, inr}
use Rattle.std.proofs.lemmas.Option.{same_Some}
use Rattle.std.specs.List.{AllByRecursion}
use Rattle.std.specs.Prelude.{Contains}
use Rattle.cs_value.specs.Facts.{by_test}
use Rattle.cs_value.specs.Catalog.{AreTables}
use Rattle.cs_value.specs.Key.{Place}
use Rattle.cs_value.specs.Laws.{OnePlaceOfName}
use Rattle.cs_value.specs.declared.catalog.TableDef.{TableDef}
use Rattle.cs_change.specs.Action.{Action, action}
use Rattle.cs_change.specs.Laws.{NormalIsNet}
use Rattle.cs_normal.specs.keyed.Laws.{BytesTellKeys}
use Rattle.cs_normal.specs.Laws.{SetColumnsFit}
use Rattle.cs_normal.specs.Normal.{IsNormalChangeset}
use Rattle.cs_normal.specs.State.{AreSame, DefinedIsApplied, IsApplied, IsStateOf, State}
use Rattle.cs_normal.specs.declared.normal.TableChanges.{TableChanges}
use Rattle.cs_conflict.specs.Wishes.{resolution_of}
use Rattle.cs_conflict.specs.declared.clash.Clash.{Clash}
use Rattle.cs_conflict.specs.declared.wish.Wish.{Wish}
use Rattle.cs_apply.specs.NormalTasks.{AreElsewhere, keyed_tasks}
use Rattle.cs_tasks.specs.Tasks.{Task}
use Rattle.cs_rebaser.specs.Diamond.{MergesAlike, kind_any}
use Rattle.cs_pending.specs.Laws.{OneView}
use Rattle.cs_pending.specs.View.{View, direct_net, middle}
use Rattle.cs_pending.specs.position.Shows.{base}
use Rattle.cs_exchange.specs.taking.Laws.{BadIsNeither, NoStopWhereTaken, OneStopTaking, OneTaken, OneTakenIn, PicksOnce}
use Rattle.cs_exchange.specs.taking.Takes.{IsTaken, TakeAll, brought, is_touched}
use Rattle.cs_exchange.proofs.TakingLemmas.EntryPlaces.{IsOfEntry, entry_tasks, keyed_there, left_there, of_entry}
use Rattle.cs_exchange.proofs.TakingLemmas.OneContents.{one_contents}
use Rattle.cs_exchange.proofs.TakingLemmas.OneTaking.{MergesAlikeAt, no_stop, one_stop, one_take}
use Rattle.cs_exchange.proofs.TakingLemmas.SameStore.{log_same, own_same, same_changes}
use Rattle.cs_exchange.proofs.TakingLemmas.Whole.{nothing_there, there_or_elsewhere}

-- ---- where the picker isn't asked

module _ (tells : BytesTellKeys) (fit : SetColumnsFit) (one_place : OnePlaceOfName) (normal_is_net : NormalIsNet) (alike : MergesAlike) (tables : List TableDef) (are : AreTables tables) (entry : List TableChanges)
    (log own theirs : State) (log_state : IsStateOf tables log) (own_state : IsStateOf tables own) (applied : IsApplied tables entry log theirs) where
  merges_alike : (t : Task) → IsOfEntry tables entry t → MergesAlikeAt log own theirs t
  merges_alike t is free some other =
      let fits_log = keyed_there tells fit one_place tables are entry t is log log_state in
      let fits_own = keyed_there tells fit one_place tables are entry t is own own_state in
      let made = left_there tables entry t is log theirs (applied.1 t.name t.key) in
      let n = normal_is_net is.table.key_marks is.normal.key (action t.change) (log t.name t.key) (theirs t.name t.key) is.normal.normal fits_log made in
      alike is.table.key_marks is.normal.key (resolution_of some) (resolution_of other) (log t.name t.key) (own t.name t.key) (theirs t.name t.key) fits_log fits_own n.0
      (subst (λ (c : Option Action). kind_any c (own t.name t.key) ≡ None) (sym n.1) free)

  all_merge_alike : (ts : List Task) → AllByRecursion (IsOfEntry tables entry) ts → AllByRecursion (MergesAlikeAt log own theirs) ts
  all_merge_alike [] all = tt
  all_merge_alike (t ∷ ts) all = (merges_alike t all.0, all_merge_alike ts all.1)

-- ---- each place

module _ (tells : BytesTellKeys) (fit : SetColumnsFit) (one_place : OnePlaceOfName) (normal_is_net : NormalIsNet) (alike : MergesAlike) {P : Type 0} (picks : P → Clash → Wish → P → Type 0) where
  -- two views with the same rows, the same log's rows and the same pending changes at the places of the tables
  module _ (tables : List TableDef) (flight : Option (List TableChanges)) (entry : List TableChanges) (before seen some other : View) (p q r : P) (are : AreTables tables) (normal : IsNormalChangeset entry) (once : PicksOnce picks)
      (log_state : IsStateOf tables (base flight before)) (own_state : IsStateOf tables before.tables) (log_is : base flight before ≡ base flight seen) (own_is : before.tables ≡ seen.tables)
      (pending_is : (table : TableDef) (key : List ℕ) → Contains tables table → seen.pending table.name key ≡ before.pending table.name key)
      (s : IsTaken picks tables flight entry before some p q) (o : IsTaken picks tables flight entry seen other p r) where
    other_applied : IsApplied tables entry (base flight before) (middle other)
    other_applied = subst (λ (log : State). IsApplied tables entry log (middle other)) (sym log_is) o.applied

    same_middle : (name key : List ℕ) → middle other name key ≡ middle some name key
    same_middle name key = same_Some _ _ (sym (other_applied.1 name key) ∙ s.applied.1 name key)

    taken_by : (here view : View) (last : P) → IsTaken picks tables flight entry here view p last → TakeAll picks (base flight here) here.tables (middle view) view.tables (keyed_tasks tables entry) p last
    taken_by here view last is =
        subst (λ (ts : List Task). TakeAll picks (base flight here) here.tables (middle view) view.tables ts p last) (entry_tasks tables entry normal is.applied.0) is.takes

    other_takes : TakeAll picks (base flight before) before.tables (middle other) other.tables (keyed_tasks tables entry) p r
    other_takes =
        subst (λ (log : State). TakeAll picks log before.tables (middle other) other.tables (keyed_tasks tables entry) p r) (sym log_is)
        (subst (λ (own : State). TakeAll picks (base flight seen) own (middle other) other.tables (keyed_tasks tables entry) p r) (sym own_is) (taken_by seen other r o))

    once_merged : AllByRecursion (λ (t : Task). other.tables t.name t.key ≡ some.tables t.name t.key) (keyed_tasks tables entry) × (q ≡ r)
    once_merged =
        one_take picks once (base flight before) before.tables (middle some) (middle other) some.tables other.tables same_middle (keyed_tasks tables entry)
        (all_merge_alike tells fit one_place normal_is_net alike tables are entry (base flight before) before.tables (middle some) log_state own_state s.applied (keyed_tasks tables entry) (of_entry tables entry normal s.applied.0))
        p q r (taken_by before some q s) other_takes

    same_row : (name key : List ℕ) → (other.tables name key ≡ some.tables name key) ⊎ AreElsewhere (name, key) (keyed_tasks tables entry) → other.tables name key ≡ some.tables name key
    same_row name key (inl is) = is
    same_row name key (inr away) =
        let none = nothing_there tables entry normal (keyed_tasks tables entry) refl name key away in
        o.others name key none ∙ sym (ap (λ (own : State). own name key) own_is) ∙ sym (s.others name key none)

    pub same_rows : AreSame some.tables other.tables
    same_rows name key = same_row name key (there_or_elsewhere (λ n k. other.tables n k ≡ some.tables n k) (keyed_tasks tables entry) once_merged.0 name key)

    pub same_pending : (table : TableDef) (key : List ℕ) → Contains tables table → other.pending table.name key ≡ some.pending table.name key
    same_pending table key inside =
        by_test (is_touched flight entry table.name key) _
        (λ e. o.pending.touched table key inside e
        ∙ ap (λ (b : Place). direct_net table b (other.tables table.name key)) (same_middle table.name key)
        ∙ ap (λ (x : Place). direct_net table (middle some table.name key) x) (same_rows table.name key)
        ∙ sym (s.pending.touched table key inside e))
        (λ e. o.pending.untouched table.name key e ∙ pending_is table key inside ∙ sym (s.pending.untouched table.name key e))

  pub one_taken : OneView → OneTaken picks
  one_taken one_view tables contents position entry before seen some other p q r are normal once b n s o =
      let flight = position.flight in
      let log_state = b.under_way.sound.before_state in
      let own_state = b.rows.sound.after_state in
      let log_is = log_same one_view tables contents position before seen b n in
      let own_is = own_same one_view tables contents position before seen b n in
      let pending_is = same_changes one_view tables contents position before seen b n in (
        same_rows tables flight entry before seen some other p q r are normal once log_state own_state log_is own_is pending_is s o,
        same_pending tables flight entry before seen some other p q r are normal once log_state own_state log_is own_is pending_is s o,
        (once_merged tables flight entry before seen some other p q r are normal once log_state own_state log_is own_is pending_is s o).1,
      )

  pub one_taken_in : OneView → OneTakenIn picks
  one_taken_in one_view tables position next entry old some other p q r are normal once (before, shows) s o =
      let one = s before shows in
      let two = o before shows in
      let same = one_taken one_view tables old position entry before before one.0 two.0 p q r are normal once shows shows one.2 two.2 in
      (one_contents tables (brought position next 0) some other one.0 two.0 one.1 two.1 same.0 same.1, same.2)

-- ---- stops

module _ {P : Type 0} (picks : P → Clash → Wish → P → Type 0) where
  pub one_stop_taking : OneStopTaking picks
  one_stop_taking tables flight entry before p q r some other once s o = one_stop picks once (base flight before) before.tables _ p q r some other s.stops o.stops

  pub no_stop_where_taken : NoStopWhereTaken picks
  no_stop_where_taken tables flight entry before after p q r conflict once is stops = no_stop picks once (base flight before) before.tables (middle after) after.tables _ p q r conflict is.takes stops.stops

  pub bad_is_neither : DefinedIsApplied → BadIsNeither picks
  bad_is_neither law tables flight entry before p q bad = (
    λ after is. bad ((law tables entry (base flight before)).1 (middle after, is.applied)),
    λ conflict stops. bad stops.defined,
  )
