-- A push is made: what the store shows then, and what it refuses.
use Rattle.std.proofs.Common.{◌≡◌, ◌≤◌, ◌+◌, ◌⊎◌, ℕ, zero, suc, inl, inr, List, [], ◌∷◌, Option, Some, None, option_map, length, fold, refl, sym, ap, ap₂, subst, ◌∙◌, arith}
use Rattle.std.specs.Prelude.{pos, slice_get, Contains, IsSome}
use Rattle.std.specs.FinMap.{get}
use Rattle.std.specs.List.{AllByRecursion}
use Rattle.std.specs.Str.{bytes_eq}
use Rattle.cs_value.specs.Facts.{by_test}
use Rattle.cs_pending.specs.NormalTasks.{IsOfOne, of_one}
use Rattle.cs_pending.specs.Spots.{name_is, name_not}
use Rattle.cs_change.specs.Action.{action_any}
use Rattle.cs_change.specs.Net.{net}
use Rattle.cs_change.specs.Spelling.{change_spelling}
use Rattle.cs_change.specs.declared.change.Change.{Change}
use Rattle.cs_normal.specs.keyed.Changes.{change_at}
use Rattle.cs_store.specs.declared.log.entry.TheConstants.{MAX_CHANGESET}
use Rattle.cs_normal.specs.Normal.{change_of, changes_in, normal_spelling}
use Rattle.cs_normal.specs.State.{AreSame, MayStandAt}
use Rattle.cs_normal.specs.declared.normal.TableChanges.{TableChanges}
use Rattle.cs_pending.specs.outgoing.Outgoing.{IsPendingOf, OnePending}
use Rattle.cs_pending.specs.Nets.{undo_none}
use Rattle.cs_pending.specs.OnePlace.{contained}
use Rattle.cs_pending.specs.Shows.{IsSoundOf, ShowsRows}
use Rattle.cs_pending.specs.View.{View, before, middle, undo}
use Rattle.cs_pending.specs.position.Laws.{CommitShows}
use Rattle.cs_pending.specs.position.Shows.{IsUnderWay, ShowsAt, base, changes_at}
use Rattle.cs_pending.specs.position.Values.{value_of}
use Rattle.cs_pending.specs.declared.position.position.Position.{Position}
use Rattle.cs_exchange.specs.pushing.Batches.{WritesValues, all_clear, push_values}
use Rattle.cs_exchange.specs.pushing.Laws.{NoFaultWhereMade, OnePushFault}
use Rattle.cs_exchange.specs.pushing.Pushes.{IsPushFault, IsPushMade, IsPushMadeIn, grounded, pushed}
use Rattle.cs_exchange.specs.pushing.Steps.{IsEarlyFault, IsReady, IsSent, IsUnsent}
use Rattle.cs_exchange.specs.declared.pushing.fault.PushFault.{PushFault}
use Rattle.cs_exchange.specs.declared.pushing.fault.PushFault.TheVariants.{Memory, Nothing, InFlight, Device, Spent, TooLarge}
use Rattle.cs_exchange.proofs.PushingLemmas.Confirmed.{before_nothing, parts_after, sound_nothing, values_are, within_none}
use Rattle.cs_exchange.proofs.PushingLemmas.Cleared.{all_cleared, all_within}
use Rattle.cs_exchange.proofs.PushingLemmas.Counted.{none_pending, nothing_there, something_there}
use Rattle.cs_store.specs.Contents.{Bodies, Contents, stored_pending}
use Rattle.cs_store.specs.Laws.{KeepsOtherPending, WritesPending}
use Rattle.cs_store.specs.Written.{after_batch, edit_body}
use Rattle.cs_store.specs.declared.batch.Batch.{Batch}
use Rattle.cs_store.specs.edits.Edits.{BodyEdit}
use Rattle.cs_store.specs.declared.fault.StoreFault.{StoreFault}
use Rattle.cs_store.specs.declared.fault.StoreFault.TheVariants as stored
use Rattle.cs_store.specs.declared.names.MetaName.{MetaName}
use Rattle.cs_store.specs.declared.names.MetaName.TheVariants.{Id, Version, Number, Flight, Pending, Catalog}
use Rattle.cs_value.specs.Key.{Place}
use Rattle.cs_value.specs.declared.catalog.TableDef.{TableDef}
use Rattle.cs_pending.specs.Steps.{no_place}

-- ---- names of tables

-- a name of a table, or of none
abbrev IsTabled : List TableDef → List ℕ → Type 0
IsTabled tables name = (table : TableDef) × Contains tables table × (table.name ≡ name)

behind : (first : TableDef) (tables : List TableDef) (name : List ℕ) → IsTabled tables name → IsTabled (first ∷ tables) name
behind first tables name (table, (i, within, is), named) = (table, (suc i, omega (arith, within), is), named)

never_first : (first : TableDef) (tables : List TableDef) (name : List ℕ) → (first.name ≡ name → ⊥) → (IsTabled tables name → ⊥) → IsTabled (first ∷ tables) name → ⊥
never_first first tables name apart never (table, (zero, within, is), named) = apart (ap (λ (t : TableDef). t.name) is ∙ named)
never_first first tables name apart never (table, (suc i, within, is), named) = never (table, (i, omega (arith, within), is), named)

tabled : (tables : List TableDef) (name : List ℕ) → IsTabled tables name ⊎ (IsTabled tables name → ⊥)
tabled [] name = inr (λ is. absurd (omega (arith, is.1.1)))
tabled (first ∷ tables) name =
    by_test (bytes_eq first.name name) _
    (λ t. inl (first, (0, omega arith, refl), name_is first.name name t))
    (λ t. elim (tabled tables name) [
      | inl is ↦ inl (behind first tables name is)
      | inr never ↦ inr (never_first first tables name (name_not first.name name t) never)
    ])

-- a changeset of the tables has no changes under another name
none_named : (tables : List TableDef) (name : List ℕ) → (IsTabled tables name → ⊥) → (changes : List TableChanges) → AllByRecursion (IsOfOne tables) changes → changes_in name changes ≡ []
none_named tables name never [] all = refl
none_named tables name never (first ∷ changes) all =
    by_test (bytes_eq first.name name) _
    (λ t. absurd (never (all.0.table, all.0.inside, sym all.0.of.0 ∙ name_is first.name name t)))
    (λ t. simp t (none_named tables name never changes all.1))

never_stands : (tables : List TableDef) (name key : List ℕ) (place : Place) → (IsTabled tables name → ⊥) → MayStandAt tables name key place → place ≡ None
never_stands tables name key None never stands = refl
never_stands tables name key (Some row) never (table, inside, named, is) = absurd (never (table, inside, named))

-- ---- what is pending is under way

module _ (tables : List TableDef) (view : View) (changes : List TableChanges) (sound : IsSoundOf tables view.pending view.tables) (is : IsPendingOf tables view.pending changes) where
  -- taken back from the rows, the changeset leaves what stood before what is pending
  undone : (n k : List ℕ) → undo (action_any (change_of n k changes)) (view.tables n k) ≡ middle view n k
  undone n k =
      elim (tabled tables n) [
        | inl there ↦ subst (λ (m : List ℕ). undo (action_any (change_of m k changes)) (view.tables m k) ≡ middle view m k) there.2
            (ap (λ (c : Option Change). undo (action_any c) (view.tables there.0.name k)) (is.changes_are there.0 k there.1))
        | inr never ↦
            let none : change_of n k changes ≡ None = ap (change_at k) (none_named tables n never changes (of_one tables changes is.fits)) in
            let gone : view.tables n k ≡ None = never_stands tables n k (view.tables n k) never (sound.after_state n k) in
            ap (λ (c : Option Change). undo (action_any c) (view.tables n k)) none
            ∙ undo_none (view.tables n k) ∙ gone
            ∙ sym (never_stands tables n k (middle view n k) never (sound.before_state n k))
      ]

  stays : (n k : List ℕ) → middle (grounded view) n k ≡ view.tables n k
  stays n k = undo_none (view.tables n k)

  before_is : (n k : List ℕ) → before (changes_at changes) (middle (grounded view)) n k ≡ middle view n k
  before_is n k = ap (undo (action_any (change_of n k changes))) (stays n k) ∙ undone n k

  pub under_way : length (normal_spelling changes) ≤ MAX_CHANGESET → IsUnderWay tables (Some changes) (grounded view)
  under_way small = record {
    fits = is.fits;
    normal = is.normal;
    size = small;
    sound = record {
      before_state = λ n k. subst (λ (p : Place). MayStandAt tables n k p) (sym (before_is n k)) (sound.before_state n k);
      after_state = λ n k. subst (λ (p : Place). MayStandAt tables n k p) (sym (stays n k)) (sound.after_state n k);
      net_of = λ t k inside. ap action_any (is.changes_are t k inside) ∙ sound.net_of t k inside
          ∙ ap₂ (λ (b x : Place). net t.key_marks b x) (sym (before_is t.name k)) (sym (stays t.name k));
    };
  }

  pub log_rows_stay : (flight : Option (List TableChanges)) → flight ≡ None → AreSame (base flight view) (base (Some changes) (grounded view))
  log_rows_stay flight none n k =
      before_is n k ∙ sym (ap (λ (f : Option (List TableChanges)). base f view n k) none ∙ before_nothing (middle view) n k)

-- ---- the commit

push_value : (tables : List TableDef) (old : Position) (changes : List TableChanges) (name : MetaName) → parts_after (push_values (old.number + 1) changes) name (value_of tables old name) ≡ value_of tables (pushed old changes) name
push_value tables old changes Id = refl
push_value tables old changes Version = refl
push_value tables old changes Number = refl
push_value tables old changes Flight = refl
push_value tables old changes Pending = refl
push_value tables old changes Catalog = refl

module _ (tables : List TableDef) (contents : Contents) (batch : Batch) (position : Position) (changes : List TableChanges) (writes : WritesValues (all_clear 0 tables changes) (push_values (position.number + 1) changes) batch) where
  module _ (pending_law : WritesPending) (view : View) (shows : ShowsRows tables contents view) (is : IsPendingOf tables view.pending changes) where
    gone : (n : ℕ) (t : TableDef) (k : List ℕ) → slice_get tables n ≡ Some t → stored_pending (after_batch batch contents) n k ≡ None
    gone n t k at =
        pending_law batch contents n k
        ∙ all_cleared tables changes batch.pending writes.pending n t k (stored_pending contents n k) at
        (shows.pends.stored n t k at ∙ ap (option_map change_spelling) (sym (is.changes_are t k (contained tables n t at))))

    shows_grounded : ShowsRows tables (after_batch batch contents) (grounded view)
    shows_grounded =
        let rows : (after_batch batch contents).rows ≡ contents.rows = ap (λ (es : List BodyEdit). fold edit_body contents.rows es) writes.rows in
        record {
          rows = record { rows = shows.rows.rows; stored = λ n t k at. ap (λ (m : Bodies). get m (pos n, k)) rows ∙ shows.rows.stored n t k at };
          pends = record { stored = gone; fits = λ t k inside. tt };
          sound = sound_nothing tables view.tables shows.sound.after_state;
        }

  pub push_made : CommitShows → WritesPending → KeepsOtherPending → IsReady position → (view : View) → ShowsAt tables contents position view → IsSent tables view changes
      → IsPushMade tables position view (after_batch batch contents) changes
  push_made law pending_law other_law ready view shows is =
      let within = all_within tables changes batch.pending writes.pending in
      let none = none_pending tables (after_batch batch contents) (gone pending_law view shows.rows is.0)
      (λ place elsewhere. other_law batch contents place (no_place tables place batch.pending elsewhere within) ∙ shows.alone.pending place elsewhere) in
      record {
        something = something_there tables contents position view shows ready.some;
        none_under_way = ready.none;
        number = ready.number;
        pending = is.0;
        shows = law tables contents batch position (pushed position changes) view (grounded view) shows (within_none tables batch.rows writes.rows) within writes.log
            (λ name. values_are batch.meta.items (push_values (position.number + 1) changes) name (value_of tables position name) writes.values ∙ push_value tables position changes name)
            (shows_grounded pending_law view shows.rows is.0)
            (under_way tables view changes shows.rows.sound is.0 is.1)
            (sym none)
            (omega (arith, ready.number));
        log_rows = log_rows_stay tables view changes shows.rows.sound is.0 position.flight ready.none;
      }

  pub made_in : CommitShows → WritesPending → KeepsOtherPending → IsReady position → ((view : View) → ShowsRows tables contents view → IsSent tables view changes)
      → IsPushMadeIn tables position contents (after_batch batch contents)
  made_in law pending_law other_law ready sent view shows = (changes, push_made law pending_law other_law ready view shows (sent view shows.rows))

-- ---- faults

pub was_device : (fault : StoreFault) (told : PushFault) → (fault ≡ stored.Memory → told ≡ Memory) → told ≡ Device → fault ≡ stored.Device
was_device stored.Memory told memory is = absurd (let no = sym (memory refl) ∙ is in cc)
was_device stored.Device told memory is = refl

module _ (tables : List TableDef) (contents : Contents) (position : Position) (view : View) (shows : ShowsAt tables contents position view) where
  pub early_fault : (fault : PushFault) → IsEarlyFault fault position → IsPushFault fault tables position view
  early_fault Memory is = tt
  early_fault Nothing is = nothing_there tables contents position view shows is
  early_fault InFlight is = (something_there tables contents position view shows is.0, is.1)
  early_fault Device is = tt
  early_fault Spent is = (something_there tables contents position view shows is.0, is.1, omega (arith, is.2, shows.numbered))
  early_fault TooLarge is = absurd is

  pub late_fault : IsReady position → (fault : PushFault) → IsUnsent fault tables view → IsPushFault fault tables position view
  late_fault ready Memory is = tt
  late_fault ready Nothing is = is
  late_fault ready InFlight is = absurd is
  late_fault ready Device is = tt
  late_fault ready Spent is = absurd is
  late_fault ready TooLarge is = (something_there tables contents position view shows ready.some, ready.none, ready.number, is)

-- ---- one answer

two_flights : (flight : Option (List TableChanges)) → IsSome flight → flight ≡ None → ⊥
two_flights None some none = absurd cc
two_flights (Some changes) some none = absurd (let no = none in cc)

pub one_fault : OnePushFault
one_fault tables position view Memory other s o a b = absurd (s.0 refl)
one_fault tables position view Device other s o a b = absurd (s.1 refl)
one_fault tables position view Nothing Memory s o a b = absurd (o.0 refl)
one_fault tables position view Nothing Device s o a b = absurd (o.1 refl)
one_fault tables position view Nothing Nothing s o a b = refl
one_fault tables position view Nothing InFlight s o a b = absurd (b.0 a)
one_fault tables position view Nothing Spent s o a b = absurd (b.0 a)
one_fault tables position view Nothing TooLarge s o a b = absurd (b.0 a)
one_fault tables position view InFlight Memory s o a b = absurd (o.0 refl)
one_fault tables position view InFlight Device s o a b = absurd (o.1 refl)
one_fault tables position view InFlight Nothing s o a b = absurd (a.0 b)
one_fault tables position view InFlight InFlight s o a b = refl
one_fault tables position view InFlight Spent s o a b = absurd (two_flights position.flight a.1 b.1)
one_fault tables position view InFlight TooLarge s o a b = absurd (two_flights position.flight a.1 b.1)
one_fault tables position view Spent Memory s o a b = absurd (o.0 refl)
one_fault tables position view Spent Device s o a b = absurd (o.1 refl)
one_fault tables position view Spent Nothing s o a b = absurd (a.0 b)
one_fault tables position view Spent InFlight s o a b = absurd (two_flights position.flight b.1 a.1)
one_fault tables position view Spent Spent s o a b = refl
one_fault tables position view Spent TooLarge s o a b = absurd (omega (arith, a.2, b.2))
one_fault tables position view TooLarge Memory s o a b = absurd (o.0 refl)
one_fault tables position view TooLarge Device s o a b = absurd (o.1 refl)
one_fault tables position view TooLarge Nothing s o a b = absurd (a.0 b)
one_fault tables position view TooLarge InFlight s o a b = absurd (two_flights position.flight b.1 a.1)
one_fault tables position view TooLarge Spent s o a b = absurd (omega (arith, a.2, b.2))
one_fault tables position view TooLarge TooLarge s o a b = refl

pub none_where_made : OnePending → NoFaultWhereMade
none_where_made one tables position before new changes Memory are made of is = of.0 refl
none_where_made one tables position before new changes Nothing are made of is = made.something is
none_where_made one tables position before new changes InFlight are made of is = two_flights position.flight is.1 made.none_under_way
none_where_made one tables position before new changes Device are made of is = of.1 refl
none_where_made one tables position before new changes Spent are made of is = absurd (omega (arith, is.2, made.number))
none_where_made one tables position before new changes TooLarge are made of is =
    let large = is.3 in
    let same : large.0 ≡ changes = one tables before.pending large.0 changes are large.1 made.pending in
    let long : length (normal_spelling large.0) ≡ length (normal_spelling changes) = ap (λ (cs : List TableChanges). length (normal_spelling cs)) same in
    absurd (omega (arith, large.2, made.shows.under_way.size, long))
