-- A store that holds what an entry leaves that is taken, or the picker stops at it.
use Rattle.std.proofs.Common.{◌≡◌, ◌⊎◌, ℕ, List, [], ◌∷◌, refl, sym, subst, ◌∙◌, inl, inr}
use Rattle.std.specs.Prelude.{Contains}
use Rattle.std.specs.FinMap.{len}
use Rattle.cs_value.specs.Facts.{by_test}
use Rattle.cs_value.specs.Catalog.{AreTables}
use Rattle.cs_value.specs.declared.catalog.TableDef.{TableDef}
use Rattle.cs_change.specs.Laws.{NetTakes}
use Rattle.cs_normal.specs.Normal.{IsNormalChangeset}
use Rattle.cs_normal.specs.State.{AppliedIsNet, DefinedIsApplied, IsApplied, IsDefinedOn, IsStateOf, OneKeyStands, State}
use Rattle.cs_normal.specs.declared.normal.TableChanges.{TableChanges}
use Rattle.cs_store.specs.Contents.{Contents}
use Rattle.cs_conflict.specs.Laws.{NotFoundIsCovered}
use Rattle.cs_conflict.specs.Wishes.{IsLawfulWish}
use Rattle.cs_conflict.specs.declared.clash.Clash.{Clash}
use Rattle.cs_conflict.specs.declared.conflict.Conflict.{Conflict}
use Rattle.cs_conflict.specs.declared.kind.Kind.{Kind}
use Rattle.cs_conflict.specs.declared.kind.Kind.TheVariants.{DataDiffers, NotFound, KeyConflict}
use Rattle.cs_conflict.specs.declared.wish.Wish.{Wish}
use Rattle.cs_conflict.specs.declared.wish.Wish.TheVariants.{Stop}
use Rattle.cs_apply.specs.NormalTasks.{AreElsewhere, are_apart, keyed_tasks}
use Rattle.cs_tasks.specs.Tasks.{Task}
use Rattle.cs_pending.specs.Laws.{OneView}
use Rattle.cs_pending.specs.View.{Changed, View}
use Rattle.cs_pending.specs.position.Shows.{ShowsAt, base}
use Rattle.cs_pending.specs.declared.position.position.Position.{Position}
use Rattle.cs_exchange.specs.taking.Laws.{AnswersLawfully, TakenInOrStopped, TakerTakes, always_takes, taking_wish}
use Rattle.cs_exchange.specs.taking.Takes.{IsTakenTo, StopsAt, StopsTaking, TakeAll, brought, is_touched}
use Rattle.cs_exchange.proofs.TakingLemmas.EntryPlaces.{of_entry}
use Rattle.cs_exchange.proofs.TakingLemmas.SameStore.{log_same, own_same, same_changes, same_own}
use Rattle.cs_exchange.proofs.TakingLemmas.TakenContents.{put_taken, shows_taken}
use Rattle.cs_exchange.proofs.TakingLemmas.TakenSome.{can_be_shown, now, now_is_taken, pending_now, pending_there, pending_untouched, row_stays, stop_of}
use Rattle.cs_exchange.proofs.TakingLemmas.Worked.{MergeLaws, Worked, work}

-- ---- what is left of one view is left of the other

module _ (laws : MergeLaws) (one_key : OneKeyStands) (net_takes : NetTakes) (one_view : OneView) {P : Type 0} (picks : P → Clash → Wish → P → Type 0) (tables : List TableDef) (are : AreTables tables) (old : Contents) (position : Position) (next : ℕ) (entry : List TableChanges)
    (normal : IsNormalChangeset entry) (before : View) (b : ShowsAt tables old position before) (theirs rows : State) (theirs_states : IsStateOf tables theirs) (rows_states : IsStateOf tables rows) (applied : IsApplied tables entry (base position.flight before) theirs)
    (elsewhere : (name key : List ℕ) → AreElsewhere (name, key) (keyed_tasks tables entry) → rows name key ≡ before.tables name key) (p q : P)
    (takes : TakeAll picks (base position.flight before) before.tables theirs rows (keyed_tasks tables entry) p q) where
  left_pending : Changed
  left_pending = pending_now laws one_key tables are position.flight entry normal before theirs rows theirs_states rows_states applied elsewhere

  pub left : Contents
  left = put_taken tables position next entry rows left_pending old

  module _ (seen : View) (s : ShowsAt tables old position seen) where
    seen_applied : IsApplied tables entry (base position.flight seen) theirs
    seen_applied = subst (λ (log : State). IsApplied tables entry log theirs) (log_same one_view tables old position before seen b s) applied

    seen_elsewhere : (name key : List ℕ) → AreElsewhere (name, key) (keyed_tasks tables entry) → rows name key ≡ seen.tables name key
    seen_elsewhere name key away = elsewhere name key away ∙ sym (same_own one_view tables old position before seen b s name key)

    seen_takes : TakeAll picks (base position.flight seen) seen.tables theirs rows (keyed_tasks tables entry) p q
    seen_takes =
        subst (λ (log : State). TakeAll picks log seen.tables theirs rows (keyed_tasks tables entry) p q) (log_same one_view tables old position before seen b s)
        (subst (λ (own : State). TakeAll picks (base position.flight before) own theirs rows (keyed_tasks tables entry) p q) (own_same one_view tables old position before seen b s) takes)

    abbrev after : View
    after = now laws one_key tables are position.flight entry normal seen theirs rows theirs_states rows_states seen_applied seen_elsewhere

    same_left : (table : TableDef) (key : List ℕ) → Contains tables table → after.pending table.name key ≡ left_pending table.name key
    unfolding left_pending
    same_left table key inside =
        by_test (is_touched position.flight entry table.name key) _
        (λ e. pending_there laws one_key tables are position.flight entry normal seen theirs rows theirs_states rows_states seen_applied seen_elsewhere table.name key e
        ∙ sym (pending_there laws one_key tables are position.flight entry normal before theirs rows theirs_states rows_states applied elsewhere table.name key e))
        (λ e. pending_untouched laws one_key tables are position.flight entry normal seen theirs rows theirs_states rows_states seen_applied seen_elsewhere table.name key e
        ∙ same_changes one_view tables old position before seen b s table key inside
        ∙ sym (pending_untouched laws one_key tables are position.flight entry normal before theirs rows theirs_states rows_states applied elsewhere table.name key e))

    seen_shows : ShowsAt tables left (brought position next (len left.pending)) after
    unfolding left
    seen_shows =
        shows_taken laws.place tables are position next entry applied.0 normal old seen s rows left_pending after
        (can_be_shown laws one_key tables are position.flight entry normal seen theirs rows theirs_states rows_states seen_applied seen_elsewhere net_takes s.rows.sound s.rows.pends.fits)
        (λ name key. refl) same_left
        (λ name key e. (
          row_stays laws one_key tables are position.flight entry normal seen theirs rows theirs_states rows_states seen_applied seen_elsewhere name key e,
          pending_untouched laws one_key tables are position.flight entry normal seen theirs rows theirs_states rows_states seen_applied seen_elsewhere name key e,
        ))

  pub left_taken_in : IsTakenTo picks tables position next entry p q old left
  left_taken_in seen s = (
    after seen s,
    seen_shows seen s,
    now_is_taken laws one_key tables are position.flight entry normal seen theirs rows theirs_states rows_states (seen_applied seen s) (seen_elsewhere seen s) picks p q (seen_takes seen s),
  )

-- ---- taken, or stopped at

module _ (laws : MergeLaws) (one_key : OneKeyStands) (defined_is_applied : DefinedIsApplied) (applied_is_net : AppliedIsNet) (net_takes : NetTakes) (one_view : OneView) {P : Type 0} (picks : P → Clash → Wish → P → Type 0) (is_ready : P → Type 0) where
  module _ (tables : List TableDef) (old : Contents) (position : Position) (next : ℕ) (entry : List TableChanges) (before : View) (p : P) (are : AreTables tables) (normal : IsNormalChangeset entry) (shows : ShowsAt tables old position before)
      (defined : IsDefinedOn tables entry (base position.flight before)) (theirs : State) (applied : IsApplied tables entry (base position.flight before) theirs) where
    stored_of : Worked picks is_ready laws tables are entry (base position.flight before) before.tables theirs shows.under_way.sound.before_state shows.rows.sound.after_state applied (keyed_tasks tables entry) p
        → ((new : Contents) × (q : P) × IsTakenTo picks tables position next entry p q old new × is_ready q) ⊎ ((conflict : Conflict) × (q : P) × StopsTaking picks tables position.flight entry before p conflict q)
    stored_of (inl (rows, q, takes, elsewhere, states, ready)) =
        let theirs_states = (applied_is_net tables entry (base position.flight before) theirs are normal shows.under_way.sound.before_state applied).0 in
        inl (
          left laws one_key net_takes one_view picks tables are old position next entry normal before shows theirs rows theirs_states states applied elsewhere p q takes,
          q,
          left_taken_in laws one_key net_takes one_view picks tables are old position next entry normal before shows theirs rows theirs_states states applied elsewhere p q takes,
          ready,
        )
    stored_of (inr (conflict, q, stops)) = inr (conflict, q, stop_of tables position.flight entry before p normal defined picks conflict q stops)

  pub taken_in_or_stopped : TakenInOrStopped picks is_ready
  taken_in_or_stopped tables old position next entry before p are normal shows defined answers ready =
      let made = (defined_is_applied tables entry (base position.flight before)).0 defined in
      stored_of tables old position next entry before p are normal shows defined made.0 made.1
      (work picks is_ready laws tables are entry (base position.flight before) before.tables made.0 shows.under_way.sound.before_state shows.rows.sound.after_state made.1 answers (keyed_tasks tables entry) (are_apart tables entry normal)
      (of_entry tables entry normal defined.0) p ready)

-- ---- a picker that always takes

taking_is_lawful : NotFoundIsCovered → (clash : Clash) → (why : Kind) → clash.conflict.kind ≡ why → IsLawfulWish (taking_wish clash.conflict.kind) clash.conflict.kind clash.covers
taking_is_lawful covered clash DataDiffers is = rw is (λ e. cc)
taking_is_lawful covered clash NotFound is = rw is (covered clash is)
taking_is_lawful covered clash KeyConflict is = rw is (λ e. cc)

never_stops : (why : Kind) → Stop ≡ taking_wish why → ⊥
never_stops DataDiffers e = cc
never_stops NotFound e = cc
never_stops KeyConflict e = cc

taker_never_stops : (log own : State) (ts : List Task) (p : Unit {0}) (conflict : Conflict) (q : Unit {0}) → StopsAt always_takes log own ts p conflict q → ⊥
unfolding StopsAt
taker_never_stops log own [] p conflict q stops = stops
taker_never_stops log own (t ∷ ts) p conflict q (inl (clash, is, picked, told)) = never_stops clash.conflict.kind picked
taker_never_stops log own (t ∷ ts) p conflict q (inr (wish, between, on, asks, behind)) = taker_never_stops log own ts between conflict q behind

taken_then : (tables : List TableDef) (old : Contents) (position : Position) (next : ℕ) (entry : List TableChanges) (before : View)
    → ((new : Contents) × (q : Unit {0}) × IsTakenTo always_takes tables position next entry tt q old new × Unit {0}) ⊎ ((conflict : Conflict) × (q : Unit {0}) × StopsTaking always_takes tables position.flight entry before tt conflict q)
    → (new : Contents) × IsTakenTo always_takes tables position next entry tt tt old new
taken_then tables old position next entry before (inl (new, q, is, ready)) = (new, is)
taken_then tables old position next entry before (inr (conflict, q, stops)) = absurd (taker_never_stops (base position.flight before) before.tables _ tt conflict q stops.stops)

pub taker_takes : MergeLaws → OneKeyStands → DefinedIsApplied → AppliedIsNet → NetTakes → OneView → NotFoundIsCovered → TakerTakes
taker_takes laws one_key defined_is_applied applied_is_net net_takes one_view covered =
    let lawful : AnswersLawfully always_takes (λ p. Unit {0}) = λ p clash ready. (taking_wish clash.conflict.kind, tt, refl, tt, taking_is_lawful covered clash clash.conflict.kind refl) in
    record {
      once = λ p clash some other q r s o. (s ∙ sym o, refl);
      lawful = lawful;
      taken = λ tables old position next entry before are normal shows defined.
          taken_then tables old position next entry before
          (taken_in_or_stopped laws one_key defined_is_applied applied_is_net net_takes one_view always_takes (λ p. Unit {0}) tables old position next entry before tt are normal shows defined lawful tt);
    }
