-- Contents that hold what an entry leaves that was taken.
use Rattle.std.proofs.Common.{◌≡◌, ◌||◌, ◌+◌, ◌++◌, ℕ, Bool, false, not, is_some, List, [], ◌∷◌, Option, None, option_map, refl, sym, ap, ap₂, subst, ◌∙◌, arith}
use Rattle.std.specs.Prelude.{Contains, IfSome}
use Rattle.std.specs.FinMap.{get, len}
use Rattle.std.specs.List.{AllByRecursion}
use Rattle.cs_value.specs.Catalog.{AreTables}
use Rattle.cs_value.specs.Facts.{same_place-Decides}
use Rattle.cs_value.specs.Key.{Place}
use Rattle.cs_value.specs.Laws.{OnePlaceOfName}
use Rattle.cs_value.specs.declared.catalog.TableDef.{TableDef}
use Rattle.cs_record.specs.Spelling.{row_bytes}
use Rattle.cs_change.specs.Net.{net}
use Rattle.cs_change.specs.Spelling.{FitsChange, change_spelling}
use Rattle.cs_change.specs.declared.change.Change.{Change}
use Rattle.cs_normal.specs.Normal.{FitsCatalog, IsNormalChangeset}
use Rattle.cs_normal.specs.State.{IsStateOf, MayStandAt, State}
use Rattle.cs_normal.specs.declared.normal.TableChanges.{TableChanges}
use Rattle.cs_store.specs.Contents.{Contents, name_text}
use Rattle.cs_store.specs.declared.names.MetaName.{MetaName}
use Rattle.cs_store.specs.declared.names.MetaName.TheVariants.{Id, Version, Number, Flight, Pending, Catalog}
use Rattle.cs_wire.specs.Numbers.{eight_bytes}
use Rattle.cs_apply.specs.NormalTasks.{AreElsewhere, IsKnown, all_known, keyed_tasks, of_one}
use Rattle.cs_apply.specs.Spots.{all_both}
use Rattle.cs_tasks.specs.Tasks.{Task}
use Rattle.cs_pending.specs.Nets.{net_there, undo_none}
use Rattle.cs_pending.specs.OnePlace.{contained}
use Rattle.cs_pending.specs.Shows.{IsSoundOf}
use Rattle.cs_pending.specs.Steps.{none_left}
use Rattle.cs_pending.specs.View.{Changed, View, middle}
use Rattle.cs_pending.specs.position.Shows.{IsUnderWay, ShowsAt, flown}
use Rattle.cs_pending.specs.position.Values.{value_of}
use Rattle.cs_pending.specs.declared.position.position.Position.{Position}
use Rattle.cs_exchange.specs.taking.Takes.{brought, is_touched}
use Rattle.cs_exchange.proofs.TakingLemmas.Whole.{nothing_there}
use Rattle.cs_exchange.proofs.TakingLemmas.PutBodies.{next_meta, next_names, value_next, put_bodies, body_past, body_there}

-- a view that a store can show: what is pending is sound, and such as its reader takes
pub record CanBeShown (tables : List TableDef) (view : View) : Type 0 where
  pub sound : IsSoundOf tables view.pending view.tables
  pub fits : (table : TableDef) (key : List ℕ) → Contains tables table → IfSome (view.pending table.name key) (FitsChange table.key_marks)

-- ---- nothing under way

no_net : (marks : List Bool) (x : Place) → net marks x x ≡ None
no_net marks x = none_left (net marks x x) (net_there marks x x ∙ ap not ((same_place-Decides x x).1 refl))

pub nothing_under_way : (tables : List TableDef) (view : View) → IsStateOf tables (middle view) → IsUnderWay tables None view
nothing_under_way tables view states = record {
  fits = tt;
  normal = tt;
  size = omega arith;
  sound = record {
    before_state = λ n k. subst (λ (x : Place). MayStandAt tables n k x) (sym (undo_none (middle view n k))) (states n k);
    after_state = states;
    net_of = λ t k among. sym (ap (λ (b : Place). net t.key_marks b (middle view t.name k)) (undo_none (middle view t.name k)) ∙ no_net t.key_marks (middle view t.name k));
  };
}

-- ---- the contents

elsewhere_of_both : (spot : List ℕ × List ℕ) (some others : List Task) → AreElsewhere spot (some ++ others) → AreElsewhere spot some × AreElsewhere spot others
elsewhere_of_both spot [] others away = (tt, away)
elsewhere_of_both spot (t ∷ some) others away = let rest = elsewhere_of_both spot some others away.1 in ((away.0, rest.0), rest.1)

-- the changes of the entry and those under way
abbrev touched_tasks : List TableDef → Option (List TableChanges) → List TableChanges → List Task
touched_tasks tables flight entry = keyed_tasks tables entry ++ keyed_tasks tables (flown flight)

-- what is held then: these rows and pending changes at the places of the entry and of what was under way
pub put_taken : List TableDef → Position → ℕ → List TableChanges → State → Changed → Contents → Contents
put_taken tables position next entry rows pending old = record {
  rows = put_bodies (λ n k. option_map row_bytes (rows n k)) (touched_tasks tables position.flight entry) old.rows;
  pending = put_bodies (λ n k. option_map change_spelling (pending n k)) (touched_tasks tables position.flight entry) old.pending;
  meta = next_meta (eight_bytes next) old.meta;
  log = old.log;
}

module _ (one_place : OnePlaceOfName) (tables : List TableDef) (are : AreTables tables) (position : Position) (next : ℕ) (entry : List TableChanges) (fits : FitsCatalog tables entry) (normal : IsNormalChangeset entry) (old : Contents) (seen : View)
    (shows : ShowsAt tables old position seen) (rows : State) (pending : Changed) (after : View) where
  all_touched : AllByRecursion (IsKnown tables) (touched_tasks tables position.flight entry)
  all_touched =
      all_both (IsKnown tables) (keyed_tasks tables entry) (keyed_tasks tables (flown position.flight))
      (all_known tables entry (of_one tables entry fits) normal)
      (all_known tables (flown position.flight) (of_one tables (flown position.flight) shows.under_way.fits) shows.under_way.normal)

  untouched_there : (name key : List ℕ) → AreElsewhere (name, key) (touched_tasks tables position.flight entry) → is_touched position.flight entry name key ≡ false
  untouched_there name key away =
      let both = elsewhere_of_both (name, key) (keyed_tasks tables entry) (keyed_tasks tables (flown position.flight)) away in
      ap₂ (λ (some other : Option Change). is_some some || is_some other) (nothing_there tables entry normal (keyed_tasks tables entry) refl name key both.0)
      (nothing_there tables (flown position.flight) shows.under_way.normal (keyed_tasks tables (flown position.flight)) refl name key both.1)

  abbrev new : Contents
  new = put_taken tables position next entry rows pending old

  value_now : (count : ℕ) (name : MetaName) → get new.meta (name_text name) ≡ value_of tables (brought position next count) name
  unfolding put_taken
  value_now count Id = value_next (eight_bytes next) old.meta (name_text Id) ∙ shows.values Id
  value_now count Version = value_next (eight_bytes next) old.meta (name_text Version)
  value_now count Number = value_next (eight_bytes next) old.meta (name_text Number) ∙ shows.values Number
  value_now count Flight = value_next (eight_bytes next) old.meta (name_text Flight)
  value_now count Pending = value_next (eight_bytes next) old.meta (name_text Pending) ∙ shows.values Pending
  value_now count Catalog = value_next (eight_bytes next) old.meta (name_text Catalog) ∙ shows.values Catalog

  -- they show a view of these rows and pending changes, which is the seen one where nothing was touched
  pub shows_taken : CanBeShown tables after → ((name key : List ℕ) → after.tables name key ≡ rows name key)
      → ((table : TableDef) (key : List ℕ) → Contains tables table → after.pending table.name key ≡ pending table.name key)
      → ((name key : List ℕ) → is_touched position.flight entry name key ≡ false → (after.tables name key ≡ seen.tables name key) × (after.pending name key ≡ seen.pending name key))
      → ShowsAt tables new (brought position next (len new.pending)) after
  unfolding put_taken
  shows_taken can rows_are pending_are still = record {
    rows = record {
      rows = record {
        rows = can.sound.after_state;
        stored = λ n t k at.
            body_there tables are one_place (λ m j. option_map row_bytes (rows m j)) old.rows (touched_tasks tables position.flight entry) all_touched n t k at
            (λ away. shows.rows.rows.stored n t k at ∙ ap (λ (x : Place). option_map row_bytes x) (sym (still t.name k (untouched_there t.name k away)).0 ∙ rows_are t.name k))
            ∙ ap (λ (x : Place). option_map row_bytes x) (sym (rows_are t.name k));
      };
      pends = record {
        stored = λ n t k at.
            let inside = contained tables n t at in
            body_there tables are one_place (λ m j. option_map change_spelling (pending m j)) old.pending (touched_tasks tables position.flight entry) all_touched n t k at
            (λ away. shows.rows.pends.stored n t k at ∙ ap (λ (c : Option Change). option_map change_spelling c) (sym (still t.name k (untouched_there t.name k away)).1 ∙ pending_are t k inside))
            ∙ ap (λ (c : Option Change). option_map change_spelling c) (sym (pending_are t k inside));
        fits = can.fits;
      };
      sound = can.sound;
    };
    values = value_now (len new.pending);
    alone = record {
      rows = λ place elsewhere. body_past tables are one_place (λ m j. option_map row_bytes (rows m j)) old.rows (touched_tasks tables position.flight entry) all_touched place elsewhere ∙ shows.alone.rows place elsewhere;
      pending = λ place elsewhere. body_past tables are one_place (λ m j. option_map change_spelling (pending m j)) old.pending (touched_tasks tables position.flight entry) all_touched place elsewhere ∙ shows.alone.pending place elsewhere;
      log = shows.alone.log;
      names = next_names (eight_bytes next) old.meta shows.alone.names;
    };
    under_way = nothing_under_way tables after can.sound.before_state;
    counted = refl;
    numbered = shows.numbered;
  }
