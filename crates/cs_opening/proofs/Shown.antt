-- What contents hold that show rows, or a replica at a position: changes that lead to their rows, and what their places say.
use Rattle.std.proofs.Common.{◌≡◌, ◌≤◌, ◌∙◌, ◌+◌, inl, inr, ℕ, suc, List, [], ◌∷◌, Option, Some, None, option_map, arith, length, refl, ap, subst, sym}
use Rattle.std.specs.Prelude.{ℤ, pos, negsuc, IfSome, slice_get}
use Rattle.std.specs.FinMap.{get}
use Rattle.std.proofs.lemmas.Option.{same_Some, slice_get_cases}
use Rattle.cs_value.specs.Key.{Place}
use Rattle.cs_value.specs.declared.catalog.TableDef.{TableDef}
use Rattle.cs_record.specs.Spelling.{row_bytes}
use Rattle.cs_change.specs.Action.{action, action_any}
use Rattle.cs_change.specs.Net.{net}
use Rattle.cs_change.specs.Spelling.{FitsChange, change_spelling}
use Rattle.cs_change.specs.declared.change.Change.{Change}
use Rattle.cs_store.specs.Contents.{Contents, stored_pending, stored_tables}
use Rattle.cs_store.specs.States.{IsStored}
use Rattle.cs_store.specs.declared.names.MetaName.TheVariants.{Pending}
use Rattle.cs_store.specs.Whole.{AtTable, StoresChange, StoresRow}
use Rattle.cs_pending.specs.OnePlace.{contained}
use Rattle.cs_pending.specs.Settled.{Catalogs}
use Rattle.cs_pending.specs.Shows.{IsElsewhere, ShowsRows}
use Rattle.cs_pending.specs.View.{View, middle, undo}
use Rattle.cs_pending.specs.position.Shows.{ShowsAt}
use Rattle.cs_pending.specs.declared.position.position.Position.{Position}
use Rattle.cs_opening.proofs.NoLog.{no_log}
use Rattle.cs_opening.specs.Steps.{HoldsPlaces, IsLeading, IsNetTo, TablesLead}
use Rattle.cs_opening.proofs.Bases.{StandsIn, net_keyed, stands_in}

-- ---- of a view

module _ (tables : List TableDef) (law : Catalogs tables) (contents : Contents) (view : View) (shows : ShowsRows tables contents view) where
  module _ (number : ℕ) (table : TableDef) (key : List ℕ) (at : slice_get tables number ≡ Some table) where
    stored_as : (place : Place) → StandsIn table key place → stored_tables contents number key ≡ option_map row_bytes place → IsStored (length table.key_marks) (stored_tables contents number key) place
    stored_as None stands is = is
    stored_as (Some row) stands is = (stands.fits, is)

    -- the change that is pending there leads to the row
    net_there : (change : Change) → view.pending table.name key ≡ Some change → IsNetTo table.key_marks change (view.tables table.name key)
    net_there change is =
        let place = view.tables table.name key in
        let net_of = shows.sound.net_of table key (contained tables number table at) in
        subst (λ (o : Option Change). net table.key_marks (undo (action_any o) place) place ≡ action_any o) is (sym net_of)

    leading : (body : List ℕ) → stored_pending contents number key ≡ Some body → (o : Option Change) → view.pending table.name key ≡ o → IsLeading table (stored_tables contents number key) body
    leading body e None is = absurd (let no = sym e ∙ shows.pends.stored number table key at ∙ ap (option_map change_spelling) is in cc)
    leading body e (Some change) is =
        let inside = contained tables number table at in
        record {
          change = change;
          place = view.tables table.name key;
          fits = subst (λ (o : Option Change). IfSome o (FitsChange table.key_marks)) is (shows.pends.fits table key inside);
          spelled = same_Some body (change_spelling change) (sym e ∙ shows.pends.stored number table key at ∙ ap (option_map change_spelling) is);
          stored = stored_as (view.tables table.name key) (stands_in tables law table key (view.tables table.name key) inside (shows.sound.after_state table.name key)) (shows.rows.stored number table key at);
          leads = net_there change is;
        }

    row_here : (body : List ℕ) → stored_tables contents number key ≡ Some body → (place : Place) → StandsIn table key place → stored_tables contents number key ≡ option_map row_bytes place → StoresRow table key body
    row_here body e None stands is = absurd (let no = sym e ∙ is in cc)
    row_here body e (Some row) stands is = (row, stands, same_Some body (row_bytes row) (sym e ∙ is))

    -- a row there is what its place says
    pub stores_row : (body : List ℕ) → stored_tables contents number key ≡ Some body → StoresRow table key body
    stores_row body e =
        row_here body e (view.tables table.name key) (stands_in tables law table key (view.tables table.name key) (contained tables number table at) (shows.sound.after_state table.name key)) (shows.rows.stored number table key at)

    -- and so is a pending change
    pub stores_change : (body : List ℕ) → stored_pending contents number key ≡ Some body → StoresChange table key body
    stores_change body e =
        let inside = contained tables number table at in
        let split : (o : Option Change) → view.pending table.name key ≡ o → StoresChange table key body = elim [
          | None ↦ λ is. absurd (let no = sym e ∙ shows.pends.stored number table key at ∙ ap (option_map change_spelling) is in cc)
          | Some change ↦ λ is.
              let net_of : net table.key_marks (middle view table.name key) (view.tables table.name key) ≡ Some (action change) = sym (shows.sound.net_of table key inside) ∙ ap action_any is in
              let keyed = net_keyed tables law table inside key (middle view table.name key) (view.tables table.name key) change (shows.sound.before_state table.name key) (shows.sound.after_state table.name key) net_of in (
                change,
                subst (λ (o : Option Change). IfSome o (FitsChange table.key_marks)) is (shows.pends.fits table key inside),
                same_Some body (change_spelling change) (sym e ∙ shows.pends.stored number table key at ∙ ap (option_map change_spelling) is),
                keyed.0,
                keyed.1,
              )
        ] in
        split (view.pending table.name key) refl

  all_lead : (some : List TableDef) (first : ℕ) → ((i : ℕ) (t : TableDef) → slice_get some i ≡ Some t → slice_get tables (first + i) ≡ Some t) → TablesLead contents first some
  all_lead [] first among = tt
  all_lead (table ∷ some) first among = (
    (λ key body e. leading first table key (subst (λ (n : ℕ). slice_get tables n ≡ Some table) (omega arith) (among 0 table refl)) body e (view.pending table.name key) refl),
    all_lead some (first + 1) (λ i t at. subst (λ (n : ℕ). slice_get tables n ≡ Some t) (omega arith) (among (suc i) t at)),
  )

  -- each pending change leads to the row at its place
  pub tables_lead : TablesLead contents 0 tables
  tables_lead = all_lead tables 0 (λ i t at. subst (λ (n : ℕ). slice_get tables n ≡ Some t) (omega arith) at)

-- ---- of a position

past : (tables : List TableDef) (key : List ℕ) (number : ℕ) → length tables ≤ number → IsElsewhere tables (pos number, key)
past tables key number is other e = let same : number ≡ other = (let f = e in cc) in omega (arith, is, same)

before_all : (tables : List TableDef) (key : List ℕ) (number : ℕ) → IsElsewhere tables (negsuc number, key)
before_all tables key number other e = absurd (let no = e in cc)

module _ (tables : List TableDef) (law : Catalogs tables) (contents : Contents) (position : Position) (view : View) (shows : ShowsAt tables contents position view) where
  rows_at : (number : ℤ) (key body : List ℕ) → get contents.rows (number, key) ≡ Some body → AtTable StoresRow tables (number, key) body
  rows_at (pos n) key body e =
      elim (slice_get_cases tables n).1 [
        | inl found ↦ (n, found.0, refl, found.2, stores_row tables law contents view shows.rows n found.0 key found.2 body e)
        | inr out ↦ absurd (let no = sym e ∙ shows.alone.rows (pos n, key) (past tables key n out.0) in cc)
      ]
  rows_at (negsuc n) key body e = absurd (let no = sym e ∙ shows.alone.rows (negsuc n, key) (before_all tables key n) in cc)

  pending_at : (number : ℤ) (key body : List ℕ) → get contents.pending (number, key) ≡ Some body → AtTable StoresChange tables (number, key) body
  pending_at (pos n) key body e =
      elim (slice_get_cases tables n).1 [
        | inl found ↦ (n, found.0, refl, found.2, stores_change tables law contents view shows.rows n found.0 key found.2 body e)
        | inr out ↦ absurd (let no = sym e ∙ shows.alone.pending (pos n, key) (past tables key n out.0) in cc)
      ]
  pending_at (negsuc n) key body e = absurd (let no = sym e ∙ shows.alone.pending (negsuc n, key) (before_all tables key n) in cc)

  pub holds_places : HoldsPlaces tables contents
  holds_places = record {
    whole = record {
      present = tables;
      entries = no_log tables contents shows.alone.log;
      rows = λ place body e. rows_at place.0 place.1 body e;
      pending = λ place body e. pending_at place.0 place.1 body e;
      names = shows.alone.names;
    };
    log = shows.alone.log;
    old = shows.values Pending;
  }
