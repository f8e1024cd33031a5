-- Contents that show a replica at a position, and what is judged of them.
use Rattle.std.proofs.Common.{◌≡◌, ◌≤◌, ◌<◌, ◌^◌, ◌∙◌, ℕ, List, Option, Some, None, option_map, arith, length, refl, ap, subst, sym}
use Rattle.std.specs.FinMap.{get}
use Rattle.std.proofs.lemmas.Option.{slice_get_within}
use Rattle.cs_value.specs.declared.catalog.TableDef.{TableDef}
use Rattle.cs_store.specs.declared.log.entry.TheConstants.{MAX_CHANGESET}
use Rattle.cs_normal.specs.Laws.{SetColumnsFit}
use Rattle.cs_normal.specs.Normal.{FitsCatalog, IsNormalChangeset, normal_spelling}
use Rattle.cs_normal.specs.declared.normal.TableChanges.{TableChanges}
use Rattle.cs_store.specs.Contents.{Contents, StorePlace, meta_value}
use Rattle.cs_store.specs.Whole.{AtTable, StoresChange, StoresRow}
use Rattle.cs_store.specs.declared.names.MetaName.{MetaName}
use Rattle.cs_store.specs.declared.names.MetaName.TheVariants.{Id, Version, Number, Flight, Pending, Catalog}
use Rattle.cs_pending.specs.Settled.{Catalogs}
use Rattle.cs_pending.specs.Shows.{IsElsewhere}
use Rattle.cs_pending.specs.View.{View}
use Rattle.cs_pending.specs.position.Laws.{FitsPosition}
use Rattle.cs_pending.specs.position.Shows.{IsUnderWay, ShowsAt, flown}
use Rattle.cs_pending.specs.position.Values.{flight_bytes, value_of}
use Rattle.cs_pending.specs.declared.position.position.Position.{Position}
use Rattle.cs_opening.specs.Opens.{AreOf, StandsAt, StandsNowhere}
use Rattle.cs_opening.specs.Said.{IsFlightOf, SaysPosition}
use Rattle.cs_opening.specs.Steps.{AreListed, IsSound}
use Rattle.cs_opening.specs.declared.owning.Owner.TheVariants.{This}
use Rattle.cs_opening.proofs.NoLog.{theirs}
use Rattle.cs_opening.proofs.Counted.{all_counted}
use Rattle.cs_opening.proofs.Flown.{flight_leads, flight_sound}
use Rattle.cs_opening.proofs.Lowered.{low, low_fits, low_same}
use Rattle.cs_opening.proofs.Shown.{holds_places, tables_lead}

-- ---- a position, and what the values say of it

-- the position as the values say it, with a version in range
abbrev pub said_of : ℕ → Position → Position
said_of id position = record { id = id; version = low position.version; number = position.number; flight = position.flight; pending = 0 }

flight_said : (tables : List TableDef) (number : ℕ) (value : Option (List ℕ)) (flight : Option (List TableChanges)) → value ≡ option_map (flight_bytes number) flight
    → FitsCatalog tables (flown flight) → IsNormalChangeset (flown flight) → length (normal_spelling (flown flight)) ≤ MAX_CHANGESET → IsFlightOf tables number value flight
flight_said tables number None None is fits normal size = tt
flight_said tables number None (Some changes) is fits normal size = absurd (let no = is in cc)
flight_said tables number (Some bytes) None is fits normal size = absurd (let no = is in cc)
flight_said tables number (Some bytes) (Some changes) is fits normal size =
    record { fits = fits; normal = normal; size = size; spelled = (let e = is in cc) }

pub said_fits : (id : ℕ) (position : Position) → id < 2 ^ 32 → FitsPosition (said_of id position)
said_fits id position range = record { id = range; version = low_fits position.version }

pub says : (tables : List TableDef) (id : ℕ) (contents : Contents) (position : Position) (view : View) → ShowsAt tables contents position view → SaysPosition tables id contents (said_of id position)
says tables id contents position view shows = record {
  of = refl;
  version_is = shows.values Version ∙ ap Some (sym (low_same position.version));
  number_is = shows.values Number;
  flight_is = flight_said tables position.number (meta_value contents Flight) position.flight (shows.values Flight) shows.under_way.fits shows.under_way.normal shows.under_way.size;
  uncounted = refl;
  numbered = shows.numbered;
}

-- ---- where the values say nothing, or something that isn't so

module _ (tables : List TableDef) (law : Catalogs tables) (set : SetColumnsFit) (id : ℕ) (range : id < 2 ^ 32) (contents : Contents) where
  -- what is read of the values is what any position that is shown says
  pub none_said : ((position : Position) → FitsPosition position → SaysPosition tables id contents position → ◌≡◌ {A = Option Position} None (Some position)) → StandsNowhere tables id contents
  none_said only position of (view, shows) =
      absurd (let no = only (said_of id position) (said_fits id position range) (says tables id contents position view shows) in cc)

  -- contents that show a position are sound
  sound_shown : (position : Position) (view : View) → ShowsAt tables contents position view → IsSound tables contents (flown position.flight)
  sound_shown position view shows = record {
    holds = holds_places tables law contents position view shows;
    lead = tables_lead tables law contents view shows.rows;
    view = view;
    shows = shows.rows;
    flies = flight_leads tables law set view shows.under_way.sound.after_state (flown position.flight) shows.under_way.normal shows.under_way.fits shows.under_way.sound;
  }

  pub none_sound : (said : Position)
      → ((position : Position) → FitsPosition position → SaysPosition tables id contents position → ◌≡◌ {A = Option Position} (Some said) (Some position))
      → (IsSound tables contents (flown said.flight) → ⊥)
      → StandsNowhere tables id contents
  none_sound said only never position of (view, shows) =
      let same : said ≡ said_of id position = (let e = only (said_of id position) (said_fits id position range) (says tables id contents position view shows) in cc) in
      let flight : position.flight ≡ said.flight = ap (λ (p : Position). p.flight) (sym same) in
      never (subst (λ (f : Option (List TableChanges)). IsSound tables contents (flown f)) flight (sound_shown position view shows))

-- ---- where all that is said is so

-- what a flight that is said is
record IsCarried (tables : List TableDef) (flight : Option (List TableChanges)) : Type 0 where
  pub fits : FitsCatalog tables (flown flight)
  pub normal : IsNormalChangeset (flown flight)
  pub size : length (normal_spelling (flown flight)) ≤ MAX_CHANGESET

carried : (tables : List TableDef) (number : ℕ) (value : Option (List ℕ)) (flight : Option (List TableChanges)) → IsFlightOf tables number value flight → IsCarried tables flight
carried tables number None None is = record { fits = tt; normal = tt; size = omega arith }
carried tables number None (Some changes) is = absurd is
carried tables number (Some bytes) None is = absurd is
carried tables number (Some bytes) (Some changes) is = record { fits = is.fits; normal = is.normal; size = is.size }

flight_value : (tables : List TableDef) (number : ℕ) (value : Option (List ℕ)) (flight : Option (List TableChanges)) → IsFlightOf tables number value flight → value ≡ option_map (flight_bytes number) flight
flight_value tables number None None is = refl
flight_value tables number None (Some changes) is = absurd is
flight_value tables number (Some bytes) None is = absurd is
flight_value tables number (Some bytes) (Some changes) is = ap Some is.spelled

pub carried_fits : (tables : List TableDef) (id : ℕ) (contents : Contents) (said : Position) → SaysPosition tables id contents said → FitsCatalog tables (flown said.flight)
carried_fits tables id contents said says = (carried tables said.number (meta_value contents Flight) said.flight says.flight_is).fits

none_elsewhere : (tables : List TableDef) (Stores : TableDef → List ℕ → List ℕ → Type 0) (place : StorePlace) (o : Option (List ℕ)) → IsElsewhere tables place → ((body : List ℕ) → o ≡ Some body → AtTable Stores tables place body) → o ≡ None
none_elsewhere tables Stores place None elsewhere at = refl
none_elsewhere tables Stores place (Some body) elsewhere at =
    let there = at body refl in
    let within = slice_get_within tables there.0 there.1 there.3 in
    let past = elsewhere there.0 there.2 in
    absurd (omega (arith, within, past))

module _ (tables : List TableDef) (law : Catalogs tables) (set : SetColumnsFit) (id : ℕ) (contents : Contents) (of : AreOf tables id contents This)
    (said : Position) (says : SaysPosition tables id contents said) (sound : IsSound tables contents (flown said.flight)) (count : ℕ) (listed : AreListed contents 0 tables count) where
  abbrev pub found : Position
  found = record { id = id; version = said.version; number = said.number; flight = said.flight; pending = count }

  under_way : IsUnderWay tables said.flight sound.view
  under_way =
      let is = carried tables said.number (meta_value contents Flight) said.flight says.flight_is in
      record {
        fits = is.fits;
        normal = is.normal;
        size = is.size;
        sound = flight_sound tables law set sound.view sound.shows.sound.before_state (flown said.flight) is.normal is.fits sound.flies;
      }

  values_are : (name : MetaName) → meta_value contents name ≡ value_of tables found name
  values_are Id = of.0
  values_are Version = says.version_is
  values_are Number = says.number_is
  values_are Flight = flight_value tables said.number (meta_value contents Flight) said.flight says.flight_is
  values_are Pending = sound.holds.old
  values_are Catalog = of.1

  shown_at : ShowsAt tables contents found sound.view
  shown_at =
      let whole = theirs tables contents sound.holds.log sound.holds.whole in
      record {
        rows = sound.shows;
        values = values_are;
        alone = record {
          rows = λ place elsewhere. none_elsewhere tables StoresRow place (get contents.rows place) elsewhere (whole.rows place);
          pending = λ place elsewhere. none_elsewhere tables StoresChange place (get contents.pending place) elsewhere (whole.pending place);
          log = sound.holds.log;
          names = whole.names;
        };
        under_way = under_way;
        counted = all_counted contents tables count whole.pending listed;
        numbered = says.numbered;
      }

  pub stands_at : id < 2 ^ 32 → said.version < 2 ^ 64 → StandsAt tables id contents found
  stands_at own version = record { of = refl; fits = record { id = own; version = version }; shows = (sound.view, shown_at) }
