-- A store that shows a log is what a hub's store is.
use Rattle.std.proofs.Common.{◌≡◌, ◌≢◌, ◌≤◌, ◌<◌, ◌+◌, ◌∙◌, inl, inr, ℕ, suc, List, [], ◌∷◌, Option, Some, None, is_some, option_map, arith, length, map, take, refl, ap, subst, sym}
use Rattle.std.specs.Prelude.{ℤ, pos, negsuc, IsSome, slice_get}
use Rattle.std.specs.FinMap.{get, get-empty}
use Rattle.std.proofs.lemmas.List.{take_all}
use Rattle.std.proofs.lemmas.Option.{same_Some, slice_get_cases}
use Rattle.cs_value.specs.Key.{Place}
use Rattle.cs_value.specs.Laws.{OnePlaceOfName}
use Rattle.cs_value.specs.Catalog.{AreTables}
use Rattle.cs_value.specs.declared.catalog.TableDef.{TableDef}
use Rattle.cs_record.specs.Spelling.{row_bytes}
use Rattle.cs_order.specs.Order.{by_bytes}
use Rattle.cs_normal.specs.State.{IsRowOf, MayStandAt}
use Rattle.cs_store.specs.log.Laws.{CatalogsAreTables}
use Rattle.cs_store.specs.log.Log.{catalog_at, catalog_of, state_of}
use Rattle.cs_store.specs.log.Stored.{stored_body}
use Rattle.cs_store.specs.declared.log.entry.LogEntry.{LogEntry}
use Rattle.cs_store.specs.Contents.{Bodies, Contents, HasEachEntry, LogItem, entry_before, log_entry, log_range, meta_value, name_text, nothing, place_cmp, stored_tables}
use Rattle.cs_store.specs.Whole.{AtTable, Decodes, IsName, IsPresent, IsWhole, StoresRow, log_bodies}
use Rattle.cs_store.specs.WholeLaws.{BodiesInOrder, LogDecodes}
use Rattle.cs_store.specs.declared.names.MetaName.TheVariants.{Catalog}
use Rattle.cs_apply.specs.NormalTasks.{one_table}
use Rattle.cs_pending.specs.OnePlace.{contained}
use Rattle.cs_pending.specs.Shows.{IsElsewhere}
use Rattle.cs_hub.specs.log_store.Shows.{ShowsLog, item_of_entry}
use Rattle.cs_hub.specs.log_opening.Laws.{HubIsOpened}
use Rattle.cs_hub.specs.log_opening.Opens.{IsHubStore}
use Rattle.cs_hub.proofs.LogOpeningLemmas.Many.{many_of}
use Rattle.cs_hub.proofs.LogOpeningLemmas.Names.{named_or_not}

-- ---- the entries of a store that shows a log, in order

map_twice : {A B C : Type 0} (f : B → C) (g : A → B) (xs : List A) → map f (map g xs) ≡ map (λ x. f (g x)) xs
map_twice f g [] = refl
map_twice f g (x ∷ xs) = ap (λ ys. f (g x) ∷ ys) (map_twice f g xs)

ranged : (contents : Contents) (log : List LogEntry) (first : ℕ) → ((version : ℕ) → log_entry contents (first + version) ≡ option_map item_of_entry (slice_get log version)) → log_range contents first (length log) ≡ map item_of_entry log
ranged contents [] first at = refl
ranged contents (entry ∷ log) first at =
    let here : log_entry contents first ≡ Some (item_of_entry entry) = ap (log_entry contents) (let e : first ≡ first + 0 = omega arith in e) ∙ at 0 in
    ap (λ (o : Option LogItem). entry_before o (log_range contents (first + 1) (length log))) here
    ∙ ap (λ (items : List LogItem). item_of_entry entry ∷ items)
    (ranged contents log (first + 1) (λ version. ap (log_entry contents) (let e : (first + 1) + version ≡ first + suc version = omega arith in e) ∙ at (suc version)))

-- ---- what stands at the places of a store that shows a log

-- what may stand at a place of one table: a row of it at its own key, or none
abbrev StandsIn : TableDef → List ℕ → Place → Type 0
StandsIn table key None = Unit {0}
StandsIn table key (Some row) = IsRowOf table key row

past : (tables : List TableDef) (key : List ℕ) (number : ℕ) → length tables ≤ number → IsElsewhere tables (pos number, key)
past tables key number is other e = let same : number ≡ other = (let f = e in cc) in omega (arith, is, same)

before_all : (tables : List TableDef) (key : List ℕ) (number : ℕ) → IsElsewhere tables (negsuc number, key)
before_all tables key number other e = absurd (let no = e in cc)

module _ (catalogs : CatalogsAreTables) (decodes : LogDecodes) (in_order : BodiesInOrder) (one : OnePlaceOfName) (opening : List TableDef) (contents : Contents) (log : List LogEntry) (are : AreTables opening) (shows : ShowsLog opening contents log) where
  abbrev Present : List TableDef
  Present = catalog_at opening log (length log)

  many : length Present ≡ length opening
  many = many_of opening (take (length log) log)

  stands_in : (number : ℕ) (table : TableDef) (key : List ℕ) (place : Place) → slice_get Present number ≡ Some table → MayStandAt Present table.name key place → StandsIn table key place
  stands_in number table key None at stands = tt
  stands_in number table key (Some row) at (other, among, named, is) =
      subst (λ (t : TableDef). IsRowOf t key row) (one_table one Present other table (catalogs opening log (length log) are shows.is_log) among (contained Present number table at) named) is

  row_here : (number : ℕ) (table : TableDef) (key body : List ℕ) → stored_tables contents number key ≡ Some body → (place : Place) → StandsIn table key place → stored_tables contents number key ≡ option_map row_bytes place → StoresRow table key body
  row_here number table key body e None stands is = absurd (let no = sym e ∙ is in cc)
  row_here number table key body e (Some row) stands is = (row, stands, same_Some body (row_bytes row) (sym e ∙ is))

  rows_at : (number : ℤ) (key body : List ℕ) → get contents.rows (number, key) ≡ Some body → AtTable StoresRow Present (number, key) body
  rows_at (pos n) key body e =
      elim (slice_get_cases Present n).1 [
        | inl found ↦ (
          n,
          found.0,
          refl,
          found.2,
          row_here n found.0 key body e (state_of log found.0.name key)
              (stands_in n found.0 key (state_of log found.0.name key) found.2 (shows.rows.rows found.0.name key)) (shows.rows.stored n found.0 key found.2),
        )
        | inr out ↦ absurd (let no = sym e ∙ shows.elsewhere (pos n, key) (past opening key n (let from = out.0 in omega (arith, from, many))) in cc)
      ]
  rows_at (negsuc n) key body e = absurd (let no = sym e ∙ shows.elsewhere (negsuc n, key) (before_all opening key n) in cc)

  entry_there : (version : ℕ) → version < length log → IsSome (log_entry contents version)
  entry_there version less =
      elim (slice_get_cases log version).1 [
        | inl found ↦ ap is_some (shows.entries.stored version ∙ ap (option_map item_of_entry) found.2)
        | inr out ↦ absurd (omega (arith, less, out.0))
      ]

  has_each : HasEachEntry contents
  has_each version less = entry_there version (subst (λ (n : ℕ). version < n) shows.entries.counted less)

  bodies : log_bodies contents ≡ map (λ (entry : LogEntry). stored_body entry.body) log
  bodies =
      in_order contents has_each
      ∙ ap (λ (count : ℕ). map (λ (item : LogItem). item.body) (log_range contents 0 count)) shows.entries.counted
      ∙ ap (map (λ (item : LogItem). item.body)) (ranged contents log 0 (λ version. ap (log_entry contents) (let e : 0 + version ≡ version = omega arith in e) ∙ shows.entries.stored version))
      ∙ map_twice (λ (item : LogItem). item.body) item_of_entry log

  present : IsPresent opening contents Present
  present =
      subst (λ (l : List (List ℕ)). Decodes opening l Present) (sym bodies)
      (subst (λ (t : List TableDef). Decodes opening (map (λ (entry : LogEntry). stored_body entry.body) log) t) (ap (catalog_of opening) (sym (take_all (length log) log (omega arith)))) (decodes opening log shows.fit))

  names_at : (text value : List ℕ) → get contents.meta text ≡ Some value → IsName text
  names_at text value e =
      elim (named_or_not text) [
        | inl named ↦ named
        | inr never ↦ absurd (let no = sym e ∙ shows.values.names text never in cc)
      ]

  is_whole : IsWhole opening contents
  is_whole = record {
    present = Present;
    entries = present;
    rows = λ place body e. rows_at place.0 place.1 body e;
    pending = λ place body e. absurd (let no = sym e ∙ ap (λ (bodies : Bodies). get bodies place) shows.pending ∙ get-empty place_cmp place in cc);
    names = names_at;
  }

  not_nothing : contents ≢ nothing
  not_nothing none =
      absurd (let no = sym (shows.values.values Catalog) ∙ ap (λ (c : Contents). meta_value c Catalog) none ∙ get-empty by_bytes (name_text Catalog) in cc)

  hub_store : IsHubStore opening contents
  hub_store = record {
    whole = is_whole;
    values = shows.values;
    pending = shows.pending;
    entries = has_each;
  }

pub hub_is_opened : CatalogsAreTables → LogDecodes → BodiesInOrder → OnePlaceOfName → HubIsOpened
hub_is_opened catalogs decodes in_order one opening contents log are shows = (
  not_nothing catalogs decodes in_order one opening contents log are shows,
  hub_store catalogs decodes in_order one opening contents log are shows,
)
