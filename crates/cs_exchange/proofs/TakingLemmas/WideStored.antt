-- There is a store that holds what an entry leaves that widens a table.
use Rattle.std.proofs.Common.{◌≡◌, ◌∙◌, ◌+◌, ℕ, Bool, cond, List, [], Some, refl, sym, ap, arith}
use Rattle.std.specs.FinMap.{get, len}
use Rattle.std.specs.Ordering.{eq_by_cmp}
use Rattle.std.proofs.lemmas.List.{length-map}
use Rattle.cs_value.specs.declared.catalog.TableDef.{TableDef}
use Rattle.cs_order.specs.Order.{by_bytes}
use Rattle.cs_store.specs.Contents.{Contents, Log, Meta, StorePlace, name_text}
use Rattle.cs_store.specs.Whole.{IsName}
use Rattle.cs_store.specs.Written.{with_meta}
use Rattle.cs_store.specs.declared.names.MetaName.{MetaName}
use Rattle.cs_store.specs.declared.names.MetaName.TheVariants.{Id, Version, Number, Flight, Pending, Catalog}
use Rattle.cs_widening.specs.Widening.{widened_table, widened_tables}
use Rattle.cs_padding.specs.Laws.{WideStoreCanBe}
use Rattle.cs_padding.specs.Pending.{widened_view}
use Rattle.cs_pending.specs.Shows.{IsElsewhere, SameRest, ShowsRows}
use Rattle.cs_pending.specs.View.{View}
use Rattle.cs_pending.specs.position.Shows.{ShowsAt}
use Rattle.cs_pending.specs.position.Values.{catalog_bytes, value_of}
use Rattle.cs_pending.specs.declared.position.position.Position.{Position}
use Rattle.cs_exchange.specs.taking.Laws.{TakerTakes, WidenCanBeTaken, always_takes}
use Rattle.cs_exchange.specs.taking.Takes.{asked_nothing, taken}
use Rattle.cs_exchange.proofs.TakingLemmas.Committed.{none_under_way}
use Rattle.cs_exchange.proofs.TakingLemmas.PutBodies.{get_value, name_or}
use Rattle.cs_exchange.proofs.TakingLemmas.Widened.{taken_by}

-- ---- another catalog among the values

abbrev pub catalog_meta : List ℕ → Meta → Meta
catalog_meta bytes meta = with_meta meta (name_text Catalog) (Some bytes)

catalog_value : (bytes : List ℕ) (meta : Meta) (text : List ℕ) → get (catalog_meta bytes meta) text ≡ cond (eq_by_cmp by_bytes text (name_text Catalog)) (Some bytes) (get meta text)
catalog_value bytes meta text = get_value meta (name_text Catalog) text (Some bytes)

catalog_names : (bytes : List ℕ) (meta : Meta) → ((name value : List ℕ) → get meta name ≡ Some value → IsName name) → (name value : List ℕ) → get (catalog_meta bytes meta) name ≡ Some value → IsName name
catalog_names bytes meta names name value is =
    name_or name Catalog (λ e. names name value (sym (catalog_value bytes meta name ∙ ap (λ (b : Bool). cond b (Some bytes) (get meta name)) e) ∙ is))

-- ---- the store

module _ (tables : List TableDef) (name : List ℕ) (width : ℕ) (position : Position) (mid wide : Contents) (rest : SameRest tables mid wide) where
  abbrev others : List TableDef
  others = widened_tables name width tables

  abbrev new : Contents
  new = record { rows = wide.rows; pending = wide.pending; meta = catalog_meta (catalog_bytes others) wide.meta; log = wide.log }

  still_elsewhere : (place : StorePlace) → IsElsewhere others place → IsElsewhere tables place
  still_elsewhere place away number is = let past = away number is in let long = length-map tables (widened_table name width) in omega (arith, past, long)

  module _ (count : ℕ) (view : View) (shows : ShowsAt tables mid (taken position count) view) (rows : ShowsRows others wide (widened_view name width view)) where
    kept : (text : List ℕ) → get wide.meta text ≡ get mid.meta text
    kept text = ap (λ (m : Meta). get m text) rest.meta

    value_now : (count : ℕ) (named : MetaName) → get new.meta (name_text named) ≡ value_of others (taken position count) named
    value_now count Id = catalog_value (catalog_bytes others) wide.meta (name_text Id) ∙ kept (name_text Id) ∙ shows.values Id
    value_now count Version = catalog_value (catalog_bytes others) wide.meta (name_text Version) ∙ kept (name_text Version) ∙ shows.values Version
    value_now count Number = catalog_value (catalog_bytes others) wide.meta (name_text Number) ∙ kept (name_text Number) ∙ shows.values Number
    value_now count Flight = catalog_value (catalog_bytes others) wide.meta (name_text Flight) ∙ kept (name_text Flight) ∙ shows.values Flight
    value_now count Pending = catalog_value (catalog_bytes others) wide.meta (name_text Pending) ∙ kept (name_text Pending) ∙ shows.values Pending
    value_now count Catalog = catalog_value (catalog_bytes others) wide.meta (name_text Catalog)

    pub shows_new : ShowsAt others new (taken position (len new.pending)) (widened_view name width view)
    shows_new = record {
      rows = record {
        rows = record { rows = rows.rows.rows; stored = rows.rows.stored };
        pends = record { stored = rows.pends.stored; fits = rows.pends.fits };
        sound = rows.sound;
      };
      values = value_now (len new.pending);
      alone = record {
        rows = λ place away. rest.rows place (still_elsewhere place away) ∙ shows.alone.rows place (still_elsewhere place away);
        pending = λ place away. rest.pending place (still_elsewhere place away) ∙ shows.alone.pending place (still_elsewhere place away);
        log = ap (λ (l : Log). len l) rest.log ∙ shows.alone.log;
        names = catalog_names (catalog_bytes others) wide.meta (λ text value is. shows.alone.names text value (sym (kept text) ∙ is));
      };
      under_way = none_under_way others (widened_view name width view) rows.sound.before_state;
      counted = refl;
      numbered = shows.numbered;
    }

pub widen_can_be_taken : TakerTakes → WideStoreCanBe → WidenCanBeTaken
widen_can_be_taken takers law tables old position name width before are shows may =
    let mid = takers.taken tables old position (position.version + 1) [] before are tt shows (tt, λ n k. refl) in
    let first = mid.1 before shows in
    let wide = law tables name width mid.0 first.0 are may first.1.rows in (
      new tables name width position mid.0 wide.0 wide.1,
      λ seen sees.
          let one = mid.1 seen sees in (
            widened_view name width one.0,
            shows_new tables name width position mid.0 wide.0 wide.1 (len mid.0.pending) one.0 one.1 (wide.3 one.0 one.1.rows),
            record { may = may; folded = one.0; taken = taken_by always_takes asked_nothing tables position.flight seen one.0 tt tt tt one.2; wide = refl },
          ),
    )
