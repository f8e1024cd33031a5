-- A store of a hub without entries.
use Rattle.std.proofs.Common.{◌≡◌, ◌≢◌, ℕ, List, [], ◌∷◌, None, refl, sym, ◌∙◌}
use Rattle.std.specs.FinMap.{get, find, from_entries, get-empty, get-from_entries, len-empty}
use Rattle.std.specs.Ordering.{int_cmp}
use Rattle.std.proofs.lemmas.Cmp.{nat_list_cmp_total}
use Rattle.cs_value.specs.Facts.{by_test}
use Rattle.cs_order.specs.Order.{by_bytes, same_bytes}
use Rattle.cs_pending.specs.Spots.{key_is}
use Rattle.cs_value.specs.declared.catalog.TableDef.{TableDef}
use Rattle.cs_store.specs.log.Laws.{EmptyIsLog}
use Rattle.cs_pending.specs.position.Values.{catalog_bytes}
use Rattle.cs_store.specs.Contents.{Contents, meta_value, name_text, nothing, place_cmp}
use Rattle.cs_store.specs.declared.names.MetaName.{MetaName}
use Rattle.cs_store.specs.declared.names.MetaName.TheVariants.{Id, Version, Number, Flight, Pending, Catalog}
use Rattle.cs_hub.specs.log_store.Laws.{FirstLogCanBe}
use Rattle.cs_hub.specs.log_store.Shows.{ShowsLog, hub_value}

module _ (opening : List TableDef) where
  abbrev values : List (List ℕ × List ℕ)
  values = (name_text Catalog, catalog_bytes opening) ∷ []

  abbrev pub first : Contents
  first = record nothing { meta = from_entries values }

  value_found : (text : List ℕ) → get first.meta text ≡ find by_bytes text values
  value_found text = get-from_entries nat_list_cmp_total values text

  values_are : (name : MetaName) → meta_value first name ≡ hub_value opening name
  values_are Id = value_found (name_text Id)
  values_are Version = value_found (name_text Version)
  values_are Number = value_found (name_text Number)
  values_are Flight = value_found (name_text Flight)
  values_are Pending = value_found (name_text Pending)
  values_are Catalog = value_found (name_text Catalog)

  no_other : (text : List ℕ) → ((name : MetaName) → name_text name ≢ text) → get first.meta text ≡ None
  no_other text never =
      value_found text
      ∙ by_test (same_bytes text (name_text Catalog)) _ (λ t. absurd (never Catalog (sym (key_is text (name_text Catalog) t)))) (λ t. rw t refl)

  pub first_shows : EmptyIsLog → ShowsLog opening first []
  first_shows law = record {
    is_log = law opening;
    fit = λ version entry there. absurd (let no = there in cc);
    rows = record { rows = λ name key. tt; stored = λ number table key at. get-empty place_cmp _ };
    elsewhere = λ place out. get-empty place_cmp place;
    pending = refl;
    values = record { values = values_are; names = no_other };
    entries = record { stored = λ version. get-empty int_cmp _; counted = len-empty int_cmp _ };
  }

pub first_log_can_be : EmptyIsLog → FirstLogCanBe
first_log_can_be law opening are = (first opening, first_shows opening law)
