-- What a store holds where the next entry has come and leaves what it shows.
use Rattle.std.proofs.Common.{◌≡◌, ℕ, List, None, ◌∙◌}
use Rattle.std.specs.FinMap.{get}
use Rattle.cs_value.specs.declared.catalog.TableDef.{TableDef}
use Rattle.cs_store.specs.Contents.{Contents, name_text}
use Rattle.cs_store.specs.declared.names.MetaName.{MetaName}
use Rattle.cs_store.specs.declared.names.MetaName.TheVariants.{Id, Version, Number, Flight, Pending, Catalog}
use Rattle.cs_pending.specs.View.{View}
use Rattle.cs_pending.specs.position.Shows.{ShowsAt}
use Rattle.cs_pending.specs.position.Values.{value_of}
use Rattle.cs_pending.specs.declared.position.position.Position.{Position}
use Rattle.cs_wire.specs.Numbers.{eight_bytes}
use Rattle.cs_exchange.specs.taking.Laws.{NextIsShown}
use Rattle.cs_exchange.proofs.TakingLemmas.PutBodies.{next_meta, next_names, value_next}
use Rattle.cs_exchange.proofs.TakingLemmas.TakenContents.{nothing_under_way}

module _ (tables : List TableDef) (old : Contents) (position : Position) (version : ℕ) where
  abbrev pub new : Contents
  new = record { rows = old.rows; pending = old.pending; meta = next_meta (eight_bytes version) old.meta; log = old.log }

  abbrev pub next : Position
  next = record position { version = version; flight = None }

  module _ (view : View) (shows : ShowsAt tables old position view) where
    value_now : (name : MetaName) → get new.meta (name_text name) ≡ value_of tables next name
    value_now Id = value_next (eight_bytes version) old.meta (name_text Id) ∙ shows.values Id
    value_now Version = value_next (eight_bytes version) old.meta (name_text Version)
    value_now Number = value_next (eight_bytes version) old.meta (name_text Number) ∙ shows.values Number
    value_now Flight = value_next (eight_bytes version) old.meta (name_text Flight)
    value_now Pending = value_next (eight_bytes version) old.meta (name_text Pending) ∙ shows.values Pending
    value_now Catalog = value_next (eight_bytes version) old.meta (name_text Catalog) ∙ shows.values Catalog

    shows_next : ShowsAt tables new next view
    shows_next = record {
      rows = record {
        rows = record { rows = shows.rows.rows.rows; stored = shows.rows.rows.stored };
        pends = record { stored = shows.rows.pends.stored; fits = shows.rows.pends.fits };
        sound = shows.rows.sound;
      };
      values = value_now;
      alone = record {
        rows = shows.alone.rows;
        pending = shows.alone.pending;
        log = shows.alone.log;
        names = next_names (eight_bytes version) old.meta shows.alone.names;
      };
      under_way = nothing_under_way tables view shows.rows.sound.before_state;
      counted = shows.counted;
      numbered = shows.numbered;
    }

pub next_is_shown : NextIsShown
next_is_shown tables old position version = (new tables old position version, shows_next tables old position version)
