-- What the values of a hub make of contents that hold nothing.
use Rattle.std.proofs.Common.{◌≡◌, List, [], Option, None, sym, ap, subst, ◌∙◌}
use Rattle.std.specs.Prelude.{pos, fold}
use Rattle.std.specs.FinMap.{empty, get, get-empty, len, len-empty}
use Rattle.std.specs.Ordering.{int_cmp}
use Rattle.cs_value.specs.declared.catalog.TableDef.{TableDef}
use Rattle.cs_order.specs.Order.{by_bytes}
use Rattle.cs_store.specs.log.Laws.{EmptyIsLog}
use Rattle.cs_store.specs.Contents.{Contents, Log, StorePlace, place_cmp, name_text, nothing}
use Rattle.cs_store.specs.Laws.{KeepsOtherNames, WritesMeta, value_after}
use Rattle.cs_store.specs.Written.{after_batch, appended, edit_body, optional_entry}
use Rattle.cs_store.specs.declared.batch.Batch.{Batch}
use Rattle.cs_store.specs.edits.Edits.{BodyEdit}
use Rattle.cs_store.specs.declared.batch.StoredEntry.{StoredEntry}
use Rattle.cs_store.specs.declared.names.MetaName.{MetaName}
use Rattle.cs_hub.specs.log_store.Shows.{ShowsLog, hub_value}
use Rattle.cs_hub.specs.log_opening.Steps.{IsLaidOut}

module _ (opening : List TableDef) (batch : Batch) (empty_law : EmptyIsLog) (meta_law : WritesMeta) (other_names : KeepsOtherNames)
    (rows : batch.rows ≡ []) (pending : batch.pending ≡ []) (log : batch.log ≡ None)
    (values : (name : MetaName) → value_after batch.meta.items name None ≡ hub_value opening name) where
  no_rows_left : (place : StorePlace) → get (after_batch batch nothing).rows place ≡ None
  no_rows_left place = ap (λ (es : List BodyEdit). get (fold edit_body nothing.rows es) place) rows ∙ get-empty place_cmp place

  no_log_left : (after_batch batch nothing).log ≡ empty
  no_log_left = ap (λ (o : Option StoredEntry). appended nothing.log (optional_entry o)) log

  first_shows : ShowsLog opening (after_batch batch nothing) []
  first_shows = record {
    is_log = empty_law opening;
    fit = λ version entry there. absurd (let no = there in cc);
    rows = record { rows = λ name key. tt; stored = λ number table key at. no_rows_left (pos number, key) };
    elsewhere = λ place out. no_rows_left place;
    pending = ap (λ (es : List BodyEdit). fold edit_body nothing.pending es) pending;
    values = record {
      values = λ name. meta_law batch nothing name ∙ ap (value_after batch.meta.items name) (get-empty by_bytes (name_text name)) ∙ values name;
      names = λ text never. other_names batch nothing text never ∙ get-empty by_bytes text;
    };
    entries = record {
      stored = λ version. ap (λ (l : Log). get l (pos version)) no_log_left ∙ get-empty int_cmp _;
      counted = ap (λ (l : Log). len l) no_log_left ∙ len-empty int_cmp _;
    };
  }

  pub laid_out : (old : Contents) → IsLaidOut opening old (after_batch batch old)
  laid_out old is = subst (λ (c : Contents). ShowsLog opening (after_batch batch c) []) (sym is) first_shows
