-- Contents that hold nothing, and what the values of the first position make of them.
use Rattle.std.proofs.Common.{◌≡◌, ◌≢◌, ◌⊎◌, inl, inr, ℕ, List, [], ◌∷◌, Option, Some, None, refl, sym, ap, subst, ◌∙◌, arith}
use Rattle.std.specs.Prelude.{pos, fold, Bool, false, IsTrue}
use Rattle.std.specs.Cmp.{IsTotalOrder}
use Rattle.std.specs.FinMap.{IsAntisymmetric, empty, empty_of_len, get, get-empty, len, len-empty, same_map}
use Rattle.std.specs.List.{AllByRecursion}
use Rattle.std.specs.Ordering.{int_cmp, nat_cmp}
use Rattle.std.specs.Cmp.Lexicographic.{slice_cmp}
use Rattle.std.specs.Str.{bytes_eq}
use Rattle.std.proofs.lemmas.Cmp.{int_cmp_total, nat_list_cmp_total, then_total, on_total}
use Rattle.std.proofs.lemmas.Map.Lookups.{exact_pairs, exact_signed, exact_bytes}
use Rattle.std.proofs.lemmas.Option.{slice_get_within}
use Rattle.cs_value.specs.Facts.{by_test}
use Rattle.cs_value.specs.declared.catalog.TableDef.{TableDef}
use Rattle.cs_change.specs.Net.{net}
use Rattle.cs_order.specs.Order.{by_bytes}
use Rattle.cs_store.specs.Contents.{Bodies, Contents, Log, LogItem, Meta, StorePlace, place_cmp, log_count, meta_value, name_text, nothing}
use Rattle.cs_store.specs.Laws.{KeepsOtherNames, WritesMeta, value_after}
use Rattle.cs_store.specs.Whole.{AtTable, IsName, IsWhole, StoresChange, StoresRow}
use Rattle.cs_store.specs.Written.{after_batch, appended, edit_body, optional_entry}
use Rattle.cs_store.specs.declared.batch.Batch.{Batch}
use Rattle.cs_store.specs.edits.Edits.{BodyEdit}
use Rattle.cs_store.specs.declared.batch.StoredEntry.{StoredEntry}
use Rattle.cs_store.specs.declared.names.MetaName.{MetaName}
use Rattle.cs_store.specs.declared.names.MetaName.TheVariants.{Id, Version, Number, Flight, Pending, Catalog}
use Rattle.cs_pending.specs.Spots.{name_is, name_not}
use Rattle.cs_pending.specs.Shows.{IsSoundOf}
use Rattle.cs_pending.specs.View.{undo, middle}
use Rattle.cs_pending.specs.position.Shows.{changes_at}
use Rattle.cs_pending.specs.position.Values.{value_of}
use Rattle.cs_pending.specs.Laws.{empty_view}
use Rattle.cs_opening.proofs.NoLog.{no_log, theirs}
use Rattle.cs_opening.specs.Fresh.{IsFirst, IsLaidOut, first_position}

place_total : IsTotalOrder place_cmp
place_total = then_total (on_total (λ (p : StorePlace). p.0) int_cmp_total) (on_total (λ (p : StorePlace). p.1) nat_list_cmp_total)

place_exact : IsAntisymmetric place_cmp
place_exact = exact_pairs int_cmp (slice_cmp nat_cmp) exact_signed exact_bytes

pub none_at : {A : Type 0} (o : Option A) → ((a : A) → o ≡ Some a → ⊥) → o ≡ None
none_at None never = refl
none_at (Some a) never = absurd (never a refl)

-- ---- maps that hold nothing

no_bodies : (bodies : Bodies) → ((place : StorePlace) (body : List ℕ) → get bodies place ≡ Some body → ⊥) → bodies ≡ empty
no_bodies bodies never =
    same_map place_total place_exact bodies empty (λ q. none_at (get bodies q) (λ body is. never q body is) ∙ sym (get-empty place_cmp q))

no_table : (Stores : TableDef → List ℕ → List ℕ → Type 0) (place : StorePlace) (body : List ℕ) → AtTable Stores [] place body → ⊥
no_table Stores place body (number, table, is, found, stored) =
    let within = slice_get_within [] number table found in absurd (omega (arith, within))

no_values : (contents : Contents) → ((name value : List ℕ) → get contents.meta name ≡ Some value → IsName name) → ((name : MetaName) → meta_value contents name ≡ None) → contents.meta ≡ empty
no_values contents names none =
    same_map nat_list_cmp_total exact_bytes contents.meta empty (λ q. none_at (get contents.meta q) (λ v is. never q v is (names q v is)) ∙ sym (get-empty by_bytes q))
  where
    never : (q v : List ℕ) → get contents.meta q ≡ Some v → IsName q → ⊥
    never q v is (name, text) = absurd (let no = sym is ∙ ap (get contents.meta) text ∙ none name in cc)

abbrev held : Bodies → Bodies → Meta → Log → Contents
held rows pending meta log = record { rows = rows; pending = pending; meta = meta; log = log }

all_parts : (rows pending : Bodies) (meta : Meta) (log : Log) → rows ≡ empty → pending ≡ empty → meta ≡ empty → log ≡ empty → held rows pending meta log ≡ held empty empty empty empty
all_parts rows pending meta log r p m l =
    ap (λ (x : Bodies). held x pending meta log) r ∙ ap (λ (x : Bodies). held empty x meta log) p
    ∙ ap (λ (x : Meta). held empty empty x log) m ∙ ap (λ (x : Log). held empty empty empty x) l

-- ---- the names of values

abbrev pub all_names : List MetaName
all_names = Catalog ∷ Id ∷ Version ∷ Number ∷ Flight ∷ Pending ∷ []

each_name : (P : MetaName → Type 0) → P Id → P Version → P Number → P Flight → P Pending → P Catalog → (name : MetaName) → P name
each_name P a b c d e f Id = a
each_name P a b c d e f Version = b
each_name P a b c d e f Number = c
each_name P a b c d e f Flight = d
each_name P a b c d e f Pending = e
each_name P a b c d e f Catalog = f

all_none : (contents : Contents) → AllByRecursion (λ (name : MetaName). meta_value contents name ≡ None) all_names → (name : MetaName) → meta_value contents name ≡ None
all_none contents all = each_name (λ name. meta_value contents name ≡ None) all.1.0 all.1.1.0 all.1.1.1.0 all.1.1.1.1.0 all.1.1.1.1.1.0 all.0

none_all : (contents : Contents) → ((name : MetaName) → meta_value contents name ≡ None) → AllByRecursion (λ (name : MetaName). meta_value contents name ≡ None) all_names
none_all contents none = (none Catalog, (none Id, (none Version, (none Number, (none Flight, (none Pending, tt))))))

by_name : (text : List ℕ) (name : MetaName) → ((name_text name ≢ text) → IsName text ⊎ ((name : MetaName) → name_text name ≢ text)) → IsName text ⊎ ((name : MetaName) → name_text name ≢ text)
by_name text name other =
    by_test (bytes_eq (name_text name) text) _ (λ e. inl (name, sym (name_is (name_text name) text e))) (λ e. other (name_not (name_text name) text e))

-- a text is a name, or none of ours
named_or_not : (text : List ℕ) → IsName text ⊎ ((name : MetaName) → name_text name ≢ text)
named_or_not text =
    by_name text Id (λ a. by_name text Version (λ b. by_name text Number (λ c. by_name text Flight (λ d. by_name text Pending (λ e. by_name text Catalog (λ f.
    inr (each_name (λ name. name_text name ≢ text) a b c d e f)))))))

-- ---- whether contents hold nothing

module _ (contents : Contents) where
  pub has_entries : (count : ℕ) → count ≡ log_count contents → (count ≡ 0 → ⊥) → contents ≡ nothing → ⊥
  has_entries count counted some is = some (counted ∙ ap log_count is ∙ len-empty int_cmp _)

  pub has_none : contents ≡ nothing → AllByRecursion (λ (name : MetaName). meta_value contents name ≡ None) all_names
  has_none is = none_all contents (λ name. ap (λ (c : Contents). meta_value c name) is ∙ get-empty by_bytes (name_text name))

module _ (tables : List TableDef) (bare : tables ≡ []) where
  whole_nothing : IsWhole tables nothing
  whole_nothing = record {
    present = tables;
    entries = no_log tables nothing (len-empty int_cmp LogItem);
    rows = λ place body is. absurd (let no = sym is ∙ get-empty place_cmp place in cc);
    pending = λ place body is. absurd (let no = sym is ∙ get-empty place_cmp place in cc);
    names = λ name value is. absurd (let no = sym is ∙ get-empty by_bytes name in cc);
  }

  holds_none : (contents : Contents) → IsWhole tables contents → log_count contents ≡ 0 → AllByRecursion (λ (name : MetaName). meta_value contents name ≡ None) all_names → contents ≡ nothing
  holds_none contents whole count none =
      let held = theirs tables contents count whole in
      all_parts contents.rows contents.pending contents.meta contents.log
      (no_bodies contents.rows (λ place body is. no_table StoresRow place body (subst (λ (ts : List TableDef). AtTable StoresRow ts place body) bare (held.rows place body is))))
      (no_bodies contents.pending (λ place body is. no_table StoresChange place body (subst (λ (ts : List TableDef). AtTable StoresChange ts place body) bare (held.pending place body is))))
      (no_values contents held.names (all_none contents none))
      (empty_of_len contents.log count)

  -- what the names, a count and a check tell, of contents that stay as they are
  pub is_nothing : (contents middle last : Contents) (good : Bool) → middle ≡ contents → last ≡ middle → AllByRecursion (λ (name : MetaName). meta_value contents name ≡ None) all_names → log_count middle ≡ 0
      → (IsTrue good → IsWhole tables last) × (IsWhole tables last → IsTrue good)
      → (IsTrue good → contents ≡ nothing) × (contents ≡ nothing → IsTrue good)
  is_nothing contents middle last good same again none count checked =
      let is : last ≡ contents = again ∙ same in (
        (λ t. holds_none contents (subst (IsWhole tables) is (checked.0 t)) (ap log_count (sym same) ∙ count) none),
        (λ e. checked.1 (subst (IsWhole tables) (sym (is ∙ e)) whole_nothing)),
      )

pub isnt_nothing : (contents : Contents) → (contents ≡ nothing → ⊥) → (IsTrue false → contents ≡ nothing) × (contents ≡ nothing → IsTrue false)
isnt_nothing contents never = (λ t. absurd (let no = t in cc), λ is. absurd (never is))

-- ---- the first position

no_row_sound : (tables : List TableDef) → IsSoundOf tables empty_view.pending empty_view.tables
unfolding undo net
no_row_sound tables = record { before_state = λ name key. tt; after_state = λ name key. tt; net_of = λ table key inside. refl }

none_under_way : (tables : List TableDef) → IsSoundOf tables (changes_at []) (middle empty_view)
unfolding undo net
none_under_way tables = record { before_state = λ name key. tt; after_state = λ name key. tt; net_of = λ table key inside. refl }

-- contents with the values of the first position, and nothing else
module _ (tables : List TableDef) (id : ℕ) (contents : Contents) (rows : (place : StorePlace) → get contents.rows place ≡ None) (pending : (place : StorePlace) → get contents.pending place ≡ None) (none : len contents.pending ≡ 0) (log : log_count contents ≡ 0)
    (values : (name : MetaName) → meta_value contents name ≡ value_of tables (first_position id) name) (names : (text value : List ℕ) → get contents.meta text ≡ Some value → IsName text) where
  pub first_shows : IsFirst tables id contents
  first_shows = record {
    rows = record {
      rows = record { rows = λ name key. tt; stored = λ n t k at. rows (pos n, k) };
      pends = record { stored = λ n t k at. pending (pos n, k); fits = λ t k inside. tt };
      sound = no_row_sound tables;
    };
    values = values;
    alone = record {
      rows = λ place elsewhere. rows place;
      pending = λ place elsewhere. pending place;
      log = log;
      names = names;
    };
    under_way = record { fits = tt; normal = tt; size = omega arith; sound = none_under_way tables };
    counted = sym none;
    numbered = omega arith;
  }

module _ (tables : List TableDef) (id : ℕ) (batch : Batch) (meta_law : WritesMeta) (other_names : KeepsOtherNames)
    (rows : batch.rows ≡ []) (pending : batch.pending ≡ []) (log : batch.log ≡ None)
    (values : (name : MetaName) → value_after batch.meta.items name None ≡ value_of tables (first_position id) name) where
  no_rows_left : (place : StorePlace) → get (after_batch batch nothing).rows place ≡ None
  no_rows_left place = ap (λ (es : List BodyEdit). get (fold edit_body nothing.rows es) place) rows ∙ get-empty place_cmp place

  no_pending_left : (place : StorePlace) → get (after_batch batch nothing).pending place ≡ None
  no_pending_left place = ap (λ (es : List BodyEdit). get (fold edit_body nothing.pending es) place) pending ∙ get-empty place_cmp place

  no_log_left : log_count (after_batch batch nothing) ≡ 0
  no_log_left = ap (λ (o : Option StoredEntry). len (appended nothing.log (optional_entry o))) log ∙ len-empty int_cmp _

  named_left : (text value : List ℕ) → get (after_batch batch nothing).meta text ≡ Some value → IsName text ⊎ ((name : MetaName) → name_text name ≢ text) → IsName text
  named_left text value is (inl named) = named
  named_left text value is (inr never) = absurd (let no = sym is ∙ other_names batch nothing text never ∙ get-empty by_bytes text in cc)

  pub laid_out : (old : Contents) → IsLaidOut tables id old (after_batch batch old)
  laid_out old is = subst (λ (c : Contents). IsFirst tables id (after_batch batch c)) (sym is)
      (first_shows tables id (after_batch batch nothing) no_rows_left no_pending_left
      (ap (λ (es : List BodyEdit). len (fold edit_body nothing.pending es)) pending ∙ len-empty place_cmp _) no_log_left
      (λ name. meta_law batch nothing name ∙ ap (value_after batch.meta.items name) (get-empty by_bytes (name_text name)) ∙ values name)
      (λ name value is. named_left name value is (named_or_not name)))
