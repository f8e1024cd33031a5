-- A store that shows with the new columns what a store shows.
use Rattle.std.proofs.Common.{◌≡◌, ◌≤◌, ◌<◌, ◌∙◌, ◌&&◌, ℕ, suc, zero, pos, Bool, List, [], ◌∷◌, cond, length, map, Option, Some, None, option_map, T, true, false, refl, ap, ap₂, subst, sym, arith}
use Rattle.std.specs.Prelude.{ℤ, negsuc, slice_get}
use Rattle.std.specs.Cmp.{Equal-is, IsTotalOrder}
use Rattle.std.specs.Cmp.Lexicographic.{slice_cmp}
use Rattle.std.specs.FinMap.{IsAntisymmetric, entries, entries-from_sorted, entries_sorted, find, from_sorted, get, get-entries, get-from_sorted, is_sorted, len, len-entries}
use Rattle.std.specs.FinMap.Entries.{below_all}
use Rattle.std.specs.Ordering.{int_cmp, is_eq, is_lt, nat_cmp}
use Rattle.std.specs.Str.{bytes_eq}
use Rattle.std.proofs.lemmas.Cmp.{int_cmp_total, nat_list_cmp_total, on_total, then_total}
use Rattle.std.proofs.lemmas.List.{length-map}
use Rattle.std.proofs.lemmas.Map.Lookups.{exact_bytes, exact_pairs, exact_signed}
use Rattle.cs_value.specs.Catalog.{AreTables}
use Rattle.cs_value.specs.Facts.{by_test}
use Rattle.cs_value.specs.declared.catalog.TableDef.{TableDef}
use Rattle.cs_record.specs.Spelling.{row_bytes}
use Rattle.cs_change.specs.Spelling.{change_spelling}
use Rattle.cs_store.specs.Contents.{Bodies, Contents, StorePlace, place_cmp, stored_pending, stored_tables}
use Rattle.cs_pending.specs.Laws.{OneView}
use Rattle.cs_pending.specs.OnePlace.{contained}
use Rattle.cs_pending.specs.Shows.{IsElsewhere, SameRest, ShowsRows}
use Rattle.cs_pending.specs.View.{View}
use Rattle.cs_widening.specs.Laws.{WidenedIsState}
use Rattle.cs_widening.specs.Widening.{CanWiden, widened, widened_change, widened_row, widened_tables}
use Rattle.cs_padding.specs.Laws.{SoundWidens, WideStoreCanBe}
use Rattle.cs_padding.specs.Pending.{widened_pending, widened_view}
use Rattle.cs_padding.proofs.OneEdits.{at_table, held_at}
use Rattle.cs_padding.proofs.Sound.{pending_fits}
use Rattle.cs_padding.proofs.Widened.{from_wide}

place_total : IsTotalOrder place_cmp
place_total = then_total (on_total (λ (p : StorePlace). p.0) int_cmp_total) (on_total (λ (p : StorePlace). p.1) nat_list_cmp_total)

place_exact : IsAntisymmetric place_cmp
place_exact = exact_pairs int_cmp (slice_cmp nat_cmp) exact_signed exact_bytes

-- ---- other bodies at the same places

module _ (f : StorePlace → List ℕ → List ℕ) where
  abbrev mapped_entry : StorePlace × List ℕ → StorePlace × List ℕ
  mapped_entry entry = (entry.0, f entry.0 entry.1)

  below_mapped : (place : StorePlace) (es : List (StorePlace × List ℕ)) → below_all place_cmp place (map mapped_entry es) ≡ below_all place_cmp place es
  below_mapped place [] = refl
  below_mapped place (e ∷ es) = ap (λ (b : Bool). is_lt (place_cmp place e.0) && b) (below_mapped place es)

  sorted_mapped : (es : List (StorePlace × List ℕ)) → is_sorted place_cmp (map mapped_entry es) ≡ is_sorted place_cmp es
  sorted_mapped [] = refl
  sorted_mapped (e ∷ es) = ap₂ (λ (a b : Bool). a && b) (below_mapped e.0 es) (sorted_mapped es)

  find_mapped : (place : StorePlace) (es : List (StorePlace × List ℕ)) → find place_cmp place (map mapped_entry es) ≡ option_map (f place) (find place_cmp place es)
  find_mapped place [] = refl
  find_mapped place (e ∷ es) =
      by_test (is_eq (place_cmp place e.0)) _
      (λ t. let same : place ≡ e.0 = place_exact place e.0 ((Equal-is (place_cmp place e.0)).0 t) in
      ap (λ (b : Bool). cond b (Some (f e.0 e.1)) (find place_cmp place (map mapped_entry es))) t
      ∙ ap (λ (q : StorePlace). Some (f q e.1)) (sym same)
      ∙ sym (ap (λ (b : Bool). option_map (f place) (cond b (Some e.1) (find place_cmp place es))) t))
      (λ t. ap (λ (b : Bool). cond b (Some (f e.0 e.1)) (find place_cmp place (map mapped_entry es))) t
      ∙ find_mapped place es
      ∙ sym (ap (λ (b : Bool). option_map (f place) (cond b (Some e.1) (find place_cmp place es))) t))

  mapped : Bodies → Bodies
  mapped bodies = from_sorted (map mapped_entry (entries bodies))

  still_sorted : (bodies : Bodies) → T (is_sorted place_cmp (map mapped_entry (entries bodies)))
  still_sorted bodies = subst T (sym (sorted_mapped (entries bodies))) (entries_sorted bodies)

  get_mapped : (bodies : Bodies) (place : StorePlace) → get (mapped bodies) place ≡ option_map (f place) (get bodies place)
  unfolding mapped
  get_mapped bodies place =
      get-from_sorted place_cmp (map mapped_entry (entries bodies)) place (still_sorted bodies)
      ∙ find_mapped place (entries bodies) ∙ ap (option_map (f place)) (sym (get-entries bodies place))

  len_mapped : (bodies : Bodies) → len (mapped bodies) ≡ len bodies
  unfolding mapped
  len_mapped bodies =
      len-entries (mapped bodies)
      ∙ ap length (entries-from_sorted place_cmp (map mapped_entry (entries bodies)) (still_sorted bodies))
      ∙ length-map (entries bodies) mapped_entry ∙ sym (len-entries bodies)

-- ---- what is said of tables' places, in place of what stands there

abbrev set_as : Option (List ℕ) → List ℕ → List ℕ
set_as None body = body
set_as (Some other) body = other

abbrev Held : Type 0
Held = List ℕ → List ℕ → Option (List ℕ)

target : List TableDef → Held → StorePlace → Option (List ℕ)
target tables held (pos number, key) = held_at tables held number key
target tables held (negsuc number, key) = None

abbrev set_held : List TableDef → Held → StorePlace → List ℕ → List ℕ
set_held tables held place body = set_as (target tables held place) body

none_set : (stood : Option (List ℕ)) → option_map (set_as None) stood ≡ stood
none_set None = refl
none_set (Some body) = refl

past_none : (tables : List TableDef) (number : ℕ) → length tables ≤ number → slice_get tables number ≡ None
past_none [] number past = refl
past_none (table ∷ tables) zero past = absurd (omega (arith, past))
past_none (table ∷ tables) (suc number) past = past_none tables number (omega (arith, past))

set_elsewhere : (tables : List TableDef) (held : Held) (place : StorePlace) → IsElsewhere tables place → (stood : Option (List ℕ)) → option_map (set_held tables held place) stood ≡ stood
unfolding target
set_elsewhere tables held (pos number, key) away stood =
    ap (λ (found : Option TableDef). option_map (set_as (at_table held found key)) stood) (past_none tables number (away number refl)) ∙ none_set stood
set_elsewhere tables held (negsuc number, key) away stood = none_set stood

set_there : (tables : List TableDef) (held : Held) (number : ℕ) (table : TableDef) (key : List ℕ) → slice_get tables number ≡ Some table → (stood : Option (List ℕ))
    → option_map (set_held tables held (pos number, key)) stood ≡ option_map (set_as (held table.name key)) stood
unfolding target
set_there tables held number table key at stood = ap (λ (found : Option TableDef). option_map (set_as (at_table held found key)) stood) at

set_wide : {A : Type 0} (spell : A → List ℕ) (wider : A → A) (x : Option A) → option_map (set_as (option_map spell (option_map wider x))) (option_map spell x) ≡ option_map spell (option_map wider x)
set_wide spell wider None = refl
set_wide spell wider (Some x) = refl

set_same : {A : Type 0} (spell : A → List ℕ) (x : Option A) → option_map (set_as (option_map spell x)) (option_map spell x) ≡ option_map spell x
set_same spell None = refl
set_same spell (Some x) = refl

-- ---- the store

module _ (sound : SoundWidens) (one_view : OneView) (states : WidenedIsState) (tables : List TableDef) (name : List ℕ) (width : ℕ) (contents : Contents) (view : View)
    (are : AreTables tables) (can : CanWiden tables name width) (shows : ShowsRows tables contents view) where
  abbrev rows_held : Held
  rows_held n k = option_map row_bytes (widened name width view.tables n k)

  abbrev pending_held : Held
  pending_held n k = option_map change_spelling (widened_pending name width view.pending n k)

  abbrev wide : Contents
  wide = record {
    rows = mapped (set_held tables rows_held) contents.rows;
    pending = mapped (set_held tables pending_held) contents.pending;
    meta = contents.meta;
    log = contents.log;
  }

  rest : SameRest tables contents wide
  rest = record {
    meta = refl;
    log = refl;
    rows = λ place away. get_mapped (set_held tables rows_held) contents.rows place ∙ set_elsewhere tables rows_held place away (get contents.rows place);
    pending = λ place away. get_mapped (set_held tables pending_held) contents.pending place ∙ set_elsewhere tables pending_held place away (get contents.pending place);
  }

  module _ (seen : View) (also : ShowsRows tables contents seen) where
    row_there : (number : ℕ) (table : TableDef) (key : List ℕ) → slice_get tables number ≡ Some table
        → stored_tables wide number key ≡ option_map row_bytes (widened name width seen.tables table.name key)
    row_there number table key at =
        let same : seen.tables table.name key ≡ view.tables table.name key = (one_view tables contents view seen shows also).0 table.name key in
        get_mapped (set_held tables rows_held) contents.rows (pos number, key)
        ∙ set_there tables rows_held number table key at (stored_tables contents number key)
        ∙ ap (option_map (set_as (rows_held table.name key))) (shows.rows.stored number table key at)
        ∙ by_test (bytes_eq table.name name) _
        (λ t. simp t (set_wide row_bytes (widened_row width) (view.tables table.name key) ∙ ap (λ x. option_map row_bytes (option_map (widened_row width) x)) (sym same)))
        (λ t. simp t (set_same row_bytes (view.tables table.name key) ∙ ap (option_map row_bytes) (sym same)))

    change_there : (number : ℕ) (table : TableDef) (key : List ℕ) → slice_get tables number ≡ Some table
        → stored_pending wide number key ≡ option_map change_spelling (widened_pending name width seen.pending table.name key)
    change_there number table key at =
        let same : seen.pending table.name key ≡ view.pending table.name key = (one_view tables contents view seen shows also).1 table key (contained tables number table at) in
        get_mapped (set_held tables pending_held) contents.pending (pos number, key)
        ∙ set_there tables pending_held number table key at (stored_pending contents number key)
        ∙ ap (option_map (set_as (pending_held table.name key))) (shows.pends.stored number table key at)
        ∙ by_test (bytes_eq table.name name) _
        (λ t. simp t (set_wide change_spelling (widened_change width) (view.pending table.name key) ∙ ap (λ x. option_map change_spelling (option_map (widened_change width) x)) (sym same)))
        (λ t. simp t (set_same change_spelling (view.pending table.name key) ∙ ap (option_map change_spelling) (sym same)))

    shows_wide : ShowsRows (widened_tables name width tables) wide (widened_view name width seen)
    shows_wide = record {
      rows = record {
        rows = states tables name width seen.tables also.rows.rows;
        stored = λ number table key at.
            let from = from_wide name width tables number table at in
            row_there number from.0 key from.1 ∙ ap (λ (n : List ℕ). option_map row_bytes (widened name width seen.tables n key)) (sym from.2);
      };
      pends = record {
        stored = λ number table key at.
            let from = from_wide name width tables number table at in
            change_there number from.0 key from.1 ∙ ap (λ (n : List ℕ). option_map change_spelling (widened_pending name width seen.pending n key)) (sym from.2);
        fits = pending_fits tables name width seen.pending also.pends.fits;
      };
      sound = (sound tables name width seen.pending seen.tables are can also.sound).0;
    }

  pub can_be : (other : Contents) × SameRest tables contents other × (len other.pending ≡ len contents.pending)
      × ((seen : View) → ShowsRows tables contents seen → ShowsRows (widened_tables name width tables) other (widened_view name width seen))
  can_be = (wide, rest, len_mapped (set_held tables pending_held) contents.pending, shows_wide)

pub wide_store_can_be : SoundWidens → OneView → WidenedIsState → WideStoreCanBe
wide_store_can_be = can_be
