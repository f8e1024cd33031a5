-- What shows one view at one position holds the same.
use Rattle.std.proofs.Common.{◌≡◌, ◌≤◌, ℕ, List, Option, Some, None, length, option_map, refl, sym, ap, ◌∙◌, inl, inr, arith}
use Rattle.std.specs.Prelude.{ℤ, pos, negsuc, slice_get, Contains}
use Rattle.std.specs.Cmp.{IsTotalOrder}
use Rattle.std.specs.FinMap.{IsAntisymmetric, empty_of_len, get, len, same_map}
use Rattle.std.specs.Ordering.{int_cmp, nat_cmp}
use Rattle.std.specs.Cmp.Lexicographic.{slice_cmp}
use Rattle.std.proofs.lemmas.Cmp.{int_cmp_total, nat_list_cmp_total, on_total, then_total}
use Rattle.std.proofs.lemmas.Map.Lookups.{exact_bytes, exact_pairs, exact_signed}
use Rattle.std.proofs.lemmas.Option.{slice_get_cases}
use Rattle.cs_value.specs.Key.{Place}
use Rattle.cs_value.specs.declared.catalog.TableDef.{TableDef}
use Rattle.cs_record.specs.Spelling.{row_bytes}
use Rattle.cs_change.specs.Spelling.{change_spelling}
use Rattle.cs_change.specs.declared.change.Change.{Change}
use Rattle.cs_normal.specs.State.{AreSame}
use Rattle.cs_store.specs.Contents.{Bodies, Contents, Meta, StorePlace, name_text, place_cmp}
use Rattle.cs_store.specs.Whole.{IsName}
use Rattle.cs_store.specs.declared.names.MetaName.{MetaName}
use Rattle.cs_store.specs.declared.names.MetaName.TheVariants.{Id, Version, Number, Flight, Pending, Catalog}
use Rattle.cs_pending.specs.OnePlace.{contained}
use Rattle.cs_pending.specs.Shows.{IsElsewhere}
use Rattle.cs_pending.specs.View.{View}
use Rattle.cs_pending.specs.position.Shows.{ShowsAt}
use Rattle.cs_pending.specs.position.Values.{value_of}
use Rattle.cs_pending.specs.declared.position.position.Position.{Position}
use Rattle.cs_exchange.specs.taking.Laws.{OneContents}
use Rattle.cs_exchange.proofs.TakingLemmas.Worked.{by_option}

-- ---- maps

pub place_total : IsTotalOrder place_cmp
place_total = then_total (on_total (λ (p : StorePlace). p.0) int_cmp_total) (on_total (λ (p : StorePlace). p.1) nat_list_cmp_total)

pub place_exact : IsAntisymmetric place_cmp
place_exact = exact_pairs int_cmp (slice_cmp nat_cmp) exact_signed exact_bytes

past : (tables : List TableDef) (key : List ℕ) (number : ℕ) → length tables ≤ number → IsElsewhere tables (pos number, key)
past tables key number is other e = let same : number ≡ other = (let f = e in cc) in omega (arith, is, same)

before_all : (tables : List TableDef) (key : List ℕ) (number : ℕ) → IsElsewhere tables (negsuc number, key)
before_all tables key number other e = absurd (let no = e in cc)

-- bodies that are the same at the places of the tables, with none elsewhere
module _ (tables : List TableDef) (some other : Bodies) (here : (number : ℕ) (table : TableDef) (key : List ℕ) → slice_get tables number ≡ Some table → get some (pos number, key) ≡ get other (pos number, key))
    (none_some : (place : StorePlace) → IsElsewhere tables place → get some place ≡ None) (none_other : (place : StorePlace) → IsElsewhere tables place → get other place ≡ None) where
  same_at : (number : ℤ) (key : List ℕ) → get some (number, key) ≡ get other (number, key)
  same_at (pos n) key =
      elim (slice_get_cases tables n).1 [
        | inl found ↦ here n found.0 key found.2
        | inr out ↦ none_some (pos n, key) (past tables key n out.0) ∙ sym (none_other (pos n, key) (past tables key n out.0))
      ]
  same_at (negsuc n) key = none_some (negsuc n, key) (before_all tables key n) ∙ sym (none_other (negsuc n, key) (before_all tables key n))

  same_bodies : some ≡ other
  same_bodies = same_map place_total place_exact some other (λ place. same_at place.0 place.1)

-- values that are the same under our names, with none under others
module _ (some other : Meta) (here : (name : MetaName) → get some (name_text name) ≡ get other (name_text name))
    (names_some : (name value : List ℕ) → get some name ≡ Some value → IsName name) (names_other : (name value : List ℕ) → get other name ≡ Some value → IsName name) where
  same_named : (text : List ℕ) → IsName text → get some text ≡ get other text
  same_named text (name, is) = ap (get some) is ∙ here name ∙ sym (ap (get other) is)

  same_under : (text : List ℕ) → get some text ≡ get other text
  same_under text =
      by_option (get some text) _
      (λ none. by_option (get other text) _ (λ nothing. none ∙ sym nothing) (λ value is. same_named text (names_other text value is)))
      (λ value is. same_named text (names_some text value is))

  same_meta : some ≡ other
  same_meta = same_map nat_list_cmp_total exact_bytes some other same_under

-- ---- contents

same_contents : (tables : List TableDef) (some other : Contents) (here there : Position) (view seen : View) → ShowsAt tables some here view → ShowsAt tables other there seen
    → ((name : MetaName) → value_of tables here name ≡ value_of tables there name) → AreSame seen.tables view.tables
    → ((table : TableDef) (key : List ℕ) → Contains tables table → view.pending table.name key ≡ seen.pending table.name key) → some ≡ other
same_contents tables some other here there view seen s o values rows pending =
    let rows_are : some.rows ≡ other.rows =
    same_bodies tables some.rows other.rows
    (λ n t k at. s.rows.rows.stored n t k at ∙ ap (λ (x : Place). option_map row_bytes x) (rows t.name k) ∙ sym (o.rows.rows.stored n t k at)) s.alone.rows o.alone.rows in
    let pending_are : some.pending ≡ other.pending =
    same_bodies tables some.pending other.pending
    (λ n t k at. s.rows.pends.stored n t k at ∙ ap (λ (c : Option Change). option_map change_spelling c) (pending t k (contained tables n t at)) ∙ sym (o.rows.pends.stored n t k at)) s.alone.pending o.alone.pending in
    let meta_is : some.meta ≡ other.meta = same_meta some.meta other.meta (λ name. s.values name ∙ values name ∙ sym (o.values name)) s.alone.names o.alone.names in
    let log_is : some.log ≡ other.log = empty_of_len some.log s.alone.log ∙ sym (empty_of_len other.log o.alone.log) in
    λ i. record { rows = rows_are i; pending = pending_are i; meta = meta_is i; log = log_is i }

value_at : (tables : List TableDef) (position : Position) (some other : ℕ) (name : MetaName) → value_of tables (record position { pending = some }) name ≡ value_of tables (record position { pending = other }) name
value_at tables position some other Id = refl
value_at tables position some other Version = refl
value_at tables position some other Number = refl
value_at tables position some other Flight = refl
value_at tables position some other Pending = refl
value_at tables position some other Catalog = refl

pub one_contents : OneContents
one_contents tables position some other view seen s o rows pending =
    same_contents tables some other (record position { pending = len some.pending }) (record position { pending = len other.pending }) view seen s o
    (value_at tables position (len some.pending) (len other.pending)) (λ name key. sym (rows name key)) (λ table key inside. sym (pending table key inside))
