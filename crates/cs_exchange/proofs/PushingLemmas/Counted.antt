-- How many changes are pending, and whether any is.
use Rattle.std.proofs.Common.{◌≡◌, ◌≢◌, ◌≤◌, ℕ, Bool, cond, inl, inr, List, [], ◌∷◌, Option, Some, None, option_map, length, refl, sym, ap, ◌∙◌, arith}
use Rattle.std.specs.Prelude.{ℤ, pos, negsuc, slice_get}
use Rattle.std.specs.Cmp.{IsTotalOrder}
use Rattle.std.specs.FinMap.{empty_of_len, entries, find, get, get-empty, get-entries, len, len-entries}
use Rattle.std.proofs.lemmas.Cmp.{eq_by_cmp_equiv, int_cmp_total, nat_list_cmp_total, on_total, then_total}
use Rattle.std.proofs.lemmas.Option.{slice_get-get_or, slice_get_cases}
use Rattle.cs_change.specs.Spelling.{change_spelling}
use Rattle.cs_change.specs.declared.change.Change.{Change}
use Rattle.cs_pending.specs.OnePlace.{contained}
use Rattle.cs_pending.specs.Shows.{IsElsewhere}
use Rattle.cs_pending.specs.View.{View}
use Rattle.cs_pending.specs.position.Shows.{ShowsAt}
use Rattle.cs_pending.specs.declared.position.position.Position.{Position}
use Rattle.cs_exchange.specs.pushing.Pushes.{HasNothing}
use Rattle.cs_store.specs.Contents.{Bodies, Contents, StorePlace, place_cmp, stored_pending}
use Rattle.cs_value.specs.declared.catalog.TableDef.{TableDef}

-- ---- a map with nothing at any place

place_total : IsTotalOrder place_cmp
place_total = then_total (on_total (λ (p : StorePlace). p.0) int_cmp_total) (on_total (λ (p : StorePlace). p.1) nat_list_cmp_total)

no_entries : (es : List (StorePlace × List ℕ)) → ((place : StorePlace) → find place_cmp place es ≡ None) → es ≡ []
no_entries [] none = refl
no_entries (e ∷ es) none =
    let found : find place_cmp e.0 (e ∷ es) ≡ Some e.1 = ap (λ (b : Bool). cond b (Some e.1) (find place_cmp e.0 es)) ((eq_by_cmp_equiv place_total).refl e.0) in
    absurd (let no : ◌≡◌ {A = Option (List ℕ)} (Some e.1) None = sym found ∙ none e.0 in cc)

no_bodies : (bodies : Bodies) → ((place : StorePlace) → get bodies place ≡ None) → len bodies ≡ 0
no_bodies bodies none =
    len-entries bodies ∙ ap length (no_entries (entries bodies) (λ place. sym (get-entries bodies place) ∙ none place))

-- ---- none at the places of the tables, and none elsewhere

past : (tables : List TableDef) (key : List ℕ) (number : ℕ) → length tables ≤ number → IsElsewhere tables (pos number, key)
past tables key number is other e = let same : number ≡ other = (let f = e in cc) in omega (arith, is, same)

before_all : (tables : List TableDef) (key : List ℕ) (number : ℕ) → IsElsewhere tables (negsuc number, key)
before_all tables key number other e = absurd (let no = e in cc)

module _ (tables : List TableDef) (contents : Contents) (here : (n : ℕ) (t : TableDef) (k : List ℕ) → slice_get tables n ≡ Some t → stored_pending contents n k ≡ None)
    (elsewhere : (place : StorePlace) → IsElsewhere tables place → get contents.pending place ≡ None) where
  none_at : (number : ℤ) (key : List ℕ) → get contents.pending (number, key) ≡ None
  none_at (pos n) key =
      elim (slice_get_cases tables n).1 [
        | inl found ↦ here n found.0 key found.2
        | inr out ↦ elsewhere (pos n, key) (past tables key n out.0)
      ]
  none_at (negsuc n) key = elsewhere (negsuc n, key) (before_all tables key n)

  pub none_pending : len contents.pending ≡ 0
  none_pending = no_bodies contents.pending (λ place. none_at place.0 place.1)

-- ---- of a store that shows a position

no_change : (o : Option Change) → option_map change_spelling o ≡ None → o ≡ None
no_change None e = refl
no_change (Some change) e = absurd (let no = e in cc)

module _ (tables : List TableDef) (contents : Contents) (position : Position) (view : View) (shows : ShowsAt tables contents position view) where
  pub nothing_there : position.pending ≡ 0 → HasNothing tables view
  nothing_there none = record {
    fits = tt;
    normal = tt;
    changes_are = λ table key inside.
        let at : slice_get tables inside.0 ≡ Some table = slice_get-get_or tables inside.0 table inside.1 ∙ ap Some inside.2 in
        let gone : stored_pending contents inside.0 key ≡ None = ap (λ (m : Bodies). get m (pos inside.0, key)) (empty_of_len contents.pending (sym shows.counted ∙ none)) ∙ get-empty place_cmp (pos inside.0, key) in
        sym (no_change (view.pending table.name key) (sym (shows.rows.pends.stored inside.0 table key at) ∙ gone));
  }

  pub something_there : position.pending ≢ 0 → HasNothing tables view → ⊥
  something_there some nothing =
      some (shows.counted ∙ none_pending tables contents
      (λ n t k at. shows.rows.pends.stored n t k at ∙ ap (option_map change_spelling) (sym (nothing.changes_are t k (contained tables n t at))))
      shows.alone.pending)
