-- Places of tables: when two are one, and what a put changes. Crates above cite it.
use Rattle.std.proofs.Common.{◌≡◌, ◌<◌, ℕ, Bool, true, false, ◌&&◌, List, length, Some, sym, ap, ◌∙◌, subst}
use Rattle.std.specs.Prelude.{slice_get, nat_eq, Contains}
use Rattle.std.specs.Bool.{Decides}
use Rattle.std.specs.List.{HoldsAt}
use Rattle.std.specs.Str.{bytes_eq}
use Rattle.std.proofs.lemmas.Bool.Decides.{same_from_decides, Decides-eqb, Decides-like}
use Rattle.std.proofs.lemmas.List.Elements.{Contains-get_or}
use Rattle.std.proofs.lemmas.Option.{slice_get-get_or, slice_get_within, get_or_from_slice_get}
use Rattle.std.proofs.lemmas.Slice.Eq.{bytes_eq-Decides}
use Rattle.cs_value.specs.Facts.{by_test}
use Rattle.cs_value.specs.Catalog.{AreTables}
use Rattle.cs_value.specs.Laws.{OnePlaceOfName}
use Rattle.cs_value.specs.declared.catalog.TableDef.{TableDef}
use Rattle.cs_order.specs.Order.{same_bytes}
use Rattle.cs_apply.specs.Overlaid.{name_at, name_or_none}
use Rattle.cs_apply.specs.Spots.{same_spot, spot_is}

-- a place is that one, or another
pub by_spot : (n k name key : List ℕ) (P : Type 0) → (same_spot (n, k) (name, key) ≡ true → n ≡ name → k ≡ key → P) → (same_spot (n, k) (name, key) ≡ false → P) → P
by_spot n k name key P here there =
    by_test (same_spot (n, k) (name, key)) P (λ e. let is = spot_is (n, k) (name, key) e in here e is.0 is.1) there

pub contained : {X : Type 0} (xs : List X) (i : ℕ) (x : X) → slice_get xs i ≡ Some x → Contains xs x
contained xs i x is =
    subst (λ y. Contains xs y) (get_or_from_slice_get xs i x x is) (Contains-get_or xs i x (slice_get_within xs i x is))

module _ (tables : List TableDef) (are : AreTables tables) (one : OnePlaceOfName) where
  name_there : (at : ℕ) → at < length tables → HoldsAt (λ table. table.name ≡ name_at tables at) tables at
  name_there at less = λ d. ap name_or_none (sym (slice_get-get_or tables at d less))

  same_table : (some other : ℕ) → some < length tables → other < length tables → name_at tables some ≡ name_at tables other → some ≡ other
  same_table some other s o e =
      one (name_at tables other) tables some other are s o (λ d. name_there some s d ∙ e) (name_there other o)

  -- the tests of places by names and by numbers agree
  pub tests_agree : (at number : ℕ) (here table : TableDef) (key bytes : List ℕ) → slice_get tables at ≡ Some here → slice_get tables number ≡ Some table
      → same_spot (table.name, key) (here.name, bytes) ≡ (nat_eq number at && same_bytes key bytes)
  tests_agree at number here table key bytes found_here found =
      let there : name_at tables number ≡ table.name = ap name_or_none found in
      let at_here : name_at tables at ≡ here.name = ap name_or_none found_here in
      let by_name : Decides (bytes_eq table.name here.name) (table.name ≡ here.name) = bytes_eq-Decides table.name here.name in
      let names : bytes_eq table.name here.name ≡ nat_eq number at = same_from_decides _ _
      (Decides-like _
      (λ e. same_table number at (slice_get_within tables number table found) (slice_get_within tables at here found_here) (there ∙ e ∙ sym at_here))
      (λ e. sym there ∙ ap (name_at tables) e ∙ at_here)
      by_name)
      (Decides-eqb number at) in
      ap (λ (b : Bool). b && same_bytes key bytes) names
