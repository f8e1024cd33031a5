-- Contents show one view, and a new store shows the empty one.
use Rattle.std.proofs.Common.{◌≡◌, ◌++◌, ℕ, pos, List, [], Option, Some, None, option_map, refl, sym, ap, ◌∙◌}
use Rattle.std.specs.Prelude.{slice_get, Contains, IfSome}
use Rattle.std.proofs.lemmas.Option.{slice_get-get_or}
use Rattle.std.specs.FinMap.{get-empty}
use Rattle.cs_value.specs.declared.catalog.TableDef.{TableDef}
use Rattle.cs_change.specs.Net.{net}
use Rattle.cs_change.specs.Spelling.{change_spelling, FitsChange}
use Rattle.cs_change.specs.declared.change.Change.{Change}
use Rattle.cs_changeset.specs.Laws.{ChangesApart}
use Rattle.cs_store.specs.Contents.{place_cmp}
use Rattle.cs_store.specs.StateLaws.{HoldsOneState}
use Rattle.cs_pending.specs.Laws.{NewShows, OneView}
use Rattle.cs_pending.specs.View.{undo}

-- a table that is there has a number
numbered : (tables : List TableDef) (table : TableDef) → Contains tables table → (number : ℕ) × (slice_get tables number ≡ Some table)
numbered tables table there = (there.0, slice_get-get_or tables there.0 table there.1 ∙ ap Some there.2)

one_change : ChangesApart → (table : TableDef) (some other : Option Change) → IfSome some (FitsChange table.key_marks) → IfSome other (FitsChange table.key_marks) → option_map change_spelling some ≡ option_map change_spelling other → other ≡ some
one_change apart table None None fs fo e = refl
one_change apart table None (Some d) fs fo e = absurd cc
one_change apart table (Some c) None fs fo e = absurd cc
one_change apart table (Some c) (Some d) fs fo e =
    let bytes : change_spelling c ≡ change_spelling d = (let f = e in cc) in
    ap (λ (x : Change). Some x) (sym (apart table.key_marks c d [] [] fs fo (ap (λ (b : List ℕ). b ++ []) bytes)).0)

pub one_view : HoldsOneState → ChangesApart → OneView
one_view one_state apart tables contents some other s o = (
  one_state tables contents some.tables other.tables s.rows o.rows,
  λ table key inside.
      let n = numbered tables table inside in
      one_change apart table (some.pending table.name key) (other.pending table.name key) (s.pends.fits table key inside) (o.pends.fits table key inside)
      (sym (s.pends.stored n.0 table key n.1) ∙ o.pends.stored n.0 table key n.1),
)

pub new_shows : NewShows
unfolding net undo
new_shows tables = record {
  rows = record { rows = λ name key. tt; stored = λ number table key at. get-empty place_cmp (pos number, key) };
  pends = record { stored = λ number table key at. get-empty place_cmp (pos number, key); fits = λ table key inside. tt };
  sound = record { before_state = λ name key. tt; after_state = λ name key. tt; net_of = λ table key inside. refl };
}
