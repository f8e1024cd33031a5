-- Edits of rows and of pending changes in the making, place by place.
use Rattle.std.specs.Prelude.{◌≡◌, ◌+◌, ◌-◌, ◌++◌, ◌∷◌, [], ℕ, Bool, true, false, if◌then◌else◌, List, Option, Some, option_map, IfSome, Ok, Result, slice_get, length, ◌<◌, fold, Contains}
use Rattle.std.specs.List.{AllByRecursion}
use Rattle.std.specs.FinMap.{len}
use Rattle.cs_value.specs.declared.catalog.TableDef.{TableDef}
use Rattle.cs_record.specs.Spelling.{row_bytes}
use Rattle.cs_change.specs.Spelling.{change_spelling, FitsChange}
use Rattle.cs_store.specs.Contents.{Contents, stored_tables, stored_pending}
use Rattle.cs_store.specs.Laws.{row_after}
use Rattle.cs_store.specs.Written.{edit_body}
use Rattle.cs_store.specs.edits.Edits.{BodyEdit}
use Rattle.cs_pending.specs.View.{View}
use Rattle.cs_pending.specs.Shows.{IsSoundOf, SameRest, ShowsRows}
use Rattle.cs_pending.specs.declared.settling.Settling.{Settling}

-- a count, less one where a change was pending, and one more where one is
abbrev pub recount : ℕ → Bool → Bool → ℕ
recount count was is = count - (if was then 1 else 0) + (if is then 1 else 0)

-- an edit of this place was appended, that sets this body or none; or nothing was
abbrev pub IsPushed : Bool → ℕ → List ℕ → Option (List ℕ) → List BodyEdit → List BodyEdit → Type 0
IsPushed false number key body old new = new ≡ old
IsPushed true number key body old new =
    (edit : BodyEdit) × (new ≡ old ++ edit ∷ []) × (edit.table ≡ number) × (edit.key ≡ key) × (edit.body ≡ body)

-- the edits are of places of the tables
abbrev pub AreWithin : List TableDef → List BodyEdit → Type 0
AreWithin tables edits = AllByRecursion (λ (edit : BodyEdit). edit.table < length tables) edits

abbrev pub IsWithin : List TableDef → Settling → Type 0
IsWithin tables settling = AreWithin tables settling.rows × AreWithin tables settling.pending

-- the edits, made of what the contents hold, lead to this view; `begun` is the count of pending changes that they began with
pub record Settles (tables : List TableDef) (contents : Contents) (begun : ℕ) (settling : Settling) (view : View) : Type 0 where
  pub rows_are : (number : ℕ) (table : TableDef) (key : List ℕ) → slice_get tables number ≡ Some table
      → row_after settling.rows number key (stored_tables contents number key) ≡ option_map row_bytes (view.tables table.name key)
  pub pending_are : (number : ℕ) (table : TableDef) (key : List ℕ) → slice_get tables number ≡ Some table
      → row_after settling.pending number key (stored_pending contents number key) ≡ option_map change_spelling (view.pending table.name key)
  pub fits : (table : TableDef) (key : List ℕ) → Contains tables table → IfSome (view.pending table.name key) (FitsChange table.key_marks)
  pub sound : IsSoundOf tables view.pending view.tables
  -- where the count was right, it is right after the edits
  pub counted : begun ≡ len contents.pending → settling.count ≡ len (fold edit_body contents.pending settling.pending)

-- they lead to some view
abbrev pub SettlesSome : List TableDef → Contents → Settling → Type 0
SettlesSome tables contents settling = (begun : ℕ) × (view : View) × Settles tables contents begun settling view

-- they lead to the view that a step leads to from this one
abbrev pub IsStaged : {E : Type 0} → List TableDef → Contents → ℕ → (View → Result View E) → View → Settling → Type 0
IsStaged tables contents begun step view settling = (next : View) × (step view ≡ Ok next) × Settles tables contents begun settling next

-- contents that show the view to which the edits lead, and else the same; the count is right where it was
pub record IsSettledIn (tables : List TableDef) (settling : Settling) (old new : Contents) : Type 0 where
  pub rest : SameRest tables old new
  pub shows : (begun : ℕ) (view : View) → Settles tables old begun settling view → ShowsRows tables new view
  pub counted : (begun : ℕ) (view : View) → Settles tables old begun settling view → begun ≡ len old.pending → settling.count ≡ len new.pending
