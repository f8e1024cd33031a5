-- What an edit makes of a replica (profile of this project).
use Rattle.std.specs.Prelude.{ℕ, List}
use Rattle.std.specs.FinMap.{len}
use Rattle.cs_value.specs.declared.catalog.TableDef.{TableDef}
use Rattle.cs_store.specs.Contents.{Contents}
use Rattle.cs_pending.specs.Edits.{Asked, Leads, edit}
use Rattle.cs_pending.specs.View.{View}
use Rattle.cs_pending.specs.position.Shows.{ShowsAt}
use Rattle.cs_pending.specs.declared.position.position.Position.{Position}

-- the position where so many changes are pending
abbrev pub with_pending : Position → ℕ → Position
with_pending position pending = record position { pending = pending }

-- contents that show the replica after a step of its view, at the same version, number and flight
abbrev pub IsSteppedIn : List TableDef → Position → (View → View → Type 0) → Contents → Contents → Type 0
IsSteppedIn tables position step old new =
    (view : View) → ShowsAt tables old position view
    → (next : View) × step view next × ShowsAt tables new (with_pending position (len new.pending)) next

-- after an edit
abbrev pub IsEditedIn : List TableDef → Position → List ℕ → Asked → Contents → Contents → Type 0
IsEditedIn tables position name asked old new = IsSteppedIn tables position (Leads (edit tables name asked)) old new
