-- What entries do: changes, or a table that gets more columns.
use Rattle.std.proofs.Common.{◌≡◌, ◌∙◌, ℕ, List, [], Some, refl, sym, ap, subst, inl, inr}
use Rattle.cs_value.specs.Catalog.{AreTables}
use Rattle.cs_value.specs.Decided.{OrNot}
use Rattle.cs_value.specs.declared.catalog.TableDef.{TableDef}
use Rattle.cs_normal.specs.State.{IsDefinedOn, State}
use Rattle.cs_normal.specs.declared.normal.TableChanges.{TableChanges}
use Rattle.cs_conflict.specs.declared.clash.Clash.{Clash}
use Rattle.cs_conflict.specs.declared.wish.Wish.{Wish}
use Rattle.cs_store.specs.log.Entry.{MayWiden, WidensNone, changes_of_body, entry_changes}
use Rattle.cs_store.specs.log.Laws.{NextOrNot}
use Rattle.cs_store.specs.log.Log.{catalog_after}
use Rattle.cs_store.specs.declared.log.body.Body.{Body}
use Rattle.cs_store.specs.declared.log.body.Body.TheVariants.{Changes, Widen}
use Rattle.cs_store.specs.declared.log.entry.LogEntry.{LogEntry}
use Rattle.cs_pending.specs.View.{View}
use Rattle.cs_pending.specs.declared.position.position.Position.{Position}
use Rattle.cs_widening.specs.Laws.{WidenedAreTables}
use Rattle.cs_exchange.specs.pulling.Pulls.{IsOwn, IsPulledBody, PullsOne}

-- a body that widens no table may be there
pub may_widen : (tables : List TableDef) (body : Body) → WidensNone body → MayWiden tables body
may_widen tables (Changes changes) plain = tt
may_widen tables (Widen table width) plain = absurd plain

-- no change is defined everywhere
pub no_changes_defined : (tables : List TableDef) (state : State) → IsDefinedOn tables [] state
no_changes_defined tables state = (tt, λ name key. refl)

-- a table may be widened so, or may not
pub may_or_not : NextOrNot → (tables : List TableDef) (table : List ℕ) (width : ℕ) → OrNot (MayWiden tables (Widen table width))
may_or_not next_or_not tables table width =
    elim (next_or_not tables [] (record { origin = 0; number = 0; body = Widen table width }) tt) [
      | inl next ↦ inl next.widens
      | inr never ↦ inr (λ may. never (record { normal = tt; defined = (tt, λ name key. refl); widens = may }))
    ]

pub own_flies : (position : Position) (entry : LogEntry) → IsOwn position entry → position.flight ≡ Some (entry_changes entry)
own_flies position entry own = own.under_way ∙ ap (λ (cs : List TableChanges). Some cs) (sym (ap changes_of_body own.body))

-- the push that is under way leaves the catalog as it is
pub own_catalog : (tables : List TableDef) (position : Position) (entry : LogEntry) → IsOwn position entry → catalog_after tables entry.body ≡ tables
own_catalog tables position entry own = ap (catalog_after tables) own.body

-- an entry that is pulled leaves tables
module _ (law : WidenedAreTables) {P : Type 0} (picks : P → Clash → Wish → P → Type 0) (tables : List TableDef) (position : Position) (before after : View) (p q : P) (are : AreTables tables) where
  body_tables : (body : Body) → IsPulledBody picks tables position.flight body before after p q → AreTables (catalog_after tables body)
  body_tables (Changes changes) is = are
  body_tables (Widen table width) is = law tables table width are is.0.may

  pub next_tables : (entry : LogEntry) → PullsOne picks tables position entry before p after q → AreTables (catalog_after tables entry.body)
  next_tables entry (room, inl (own, same, asked)) = subst AreTables (sym (own_catalog tables position entry own)) are
  next_tables entry (room, inr (others, takes)) = body_tables entry.body takes
