-- What is pending, as one changeset.
use Rattle.std.specs.Prelude.{◌≡◌, ◌≢◌, ◌<◌, ◌≤◌, ℕ, List, [], length, Contains, IsUtf8}
use Rattle.std.specs.List.{AllByRecursion}
use Rattle.cs_value.specs.Catalog.{AreTables}
use Rattle.cs_value.specs.declared.catalog.TableDef.{TableDef}
use Rattle.cs_normal.specs.Normal.{FitsCatalog, IsNormalChangeset, change_of, normal_spelling}
use Rattle.cs_normal.specs.declared.normal.TableChanges.{TableChanges}
use Rattle.cs_store.specs.declared.log.entry.TheConstants.{MAX_CHANGESET}
use Rattle.cs_pending.specs.Shows.{ShowsRows}
use Rattle.cs_pending.specs.View.{Changed, View}
use Rattle.cs_store.specs.Contents.{Contents}
use Rattle.cs_pending.specs.declared.outgoing.gathering.Outgoing.{Outgoing}
use Rattle.cs_pending.specs.declared.outgoing.gathering.Outgoing.TheVariants.{Nothing, TooLarge, Changes}

-- a changeset in normal form that has, at each place of the tables, the change that is pending there
pub record IsPendingOf (tables : List TableDef) (pending : Changed) (changes : List TableChanges) : Type 0 where
  pub fits : FitsCatalog tables changes
  pub normal : IsNormalChangeset changes
  pub changes_are : (table : TableDef) (key : List ℕ) → Contains tables table → change_of table.name key changes ≡ pending table.name key

-- the changeset of what is pending, that there is nothing, or that it has more bytes than a push may have
abbrev pub IsOutgoing : List TableDef → Changed → Outgoing → Type 0
IsOutgoing tables pending Nothing = IsPendingOf tables pending []
IsOutgoing tables pending TooLarge =
    (changes : List TableChanges) × IsPendingOf tables pending changes × (MAX_CHANGESET < length (normal_spelling changes))
IsOutgoing tables pending (Changes changes) =
    IsPendingOf tables pending changes × (changes ≢ []) × (length (normal_spelling changes) ≤ MAX_CHANGESET)

-- there is one changeset of what is pending
abbrev pub OnePending : Type 0
OnePending =
    (tables : List TableDef) (pending : Changed) (some other : List TableChanges)
    → AreTables tables
    → IsPendingOf tables pending some
    → IsPendingOf tables pending other
    → some ≡ other

-- there is an answer: of what some contents show as pending, where the names of the tables are text
abbrev pub PendingIsOutgoing : Type 0
PendingIsOutgoing =
    (tables : List TableDef) (contents : Contents) (view : View)
    → AreTables tables
    → AllByRecursion (λ table. IsUtf8 table.name) tables
    → ShowsRows tables contents view
    → (outgoing : Outgoing) × IsOutgoing tables view.pending outgoing
