-- The normal form of the groups in front, where these are all.
use Rattle.std.proofs.Common.{◌≡◌, ℕ, ◌<◌, ◌≤◌, List, length, take, drop, subst, arith, Option, Some, None}
use Rattle.std.specs.List.{HoldsAt}
use Rattle.std.specs.Option.{MatchOption}
use Rattle.std.proofs.lemmas.List.{take_all, take-append-drop}
use Rattle.cs_value.specs.Catalog.{AreTables}
use Rattle.cs_value.specs.declared.catalog.TableDef.{TableDef}
use Rattle.cs_change.specs.Spelling.{FitsChangeset, changeset_spelling}
use Rattle.cs_change.specs.declared.group.Group.{Group}
use Rattle.cs_normal.specs.Normal.{IsNormalChangeset, normal_spelling}
use Rattle.cs_normalising.specs.NormalFormOf.{HaveTables, IsNormalFormOf, IsUnfit}
use Rattle.cs_normalising.specs.Steps.TableByTable.{AreTablesOf, IsUnfitHeader}
use Rattle.cs_normal.specs.declared.normal.TableChanges.{TableChanges}
use Rattle.cs_normalising.specs.declared.unfit.Unfit.{Unfit}
use Rattle.cs_normalising.proofs.AsRead.{all_shape, all_read}
use Rattle.cs_normalising.proofs.GroupFaults.{header_unfit, unfit_more}
use Rattle.cs_normal.specs.NormalFacts.{are_apart, fitting_normal}
use Rattle.cs_normalising.proofs.PerTable.{have_keys, fits_catalog, forms_all}
use Rattle.cs_normalising.proofs.ReadAgain.{tables_normal}
use Rattle.cs_normalising.proofs.Shorter.{is_shorter}

-- the groups up to where a header is wrong, or to the end
pub record IsFront (tables : List TableDef) (groups : List Group) (count : ℕ) (stop : Option Unfit) : Type 0 where
  pub within : count ≤ length groups
  pub fit : HaveTables tables (take count groups)
  pub next : MatchOption stop (count ≡ length groups) (λ fault. (count < length groups) × HoldsAt (IsUnfitHeader fault tables) groups count)

-- the same, told of equal groups and of an equal stop
pub front_of : {tables : List TableDef} {all groups : List Group} {count : ℕ} {told stop : Option Unfit} → all ≡ groups → told ≡ stop → count ≤ length all → HaveTables tables (take count all) → MatchOption told (count ≡ length all) (λ fault. (count < length all) × HoldsAt (IsUnfitHeader fault tables) all count) → IsFront tables groups count stop
front_of {tables} {all} {groups} {count} {told} {stop} same is within fit next =
    record { within = rw same at within; fit = rw same at fit; next = rw (is, same) at next }

module _ (tables : List TableDef) (groups : List Group) (count : ℕ) (are : AreTables tables) where
  -- all headers fit
  module _ (front : IsFront tables groups count None) (normal : List TableChanges) (made : AreTablesOf (take count groups) tables normal) where
    all : take count groups ≡ groups
    all = take_all count groups (omega (arith, front.next))

    have : HaveTables tables groups
    have = subst (HaveTables tables) all front.fit

    made_all : AreTablesOf groups tables normal
    made_all = subst (λ (gs : List Group). AreTablesOf gs tables normal) all made

    pub all_normal : FitsChangeset groups → IsNormalChangeset normal
    all_normal fits =
        fitting_normal tables normal (are_apart tables are) (fits_catalog made_all) (tables_normal fits (all_shape tables groups are have) (all_read tables groups are have fits) made_all)

    pub all_form : FitsChangeset groups → IsNormalFormOf tables groups normal
    all_form fits = record {
      fit = (have, have_keys made_all);
      normal = all_normal fits;
      of_catalog = fits_catalog made_all;
      each = forms_all (are_apart tables are) made_all;
    }

    pub all_shorter : length (normal_spelling normal) ≤ length (changeset_spelling groups)
    all_shorter = is_shorter (are_apart tables are) (all_shape tables groups are have) made_all

  -- the next header is wrong
  pub stop_unfit : (fault : Unfit) (normal : List TableChanges) → IsFront tables groups count (Some fault) → AreTablesOf (take count groups) tables normal → IsUnfit fault tables groups
  stop_unfit fault normal front made =
      header_unfit fault tables groups count front.next.0 (front.fit, have_keys made) front.next.1

  -- what is wrong in front is wrong
  pub front_unfit : (fault : Unfit) → IsUnfit fault tables (take count groups) → IsUnfit fault tables groups
  front_unfit fault unfit =
      subst (IsUnfit fault tables) (take-append-drop count groups) (unfit_more fault tables (take count groups) (drop count groups) unfit)
