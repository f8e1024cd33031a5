-- Changesets that can be taken together have no fault.
use Rattle.std.proofs.Common.{◌≡◌, List, [], ◌∷◌, refl, ap, inl, inr}
use Rattle.std.specs.List.{AllByRecursion}
use Rattle.cs_value.specs.Catalog.{AreTables}
use Rattle.cs_value.specs.declared.catalog.TableDef.{TableDef}
use Rattle.cs_change.specs.declared.group.Group.{Group}
use Rattle.cs_normalising.specs.Laws.{NoFaultWhereFit}
use Rattle.cs_normalising.specs.NormalFormOf.{AreFit}
use Rattle.cs_normal.specs.declared.headers.HeaderFault.TheVariants as in_headers
use Rattle.cs_normalising.specs.declared.unfit.Unfit.{Unfit}
use Rattle.cs_normalising.specs.declared.unfit.Unfit.TheVariants as in_changes
use Rattle.cs_group.specs.Combined.{tables_of, HasCombineFault, HasFirstUnfitChangeset}
use Rattle.cs_group.specs.declared.combining.CombineFault.{CombineFault}
use Rattle.cs_group.specs.declared.combining.CombineFault.TheVariants.{Memory, Headers, Unfit as NoForm}
use Rattle.cs_ffi.specs.Answers.{no_memory}
use Rattle.cs_ffi.specs.CombinedAnswers.{combine_answer, CanCombine}

unfit_is_memory : NoFaultWhereFit → (fault : Unfit) (tables : List TableDef) (changesets : List (List Group)) → AreTables tables → AllByRecursion (AreFit tables) changesets → HasFirstUnfitChangeset fault tables changesets → fault ≡ in_changes.Memory
unfit_is_memory law fault tables [] are fit told = absurd told
unfit_is_memory law fault tables (groups ∷ others) are fit (inl told) = law fault tables groups are fit.0 told
unfit_is_memory law fault tables (groups ∷ others) are fit (inr told) = unfit_is_memory law fault tables others are fit.1 told.1

pub fault_is_memory : NoFaultWhereFit → (fault : CombineFault) (changesets : List (List Group)) → CanCombine changesets → HasCombineFault fault changesets → combine_answer fault ≡ no_memory
fault_is_memory law Memory changesets can told = refl
fault_is_memory law (Headers in_headers.Memory) changesets can told = refl
fault_is_memory law (Headers in_headers.Shape) changesets can told = absurd (can.catalog.0 told.1)
fault_is_memory law (Headers in_headers.BadCatalog) changesets can told = absurd (told.1.1 can.catalog.1)
fault_is_memory law (NoForm fault) changesets can told =
    ap (λ (f : Unfit). combine_answer (NoForm f)) (unfit_is_memory law fault (tables_of changesets) changesets can.catalog.1 can.fit told.2)
