-- The tables that headers declare.
use Rattle.std.proofs.Common.{◌≡◌, ◌⊎◌, inl, inr, ℕ, List, [], ◌∷◌, Ok, Err, refl, subst}
use Rattle.std.specs.Prelude.{Result}
use Rattle.cs_value.specs.Catalog.{AreTables}
use Rattle.cs_value.specs.declared.catalog.TableDef.{TableDef}
use Rattle.cs_change.specs.declared.group.Group.{Group}
use Rattle.cs_normal.specs.Headers.{headers, tables_of_headers, HaveCatalog, HasTwoShapes, HasHeaderFault}
use Rattle.cs_normal.specs.declared.headers.HeaderFault.{HeaderFault}
use Rattle.cs_normal.specs.Laws.{NormalIsTaken}
use Rattle.cs_normal.specs.declared.headers.HeaderFault.TheVariants.{Memory, Shape, BadCatalog}
use Rattle.cs_normal.specs.declared.normal.TableChanges.{TableChanges}
use Rattle.cs_group.specs.Combined.{tables_of}
use Rattle.cs_ffi.specs.Answers.{no_memory}
use Rattle.cs_ffi.specs.NormalAnswers.{no_tables, undeclared, Declare, GivesForm, GivesNormal}
use Rattle.cs_ffi.specs.declared.answer.Answer.{Answer}

-- tables that are a catalog's are declared by the headers
pub given : (groups : List Group) (changesets : List (List Group)) (tables : List TableDef) → changesets ≡ groups ∷ [] → tables ≡ tables_of_headers (headers changesets) → (HasTwoShapes (headers changesets) → ⊥) → AreTables tables
    → HaveCatalog (headers (groups ∷ [])) × (tables ≡ tables_of (groups ∷ []))
given groups changesets tables one is shape are =
    let have : HaveCatalog (headers changesets) = (shape, subst AreTables is are) in (
      subst (λ (cs : List (List Group)). HaveCatalog (headers cs)) one have,
      subst (λ (cs : List (List Group)). tables ≡ tables_of_headers (headers cs)) one is,
    )

-- headers with a fault are no catalog's
no_catalog : (groups : List Group) (fault : HeaderFault) → HasHeaderFault fault (headers (groups ∷ [])) → (undeclared fault ≡ no_memory) ⊎ ((undeclared fault ≡ no_tables) × (HaveCatalog (headers (groups ∷ [])) → ⊥))
no_catalog groups Memory told = inl refl
no_catalog groups Shape told = inr (refl, λ have. have.0 told)
no_catalog groups BadCatalog told = inr (refl, λ have. told.1 have.1)

pub not_given : (groups : List Group) (changesets : List (List Group)) (fault : HeaderFault) → changesets ≡ groups ∷ [] → HasHeaderFault fault (headers changesets)
    → (undeclared fault ≡ no_memory) ⊎ ((undeclared fault ≡ no_tables) × (HaveCatalog (headers (groups ∷ [])) → ⊥))
not_given groups changesets fault one told =
    no_catalog groups fault (subst (λ (cs : List (List Group)). HasHeaderFault fault (headers cs)) one told)

-- the normal form by tables that are declared
pub gives_normal : NormalIsTaken → (declared input : List ℕ) (tables : List TableDef) → Declare declared tables → (given : Result (List TableChanges) Answer) → GivesForm tables input given → GivesNormal declared input given
gives_normal taken declared input tables declares (Ok normal) (groups, spells, form, shorter) =
    record {
      tables = tables;
      groups = groups;
      declares = declares;
      spells = spells;
      form = record { normal = normal; form = form; spelled = refl; taken = (taken normal form.normal).0; shorter = shorter };
    }
gives_normal taken declared input tables declares (Err answer) why = inr (inr (tables, declares, why))
