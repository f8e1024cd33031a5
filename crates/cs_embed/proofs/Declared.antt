-- The tables that headers declare.
use Rattle.std.proofs.Common.{◌≡◌, ◌⊎◌, inl, inr, List, [], ◌∷◌, refl, subst}
use Rattle.cs_value.specs.Catalog.{AreTables}
use Rattle.cs_value.specs.declared.catalog.TableDef.{TableDef}
use Rattle.cs_change.specs.declared.group.Group.{Group}
use Rattle.cs_normal.specs.Headers.{HaveCatalog, HasHeaderFault, HasTwoShapes, headers, tables_of_headers}
use Rattle.cs_normal.specs.declared.headers.HeaderFault.{HeaderFault}
use Rattle.cs_normal.specs.declared.headers.HeaderFault.TheVariants.{Memory, Shape, BadCatalog}
use Rattle.cs_embed.specs.Answers.{no_memory, no_tables}
use Rattle.cs_embed.specs.Tables.{HaveTables, of_headers}

-- tables that are a catalog's are declared by the headers
pub given : (groups : List Group) (changesets : List (List Group)) (tables : List TableDef) → changesets ≡ groups ∷ [] → tables ≡ tables_of_headers (headers changesets) → (HasTwoShapes (headers changesets) → ⊥) → AreTables tables
    → HaveTables groups tables
given groups changesets tables one is shape are =
    let have : HaveCatalog (headers changesets) = (shape, subst AreTables is are) in (
      subst (λ (cs : List (List Group)). HaveCatalog (headers cs)) one have,
      subst (λ (cs : List (List Group)). tables ≡ tables_of_headers (headers cs)) one is,
    )

-- headers with a fault are no catalog's
no_catalog : (groups : List Group) (fault : HeaderFault) → HasHeaderFault fault (headers (groups ∷ [])) → (of_headers fault ≡ no_memory) ⊎ ((of_headers fault ≡ no_tables) × (HaveCatalog (headers (groups ∷ [])) → ⊥))
no_catalog groups Memory told = inl refl
no_catalog groups Shape told = inr (refl, λ have. have.0 told)
no_catalog groups BadCatalog told = inr (refl, λ have. told.1 have.1)

pub not_given : (groups : List Group) (changesets : List (List Group)) (fault : HeaderFault) → changesets ≡ groups ∷ [] → HasHeaderFault fault (headers changesets)
    → (of_headers fault ≡ no_memory) ⊎ ((of_headers fault ≡ no_tables) × (HaveCatalog (headers (groups ∷ [])) → ⊥))
not_given groups changesets fault one told =
    no_catalog groups fault (subst (λ (cs : List (List Group)). HasHeaderFault fault (headers cs)) one told)
