-- The headers that come in are headers of the tables that are written.
use Rattle.std.proofs.Common.{List, [], ◌∷◌, ◌++◌, get_or, subst}
use Rattle.std.specs.List.{AllByRecursion, flat_map}
use Rattle.std.proofs.lemmas.List.{append-nil}
use Rattle.std.proofs.lemmas.List.Elements.{All-from_recursion, recursion_from_All}
use Rattle.cs_blob.specs.Spelling.{FitsBlob}
use Rattle.cs_blob.specs.declared.blob.BlobGroup.{BlobGroup}
use Rattle.cs_normal.specs.keyed.Changes.{Changes}
use Rattle.cs_normal.specs.declared.normal.TableChanges.{TableChanges}
use Rattle.cs_rebaser.specs.Rebased.{HasShapeOf, HaveShapes, rebased, rebased_changes, with_changes}
use Rattle.cs_rebaser.specs.RebasedLaws.{RebasedIsNormal}
use Rattle.cs_column_bytes.specs.KeyPlaces.{Head, heads_of, blob_heads_of}
use Rattle.cs_column_bytes.specs.Laws.{AreHeadsOf, HeadsOfCatalog, IsHeadOf, StaysTheSame}
use Rattle.cs_tools.specs.Laws.{CombinedStaysTheSame, RebasedStaysTheSame}

-- all headers are of this table
abbrev AllOf : List Head → TableChanges → Type 0
AllOf heads table = AllByRecursion (λ (head : Head). IsHeadOf head table) heads

are_heads : (heads : List Head) (all : List TableChanges) → AllByRecursion (AllOf heads) all → AreHeadsOf heads all
are_heads heads all each k d less =
    All-from_recursion (λ (head : Head). IsHeadOf head (get_or all k d)) heads (All-from_recursion (AllOf heads) all each k d less)

each_of : (heads : List Head) (all : List TableChanges) → AreHeadsOf heads all → AllByRecursion (AllOf heads) all
each_of heads all are =
    recursion_from_All (AllOf heads) all (λ k d less. recursion_from_All (λ (head : Head). IsHeadOf head (get_or all k d)) heads (are k d less))

both_parts : {X : Type 0} (P : X → Type 0) (front back : List X) → AllByRecursion P front → AllByRecursion P back → AllByRecursion P (front ++ back)
both_parts P [] back each rest = rest
both_parts P (x ∷ front) back each rest = (each.0, both_parts P front back each.1 rest)

pub combined_stays : HeadsOfCatalog → StaysTheSame → CombinedStaysTheSame
combined_stays of_catalog stays changesets both fits combined =
    stays (flat_map heads_of changesets) both combined.normal (of_catalog changesets both fits combined.catalog combined.of_catalog)

-- ---- over a blob

blob_heads : (table : TableChanges) (blob : List BlobGroup) → FitsBlob blob
    → AllByRecursion (λ (group : BlobGroup). HasShapeOf group table) blob → AllOf (blob_heads_of blob) table
blob_heads table [] fits shapes = tt
blob_heads table (group ∷ blob) fits shapes =
    ((λ same. (shapes.0 same, fits.0.0)), blob_heads table blob fits.1 shapes.1)

-- a table with the changes that are left has the same headers
left_heads : (heads : List Head) (table : TableChanges) (changes : Changes) → AllOf heads table → AllByRecursion (AllOf heads) (with_changes table changes)
left_heads heads table [] each = tt
left_heads heads table (first ∷ others) each = (each, tt)

rebased_heads : (heads : List Head) (blob : List BlobGroup) (local : List TableChanges) → AllByRecursion (AllOf heads) local
    → AllByRecursion (AllOf heads) (rebased blob local)
rebased_heads heads blob [] each = tt
rebased_heads heads blob (table ∷ local) each =
    both_parts (AllOf heads) (with_changes table (rebased_changes blob table.name table.marks table.changes)) (rebased blob local)
    (left_heads heads table (rebased_changes blob table.name table.marks table.changes) each.0) (rebased_heads heads blob local each.1)

-- each table of the list has its fact, and each header of both parts is one of it
heads_of_both : (heads : List Head) (blob : List BlobGroup) (local : List TableChanges) → FitsBlob blob → HaveShapes blob local
    → AllByRecursion (AllOf heads) local → AllByRecursion (AllOf (heads ++ blob_heads_of blob)) local
heads_of_both heads blob local fits shapes each =
    recursion_from_All (AllOf (heads ++ blob_heads_of blob)) local (λ k d less.
    let table = get_or local k d in
    both_parts (λ (head : Head). IsHeadOf head table) heads (blob_heads_of blob) (All-from_recursion (AllOf heads) local each k d less)
    (blob_heads table blob fits (recursion_from_All (λ (group : BlobGroup). HasShapeOf group table) blob (λ j e within. shapes j e within k d less))))

pub rebased_stays : HeadsOfCatalog → RebasedIsNormal → StaysTheSame → RebasedStaysTheSame
rebased_stays of_catalog stays_normal stays groups blob local made fits blob_fits combined is =
    let heads = heads_of groups ++ blob_heads_of blob in
    let alone : AreHeadsOf (heads_of groups ++ []) local = of_catalog (groups ∷ []) local (fits, tt) combined.catalog combined.of_catalog in
    let here : AreHeadsOf (heads_of groups) local = subst (λ (hs : List Head). AreHeadsOf hs local) (append-nil (heads_of groups)) alone in
    let both = rebased_heads heads blob local (heads_of_both (heads_of groups) blob local blob_fits is.1 (each_of (heads_of groups) local here)) in
    rw is.2 (stays heads (rebased blob local) (stays_normal blob local blob_fits is.1 combined.normal) (are_heads heads (rebased blob local) both))
