-- A changeset with the column bytes of the headers that declare its tables.
use Rattle.std.proofs.Common.{◌≡◌, ◌≤◌, ℕ, List, [], ◌∷◌, length, ap, append-nil, subst, ◌∙◌}
use Rattle.cs_value.specs.declared.catalog.TableDef.{TableDef}
use Rattle.cs_change.specs.declared.group.Group.{Group}
use Rattle.cs_change.specs.Spelling.{changeset_spelling}
use Rattle.cs_normal.specs.Headers.{headers, HaveCatalog}
use Rattle.cs_normal.specs.Laws.{NormalIsTaken}
use Rattle.cs_normal.specs.Normal.{groups_of, normal_spelling, FitsCatalog}
use Rattle.cs_normalising.specs.NormalFormOf.{IsNormalFormOf}
use Rattle.cs_normal.specs.declared.normal.TableChanges.{TableChanges}
use Rattle.cs_group.specs.Combined.{tables_of}
use Rattle.cs_column_bytes.specs.KeyPlaces.{Head, heads_of, for_sqlite, sqlite_spelling, HaveOneOrder}
use Rattle.cs_column_bytes.specs.Laws.{AreHeadsOf, HeadsOfCatalog, SameLength, StaysTheSame}
use Rattle.cs_ffi.specs.Answers.{Spell}
use Rattle.cs_ffi.specs.NormalAnswers.{Declare}
use Rattle.cs_ffi.specs.SqliteAnswers.{DeclareInOrder, SpellForSqlite}

-- tables that headers of one order declare
abbrev pub in_one_order : (declared : List ℕ) (groups : List Group) (tables : List TableDef) → Spell declared groups → HaveCatalog (headers (groups ∷ [])) × (tables ≡ tables_of (groups ∷ [])) → HaveOneOrder (heads_of groups) → DeclareInOrder declared tables
in_one_order declared groups tables spells have order =
    let declares : Declare declared tables = record { groups = groups; spells = spells; catalog = have.0; are = have.1 } in
    record { declares = declares; order = order }

-- the headers that declare a catalog's tables are headers of a changeset of that catalog
are_heads : HeadsOfCatalog → (declared : List ℕ) (tables : List TableDef) (normal : List TableChanges) (declares : Declare declared tables) → FitsCatalog tables normal → AreHeadsOf (heads_of declares.groups) normal
are_heads law declared tables normal declares of =
    let groups : List Group = declares.groups in
    let fits = subst (λ (t : List TableDef). FitsCatalog t normal) declares.are of in
    subst (λ (heads : List Head). AreHeadsOf heads normal) (append-nil (heads_of groups)) (law (groups ∷ []) normal (declares.spells.0, tt) declares.catalog fits)

-- the normal form, with the column bytes of those headers
pub spelled : NormalIsTaken → HeadsOfCatalog → StaysTheSame → SameLength → (declared input bytes : List ℕ) (tables : List TableDef) (normal : List TableChanges) (declares : DeclareInOrder declared tables)
    → (groups : List Group) × Spell input groups × IsNormalFormOf tables groups normal × (length (normal_spelling normal) ≤ length (changeset_spelling groups))
    → bytes ≡ sqlite_spelling (heads_of declares.declares.groups) normal → SpellForSqlite declared input bytes
spelled taken law stays many declared input bytes tables normal declares (groups, spells, form, less) is =
    let heads : List Head = heads_of declares.declares.groups in
    let alike = stays heads normal form.normal (are_heads law declared tables normal declares.declares form.of_catalog) in
    let long : length bytes ≡ length (normal_spelling normal) =
    ap length is ∙ many (for_sqlite heads normal) (groups_of normal) alike.0 ∙ ap length (taken normal form.normal).1 in
    record {
      tables = tables;
      groups = groups;
      normal = normal;
      declares = declares;
      spells = spells;
      form = form;
      spelled = is;
      taken = alike.1;
      shorter = rw long less;
    }
