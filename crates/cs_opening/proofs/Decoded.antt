-- What the bytes of values tell: numbers, and the headers of tables.
use Rattle.std.proofs.Common.{◌≡◌, ◌<◌, ◌^◌, ◌++◌, ◌⊎◌, inl, inr, ℕ, suc, Bool, List, [], ◌∷◌, drop, length, map, Result, Ok, Err, refl, sym, ap, ap₂, subst, ◌∙◌, arith, append-nil}
use Rattle.std.specs.Prelude.{Contains, IsUtf8}
use Rattle.std.specs.List.{AllByRecursion}
use Rattle.cs_value.specs.Catalog.{AreTables}
use Rattle.cs_value.specs.declared.catalog.TableDef.{TableDef}
use Rattle.cs_change.specs.Facts.{marks_stay}
use Rattle.cs_change.specs.Spelling.{FitsChangeset, changeset_spelling, flag_byte, header_spelling}
use Rattle.cs_change.specs.declared.group.Group.{Group}
use Rattle.cs_normal.specs.Headers.{header}
use Rattle.cs_normal.specs.Laws.{HeadersFit}
use Rattle.cs_normal.specs.Normal.{normal_spelling}
use Rattle.cs_normal.specs.declared.normal.TableChanges.{TableChanges}
use Rattle.cs_store.specs.declared.log.fault.BodyFault.{BodyFault}
use Rattle.cs_store.specs.declared.log.fault.BodyFault.TheVariants.{Memory, NoBody}
use Rattle.cs_wire.specs.Numbers.{eight_bytes}
use Rattle.cs_wire.specs.OneSpelling.{after_eight, eight, eight_back, eight_length, eight_rest}
use Rattle.cs_pending.specs.position.Values.{catalog_bytes}
use Rattle.cs_opening.specs.Kept.{IsCatalogValue, IsFlightValue, IsPendingValue}

-- ---- numbers

no_more : (rest : List ℕ) → length rest ≡ 0 → rest ≡ []
no_more [] e = refl
no_more (x ∷ rest) e = absurd (omega (arith, e))

pub too_short : (bytes : List ℕ) (number : ℕ) → length bytes < 8 → bytes ≡ eight_bytes number → ⊥
too_short bytes number short is = let long = ap length is ∙ eight_length number in absurd (omega (arith, short, long))

pub one_number : (bytes rest : List ℕ) (read number : ℕ) → read < 2 ^ 64 → number < 2 ^ 64 → bytes ≡ eight_bytes read ++ rest → bytes ≡ eight_bytes number → (read ≡ number) × (rest ≡ [])
one_number bytes rest read number r n is other =
    let both : eight_bytes number ++ [] ≡ eight_bytes read ++ rest = append-nil (eight_bytes number) ∙ sym other ∙ is in (
      sym (eight_back read rest r) ∙ ap eight (sym both) ∙ eight_back number [] n,
      no_more rest (let long = after_eight bytes rest read is in let short = ap length other ∙ eight_length number in omega (arith, long, short)),
    )

pub whole_number : (bytes rest : List ℕ) (read : ℕ) → bytes ≡ eight_bytes read ++ rest → rest ≡ [] → bytes ≡ eight_bytes read
whole_number bytes rest read is none = is ∙ ap (λ (r : List ℕ). eight_bytes read ++ r) none ∙ append-nil (eight_bytes read)

-- ---- a push under way

pub no_flight : (bytes : List ℕ) (tables : List TableDef) (number : ℕ) (changes : List TableChanges) → length bytes < 8 → IsFlightValue tables number bytes changes → ⊥
no_flight bytes tables number changes short value =
    let long = after_eight bytes (normal_spelling changes) number value.spelled in absurd (omega (arith, short, long))

pub flight_parts : (bytes own_changes : List ℕ) (own number : ℕ) (tables : List TableDef) (changes : List TableChanges) → own < 2 ^ 64 → number < 2 ^ 64 → bytes ≡ eight_bytes own ++ own_changes → IsFlightValue tables number bytes changes
    → (own ≡ number) × (own_changes ≡ normal_spelling changes)
flight_parts bytes own_changes own number tables changes o n is value =
    let both : eight_bytes number ++ normal_spelling changes ≡ eight_bytes own ++ own_changes = sym value.spelled ∙ is in (
      sym (eight_back own own_changes o) ∙ ap eight (sym both) ∙ eight_back number (normal_spelling changes) n,
      sym (eight_rest own own_changes) ∙ ap (drop 8) (sym both) ∙ eight_rest number (normal_spelling changes),
    )

-- what is behind the number are the changes
pub value_of : (bytes own_changes : List ℕ) (own number : ℕ) (tables : List TableDef) (changes : List TableChanges) → own < 2 ^ 64 → number < 2 ^ 64 → bytes ≡ eight_bytes own ++ own_changes → IsFlightValue tables number bytes changes
    → IsPendingValue tables own_changes changes
value_of bytes own_changes own number tables changes o n is value =
    record { fits = value.fits; normal = value.normal; size = value.size; spelled = (flight_parts bytes own_changes own number tables changes o n is value).1 }

-- changes that were read, or weren't
pub read_is : (read changes : List TableChanges) → (◌≡◌ {A = Result (List TableChanges) BodyFault} (Ok read) (Ok changes)) ⊎ (◌≡◌ {A = Result (List TableChanges) BodyFault} (Ok read) (Err Memory)) → read ≡ changes
read_is read changes (inl e) = let f = e in cc
read_is read changes (inr e) = absurd (let no = e in cc)

pub not_refused : (changes : List TableChanges) → (◌≡◌ {A = Result (List TableChanges) BodyFault} (Err NoBody) (Ok changes)) ⊎ (◌≡◌ {A = Result (List TableChanges) BodyFault} (Err NoBody) (Err Memory)) → ⊥
not_refused changes (inl e) = absurd (let no = e in cc)
not_refused changes (inr e) = absurd (let no = e in cc)

-- ---- headers

-- a group for each table, with no changes
group_of : TableDef → Group
group_of table = record { marks = map flag_byte table.key_marks; name = table.name; changes = [] }

pub groups_of : List TableDef → List Group
groups_of tables = map group_of tables

spelled_groups : (tables : List TableDef) → changeset_spelling (groups_of tables) ≡ catalog_bytes tables
unfolding groups_of group_of
spelled_groups [] = refl
spelled_groups (table ∷ tables) = ap₂ (λ (x y : List ℕ). x ++ y) (append-nil (header_spelling (map flag_byte table.key_marks) table.name)) (spelled_groups tables)

abbrev headed : List ℕ → List Bool → TableDef
headed name marks = record { name = name; key_marks = marks }

pub headers_of : (tables : List TableDef) → map header (groups_of tables) ≡ tables
unfolding groups_of group_of
headers_of [] = refl
headers_of (table ∷ tables) =
    ap₂ (λ (t : TableDef) (ts : List TableDef). t ∷ ts) (ap (headed table.name) (marks_stay table.key_marks)) (headers_of tables)

fit_groups : HeadersFit → (all : List TableDef) → AreTables all → (tables : List TableDef) → ((table : TableDef) → Contains tables table → Contains all table) → AllByRecursion (λ (table : TableDef). IsUtf8 table.name) tables → FitsChangeset (groups_of tables)
unfolding groups_of group_of
fit_groups law all are [] among named = tt
fit_groups law all are (table ∷ tables) among named =
    ((law all table are (among table (0, omega arith, refl)) named.0, tt), fit_groups law all are tables (λ t inside. among t (behind t inside)) named.1)
  where
    behind : (t : TableDef) → Contains tables t → Contains (table ∷ tables) t
    behind t (i, within, is) = (suc i, omega (arith, within), is)

named_headers : (groups : List Group) → FitsChangeset groups → AllByRecursion (λ (table : TableDef). IsUtf8 table.name) (map header groups)
named_headers [] fits = tt
named_headers (group ∷ groups) fits = (fits.0.0.text, named_headers groups fits.1)

-- bytes that are a catalog are the groups of its tables
pub spells_groups : HeadersFit → (bytes : List ℕ) (tables : List TableDef) → IsCatalogValue bytes tables → FitsChangeset (groups_of tables) × (bytes ≡ changeset_spelling (groups_of tables))
spells_groups law bytes tables value =
    (fit_groups law tables value.are tables (λ t inside. inside) value.named, value.spelled ∙ sym (spelled_groups tables))

pub read_tables : (groups : List Group) (tables : List TableDef) → groups ≡ groups_of tables → map header groups ≡ tables
read_tables groups tables is = ap (map header) is ∙ headers_of tables

pub made : (groups shown : List Group) (none items : List TableDef) → shown ≡ groups → none ≡ [] → items ≡ none ++ map header shown → items ≡ map header groups
made groups shown none items s n is = is ∙ ap₂ (λ (a : List TableDef) (b : List Group). a ++ map header b) n s

pub is_catalog : (bytes : List ℕ) (groups : List Group) (tables : List TableDef) → FitsChangeset groups → tables ≡ map header groups → AreTables tables → bytes ≡ catalog_bytes tables → IsCatalogValue bytes tables
is_catalog bytes groups tables fits is are spelled =
    record { are = are; named = subst (λ (ts : List TableDef). AllByRecursion (λ (table : TableDef). IsUtf8 table.name) ts) (sym is) (named_headers groups fits); spelled = spelled }
