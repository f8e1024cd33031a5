-- Words and their tables, in order.
use Rattle.std.proofs.Common.{◌≡◌, inl, inr, ℕ, zero, suc, ◌+◌, ◌<◌, List, [], ◌∷◌, ◌++◌, length, map, take, get_or, refl, sym, ap, ap₂, arith, subst, take_all, ◌≤◌, length-take}
use Rattle.std.specs.List.{AllZip, HoldsAt}
use Rattle.std.proofs.lemmas.Bool.{cases_order}
use Rattle.std.proofs.lemmas.List.{map_more, get_or-map, get_or-take, length-map, take-take}
use Rattle.cs_value.specs.declared.catalog.TableDef.{TableDef}
use Rattle.cs_value.specs.declared.catalog.CatalogFault.{CatalogFault}
use Rattle.cs_value.specs.declared.catalog.CatalogFault.TheVariants.{Width, NoKey, TwiceNamed, Name, TooMany}
use Rattle.cs_value.specs.Catalog.{AreTables, IsCatalogFault, IsTable, IsTableFault, HasFirstTableFault}
use Rattle.cs_command.specs.TableWord.{SpellsTable}
use Rattle.cs_command.specs.Laws.{NoCatalogRefused, OneCatalog, OneRefusedWord}
use Rattle.cs_command.specs.CatalogWords.{IsCatalogOf, IsRefusedAt}
use Rattle.cs_command.proofs.WordLemmas.{spelled_once}

pub zip_more : (words : List (List ℕ)) (tables : List TableDef) (word : List ℕ) (table : TableDef)
    → AllZip SpellsTable words tables → SpellsTable word table → AllZip SpellsTable (words ++ word ∷ []) (tables ++ table ∷ [])
zip_more [] [] word table before now = (now, tt)
zip_more [] (t ∷ tables) word table before now = absurd before
zip_more (w ∷ words) [] word table before now = absurd before
zip_more (w ∷ words) (t ∷ tables) word table before now = (before.0, zip_more words tables word table before.1 now)

-- where a word spells no table, the words spell no tables
pub no_tables : (words : List (List ℕ)) (i : ℕ) (word : List ℕ) → i < length words → word ≡ get_or words i []
    → ((table : TableDef) → SpellsTable word table → ⊥) → (tables : List TableDef) → AllZip SpellsTable words tables → ⊥
no_tables [] i word lt is none tables all = absurd (omega arith)
no_tables (w ∷ words) i word lt is none [] all = absurd all
no_tables (w ∷ words) zero word lt is none (t ∷ tables) all =
    none t (subst (λ (l : List ℕ). SpellsTable l t) (sym is) all.0)
no_tables (w ∷ words) (suc i) word lt is none (t ∷ tables) all = no_tables words i word (omega arith) is none tables all.1

zip_once : (words : List (List ℕ)) (ones others : List TableDef) → AllZip SpellsTable words ones → AllZip SpellsTable words others → ones ≡ others
zip_once [] [] [] first second = refl
zip_once [] [] (u ∷ us) first second = absurd second
zip_once [] (t ∷ ts) others first second = absurd first
zip_once (w ∷ words) [] others first second = absurd first
zip_once (w ∷ words) (t ∷ ts) [] first second = absurd second
zip_once (w ∷ words) (t ∷ ts) (u ∷ us) first second =
    ap₂ (λ x xs. x ∷ xs) (spelled_once w t u first.0 second.0) (zip_once words ts us first.1 second.1)

none_such : TableDef
none_such = record { name = []; key_marks = [] }

-- tables with a fault are no catalog
fault_here : (fault : CatalogFault) (before : List TableDef) (table : TableDef) → IsTableFault fault before table → IsTable before table → ⊥
fault_here Width before table fault is = fault is.0
fault_here NoKey before table fault is = fault.1 is.1
fault_here Name before table fault is = fault.2 is.2
fault_here TwiceNamed before table fault is = fault.3 is.3
fault_here TooMany before table fault is = fault

fault_first : (fault : CatalogFault) (tables : List TableDef) → HasFirstTableFault fault tables → AreTables tables → ⊥
fault_first fault tables has are =
    fault_here fault (take has.0 tables) (get_or tables has.0 none_such) (has.3 none_such) (are.1 has.0 has.1 none_such)

fault_refuses : (fault : CatalogFault) (tables : List TableDef) → IsCatalogFault fault tables → AreTables tables → ⊥
fault_refuses TooMany tables fault are = omega arith
fault_refuses Width tables fault are = fault_first Width tables fault.1 are
fault_refuses NoKey tables fault are = fault_first NoKey tables fault.1 are
fault_refuses TwiceNamed tables fault are = fault_first TwiceNamed tables fault.1 are
fault_refuses Name tables fault are = fault_first Name tables fault.1 are

pub no_catalog : (words : List (List ℕ)) (spelled : List TableDef) (fault : CatalogFault) → AllZip SpellsTable words spelled
    → IsCatalogFault fault spelled → (tables : List TableDef) → IsCatalogOf words tables → ⊥
no_catalog words spelled fault all is = λ tables catalog.
    fault_refuses fault spelled is (subst AreTables (sym (zip_once words spelled tables all catalog.0)) catalog.1)

pub no_words : IsCatalogOf [] []
no_words = (tt, (omega arith, λ place lt. absurd (omega arith)))

pub map-take : {A B : Type 0} (f : A → B) (n : ℕ) (xs : List A) → map f (take n xs) ≡ take n (map f xs)
map-take f zero xs = refl
map-take f (suc n) [] = refl
map-take f (suc n) (x ∷ xs) = ap (λ l. f x ∷ l) (map-take f n xs)

-- the front of a catalog is one
zip_front : (n : ℕ) (words : List (List ℕ)) (tables : List TableDef) → AllZip SpellsTable words tables
    → AllZip SpellsTable (take n words) (take n tables)
zip_front zero words tables all = tt
zip_front (suc n) [] [] all = tt
zip_front (suc n) [] (t ∷ tables) all = absurd all
zip_front (suc n) (w ∷ words) [] all = absurd all
zip_front (suc n) (w ∷ words) (t ∷ tables) all = (all.0, zip_front n words tables all.1)

tables_front : (n : ℕ) (tables : List TableDef) → AreTables tables → AreTables (take n tables)
tables_front n tables are = (
  omega (arith, length-take n tables, are.0),
  λ place lt d.
      let below : place < n = omega (arith, length-take n tables, lt) in
      let within : place < length tables = omega (arith, length-take n tables, lt) in
      rw (take-take place n tables (omega (arith, below)), get_or-take n tables place d below) (are.1 place within d),
)

-- the front of words that are a catalog
catalog_front : (words : List (List ℕ)) (tables : List TableDef) (n : ℕ) → IsCatalogOf words tables
    → IsCatalogOf (take n words) (take n tables)
catalog_front words tables n catalog = (zip_front n words tables catalog.0, tables_front n tables catalog.1)

pub one_catalog : OneCatalog
one_catalog words tables others first second = zip_once words tables others first.0 second.0

pub no_catalog_refused : NoCatalogRefused
no_catalog_refused words tables place catalog refused =
    refused.1 (take (place + 1) tables) (catalog_front words tables (place + 1) catalog)

-- words are not refused at a place before another at which they are
refused_before : (words : List (List ℕ)) (place other : ℕ) → place < other → IsRefusedAt words place → IsRefusedAt words other → ⊥
refused_before words place other lt refused later =
    let front = catalog_front (take other words) later.0.0 (place + 1) later.0.1 in
    refused.1 (take (place + 1) later.0.0)
    (subst (λ (ws : List (List ℕ)). IsCatalogOf ws (take (place + 1) later.0.0)) (take-take (place + 1) other words (omega (arith, lt))) front)

pub one_refused_word : OneRefusedWord
one_refused_word words place other first second =
    elim (cases_order place other) [
      | inl same ↦ same
      | inr (inl before) ↦ absurd (refused_before words place other before first second)
      | inr (inr behind) ↦ absurd (refused_before words other place behind second first)
    ]

-- the same over things that hold a word each
module _ {A : Type 0} (word_of : A → List ℕ) (xs : List A) where
  pub zip_next : (i : ℕ) (d : A) (tables : List TableDef) (table : TableDef) → i < length xs
      → AllZip SpellsTable (map word_of (take i xs)) tables → SpellsTable (word_of (get_or xs i d)) table
      → AllZip SpellsTable (map word_of (take (i + 1) xs)) (tables ++ table ∷ [])
  zip_next i d tables table lt before now =
      subst (λ (ws : List (List ℕ)). AllZip SpellsTable ws (tables ++ table ∷ [])) (sym (map_more word_of xs i d lt))
      (zip_more (map word_of (take i xs)) tables (word_of (get_or xs i d)) table before now)

  pub no_catalog_at : (i : ℕ) (d : A) → i < length xs
      → ((table : TableDef) → SpellsTable (word_of (get_or xs i d)) table → ⊥)
      → (tables : List TableDef) → IsCatalogOf (map word_of xs) tables → ⊥
  no_catalog_at i d lt none = λ tables catalog.
      no_tables (map word_of xs) i (word_of (get_or xs i d)) (rw (length-map xs word_of) lt)
      (sym (get_or-map word_of xs i d [] lt)) none tables catalog.0

  pub all_words : (i : ℕ) (tables : List TableDef) → length xs ≤ i → AllZip SpellsTable (map word_of (take i xs)) tables
      → AllZip SpellsTable (map word_of xs) tables
  all_words i tables ge all = rw (take_all i xs ge) at all

  -- the words up to i are a catalog, and those up to i + 1 are none
  pub refused_next : (i : ℕ) (d : A) → i < length xs
      → (tables : List TableDef) × IsCatalogOf (map word_of (take i xs)) tables
      → ((tables : List TableDef) → IsCatalogOf (map word_of (take (i + 1) xs)) tables → ⊥)
      → (place : ℕ) × HoldsAt (λ w. w ≡ word_of (get_or xs i d)) (map word_of xs) place × IsRefusedAt (map word_of xs) place
  refused_next i d lt before none = (
    i,
    λ e. get_or-map word_of xs i d e lt,
    (
      subst (λ (ws : List (List ℕ)). (tables : List TableDef) × IsCatalogOf ws tables) (map-take word_of i xs) before,
      subst (λ (ws : List (List ℕ)). (tables : List TableDef) → IsCatalogOf ws tables → ⊥) (map-take word_of (i + 1) xs) none,
    ),
  )
