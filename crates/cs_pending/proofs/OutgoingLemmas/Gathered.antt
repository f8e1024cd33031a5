-- The pending changes of tables, listed one table after another, are one changeset in normal form.
use Rattle.std.proofs.Common.{◌≡◌, ◌≢◌, ◌+◌, ◌++◌, ℕ, zero, suc, true, List, [], ◌∷◌, map, Option, Some, None, option_map, refl, sym, ap, ap₂, subst, ◌∙◌, inl, inr, arith, append-nil}
use Rattle.std.specs.Prelude.{Contains, IfSome, IsUtf8, slice_get}
use Rattle.std.specs.List.{AllByRecursion, flat_map, list_all}
use Rattle.std.proofs.lemmas.List.Elements.{All-from_recursion}
use Rattle.cs_value.specs.Catalog.{AreTables, is_set}
use Rattle.cs_value.specs.Key.{Place, FitsPlace}
use Rattle.cs_value.specs.declared.catalog.TableDef.{TableDef}
use Rattle.cs_value.specs.declared.value.Value.{Value}
use Rattle.cs_change.specs.Action.{Action, action, action_any}
use Rattle.cs_change.specs.Laws.{NetTakes}
use Rattle.cs_change.specs.Net.{net}
use Rattle.cs_change.specs.Normal.{IsNormal, IsNormalIfAny}
use Rattle.cs_change.specs.Spelling.{change_spelling, flag_byte, header_spelling, FitsChange, FitsHeader}
use Rattle.cs_change.specs.declared.change.Change.{Change}
use Rattle.cs_normal.specs.keyed.Changes.{AreNormal, Changes, IsEntry, change_at, key_bytes}
use Rattle.cs_normal.specs.Laws.{CatalogIsApart, FittingIsNormal, HeadersFit}
use Rattle.cs_normal.specs.Normal.{AreApart, FitsCatalog, IsNormalTable, change_of, changes_in, normal_spelling, table_changes, table_spelling}
use Rattle.cs_normal.specs.State.{IsRowOf, MayStandAt, OneKeyStands}
use Rattle.cs_normal.specs.declared.normal.TableChanges.{TableChanges}
use Rattle.cs_store.specs.Contents.{Contents, IsListing, stored_pending}
use Rattle.cs_value.specs.Laws.{OnePlaceOfName}
use Rattle.cs_pending.specs.NormalTasks.{one_table}
use Rattle.cs_pending.specs.Spots.{name_other, name_refl}
use Rattle.cs_pending.specs.Shows.{ShowsRows}
use Rattle.cs_pending.specs.View.{View, middle}
use Rattle.cs_pending.specs.outgoing.Outgoing.{IsPendingOf}
use Rattle.cs_pending.specs.outgoing.Steps.{ArePut, listing_spelling}
use Rattle.cs_pending.proofs.OutgoingLemmas.Listed.{Listing, AreListed, bodies_spell, changes_of, changes_rise, each_change, each_found, found_change, some_listed}

-- the laws that a catalog's tables have
pub record Laws (tables : List TableDef) : Type 0 where
  pub are : AreTables tables
  pub one : OnePlaceOfName
  pub key : OneKeyStands
  pub net_takes : NetTakes
  pub headers : HeadersFit

-- ---- one change

module _ (tables : List TableDef) (laws : Laws tables) (table : TableDef) (inside : Contains tables table) (key : List ℕ) where
  row_of : (row : List Value) → MayStandAt tables table.name key (Some row) → IsRowOf table key row
  row_of row (other, among, named, is) =
      subst (λ (t : TableDef). IsRowOf t key row) (one_table laws.one tables other table laws.are among inside named) is

  key_of_row : (k row : List Value) → MayStandAt tables table.name key (Some row) → FitsPlace table.key_marks k (Some row) → (list_all is_set k ≡ true) × (key ≡ key_bytes k)
  key_of_row k row stands fits =
      let is = row_of row stands in
      (subst (λ (j : List Value). list_all is_set j ≡ true) fits.keyed is.set, is.keyed ∙ ap key_bytes fits.keyed)

  key_from : (k : List Value) (b x : Place) (change : Action) → MayStandAt tables table.name key b → MayStandAt tables table.name key x → FitsPlace table.key_marks k b → FitsPlace table.key_marks k x
      → Some change ≡ net table.key_marks b x → (list_all is_set k ≡ true) × (key ≡ key_bytes k)
  unfolding net
  key_from k None None change sb sx fb fx e = absurd (let no = e in cc)
  key_from k None (Some x) change sb sx fb fx e = key_of_row k x sx fx
  key_from k (Some b) x change sb sx fb fx e = key_of_row k b sb fb

  if_any : (k : List Value) (change : Action) (o : Option Action) → Some change ≡ o → IsNormalIfAny table.key_marks k o → IsNormal table.key_marks k change
  if_any k change o e n = subst (IsNormalIfAny table.key_marks k) (sym e) n

  pub entry_of : (contents : Contents) (view : View) → ShowsRows tables contents view → (change : Change) → view.pending table.name key ≡ Some change → IsEntry table.key_marks (key, change)
  entry_of contents view shows change is =
      let b = middle view table.name key in
      let x = view.tables table.name key in
      let sb = shows.sound.before_state table.name key in
      let sx = shows.sound.after_state table.name key in
      let one = laws.key tables table key b x x laws.are inside sb sx sx in
      let net_is : Some (action change) ≡ net table.key_marks b x = ap action_any (sym is) ∙ shows.sound.net_of table key inside in
      let told = key_from one.0 b x (action change) sb sx one.1 one.2 net_is in
      record {
        key = one.0;
        set = told.0;
        bytes = told.1;
        normal = if_any one.0 (action change) (net table.key_marks b x) net_is (laws.net_takes table.key_marks one.0 b x one.1 one.2).0;
        fits = subst (λ (o : Option Change). IfSome o (FitsChange table.key_marks)) is (shows.pends.fits table key inside);
      }

-- ---- one table

listed_of : (pend : List ℕ → Option Change) (stored : List ℕ → Option (List ℕ)) (rows : Listing) → IsListing stored rows → ((key : List ℕ) → stored key ≡ option_map change_spelling (pend key)) → AreListed pend rows
listed_of pend stored rows listing is =
    each_found (λ key body. option_map change_spelling (pend key) ≡ Some body) rows listing.rises (λ key body found. sym (is key) ∙ sym (listing.found key) ∙ found)

-- a table that has no changes is nothing; one that has some is spelled by its listing
spelled_as : (table : TableDef) (pend : List ℕ → Option Change) (rows : Listing) → AreListed pend rows → listing_spelling table rows ≡ normal_spelling (table_changes table (changes_of pend rows))
spelled_as table pend [] are = refl
spelled_as table pend (row ∷ rows) are =
    let bodies = bodies_spell pend (row ∷ rows) are in
    let some = some_listed pend row rows are in
    let split : (cs : Changes) → (cs ≡ [] → ⊥) → flat_map (λ (keyed : List ℕ × Change). change_spelling keyed.1) cs ≡ flat_map (λ (r : List ℕ × List ℕ). r.1) (row ∷ rows)
    → listing_spelling table (row ∷ rows) ≡ normal_spelling (table_changes table cs) = elim [
      | [] ↦ λ never e. absurd (never refl)
      | c ∷ cs ↦ λ never e. spelled_some table (row ∷ rows) (c ∷ cs) e
    ] in
    split (changes_of pend (row ∷ rows)) some bodies
  where
    spelled_some : (t : TableDef) (rs : Listing) (cs : Changes) → flat_map (λ (keyed : List ℕ × Change). change_spelling keyed.1) cs ≡ flat_map (λ (r : List ℕ × List ℕ). r.1) rs
        → header_spelling (map flag_byte t.key_marks) t.name ++ flat_map (λ (r : List ℕ × List ℕ). r.1) rs ≡ (header_spelling (map flag_byte t.key_marks) t.name ++ flat_map (λ (keyed : List ℕ × Change). change_spelling keyed.1) cs) ++ []
    spelled_some t rs cs e = ap (λ (x : List ℕ). header_spelling (map flag_byte t.key_marks) t.name ++ x) (sym e) ∙ sym (append-nil _)

-- ---- a table before others

fits_behind : (table : TableDef) (tables : List TableDef) (others : List TableChanges) → FitsCatalog tables others → FitsCatalog (table ∷ tables) others
fits_behind table tables [] fits = tt
fits_behind table tables (first ∷ others) fits = inr fits

fits_more : (table : TableDef) (tables : List TableDef) (cs : Changes) (others : List TableChanges) → FitsCatalog tables others → FitsCatalog (table ∷ tables) (table_changes table cs ++ others)
fits_more table tables [] others fits = fits_behind table tables others fits
fits_more table tables (c ∷ cs) others fits = inl ((refl, refl), fits)

normal_more : (table : TableDef) (cs : Changes) (others : List TableChanges) → AreNormal table.key_marks cs → FitsHeader (map flag_byte table.key_marks) table.name → AllByRecursion IsNormalTable others → AllByRecursion IsNormalTable (table_changes table cs ++ others)
normal_more table [] others normal header all = all
normal_more table (c ∷ cs) others normal header all = (record { changes = normal; some = λ e. (let no = e in cc); header = header }, all)

spelled_more : (table : TableDef) (cs : Changes) (others : List TableChanges) → normal_spelling (table_changes table cs ++ others) ≡ normal_spelling (table_changes table cs) ++ normal_spelling others
spelled_more table [] others = refl
spelled_more table (c ∷ cs) others =
    ap (λ (x : List ℕ). x ++ normal_spelling others) (sym (append-nil (table_spelling (record { name = table.name; marks = table.key_marks; changes = c ∷ cs }))))

named_otherwise : (name : List ℕ) (tables : List TableDef) (others : List TableChanges) → AllByRecursion (λ (t : TableDef). name ≢ t.name) tables → FitsCatalog tables others → AllByRecursion (λ (c : TableChanges). c.name ≡ name → ⊥) others
named_otherwise name tables [] apart fits = tt
named_otherwise name [] (first ∷ others) apart fits = absurd fits
named_otherwise name (table ∷ tables) (first ∷ others) apart (inl (of, fits)) = (λ e. apart.0 (sym e ∙ of.0), named_otherwise name tables others apart.1 fits)
named_otherwise name (table ∷ tables) (first ∷ others) apart (inr fits) = named_otherwise name tables (first ∷ others) apart.1 fits

absent : (name : List ℕ) (others : List TableChanges) → AllByRecursion (λ (c : TableChanges). c.name ≡ name → ⊥) others → changes_in name others ≡ []
absent name [] all = refl
absent name (first ∷ others) all = let e = name_other first.name name all.0 in simp e (absent name others all.1)

-- the changes of the table itself, and of another
here : (table : TableDef) (cs : Changes) (others : List TableChanges) → changes_in table.name others ≡ [] → changes_in table.name (table_changes table cs ++ others) ≡ cs
here table [] others none = none
here table (c ∷ cs) others none = simp (name_refl table.name) refl

there : (table : TableDef) (name : List ℕ) (cs : Changes) (others : List TableChanges) → (table.name ≡ name → ⊥) → changes_in name (table_changes table cs ++ others) ≡ changes_in name others
there table name [] others apart = refl
there table name (c ∷ cs) others apart = let e = name_other table.name name apart in simp e refl

-- ---- tables

module _ (all : List TableDef) (laws : Laws all) (contents : Contents) (view : View) (shows : ShowsRows all contents view) where
  -- these are the changes of tables
  pub record Gathers (tables : List TableDef) (bytes : List ℕ) (changes : List TableChanges) : Type 0 where
    pub fits : FitsCatalog tables changes
    pub normal : AllByRecursion IsNormalTable changes
    pub spelled : bytes ≡ normal_spelling changes
    pub are : (table : TableDef) (key : List ℕ) → Contains tables table → change_of table.name key changes ≡ view.pending table.name key

  apart_from : (name : List ℕ) (tables : List TableDef) (table : TableDef) → AllByRecursion (λ (t : TableDef). name ≢ t.name) tables → Contains tables table → name ≢ table.name
  apart_from name [] table apart (i, within, is) = absurd (omega (arith, within))
  apart_from name (t ∷ tables) table apart (zero, within, is) = λ e. apart.0 (e ∙ ap (λ (u : TableDef). u.name) (sym is))
  apart_from name (t ∷ tables) table apart (suc i, within, is) = apart_from name tables table apart.1 (i, omega (arith, within), is)

  add_table : (number : ℕ) (table : TableDef) (tables : List TableDef) (rows : Listing) (others : List ℕ) (changes : List TableChanges)
      → slice_get all number ≡ Some table → Contains all table → AreApart (table ∷ tables) → IsListing (stored_pending contents number) rows → IsUtf8 table.name
      → Gathers tables others changes → Gathers (table ∷ tables) (listing_spelling table rows ++ others) (table_changes table (changes_of (view.pending table.name) rows) ++ changes)
  add_table number table tables rows others changes found inside apart listing utf8 gathers =
      let pend = view.pending table.name in
      let stored : (key : List ℕ) → stored_pending contents number key ≡ option_map change_spelling (pend key) = λ key. shows.pends.stored number table key found in
      let listed = listed_of pend (stored_pending contents number) rows listing stored in
      let cs = changes_of pend rows in
      let entries : AllByRecursion (IsEntry table.key_marks) cs = each_change pend (IsEntry table.key_marks) (λ key change is. entry_of all laws table inside key contents view shows change is) rows in
      let normal : AreNormal table.key_marks cs = (changes_rise pend rows listing.rises, All-from_recursion (IsEntry table.key_marks) cs entries) in
      let none = absent table.name changes (named_otherwise table.name tables changes apart.0 gathers.fits) in
      record {
        fits = fits_more table tables cs changes gathers.fits;
        normal = normal_more table cs changes normal (laws.headers all table laws.are inside utf8) gathers.normal;
        spelled = ap₂ (λ (x y : List ℕ). x ++ y) (spelled_as table pend rows listed) gathers.spelled ∙ sym (spelled_more table cs changes);
        are = λ t key among. placed t key among cs none (found_change pend key rows listed (listing.found key ∙ stored key));
      }
    where
      placed : (t : TableDef) (key : List ℕ) → Contains (table ∷ tables) t → (cs : Changes) → changes_in table.name changes ≡ [] → change_at key cs ≡ view.pending table.name key
          → change_of t.name key (table_changes table cs ++ changes) ≡ view.pending t.name key
      placed t key (zero, within, is) cs none at =
          subst (λ (u : TableDef). change_of u.name key (table_changes table cs ++ changes) ≡ view.pending u.name key) is
          (ap (change_at key) (here table cs changes none) ∙ at)
      placed t key (suc i, within, is) cs none at =
          let among : Contains tables t = (i, omega (arith, within), is) in
          ap (change_at key) (there table t.name cs changes (apart_from table.name tables t apart.0 among)) ∙ gathers.are t key among

  pub gathered : (tables : List TableDef) (number : ℕ) (bytes : List ℕ) → ((i : ℕ) (t : TableDef) → slice_get tables i ≡ Some t → (slice_get all (number + i) ≡ Some t) × Contains all t) → AreApart tables → ArePut contents number tables bytes
      → (changes : List TableChanges) × Gathers tables bytes changes
  gathered [] number bytes among apart put =
      ([], record { fits = tt; normal = tt; spelled = put; are = λ table key inside. absurd (omega (arith, inside.1)) })
  gathered (table ∷ tables) number bytes among apart (rows, others, listing, utf8, is, rest) =
      let now = among 0 table refl in
      let more = gathered tables (number + 1) others (λ i t at. behind i t at) apart.1 rest in (
        table_changes table (changes_of (view.pending table.name) rows) ++ more.0,
        subst (λ (bs : List ℕ). Gathers (table ∷ tables) bs (table_changes table (changes_of (view.pending table.name) rows) ++ more.0)) (sym is)
            (add_table number table tables rows others more.0 (subst (λ (n : ℕ). slice_get all n ≡ Some table) (omega arith) now.0) now.1 apart listing utf8 more.1),
      )
    where
      behind : (i : ℕ) (t : TableDef) → slice_get tables i ≡ Some t → (slice_get all (number + 1 + i) ≡ Some t) × Contains all t
      behind i t at = let a = among (suc i) t at in (subst (λ (n : ℕ). slice_get all n ≡ Some t) (omega arith) a.0, a.1)

  -- all tables
  pub all_gathered : CatalogIsApart → FittingIsNormal → (bytes : List ℕ) → ((i : ℕ) (t : TableDef) → slice_get all i ≡ Some t → Contains all t) → ArePut contents 0 all bytes
      → (changes : List TableChanges) × IsPendingOf all view.pending changes × (bytes ≡ normal_spelling changes)
  all_gathered apart fitting bytes inside put =
      let g = gathered all 0 bytes (λ i t at. (subst (λ (n : ℕ). slice_get all n ≡ Some t) (omega arith) at, inside i t at)) (apart all laws.are) put in
      (g.0, record { fits = g.1.fits; normal = fitting all g.0 laws.are g.1.fits g.1.normal; changes_are = g.1.are }, g.1.spelled)
