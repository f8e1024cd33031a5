-- What is seen in the bytes of a body: changes, tables and changesets in normal form, put together from the front.
use Rattle.std.proofs.Common.{◌≡◌, ◌≢◌, ◌⊎◌, inl, inr, ℕ, ◌≤◌, Bool, true, false, List, [], ◌∷◌, ◌++◌, length, drop, map, Option, Some, refl, sym, subst, ap, ◌∙◌, arith, append_assoc, append-nil}
use Rattle.std.specs.List.{All, AllByRecursion}
use Rattle.std.specs.List.Sorted.{IsStrictlySortedBy}
use Rattle.std.specs.Map.{keys_of}
use Rattle.std.specs.declared.cmp.Ordering.TheVariants.{Less}
use Rattle.std.proofs.lemmas.Cmp.{nat_list_cmp_total}
use Rattle.std.proofs.lemmas.Grind.{flat_map-append}
use Rattle.std.proofs.lemmas.List.Elements.{All-append, All-from_recursion, All-nil}
use Rattle.cs_value.specs.Catalog.{AreTables}
use Rattle.cs_value.specs.declared.catalog.TableDef.{TableDef}
use Rattle.cs_value.specs.declared.value.Value.{Value}
use Rattle.cs_value.specs.declared.value.Field.{Field}
use Rattle.cs_value.specs.declared.value.Field.TheVariants.{Undefined, Is}
use Rattle.cs_change.specs.Action.{action, action_any}
use Rattle.cs_change.specs.declared.change.Change.{Change}
use Rattle.cs_change.specs.declared.change.Change.TheVariants.{Insert, Delete, Update}
use Rattle.cs_change.specs.Spelling.{AreUpdateColumns, FitsChange, FitsHeader, change_spelling, flag_byte, header_spelling, marks_of}
use Rattle.cs_record.specs.Facts.{all_more, parts}
use Rattle.cs_record.specs.Reading.{StandsAt}
use Rattle.cs_order.specs.Order.{Keys, by_bytes}
use Rattle.cs_change.specs.Normal.{IsNormal, IsNormalIfAny}
use Rattle.cs_normalising.specs.Laws.{IsLenient, LenientUpdate, NormalFormKeeps, no_column, key_column, key_again, unmodified, modified}
use Rattle.cs_normal.specs.keyed.Changes.{AreNormal, Changes, IsEntry}
use Rattle.cs_normal.specs.keyed.NormalForm.{change_key, marked_fields, normal_form}
use Rattle.cs_normal.specs.Laws.{FittingIsNormal}
use Rattle.cs_normal.specs.Normal.{FitsCatalog, IsNormalTable, normal_spelling, table_spelling}
use Rattle.cs_normal.specs.declared.normal.TableChanges.{TableChanges}
use Rattle.cs_store.specs.declared.log.entry.TheConstants.{MAX_CHANGESET}
use Rattle.cs_store.specs.log.Steps.{AreNextChanges, HasKeyAbove, IsChangeAt, IsNextChange, IsNextTable, IsTableBefore, SpellsChanges, StoresChanges, changes_bytes}

-- ---- one change

lenient_columns : (marks : List Bool) (old new : List Field) → AreUpdateColumns marks old new → LenientUpdate marks (marked_fields marks old) old new
unfolding marked_fields
lenient_columns [] [] [] are = no_column
lenient_columns (true ∷ marks) (Is u ∷ old) (Undefined ∷ new) are = key_column u (lenient_columns marks old new are.1)
lenient_columns (true ∷ marks) (Is u ∷ old) (Is v ∷ new) are =
    subst (λ (w : Value). LenientUpdate (true ∷ marks) (u ∷ marked_fields marks old) (Is u ∷ old) (Is w ∷ new)) are.0 (key_again u (lenient_columns marks old new are.1))
lenient_columns (true ∷ marks) (Undefined ∷ old) (n ∷ new) are = absurd are.0
lenient_columns (false ∷ marks) (o ∷ old) (Undefined ∷ new) are = unmodified o (lenient_columns marks old new are.1)
lenient_columns (false ∷ marks) (Is u ∷ old) (Is v ∷ new) are = modified u v (lenient_columns marks old new are.1)
lenient_columns (false ∷ marks) (Undefined ∷ old) (Is v ∷ new) are = absurd are.0
lenient_columns [] (o ∷ old) new are = absurd are
lenient_columns [] [] (n ∷ new) are = absurd are
lenient_columns (m ∷ marks) [] new are = absurd are
lenient_columns (m ∷ marks) (o ∷ old) [] are = absurd are

is_lenient : (marks : List Bool) (change : Change) → FitsChange marks change → IsLenient marks (change_key marks change) change
is_lenient marks (Insert flag new) fits = record { wide = fits.0; keyed = refl }
is_lenient marks (Delete flag old) fits = record { wide = fits.0; keyed = refl }
is_lenient marks (Update flag old new) fits = lenient_columns marks old new fits.0

is_normal : NormalFormKeeps → (marks : List Bool) (change : Change) → FitsChange marks change → normal_form marks change ≡ Some change → IsNormal marks (change_key marks change) (action change)
is_normal keeps marks change fits form =
    subst (λ (c : Option Change). IsNormalIfAny marks (change_key marks change) (action_any c)) form (keeps marks (change_key marks change) change (is_lenient marks change fits)).0

pub next_change : NormalFormKeeps → (marks : List Bool) (last key bytes : List ℕ) (change : Change) (len : ℕ) → IsChangeAt marks bytes change len → normal_form marks change ≡ Some change → HasKeyAbove marks last key change → IsNextChange marks last key bytes len
next_change keeps marks last key bytes change len at form above = record {
  change = change;
  entry = record {
    key = change_key marks change;
    set = above.set;
    bytes = above.bytes;
    normal = is_normal keeps marks change at.fits form;
    fits = at.fits;
  };
  above = above.above;
  stands = at.stands;
  some = at.some;
}

-- ---- changes behind one another

-- no key is above the last one
abbrev AreUpTo : List ℕ → Keys → Type 0
AreUpTo last keys = AllByRecursion (λ key. (key ≡ last) ⊎ (by_bytes key last ≡ Less)) keys

below : (key last next : List ℕ) → (key ≡ last) ⊎ (by_bytes key last ≡ Less) → by_bytes last next ≡ Less → by_bytes key next ≡ Less
below key last next (inl is) above = subst (λ (k : List ℕ). by_bytes k next ≡ Less) (sym is) above
below key last next (inr less) above = nat_list_cmp_total.trans key last next less above

up_to_next : (last next : List ℕ) (keys : Keys) → AreUpTo last keys → by_bytes last next ≡ Less → AreUpTo next (keys ++ next ∷ [])
up_to_next last next [] up above = (inl refl, tt)
up_to_next last next (key ∷ keys) up above = (inr (below key last next up.0 above), up_to_next last next keys up.1 above)

above_next : (first next : List ℕ) (keys : Keys) → AllByRecursion (λ other. by_bytes first other ≡ Less) keys → by_bytes first next ≡ Less → AllByRecursion (λ other. by_bytes first other ≡ Less) (keys ++ next ∷ [])
above_next first next [] all less = (less, tt)
above_next first next (key ∷ keys) all less = (all.0, above_next first next keys all.1 less)

sorted_next : (last next : List ℕ) (keys : Keys) → AreUpTo last keys → by_bytes last next ≡ Less → IsStrictlySortedBy by_bytes keys → IsStrictlySortedBy by_bytes (keys ++ next ∷ [])
unfolding IsStrictlySortedBy
sorted_next last next [] up above sorted = (tt, tt)
sorted_next last next (key ∷ keys) up above sorted =
    (above_next key next keys sorted.0 (below key last next up.0 above), sorted_next last next keys up.1 above sorted.1)

-- the changes so far, up to the last key, and what is left behind them
pub record AreSoFar (marks : List Bool) (bytes last left : List ℕ) : Type 0 where
  pub changes : Changes
  pub normal : AreNormal marks changes
  pub up_to : AreUpTo last (keys_of changes)
  pub spelled : bytes ≡ changes_bytes changes ++ left

no_keys : IsStrictlySortedBy by_bytes []
unfolding IsStrictlySortedBy
no_keys = tt

pub none_so_far : (marks : List Bool) (bytes last : List ℕ) → AreSoFar marks bytes last bytes
none_so_far marks bytes last = record { changes = []; normal = (no_keys, All-nil (IsEntry marks)); up_to = tt; spelled = refl }

-- one entry more
more_keys : (changes : Changes) (entry : List ℕ × Change) → keys_of (changes ++ entry ∷ []) ≡ keys_of changes ++ entry.0 ∷ []
more_keys [] entry = refl
more_keys (first ∷ changes) entry = ap (λ (ks : Keys). first.0 ∷ ks) (more_keys changes entry)

more_bytes : (changes : Changes) (entry : List ℕ × Change) → changes_bytes (changes ++ entry ∷ []) ≡ changes_bytes changes ++ change_spelling entry.1
more_bytes [] entry = append-nil (change_spelling entry.1)
more_bytes (first ∷ changes) entry =
    ap (λ (bs : List ℕ). change_spelling first.1 ++ bs) (more_bytes changes entry) ∙ sym (append_assoc (change_spelling first.1) (changes_bytes changes) (change_spelling entry.1))

one_entry : (marks : List Bool) (entry : List ℕ × Change) → IsEntry marks entry → All (IsEntry marks) (entry ∷ [])
one_entry marks entry is = All-from_recursion (IsEntry marks) (entry ∷ []) (is, tt)

behind : (bytes front spelled left rest : List ℕ) → bytes ≡ front ++ left → left ≡ spelled ++ rest → bytes ≡ (front ++ spelled) ++ rest
behind bytes front spelled left rest is more =
    is ∙ ap (λ (bs : List ℕ). front ++ bs) more ∙ sym (append_assoc front spelled rest)

pub one_more : (marks : List Bool) (bytes last next left : List ℕ) (len : ℕ) → AreSoFar marks bytes last left → IsNextChange marks last next left len → AreSoFar marks bytes next (drop len left)
one_more marks bytes last next left len so_far is =
    let entry : List ℕ × Change = (next, is.change) in
    let keys = more_keys so_far.changes entry in
    record {
      changes = so_far.changes ++ entry ∷ [];
      normal = (
        subst (IsStrictlySortedBy by_bytes) (sym keys) (sorted_next last next (keys_of so_far.changes) so_far.up_to is.above so_far.normal.0),
        All-append (IsEntry marks) so_far.changes (entry ∷ []) so_far.normal.1 (one_entry marks entry is.entry),
      );
      up_to = subst (AreUpTo next) (sym keys) (up_to_next last next (keys_of so_far.changes) so_far.up_to is.above);
      spelled = behind bytes (changes_bytes so_far.changes) (change_spelling is.change) left (drop len left) so_far.spelled (parts left (change_spelling is.change) len is.stands)
          ∙ ap (λ (bs : List ℕ). bs ++ drop len left) (sym (more_bytes so_far.changes entry));
    }

some_changes : (changes : Changes) (entry : List ℕ × Change) → changes ++ entry ∷ [] ≢ []
some_changes [] entry = λ e. cc
some_changes (first ∷ changes) entry = λ e. cc

pub whole_group : (marks : List Bool) (bytes last next left : List ℕ) (len : ℕ) → AreSoFar marks bytes last left → IsNextChange marks last next left len → AreNextChanges marks bytes (drop len left)
unfolding one_more
whole_group marks bytes last next left len so_far is =
    let all = one_more marks bytes last next left len so_far is in
    record {
      changes = all.changes;
      normal = all.normal;
      some = some_changes so_far.changes (next, is.change);
      spelled = all.spelled;
    }

-- ---- tables behind one another

pub marks_stay : (marks : List Bool) → marks_of (map flag_byte marks) ≡ marks
marks_stay [] = refl
marks_stay (true ∷ marks) = ap (λ (ms : List Bool). true ∷ ms) (marks_stay marks)
marks_stay (false ∷ marks) = ap (λ (ms : List Bool). false ∷ ms) (marks_stay marks)

-- the table is one of these, which it is the last of
is_last : (before : List TableDef) (table : TableDef) (changes : TableChanges) → (changes.name ≡ table.name) × (changes.marks ≡ table.key_marks) → FitsCatalog (before ++ table ∷ []) (changes ∷ [])
is_last [] table changes is = inl (is, tt)
is_last (first ∷ before) table changes is = inr (is_last before table changes is)

pub next_table : (tables more : List TableDef) (table : TableDef) (name columns bytes rest : List ℕ) (len : ℕ) → IsTableBefore tables more table name columns → FitsHeader columns name → StandsAt bytes (header_spelling columns name) len → AreNextChanges table.key_marks (drop len bytes) rest → IsNextTable tables more bytes rest
next_table tables more table name columns bytes rest len found fits stands are =
    let changes : TableChanges = record { name = table.name; marks = table.key_marks; changes = are.changes } in
    let header : header_spelling columns name ≡ header_spelling (map flag_byte table.key_marks) table.name =
    ap (λ (ms : List ℕ). header_spelling ms name) (sym found.marked) ∙ ap (λ (n : List ℕ). header_spelling (map flag_byte table.key_marks) n) (sym found.named) in
    record {
      before = found.before ++ table ∷ [];
      changes = changes;
      parts = found.parts ∙ sym (append_assoc found.before (table ∷ []) more);
      of_catalog = is_last found.before table changes (refl, refl);
      normal = record {
        changes = are.normal;
        some = are.some;
        header = subst (λ (ms : List ℕ). FitsHeader ms table.name) (sym found.marked) (subst (λ (n : List ℕ). FitsHeader columns n) (sym found.named) fits);
      };
      spelled = behind bytes (header_spelling columns name) (changes_bytes are.changes) (drop len bytes) rest (parts bytes (header_spelling columns name) len stands) are.spelled
          ∙ ap (λ (bs : List ℕ). (bs ++ changes_bytes are.changes) ++ rest) header;
    }

-- the tables so far, and what is left behind them
pub record AreTablesSoFar (tables left_tables : List TableDef) (bytes left : List ℕ) : Type 0 where
  pub before : List TableDef
  pub changes : List TableChanges
  pub parts : tables ≡ before ++ left_tables
  pub of_catalog : FitsCatalog before changes
  pub normal : AllByRecursion IsNormalTable changes
  pub spelled : bytes ≡ normal_spelling changes ++ left

pub no_table_so_far : (tables : List TableDef) (bytes : List ℕ) → AreTablesSoFar tables tables bytes bytes
no_table_so_far tables bytes = record { before = []; changes = []; parts = refl; of_catalog = tt; normal = tt; spelled = refl }

-- what fits these tables fits those with others in front, or behind
fits_behind : (before tables : List TableDef) (changes : List TableChanges) → FitsCatalog tables changes → FitsCatalog (before ++ tables) changes
fits_behind [] tables changes fits = fits
fits_behind (first ∷ before) tables [] fits = tt
fits_behind (first ∷ before) tables (one ∷ changes) fits = inr (fits_behind before tables (one ∷ changes) fits)

fits_both : (before tables : List TableDef) (changes others : List TableChanges) → FitsCatalog before changes → FitsCatalog tables others → FitsCatalog (before ++ tables) (changes ++ others)
fits_both before tables [] others fits also = fits_behind before tables others also
fits_both [] tables (one ∷ changes) others fits also = absurd fits
fits_both (first ∷ before) tables (one ∷ changes) others fits also =
    elim fits [
      | inl here ↦ inl (here.0, fits_both before tables changes others here.1 also)
      | inr later ↦ inr (fits_both before tables (one ∷ changes) others later also)
    ]

pub one_table_more : (tables left_tables more : List TableDef) (bytes left rest : List ℕ) → AreTablesSoFar tables left_tables bytes left → IsNextTable left_tables more left rest → AreTablesSoFar tables more bytes rest
one_table_more tables left_tables more bytes left rest so_far is = record {
  before = so_far.before ++ is.before;
  changes = so_far.changes ++ is.changes ∷ [];
  parts = so_far.parts ∙ ap (λ (ts : List TableDef). so_far.before ++ ts) is.parts ∙ sym (append_assoc so_far.before is.before more);
  of_catalog = fits_both so_far.before is.before so_far.changes (is.changes ∷ []) so_far.of_catalog is.of_catalog;
  normal = all_more IsNormalTable so_far.changes is.changes so_far.normal is.normal;
  spelled = behind bytes (normal_spelling so_far.changes) (table_spelling is.changes) left rest so_far.spelled is.spelled
      ∙ ap (λ (bs : List ℕ). bs ++ rest) (sym (flat_map-append table_spelling so_far.changes (is.changes ∷ []) ∙ ap (λ (bs : List ℕ). normal_spelling so_far.changes ++ bs) (append-nil (table_spelling is.changes))));
}

fits_more : (before more : List TableDef) (changes : List TableChanges) → FitsCatalog before changes → FitsCatalog (before ++ more) changes
fits_more before more changes fits =
    subst (FitsCatalog (before ++ more)) (append-nil changes) (fits_both before more changes [] fits tt)

nothing : (left : List ℕ) → length left ≡ 0 → left ≡ []
nothing [] e = refl
nothing (byte ∷ left) e = absurd (omega (arith, e))

-- with nothing left these are all
pub all_tables : FittingIsNormal → (tables left_tables : List TableDef) (bytes left : List ℕ) → AreTables tables → AreTablesSoFar tables left_tables bytes left → length left ≡ 0 → SpellsChanges tables bytes
all_tables fitting tables left_tables bytes left are so_far none =
    let fits : FitsCatalog tables so_far.changes = subst (λ (ts : List TableDef). FitsCatalog ts so_far.changes) (sym so_far.parts) (fits_more so_far.before left_tables so_far.changes so_far.of_catalog) in
    (so_far.changes, (fitting tables so_far.changes are fits so_far.normal, fits), so_far.spelled ∙ ap (λ (bs : List ℕ). normal_spelling so_far.changes ++ bs) (nothing left none) ∙ append-nil (normal_spelling so_far.changes))

-- ---- with the kind in front

pub stored_seen : (tables : List TableDef) (bytes changeset : List ℕ) → bytes ≡ 0 ∷ changeset → length changeset ≤ MAX_CHANGESET → SpellsChanges tables changeset → StoresChanges tables bytes
stored_seen tables bytes changeset is short (changes, are, spelled) =
    (changes, record { changes = are; widens = tt; size = subst (λ (bs : List ℕ). length bs ≤ MAX_CHANGESET) spelled short }, is ∙ ap (λ (bs : List ℕ). 0 ∷ bs) spelled)
