-- The places of a changeset are cleared: what stands there then, and that they are places of the tables.
use Rattle.std.proofs.Common.{◌≡◌, ◌<◌, ◌+◌, ◌++◌, ◌&&◌, ℕ, zero, suc, Bool, true, false, cond, eq-eqb, List, [], ◌∷◌, Option, Some, None, option_map, length, map, refl, sym, ap, subst, ◌∙◌, arith}
use Rattle.std.specs.Prelude.{nat_eq, slice_get}
use Rattle.std.specs.List.{AllByRecursion}
use Rattle.std.specs.Map.{keys_of}
use Rattle.cs_value.specs.Facts.{by_test}
use Rattle.cs_pending.specs.Spots.{all_both}
use Rattle.cs_change.specs.Spelling.{change_spelling}
use Rattle.cs_change.specs.declared.change.Change.{Change}
use Rattle.cs_normal.specs.keyed.Changes.{Changes, change_at}
use Rattle.cs_normal.specs.Normal.{change_of, changes_in}
use Rattle.cs_normal.specs.declared.normal.TableChanges.{TableChanges}
use Rattle.cs_order.specs.Order.{same_bytes}
use Rattle.cs_pending.specs.Settling.{AreWithin}
use Rattle.cs_exchange.specs.pushing.Batches.{PlacePart, all_clear, clears, place_part}
use Rattle.cs_store.specs.Laws.{row_after}
use Rattle.cs_store.specs.edits.Edits.{BodyEdit}
use Rattle.cs_value.specs.declared.catalog.TableDef.{TableDef}

-- ---- places, by the parts of their edits

abbrev place_after : List PlacePart → ℕ → List ℕ → Option (List ℕ) → Option (List ℕ)
place_after [] n k body = body
place_after (part ∷ parts) n k body = place_after parts n k (cond (nat_eq n part.0 && same_bytes k part.1.0) part.1.1 body)

by_parts : (edits : List BodyEdit) (n : ℕ) (k : List ℕ) (body : Option (List ℕ)) → row_after edits n k body ≡ place_after (map place_part edits) n k body
by_parts [] n k body = refl
by_parts (edit ∷ edits) n k body = by_parts edits n k (cond (nat_eq n edit.table && same_bytes k edit.key) edit.body body)

after_both : (some other : List PlacePart) (n : ℕ) (k : List ℕ) (body : Option (List ℕ)) → place_after (some ++ other) n k body ≡ place_after other n k (place_after some n k body)
after_both [] other n k body = refl
after_both (part ∷ some) other n k body = after_both some other n k (cond (nat_eq n part.0 && same_bytes k part.1.0) part.1.1 body)

none_either : {A : Type 0} (t : Bool) → ◌≡◌ {A = Option A} (cond t None None) None
none_either true = refl
none_either false = refl

none_by_keys : (m : ℕ) (keys : List (List ℕ)) (n : ℕ) (k : List ℕ) → place_after (map (clears m) keys) n k None ≡ None
none_by_keys m [] n k = refl
none_by_keys m (key ∷ keys) n k =
    ap (λ (b : Option (List ℕ)). place_after (map (clears m) keys) n k b) (none_either (nat_eq n m && same_bytes k key)) ∙ none_by_keys m keys n k

none_stays : (m : ℕ) (tables : List TableDef) (changes : List TableChanges) (n : ℕ) (k : List ℕ) → place_after (all_clear m tables changes) n k None ≡ None
none_stays m [] changes n k = refl
none_stays m (table ∷ tables) changes n k =
    after_both (map (clears m) (keys_of (changes_in table.name changes))) (all_clear (m + 1) tables changes) n k None
    ∙ ap (λ (b : Option (List ℕ)). place_after (all_clear (m + 1) tables changes) n k b) (none_by_keys m (keys_of (changes_in table.name changes)) n k)
    ∙ none_stays (m + 1) tables changes n k

-- a key with a change is cleared
cleared_key : (n : ℕ) (entries : Changes) (k : List ℕ) (change : Change) (body : Option (List ℕ)) → change_at k entries ≡ Some change → place_after (map (clears n) (keys_of entries)) n k body ≡ None
cleared_key n [] k change body is = absurd (let no = is in cc)
cleared_key n (entry ∷ entries) k change body is =
    let same : nat_eq n n ≡ true = eq-eqb n n refl in
    by_test (same_bytes k entry.0) _
    (λ t. let here : cond (nat_eq n n && same_bytes k entry.0) None body ≡ None = simp (same, t) refl in
    ap (λ (b : Option (List ℕ)). place_after (map (clears n) (keys_of entries)) n k b) here ∙ none_by_keys n (keys_of entries) n k)
    (λ t. let there : cond (nat_eq n n && same_bytes k entry.0) None body ≡ body = simp (same, t) refl in
    ap (λ (b : Option (List ℕ)). place_after (map (clears n) (keys_of entries)) n k b) there ∙ cleared_key n entries k change body (rw t at is))

cleared_at : (m : ℕ) (tables : List TableDef) (changes : List TableChanges) (i : ℕ) (table : TableDef) (k : List ℕ) (change : Change) (body : Option (List ℕ)) → slice_get tables i ≡ Some table → change_of table.name k changes ≡ Some change
    → place_after (all_clear m tables changes) (m + i) k body ≡ None
cleared_at m [] changes i table k change body at is = absurd (let no = at in cc)
cleared_at m (first ∷ tables) changes zero table k change body at is =
    let same : first ≡ table = (let e = at in cc) in
    let found : change_of first.name k changes ≡ Some change = ap (λ (t : TableDef). change_of t.name k changes) same ∙ is in
    subst (λ (n : ℕ). place_after (all_clear m (first ∷ tables) changes) n k body ≡ None) (omega arith)
    (after_both (map (clears m) (keys_of (changes_in first.name changes))) (all_clear (m + 1) tables changes) m k body
    ∙ ap (λ (b : Option (List ℕ)). place_after (all_clear (m + 1) tables changes) m k b) (cleared_key m (changes_in first.name changes) k change body found)
    ∙ none_stays (m + 1) tables changes m k)
cleared_at m (first ∷ tables) changes (suc i) table k change body at is =
    subst (λ (n : ℕ). place_after (all_clear m (first ∷ tables) changes) n k body ≡ None) (omega arith)
    (after_both (map (clears m) (keys_of (changes_in first.name changes))) (all_clear (m + 1) tables changes) (m + 1 + i) k body
    ∙ cleared_at (m + 1) tables changes i table k change (place_after (map (clears m) (keys_of (changes_in first.name changes))) (m + 1 + i) k body) at is)

-- where nothing stands without a change, nothing is left at the places of the tables
pub all_cleared : (tables : List TableDef) (changes : List TableChanges) (edits : List BodyEdit) → map place_part edits ≡ all_clear 0 tables changes
    → (n : ℕ) (table : TableDef) (k : List ℕ) (stored : Option (List ℕ)) → slice_get tables n ≡ Some table → stored ≡ option_map change_spelling (change_of table.name k changes) → row_after edits n k stored ≡ None
all_cleared tables changes edits parts n table k stored at is =
    let split : (o : Option Change) → change_of table.name k changes ≡ o → place_after (all_clear 0 tables changes) n k stored ≡ None = elim [
      | None ↦ λ e. ap (λ (b : Option (List ℕ)). place_after (all_clear 0 tables changes) n k b) (is ∙ ap (option_map change_spelling) e) ∙ none_stays 0 tables changes n k
      | Some change ↦ λ e. subst (λ (m : ℕ). place_after (all_clear 0 tables changes) m k stored ≡ None) (omega arith) (cleared_at 0 tables changes n table k change stored at e)
    ] in
    by_parts edits n k stored ∙ ap (λ (ps : List PlacePart). place_after ps n k stored) parts ∙ split (change_of table.name k changes) refl

-- ---- within the tables

within_keys : (m count : ℕ) (keys : List (List ℕ)) → m < count → AllByRecursion (λ (part : PlacePart). part.0 < count) (map (clears m) keys)
within_keys m count [] less = tt
within_keys m count (key ∷ keys) less = (less, within_keys m count keys less)

within_all : (m count : ℕ) (tables : List TableDef) (changes : List TableChanges) → m + length tables ≡ count → AllByRecursion (λ (part : PlacePart). part.0 < count) (all_clear m tables changes)
within_all m count [] changes is = tt
within_all m count (table ∷ tables) changes is =
    all_both (λ (part : PlacePart). part.0 < count) (map (clears m) (keys_of (changes_in table.name changes))) (all_clear (m + 1) tables changes)
    (within_keys m count (keys_of (changes_in table.name changes)) (omega (arith, is)))
    (within_all (m + 1) count tables changes (omega (arith, is)))

within_parts : (tables : List TableDef) (edits : List BodyEdit) → AllByRecursion (λ (part : PlacePart). part.0 < length tables) (map place_part edits) → AreWithin tables edits
within_parts tables [] all = tt
within_parts tables (edit ∷ edits) all = (all.0, within_parts tables edits all.1)

pub all_within : (tables : List TableDef) (changes : List TableChanges) (edits : List BodyEdit) → map place_part edits ≡ all_clear 0 tables changes → AreWithin tables edits
all_within tables changes edits parts =
    within_parts tables edits
    (subst (λ (ps : List PlacePart). AllByRecursion (λ (part : PlacePart). part.0 < length tables) ps) (sym parts) (within_all 0 (length tables) tables changes (omega arith)))
