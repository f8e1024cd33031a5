-- The local change beside a conflict.
use Rattle.std.proofs.Common.{◌≡◌, ℕ, List, [], ◌∷◌, Option, Some, sym, subst, ap, ◌∙◌}
use Rattle.std.specs.Prelude.{slice_get}
use Rattle.std.specs.List.Sorted.{IsStrictlySortedBy}
use Rattle.std.specs.Str.{bytes_eq}
use Rattle.cs_value.specs.Facts.{by_test}
use Rattle.cs_value.specs.declared.catalog.TableDef.{TableDef}
use Rattle.cs_change.specs.Action.{action_any}
use Rattle.cs_change.specs.declared.change.Change.{Change}
use Rattle.cs_normal.specs.keyed.Changes.{Changes, IsOrdered}
use Rattle.cs_normal.specs.Normal.{IsNormalChangeset, changes_in, change_of}
use Rattle.cs_normal.specs.keyed.NormalForm.{change_bytes}
use Rattle.cs_normal.specs.declared.normal.TableChanges.{TableChanges}
use Rattle.cs_conflict.specs.declared.conflict.Conflict.{Conflict}
use Rattle.cs_rebaser.specs.DiamondOfTables.{local_in, local_beside}

none_ordered : IsOrdered []
unfolding IsStrictlySortedBy
none_ordered = tt

-- the changes of a table are in order
table_ordered : (name : List ℕ) (tables : List TableChanges) → IsNormalChangeset tables → IsOrdered (changes_in name tables)
table_ordered name [] normal = none_ordered
table_ordered name (table ∷ tables) normal =
    by_test (bytes_eq table.name name) _ (λ e. simp e normal.0.changes.0) (λ e. simp e (table_ordered name tables normal.2))

pub found_ordered : (name : List ℕ) (lent tables : List TableChanges) (changes : Changes) → lent ≡ tables → IsNormalChangeset tables → changes_in name lent ≡ changes → IsOrdered changes
found_ordered name lent tables changes same normal found =
    subst (λ (cs : Changes). IsOrdered cs) (ap (changes_in name) (sym same) ∙ found) (table_ordered name tables normal)

-- the change that was found is the one beside the conflict
pub beside_is : (tables : List TableDef) (local : List TableChanges) (conflict : Conflict) (table : TableDef) (bytes : List ℕ) → slice_get tables conflict.table ≡ Some table
    → bytes ≡ change_bytes table.key_marks conflict.change → (found : Option Change) → found ≡ change_of table.name bytes local → action_any found ≡ local_beside tables local conflict
beside_is tables local conflict table bytes stands is found at =
    ap action_any at ∙ (ap (λ (k : List ℕ). action_any (change_of table.name k local)) is
    ∙ ap (λ (o : Option TableDef). local_in local o conflict.change) (sym stands))
