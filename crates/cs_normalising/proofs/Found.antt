-- A changeset has a normal form by a catalog's tables, or a fault.
use Rattle.std.proofs.Common.{◌≡◌, Bool, true, List, [], ◌∷◌, ◌++◌, map, refl, sym, subst, inl, inr, append-nil, append_assoc}
use Rattle.std.specs.Prelude.{◌≢◌, ◌⊎◌}
use Rattle.std.specs.Cmp.{eq_by_cmp_equiv}
use Rattle.std.specs.List.{AllByRecursion, Contains, IsDistinct, list_all, list_any}
use Rattle.std.specs.Str.{bytes_eq}
use Rattle.std.proofs.lemmas.Bool.{cases_Bool}
use Rattle.std.proofs.lemmas.Bool.Decides.{not_from_Decides}
use Rattle.std.proofs.lemmas.Cmp.{nat_list_cmp_total}
use Rattle.std.proofs.lemmas.List.Elements.{All-append, All-from_recursion}
use Rattle.std.proofs.lemmas.List.Folds.{list_all-append}
use Rattle.std.proofs.lemmas.Map.Keys.{IsDistinct-push}
use Rattle.std.proofs.lemmas.Slice.Eq.{bytes_eq-Decides}
use Rattle.cs_value.specs.Catalog.{AreTables}
use Rattle.cs_value.specs.declared.catalog.TableDef.{TableDef}
use Rattle.cs_change.specs.Spelling.{marks_of}
use Rattle.cs_change.specs.declared.change.Change.{Change}
use Rattle.cs_change.specs.declared.group.Group.{Group}
use Rattle.cs_order.specs.Order.{same_bytes}
use Rattle.cs_normal.specs.keyed.NormalForm.{has_key, change_bytes, AreKeyed}
use Rattle.cs_normal.specs.NormalFacts.{here, behind, same_or_not}
use Rattle.cs_normalising.specs.Laws.{FitHasForm, FormOrUnfit}
use Rattle.cs_normalising.specs.UnfitChanges.{HasFirstUnfitChange}
use Rattle.cs_normalising.specs.NormalFormOf.{changes_of, HasTable, AreFit, IsUnfit}
use Rattle.cs_normalising.specs.Steps.TableByTable.{HasTableFault}
use Rattle.cs_normalising.specs.declared.unfit.Unfit.{Unfit}
use Rattle.cs_normalising.specs.declared.unfit.Unfit.TheVariants.{Memory, UnknownTable, Shape, NullKey, KeyTwice}
use Rattle.cs_normalising.proofs.Faults.{map_append}
use Rattle.cs_normalising.proofs.GroupFaults.{changes_wrong, no_group_keys, unfit_at}

-- ---- the changes of one table

KeyedOrNot : List Bool → List Change → Type 0
KeyedOrNot marks changes =
    AreKeyed marks changes ⊎ HasFirstUnfitChange NullKey marks changes ⊎ HasFirstUnfitChange KeyTwice marks changes

keyed_from : (marks : List Bool) (before changes : List Change) → AreKeyed marks before → KeyedOrNot marks (before ++ changes)
unfolding KeyedOrNot
keyed_from marks before [] keyed = inl (rw append-nil keyed)
keyed_from marks before (c ∷ changes) keyed =
    elim (cases_Bool (has_key marks c)) [
      | inr null ↦ inr (inl (before, c, changes, refl, keyed, null))
      | inl set ↦ elim (cases_Bool (list_any (same_bytes (change_bytes marks c)) (map (change_bytes marks) before))) [
        | inl again ↦ inr (inr (before, c, changes, refl, keyed, (set, again)))
        | inr new ↦
            let pushed = IsDistinct-push (eq_by_cmp_equiv nat_list_cmp_total) (map (change_bytes marks) before) (change_bytes marks c) keyed.1 new in
            let all : list_all (has_key marks) (before ++ c ∷ []) ≡ true = rw (list_all-append (has_key marks) before (c ∷ []), keyed.0) (simp set refl) in
            let more : AreKeyed marks (before ++ c ∷ []) = (all, rw (map_append marks before (c ∷ [])) pushed) in
            subst (KeyedOrNot marks) (append_assoc before (c ∷ []) changes) (keyed_from marks (before ++ c ∷ []) changes more)
      ]
    ]

keyed_or_not : (marks : List Bool) (changes : List Change) → KeyedOrNot marks changes
unfolding IsDistinct
keyed_or_not marks changes = keyed_from marks [] changes (refl, tt)

-- ---- the changes of all tables

abbrev IsKeyedIn : List Group → TableDef → Type 0
IsKeyedIn groups table = AreKeyed table.key_marks (changes_of table.name groups)

TableWrong : List Group → List TableDef → Type 0
TableWrong groups tables = (fault : Unfit) × (fault ≢ Memory) × HasTableFault fault tables groups

later_wrong : (groups : List Group) (table : TableDef) (tables : List TableDef) → TableWrong groups tables → TableWrong groups (table ∷ tables)
unfolding TableWrong
later_wrong groups table tables (fault, other, (wrong, there, first)) =
    (fault, other, (wrong, behind table tables wrong there, first))

keys_or_fault : (groups : List Group) (tables : List TableDef) → AllByRecursion (IsKeyedIn groups) tables ⊎ TableWrong groups tables
unfolding TableWrong KeyedOrNot
keys_or_fault groups [] = inl tt
keys_or_fault groups (table ∷ tables) =
    elim (keyed_or_not table.key_marks (changes_of table.name groups)) [
      | inr (inl null) ↦ inr (NullKey, (λ e. cc), (table, here table tables, null))
      | inr (inr twice) ↦ inr (KeyTwice, (λ e. cc), (table, here table tables, twice))
      | inl keyed ↦ elim (keys_or_fault groups tables) [
        | inl all ↦ inl (keyed, all)
        | inr wrong ↦ inr (later_wrong groups table tables wrong)
      ]
    ]

-- ---- one group after another

abbrev HasOtherName : Group → TableDef → Type 0
HasOtherName group table = table.name ≢ group.name

table_or_none : (group : Group) (tables : List TableDef) → ((table : TableDef) × Contains tables table × (group.name ≡ table.name)) ⊎ AllByRecursion (HasOtherName group) tables
table_or_none group [] = inr tt
table_or_none group (table ∷ tables) =
    elim (cases_Bool (bytes_eq table.name group.name)) [
      | inl same ↦ inl (table, here table tables, sym ((bytes_eq-Decides table.name group.name).0 same))
      | inr differ ↦ elim (table_or_none group tables) [
        | inl (found, there, same) ↦ inl (found, behind table tables found there, same)
        | inr none ↦ inr (not_from_Decides (bytes_eq table.name group.name) (bytes_eq-Decides table.name group.name) differ, none)
      ]
    ]

FitOrNot : List TableDef → List Group → Type 0
FitOrNot tables groups = AreFit tables groups ⊎ ((fault : Unfit) × (fault ≢ Memory) × IsUnfit fault tables groups)

HeaderWrong : List TableDef → List Group → Group → List Group → Type 0
HeaderWrong tables before group others =
    (fault : Unfit) × (fault ≢ Memory) × IsUnfit fault tables (before ++ group ∷ others)

table_or_wrong : (tables : List TableDef) (before : List Group) (group : Group) (others : List Group) → AreFit tables before → HasTable tables group ⊎ HeaderWrong tables before group others
unfolding HeaderWrong
table_or_wrong tables before group others fit =
    elim (table_or_none group tables) [
      | inr none ↦ inr (UnknownTable, (λ e. cc), (before, group, others, refl, fit, All-from_recursion (HasOtherName group) tables none))
      | inl (table, there, same) ↦ elim (same_or_not (marks_of group.marks) table.key_marks) [
        | inl shape ↦ inl (table, there, (same, shape))
        | inr differ ↦ inr (Shape, (λ e. cc), (before, group, others, refl, fit, (table, there, same, differ)))
      ]
    ]

fit_from : (tables : List TableDef) (before groups : List Group) → AreTables tables → AreFit tables before → FitOrNot tables (before ++ groups)
unfolding FitOrNot HeaderWrong TableWrong
fit_from tables before [] are fit = inl (rw append-nil fit)
fit_from tables before (group ∷ groups) are fit =
    elim (table_or_wrong tables before group groups fit) [
      | inr wrong ↦ inr wrong
      | inl has ↦ elim (keys_or_fault (before ++ group ∷ []) tables) [
        | inr (fault, other, wrong) ↦
            inr (fault, other, unfit_at fault tables before group groups (before ++ group ∷ groups) refl fit (changes_wrong fault tables before group are fit.1 has wrong))
        | inl keys ↦
            let have = All-append (HasTable tables) before (group ∷ []) fit.0 (All-from_recursion (HasTable tables) (group ∷ []) (has, tt)) in
            let more : AreFit tables (before ++ group ∷ []) = (have, All-from_recursion (IsKeyedIn (before ++ group ∷ [])) tables keys) in
            subst (FitOrNot tables) (append_assoc before (group ∷ []) groups) (fit_from tables (before ++ group ∷ []) groups are more)
      ]
    ]

pub form_or_unfit : FitHasForm → FormOrUnfit
unfolding FitOrNot
form_or_unfit fit_has_form tables groups are fits =
    elim (fit_from tables [] groups are (All-from_recursion (HasTable tables) [] tt, no_group_keys tables)) [
      | inl fit ↦ inl (fit_has_form tables groups are fits fit)
      | inr wrong ↦ inr wrong
    ]
