-- Changesets of a catalog's tables have a join.
use Rattle.std.proofs.Common.{◌≡◌, ◌++◌, ℕ, Bool, true, false, cond, List, [], ◌∷◌, fold, map, refl, sym, ap, ◌∙◌, subst, inl, inr, Option, Some, None}
use Rattle.std.specs.Prelude.{◌≢◌, ◌⊎◌, IsUtf8, slice_index_or}
use Rattle.std.specs.List.{All, AllByRecursion, Contains}
use Rattle.std.specs.Str.{bytes_eq}
use Rattle.std.proofs.lemmas.List.Elements.{All-contains, All-contains_itself, All-from_recursion, recursion_from_All}
use Rattle.std.proofs.lemmas.List.Sums.{fold-append}
use Rattle.std.proofs.lemmas.Slice.Eq.{bytes_eq-Decides}
use Rattle.cs_value.specs.Facts.{by_test}
use Rattle.cs_value.specs.Catalog.{AreTables}
use Rattle.cs_value.specs.declared.catalog.TableDef.{TableDef}
use Rattle.cs_change.specs.declared.change.Change.{Change}
use Rattle.cs_normal.specs.keyed.Changes.{Changes, AreNormal, change_at}
use Rattle.cs_normal.specs.Laws.{HeadersFit}
use Rattle.cs_normal.specs.Normal.{FitsCatalog, IsNormalChangeset, IsNormalTable, changes_in}
use Rattle.cs_normal.specs.declared.normal.TableChanges.{TableChanges}
use Rattle.cs_normalising.specs.Laws.{NormalIsItsForm}
use Rattle.cs_change.specs.netting.Combine.{then_change_any}
use Rattle.cs_group.specs.Steps.FormLaws.{FormLaws, PairLaws}
use Rattle.cs_group.specs.Steps.Joining.{changes_each}
use Rattle.cs_group.specs.Steps.TableByTable.{AreMade, FitsTable, next, no_table}
use Rattle.cs_group.specs.Tables.{AreJoined, AreThen, IsJoinOf, IsThen, JoinOneMore, SomeJoin, changes_along, then_change_all}
use Rattle.cs_group.proofs.Found.{together}
use Rattle.cs_group.proofs.Joined.{same_self}
use Rattle.cs_group.proofs.KeyFolds.{AreNormalEach, combine_none, join_of, own_forms}
use Rattle.cs_group.proofs.PerTable.{HoldsIn, list_fits, made_each, made_fits}

-- ---- the name of a table that has changes is a text

text_in : (name : List ℕ) (changes : List TableChanges) → IsNormalChangeset changes → changes_in name changes ≢ [] → IsUtf8 name
text_in name [] normal some = absurd (some refl)
text_in name (table ∷ tables) normal some =
    by_test (bytes_eq table.name name) _
    (λ e. subst IsUtf8 ((bytes_eq-Decides table.name name).0 e) normal.0.header.text)
    (λ e. text_in name tables normal.2 (λ none. some (ap (λ (t : Bool). cond t table.changes (changes_in name tables)) e ∙ none)))

-- or no changeset has a change at this key
text_or_none : (marks : List Bool) (name key : List ℕ) (o : Option Change) (list : List (List TableChanges)) → AllByRecursion IsNormalChangeset list
    → IsUtf8 name ⊎ (fold (then_change_any marks) o (changes_along name key list) ≡ o)
text_or_none marks name key o [] normal = inr refl
text_or_none marks name key o (first ∷ rest) normal =
    let split : (there : Option Change) → change_at key (changes_in name first) ≡ there → IsUtf8 name ⊎ (fold (then_change_any marks) o (changes_along name key (first ∷ rest)) ≡ o) = elim [
      | None ↦ λ is. elim (text_or_none marks name key o rest normal.1) [
        | inl text ↦ inl text
        | inr still ↦ inr (ap (λ (c : Option Change). fold (then_change_any marks) (then_change_any marks o c) (changes_along name key rest)) is
            ∙ ap (λ (c : Option Change). fold (then_change_any marks) c (changes_along name key rest)) (sym (combine_none marks o)) ∙ still)
      ]
      | Some change ↦ λ is. inl (text_in name first normal.0 (λ none. let bad : None ≡ Some change = sym (ap (λ (cs : Changes). change_at key cs) none) ∙ is in cc))
    ] in
    split (change_at key (changes_in name first)) refl

-- ---- the changes of one table

-- the table's changes of all, taken together; where some are left, its name is a text
record IsJoinWith (list : List (List TableChanges)) (table : TableDef) (joined : Changes) : Type 0 where
  normal : AreNormal table.key_marks joined
  join : IsJoinOf list table joined
  text : joined ≢ [] → IsUtf8 table.name

text_of : (list : List (List TableChanges)) (table : TableDef) (joined : Changes) → AllByRecursion IsNormalChangeset list → IsJoinOf list table joined → joined ≢ [] → IsUtf8 table.name
text_of list table [] normal join some = absurd (some refl)
text_of list table ((key, change) ∷ joined) normal join some =
    elim (text_or_none table.key_marks table.name key None list normal) [
      | inl text ↦ text
      | inr none ↦
          let here : change_at key ((key, change) ∷ joined) ≡ Some change = ap (λ (t : Bool). cond t (Some change) (change_at key joined)) (same_self key) in
          absurd (let bad : Some change ≡ None = sym here ∙ join key ∙ none in cc)
    ]

each_of : (table : TableDef) (list : List (List TableChanges)) → AllByRecursion IsNormalChangeset list → AllByRecursion (FitsTable table) list → AreNormalEach table.key_marks table.name list
each_of table [] normal fits = tt
each_of table (first ∷ rest) normal fits = (fits.0 normal.0, each_of table rest normal.1 fits.1)

joined_with : PairLaws → NormalIsItsForm → (list : List (List TableChanges)) (table : TableDef) → AllByRecursion IsNormalChangeset list → AllByRecursion (FitsTable table) list
    → (joined : Changes) × IsJoinWith list table joined
joined_with law form list table normal fits =
    let marks = table.key_marks in
    let each = each_of table list normal fits in
    let made = together marks (changes_each table.name list) in
    let is = join_of law marks table.name (changes_each table.name list) list made.0 each (own_forms form marks table.name list each) made.1 in
    (made.0, record { normal = is.0; join = is.1; text = text_of list table made.0 normal is.1 })

-- ---- all tables

made_of : PairLaws → NormalIsItsForm → (list : List (List TableChanges)) → AllByRecursion IsNormalChangeset list → (tables : List TableDef) → AllByRecursion (λ table. AllByRecursion (FitsTable table) list) tables
    → (made : List TableChanges) × AreMade (IsJoinWith list) tables made
made_of law form list normal [] fits = ([], no_table)
made_of law form list normal (table ∷ tables) fits =
    let one = joined_with law form list table normal fits.0 in
    let rest = made_of law form list normal tables fits.1 in
    (_, next table one.0 one.1 rest.1)

normal_tables : HeadersFit → (list : List (List TableChanges)) (all : List TableDef) → AreTables all → {tables : List TableDef} {made : List TableChanges} → AllByRecursion (Contains all) tables → AreMade (IsJoinWith list) tables made
    → AllByRecursion IsNormalTable made
normal_tables law list all are in' no_table = tt
normal_tables law list all are in' (next table [] h rest) = normal_tables law list all are in'.1 rest
normal_tables law list all are in' (next table (change ∷ changes) h rest) =
    (record { changes = h.normal; some = λ e. cc; header = law all table are in'.0 (h.text (λ e. cc)) }, normal_tables law list all are in'.1 rest)

pub some_join : FormLaws → NormalIsItsForm → SomeJoin
some_join laws form tables list are normal fits =
    let each = list_fits laws.apart tables list are (All-from_recursion (FitsCatalog tables) list fits) in
    let made = made_of laws.pair form list normal tables each in
    let fit = made_fits (IsJoinWith list) made.1 in
    let inside = recursion_from_All (Contains tables) tables (All-contains_itself tables) in
    let joins = made_each (IsJoinWith list) laws.apart tables made.0 are made.1 in (
      made.0,
      laws.fitting tables made.0 are fit (normal_tables laws.headers list tables are inside made.1),
      fit,
      λ k d within. (joins k d within).join,
    )

-- ---- one changeset more

along_more : (name key : List ℕ) (list : List (List TableChanges)) (last : List TableChanges) → changes_along name key (list ++ last ∷ []) ≡ changes_along name key list ++ change_at key (changes_in name last) ∷ []
along_more name key [] last = refl
along_more name key (first ∷ list) last = ap (λ (cs : List (Option Change)). change_at key (changes_in name first) ∷ cs) (along_more name key list last)

more_at : (list : List (List TableChanges)) (table : TableDef) (last : List TableChanges) (joined both : Changes) → IsJoinOf list table joined → IsThen table.key_marks joined (changes_in table.name last) both → IsJoinOf (list ++ last ∷ []) table both
more_at list table last joined both join then key =
    let marks = table.key_marks in
    let there = change_at key (changes_in table.name last) in
    then key
    ∙ ap (λ (o : Option Change). then_change_any marks o there) (join key)
    ∙ sym (ap (then_change_all marks) (along_more table.name key list last) ∙ fold-append (then_change_any marks) None (changes_along table.name key list) (there ∷ []))

pub join_one_more : JoinOneMore
join_one_more tables list last joined both join then k d within =
    let table = slice_index_or tables k d in
    more_at list table last (changes_in table.name joined) (changes_in table.name both) (join k d within) (then k d within)
