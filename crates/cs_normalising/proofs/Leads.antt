-- The normal form leads from a state to where the changes as read lead, one after another.
use Rattle.std.proofs.Common.{◌≡◌, ◌≢◌, ◌⊎◌, ℕ, Bool, true, false, List, [], ◌∷◌, ◌++◌, map, Option, Some, None, refl, sym, ap, subst, ◌∙◌, inl, inr}
use Rattle.std.specs.List.{AllByRecursion, Contains, IsDistinct}
use Rattle.std.specs.Str.{bytes_eq}
use Rattle.std.proofs.lemmas.List.Elements.{All-contains, All-from_recursion, recursion_from_All}
use Rattle.std.proofs.lemmas.Map.Keys.{IsDistinct-head, IsDistinct-tail}
use Rattle.std.proofs.lemmas.Slice.Eq.{bytes_eq-Decides}
use Rattle.cs_value.specs.Facts.{by_test}
use Rattle.cs_value.specs.Catalog.{AreTables}
use Rattle.cs_value.specs.Key.{Place, FitsPlace}
use Rattle.cs_value.specs.declared.catalog.TableDef.{TableDef}
use Rattle.cs_value.specs.declared.value.Value.{Value}
use Rattle.cs_change.specs.Action.{action, action_any, after, after_any}
use Rattle.cs_change.specs.Spelling.{FitsChange, FitsChangeset, marks_of}
use Rattle.cs_change.specs.declared.change.Change.{Change}
use Rattle.cs_change.specs.declared.group.Group.{Group}
use Rattle.cs_order.specs.Order.{same_bytes}
use Rattle.cs_order.specs.Facts.{same_is}
use Rattle.cs_normal.specs.keyed.Changes.{key_bytes, IsSpelled, change_at}
use Rattle.cs_normal.specs.keyed.Laws.{BytesTellKeys}
use Rattle.cs_normal.specs.keyed.NormalForm.{change_key, change_bytes, AreKeyed, IsNormalOf, normal_form_any, keyed}
use Rattle.cs_normal.specs.Normal.{change_of, changes_in}
use Rattle.cs_normal.specs.State.{State, IsStateOf, left_at, IsAfterChanges, IsAfterGroups}
use Rattle.cs_normal.specs.declared.normal.TableChanges.{TableChanges}
use Rattle.cs_normal.specs.NormalFacts.{key_spelled, named_or_not, absent_name, row_fits, same_self}
use Rattle.cs_normalising.specs.NormalFormOf.{HasTable, changes_of, IsNormalFormOf}
use Rattle.cs_normalising.specs.Laws.{NormalFormLeads}
use Rattle.cs_normalising.proofs.AsRead.{shape_of, all_read}
use Rattle.cs_normalising.proofs.Entries.{lenient}
use Rattle.cs_normalising.proofs.Keeps.{keeps}
use Rattle.cs_normalising.proofs.Membership.{by_key}
use Rattle.cs_normalising.proofs.PerTable.{AreAsRead}

state_place : BytesTellKeys → (tables : List TableDef) (state : State) (table : TableDef) (values : List Value) → AreTables tables → IsStateOf tables state → Contains tables table → IsSpelled values → FitsPlace table.key_marks values (state table.name (key_bytes values))
state_place apart tables state table values are is one spelled =
    row_fits apart tables table (key_bytes values) values (state table.name (key_bytes values)) are one spelled refl (is table.name (key_bytes values))

-- what the changes at the place with these bytes lead to, one after another
abbrev AtPlace : List Bool → List ℕ → List Change → Place → Place → Type 0
AtPlace marks key [] before end = end ≡ before
AtPlace marks key (c ∷ changes) before end =
    ((key ≡ change_bytes marks c) × ((middle : Place) × (after (action c) before ≡ Some middle) × AtPlace marks key changes middle end))
    ⊎ ((key ≢ change_bytes marks c) × AtPlace marks key changes before end)

at_changes : (name : List ℕ) (marks : List Bool) (key : List ℕ) (changes : List Change) (before end : State) → IsAfterChanges name marks changes before end → AtPlace marks key changes (before name key) (end name key)
at_changes name marks key [] before end h = h name key
at_changes name marks key (c ∷ changes) before end h =
    let middle = h.0 in
    let rest = at_changes name marks key changes middle end h.2 in
    by_test (same_bytes key (change_bytes marks c)) _ (λ t.
    let is : key ≡ change_bytes marks c = same_is key (change_bytes marks c) t in
    inl (is, (middle name key, subst (λ (k : List ℕ). after (action c) (before name k) ≡ Some (middle name k)) (sym is) h.1.0, rest))) (λ f.
    let apart : key ≢ change_bytes marks c = λ is. (let t : same_bytes key (change_bytes marks c) ≡ true = rw (← is) (same_self key) in cc) in
    inr (apart, subst (λ (p : Place). AtPlace marks key changes p (end name key)) (h.1.1 name key (λ both. apart both.1)) rest))

at_append : (marks : List Bool) (key : List ℕ) (changes others : List Change) (before middle end : Place) → AtPlace marks key changes before middle → AtPlace marks key others middle end → AtPlace marks key (changes ++ others) before end
at_append marks key [] others before middle end h g = subst (λ (p : Place). AtPlace marks key others p end) h g
at_append marks key (c ∷ changes) others before middle end (inl h) g =
    inl (h.0, (h.1.0, h.1.1, at_append marks key changes others h.1.0 middle end h.1.2 g))
at_append marks key (c ∷ changes) others before middle end (inr h) g =
    inr (h.0, at_append marks key changes others before middle end h.1 g)

elsewhere : (name other : List ℕ) (marks : List Bool) (key : List ℕ) (changes : List Change) (before end : State) → other ≢ name → IsAfterChanges name marks changes before end → end other key ≡ before other key
elsewhere name other marks key [] before end apart h = h other key
elsewhere name other marks key (c ∷ changes) before end apart h =
    elsewhere name other marks key changes h.0 end apart h.2 ∙ h.1.1 other key (λ both. apart both.0)

module _ (tables : List TableDef) (table : TableDef) (are : AreTables tables) (one : Contains tables table) (key : List ℕ) where
  at_groups : (groups : List Group) (before end : State) → AllByRecursion (HasTable tables) groups → IsAfterGroups groups before end → AtPlace table.key_marks key (changes_of table.name groups) (before table.name key) (end table.name key)
  at_groups [] before end have h = h table.name key
  at_groups (group ∷ groups) before end have h =
      let middle = h.0 in
      let rest = at_groups groups middle end have.1 h.2 in
      by_test (bytes_eq group.name table.name) _ (λ t.
      let same : group.name ≡ table.name = (bytes_eq-Decides group.name table.name).0 t in
      let shape : marks_of group.marks ≡ table.key_marks = shape_of tables table group are one have.0 same in
      let first = rw (shape, same) at (at_changes group.name (marks_of group.marks) key group.changes before middle h.1) in
      simp t (at_append table.key_marks key group.changes (changes_of table.name groups) (before table.name key) (middle table.name key) (end table.name key) first rest)) (λ f.
      let apart : table.name ≢ group.name = λ e. (let t : bytes_eq group.name table.name ≡ true = (bytes_eq-Decides group.name table.name).1 (sym e) in cc) in
      simp f (subst (λ (p : Place). AtPlace table.key_marks key (changes_of table.name groups) p (end table.name key)) (elsewhere group.name table.name (marks_of group.marks) key group.changes before middle apart h.1) rest))

at_none : (marks : List Bool) (key : List ℕ) (changes : List Change) (before end : Place) → AllByRecursion (λ k. same_bytes key k ≡ false) (map (change_bytes marks) changes) → AtPlace marks key changes before end → end ≡ before
at_none marks key [] before end none h = h
at_none marks key (c ∷ changes) before end none (inl h) =
    absurd (let t : same_bytes key (change_bytes marks c) ≡ true = rw (← h.0) (same_self key) in let f = none.0 in cc)
at_none marks key (c ∷ changes) before end none (inr h) = at_none marks key changes before end none.1 h.1

-- with a key of its own, each change is the only one at its place
at_once : (marks : List Bool) (key : List ℕ) (changes : List Change) (before end : Place) → IsDistinct same_bytes (map (change_bytes marks) changes) → AtPlace marks key changes before end → after_any (action_any (change_at key (keyed marks changes))) before ≡ Some end
at_once marks key [] before end d h = ap (λ p. Some p) (sym h)
at_once marks key (c ∷ changes) before end d (inl h) =
    let head = IsDistinct-head same_bytes (change_bytes marks c) (map (change_bytes marks) changes) d in
    let none : AllByRecursion (λ k. same_bytes key k ≡ false) (map (change_bytes marks) changes) = rw h.0 head in
    let last : end ≡ h.1.0 = at_none marks key changes h.1.0 end none h.1.2 in
    let t : same_bytes key (change_bytes marks c) ≡ true = rw (← h.0) (same_self key) in
    simp t (h.1.1 ∙ ap (λ p. Some p) (sym last))
at_once marks key (c ∷ changes) before end d (inr h) =
    let rest = at_once marks key changes before end (IsDistinct-tail same_bytes (change_bytes marks c) (map (change_bytes marks) changes) d) h.1 in
    by_test (same_bytes key (change_bytes marks c)) _ (λ t. absurd (h.0 (same_is key (change_bytes marks c) t))) (λ f. simp f rest)

-- what is found was read, with this key
found : (marks : List Bool) (key : List ℕ) (changes : List Change) (change : Change) → AllByRecursion (FitsChange marks) changes → change_at key (keyed marks changes) ≡ Some change → FitsChange marks change × (key ≡ change_bytes marks change)
found marks key [] change fits h = cc
found marks key (c ∷ changes) change fits h =
    by_test (same_bytes key (change_bytes marks c)) _ (λ t.
    let is : c ≡ change = (let h' = simp t at h in cc) in
    subst (λ (x : Change). FitsChange marks x × (key ≡ change_bytes marks x)) is (fits.0, same_is key (change_bytes marks c) t)) (λ f. found marks key changes change fits.1 (simp f at h))

-- at one place
place_leads : (marks : List Bool) (key : List ℕ) (changes : List Change) (before end : Place) → ((values : List Value) → key ≡ key_bytes values → IsSpelled values → FitsPlace marks values before) → AllByRecursion (FitsChange marks) changes → after_any (action_any (change_at key (keyed marks changes))) before ≡ Some end → after_any (action_any (normal_form_any marks (change_at key (keyed marks changes)))) before ≡ Some end
place_leads marks key changes before end row fits h =
    let split : (found_there : Option Change) → change_at key (keyed marks changes) ≡ found_there → after_any (action_any found_there) before ≡ Some end → after_any (action_any (normal_form_any marks found_there)) before ≡ Some end = elim [
      | None ↦ λ e step. step
      | Some c ↦ λ e step.
          let is = found marks key changes c fits e in
          (keeps marks (change_key marks c) c (lenient marks c is.0)).1 before end (row (change_key marks c) is.1 (key_spelled marks c is.0)) step
    ] in
    split (change_at key (keyed marks changes)) refl h

-- a name that no group has keeps what it had
others_keep : (name key : List ℕ) (groups : List Group) (before end : State) → AllByRecursion (λ (group : Group). name ≢ group.name) groups → IsAfterGroups groups before end → end name key ≡ before name key
others_keep name key [] before end apart h = h name key
others_keep name key (group ∷ groups) before end apart h =
    others_keep name key groups h.0 end apart.1 h.2 ∙ elsewhere group.name name (marks_of group.marks) key group.changes before h.0 apart.0 h.1

-- no group has a name that no table has
no_group : (tables : List TableDef) (name : List ℕ) (groups : List Group) → ((table : TableDef) → Contains tables table → table.name ≢ name) → AllByRecursion (HasTable tables) groups → AllByRecursion (λ (group : Group). name ≢ group.name) groups
no_group tables name [] none have = tt
no_group tables name (group ∷ groups) none have =
    (λ e. none have.0.0 have.0.1 (sym (e ∙ have.0.2.0)), no_group tables name groups none have.1)

module _ (apart : BytesTellKeys) (tables : List TableDef) (groups : List Group) (normal : List TableChanges) (before end : State) (are : AreTables tables) (fits : FitsChangeset groups) (form : IsNormalFormOf tables groups normal) (state : IsStateOf tables before) (h : IsAfterGroups groups before end) where
  at_table : (table : TableDef) (key : List ℕ) → Contains tables table → after_any (action_any (change_of table.name key normal)) (before table.name key) ≡ Some (end table.name key)
  at_table table key one =
      let name = table.name in
      let marks = table.key_marks in
      let changes = changes_of name groups in
      let at = at_groups tables table are one key groups before end (recursion_from_All (HasTable tables) groups form.fit.0) h in
      let keys = All-contains (λ (t : TableDef). AreKeyed t.key_marks (changes_of t.name groups)) tables table form.fit.1 one in
      let normal_of = All-contains (λ (t : TableDef). IsNormalOf t.key_marks (changes_of t.name groups) (changes_in t.name normal)) tables table form.each one in
      let read = All-contains (AreAsRead groups) tables table (All-from_recursion (AreAsRead groups) tables (all_read tables groups are form.fit.0 fits)) one in
      let step = at_once marks key changes (before name key) (end name key) keys.1 at in
      let led = place_leads marks key changes (before name key) (end name key) (λ (values : List Value) is spelled. subst (λ (k : List ℕ). FitsPlace marks values (before name k)) (sym is) (state_place apart tables before table values are state one spelled)) read step in
      rw ((by_key marks changes (changes_in name normal) normal_of).1 key) led

  at_name : (name key : List ℕ) → left_at normal before name key ≡ Some (end name key)
  at_name name key =
      elim (named_or_not tables name) [
        | inl is ↦ subst (λ (n : List ℕ). left_at normal before n key ≡ Some (end n key)) is.2 (at_table is.0 key is.1)
        | inr none ↦
            (let kept = others_keep name key groups before end (no_group tables name groups none (recursion_from_All (HasTable tables) groups form.fit.0)) h in
            let gone = absent_name tables name normal none form.of_catalog in
            rw gone (ap (λ p. Some p) (sym kept)))
      ]

pub leads : BytesTellKeys → NormalFormLeads
leads apart tables groups normal before end are fits form state h =
    (form.of_catalog, at_name apart tables groups normal before end are fits form state h)
