-- The push under way is sound where each of its changes leads to what stood before what is pending, and only there.
use Rattle.std.proofs.Common.{◌≡◌, ◌<◌, ◌∙◌, ◌++◌, ℕ, Bool, true, List, [], ◌∷◌, map, Option, Some, None, get_or, length, refl, ap, subst, sym}
use Rattle.std.specs.Prelude.{Contains}
use Rattle.std.specs.List.{AllByRecursion, HoldsAt, list_all}
use Rattle.std.specs.Str.{bytes_eq}
use Rattle.std.proofs.lemmas.Option.{same_Some}
use Rattle.cs_value.specs.Facts.{by_test}
use Rattle.cs_value.specs.Catalog.{AreTables, is_set}
use Rattle.cs_value.specs.Key.{Place}
use Rattle.cs_value.specs.Laws.{OnePlaceOfName}
use Rattle.cs_value.specs.declared.catalog.TableDef.{TableDef}
use Rattle.cs_change.specs.Action.{action, action_any}
use Rattle.cs_change.specs.Net.{net}
use Rattle.cs_change.specs.declared.change.Change.{Change}
use Rattle.cs_normal.specs.keyed.Changes.{Changes, IsEntry, change_at}
use Rattle.cs_normal.specs.keyed.NormalForm.{has_key}
use Rattle.cs_normal.specs.Laws.{SetColumnsFit}
use Rattle.cs_normal.specs.Normal.{FitsCatalog, IsNormalChangeset, change_of}
use Rattle.cs_normal.specs.State.{IsStateOf, MayStandAt}
use Rattle.cs_normal.specs.declared.normal.TableChanges.{TableChanges}
use Rattle.cs_order.specs.Order.{same_bytes}
use Rattle.cs_pending.specs.NormalTasks.{IsOfOne, are_apart, bytes_stay, each_found, entries_in, found_is, keyed_task, keyed_tasks, normal_key, number_of, of_one, one_table, spot_of, found_at, table_tasks}
use Rattle.cs_pending.specs.Spots.{key_is, name_is}
use Rattle.cs_pending.specs.Tasks.{Task}
use Rattle.cs_pending.specs.Nets.{undo_none}
use Rattle.cs_pending.specs.Settled.{Catalogs}
use Rattle.cs_pending.specs.Shows.{IsSoundOf}
use Rattle.cs_pending.specs.View.{View, middle, undo}
use Rattle.cs_pending.specs.position.Shows.{changes_at}
use Rattle.cs_opening.specs.Steps.{ChangesLead, FlightLeads, IsNetTo}
use Rattle.cs_opening.proofs.Bases.{base_stands, may_stand, no_net, stands_in}

-- ---- where they lead, it is sound

-- what is known of the change at a place
record IsFound (tables : List TableDef) (view : View) (name key : List ℕ) (change : Change) : Type 0 where
  pub table : TableDef
  pub inside : Contains tables table
  pub named : table.name ≡ name
  pub entry : IsEntry table.key_marks (key, change)
  pub leads : IsNetTo table.key_marks change (middle view name key)

found_entry : (view : View) (name : List ℕ) (marks : List Bool) (key : List ℕ) (change : Change) (entries : Changes) → AllByRecursion (IsEntry marks) entries → ChangesLead view name marks entries → change_at key entries ≡ Some change
    → IsEntry marks (key, change) × IsNetTo marks change (middle view name key)
found_entry view name marks key change [] are lead e = absurd (let no = e in cc)
found_entry view name marks key change (entry ∷ entries) are lead e =
    by_test (same_bytes key entry.0) _
    (λ t. let is : entry.1 ≡ change = same_Some entry.1 change (rw t at e) in
    let there : entry.0 ≡ key = sym (key_is key entry.0 t) in (
      subst (λ (c : Change). IsEntry marks (key, c)) is (subst (λ (k : List ℕ). IsEntry marks (k, entry.1)) there are.0),
      subst (λ (c : Change). IsNetTo marks c (middle view name key)) is (subst (λ (k : List ℕ). IsNetTo marks entry.1 (middle view name k)) there lead.0),
    ))
    (λ t. found_entry view name marks key change entries are.1 lead.1 (rw t at e))

module _ (tables : List TableDef) (view : View) where
  found_in : (first : TableChanges) (name key : List ℕ) (change : Change) → IsOfOne tables first → first.name ≡ name → AllByRecursion (IsEntry first.marks) first.changes → ChangesLead view first.name first.marks first.changes
      → change_at key first.changes ≡ Some change → IsFound tables view name key change
  found_in first name key change of named are lead e =
      let found = found_entry view first.name first.marks key change first.changes are lead e in
      record {
        table = of.table;
        inside = of.inside;
        named = sym of.of.0 ∙ named;
        entry = subst (λ (marks : List Bool). IsEntry marks (key, change)) of.of.1 found.0;
        leads = subst (λ (marks : List Bool). IsNetTo marks change (middle view name key)) of.of.1 (subst (λ (n : List ℕ). IsNetTo first.marks change (middle view n key)) named found.1);
      }

  found_change : (changes : List TableChanges) (name key : List ℕ) (change : Change) → AllByRecursion (IsOfOne tables) changes → IsNormalChangeset changes → FlightLeads view changes → change_of name key changes ≡ Some change → IsFound tables view name key change
  found_change [] name key change of normal lead e = absurd (let no = e in cc)
  found_change (first ∷ others) name key change of normal lead e =
      by_test (bytes_eq first.name name) _
      (λ t. found_in first name key change of.0 (name_is first.name name t) (entries_in first others normal) lead.0 (rw t at e))
      (λ t. found_change others name key change of.1 normal.2 lead.1 (rw t at e))

module _ (tables : List TableDef) (law : Catalogs tables) (set : SetColumnsFit) (view : View) (before : IsStateOf tables (middle view)) (changes : List TableChanges) (normal : IsNormalChangeset changes) (fits : FitsCatalog tables changes) where
  base_of : FlightLeads view changes → (name key : List ℕ) (o : Option Change) → change_of name key changes ≡ o → MayStandAt tables name key (undo (action_any o) (middle view name key))
  base_of lead name key None e = subst (λ (p : Place). MayStandAt tables name key p) (sym (undo_none (middle view name key))) (before name key)
  base_of lead name key (Some change) e =
      let found = found_change tables view changes name key change (of_one tables changes fits) normal lead e in
      let table = found.table in
      let place = middle view name key in
      let stands = stands_in tables law table key place found.inside (subst (λ (n : List ℕ). MayStandAt tables n key place) (sym found.named) (before name key)) in
      let keyed = bytes_stay table.key_marks (key, change) found.entry in
      let key_set : has_key table.key_marks change ≡ true = ap (list_all is_set) (normal_key table.key_marks found.entry.key change found.entry.normal).0 ∙ found.entry.set in
      subst (λ (n : List ℕ). MayStandAt tables n key (undo (Some (action change)) place)) found.named
      (may_stand tables table key (undo (Some (action change)) place) found.inside (base_stands set table key change place found.entry.fits key_set (sym keyed) stands))

  net_at : FlightLeads view changes → (table : TableDef) (key : List ℕ) → Contains tables table → (o : Option Change) → change_of table.name key changes ≡ o
      → action_any o ≡ net table.key_marks (undo (action_any o) (middle view table.name key)) (middle view table.name key)
  net_at lead table key inside None e =
      sym (ap (λ (p : Place). net table.key_marks p (middle view table.name key)) (undo_none (middle view table.name key)) ∙ no_net table.key_marks (middle view table.name key))
  net_at lead table key inside (Some change) e =
      let found = found_change tables view changes table.name key change (of_one tables changes fits) normal lead e in
      let same : found.table ≡ table = one_table law.one tables found.table table law.are found.inside inside found.named in
      sym (subst (λ (t : TableDef). IsNetTo t.key_marks change (middle view table.name key)) same found.leads)

  pub flight_sound : FlightLeads view changes → IsSoundOf tables (changes_at changes) (middle view)
  flight_sound lead = record {
    before_state = λ name key. base_of lead name key (change_of name key changes) refl;
    after_state = before;
    net_of = λ table key inside. net_at lead table key inside (change_of table.name key changes) refl;
  }

  -- ---- where it is sound, they lead

  module _ (sound : IsSoundOf tables (changes_at changes) (middle view)) where
    -- what is asked of a change of the list
    abbrev Leads : Task → Type 0
    Leads t = IsNetTo t.marks t.change (middle view t.name t.key)

    lead_at : (table : TableDef) (key : List ℕ) (change : Change) → Contains tables table → change_of table.name key changes ≡ Some change → IsNetTo table.key_marks change (middle view table.name key)
    lead_at table key change inside is =
        let place = middle view table.name key in
        subst (λ (o : Option Change). net table.key_marks (undo (action_any o) place) place ≡ action_any o) is (sym (sound.net_of table key inside))

    entries_lead : (first : TableChanges) (number : ℕ) → IsOfOne tables first → (entries : Changes)
        → AllByRecursion (λ (t : Task). change_of t.name t.key changes ≡ Some t.change) (map (keyed_task number first) entries) → ChangesLead view first.name first.marks entries
    entries_lead first number of [] found = tt
    entries_lead first number of (entry ∷ entries) found =
        let is : change_of of.table.name entry.0 changes ≡ Some entry.1 = ap (λ (n : List ℕ). change_of n entry.0 changes) (sym of.of.0) ∙ found.0 in
        let lead = lead_at of.table entry.0 entry.1 of.inside is in (
          subst (λ (m : List Bool). IsNetTo m entry.1 (middle view first.name entry.0)) (sym of.of.1)
              (subst (λ (n : List ℕ). IsNetTo of.table.key_marks entry.1 (middle view n entry.0)) (sym of.of.0) lead),
          entries_lead first number of entries found.1,
        )

    tables_lead : (some : List TableChanges) → AllByRecursion (IsOfOne tables) some → AllByRecursion (λ (t : Task). change_of t.name t.key changes ≡ Some t.change) (keyed_tasks tables some) → FlightLeads view some
    unfolding keyed_tasks
    tables_lead [] of found = tt
    tables_lead (first ∷ others) of found =
        let parts = both_parts (λ (t : Task). change_of t.name t.key changes ≡ Some t.change) (table_tasks tables first) (keyed_tasks tables others) found in
        (entries_lead first (number_of tables first) of.0 first.changes parts.0, tables_lead others of.1 parts.1)
      where
        both_parts : (P : Task → Type 0) (xs ys : List Task) → AllByRecursion P (xs ++ ys) → AllByRecursion P xs × AllByRecursion P ys
        both_parts P [] ys all = (tt, all)
        both_parts P (x ∷ xs) ys all = let more = both_parts P xs ys all.1 in ((all.0, more.0), more.1)

    found_each : (some : List Task) → AllByRecursion (λ (t : Task). found_at (spot_of t) (keyed_tasks tables changes) ≡ Some t.change) some → AllByRecursion (λ (t : Task). change_of t.name t.key changes ≡ Some t.change) some
    found_each [] found = tt
    found_each (t ∷ some) found = (sym (found_is tables t.name t.key changes normal) ∙ found.0, found_each some found.1)

    pub flight_leads : FlightLeads view changes
    flight_leads =
        tables_lead changes (of_one tables changes fits) (found_each (keyed_tasks tables changes) (each_found (keyed_tasks tables changes) (are_apart tables changes normal)))

-- ---- one table of the changeset

module _ (one : OnePlaceOfName) (tables : List TableDef) (are : AreTables tables) (view : View) (first : TableChanges) (of : IsOfOne tables first) (shown : List TableDef) (number : ℕ) (table : TableDef)
    (same : shown ≡ tables) (within : number < length tables) (is : table ≡ get_or shown number table) (named : HoldsAt (λ (t : TableDef). t.name ≡ first.name) tables number) where
  here : get_or tables number table ≡ table
  here = ap (λ (ts : List TableDef). get_or ts number table) (sym same) ∙ sym is

  name_is_first : table.name ≡ first.name
  name_is_first = subst (λ (t : TableDef). t.name ≡ first.name) here (named table)

  marks_are_first : table.key_marks ≡ first.marks
  marks_are_first =
      ap (λ (t : TableDef). t.key_marks) (one_table one tables table of.table are (number, within, here) of.inside (name_is_first ∙ of.of.0)) ∙ sym of.of.1

  pub leads_first : ChangesLead view table.name table.key_marks first.changes → ChangesLead view first.name first.marks first.changes
  leads_first lead =
      subst (λ (m : List Bool). ChangesLead view first.name m first.changes) marks_are_first (subst (λ (n : List ℕ). ChangesLead view n table.key_marks first.changes) name_is_first lead)

  pub first_leads : ChangesLead view first.name first.marks first.changes → ChangesLead view table.name table.key_marks first.changes
  first_leads lead =
      subst (λ (n : List ℕ). ChangesLead view n table.key_marks first.changes) (sym name_is_first) (subst (λ (m : List Bool). ChangesLead view first.name m first.changes) (sym marks_are_first) lead)
