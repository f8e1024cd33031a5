-- The view that contents show where each row and each pending change is what its place says, and each change leads to its row.
use Rattle.std.proofs.Common.{◌≡◌, ◌∙◌, ◌+◌, ◌++◌, ◌⊎◌, inl, inr, ℕ, zero, suc, List, [], ◌∷◌, Option, Some, None, option_map, arith, length, refl, ap, subst, sym}
use Rattle.std.specs.Prelude.{pos, Contains, IfSome, slice_get}
use Rattle.std.proofs.lemmas.Option.{get_or_from_slice_get, same_Some, slice_get-get_or, slice_get_within}
use Rattle.cs_value.specs.Key.{Place}
use Rattle.cs_value.specs.declared.catalog.TableDef.{TableDef}
use Rattle.cs_record.specs.Laws.{OneSpelledRow}
use Rattle.cs_record.specs.Spelling.{row_bytes}
use Rattle.cs_change.specs.Action.{action_any}
use Rattle.cs_change.specs.Net.{net}
use Rattle.cs_change.specs.Spelling.{FitsChange, change_spelling}
use Rattle.cs_change.specs.declared.change.Change.{Change}
use Rattle.cs_changeset.specs.Laws.{ChangesApart}
use Rattle.cs_normal.specs.Laws.{SetColumnsFit}
use Rattle.cs_normal.specs.State.{MayStandAt}
use Rattle.cs_store.specs.Contents.{Contents, stored_pending, stored_tables}
use Rattle.cs_store.specs.States.{IsStored}
use Rattle.cs_store.specs.Whole.{StoresRow, StoresChange}
use Rattle.cs_opening.proofs.NoLog.{HoldsTheirs}
use Rattle.cs_pending.specs.Spots.{name_is, name_not}
use Rattle.cs_pending.specs.Nets.{undo_none}
use Rattle.cs_pending.specs.OnePlace.{contained}
use Rattle.cs_pending.specs.Settled.{Catalogs}
use Rattle.cs_pending.specs.Shows.{ShowsSome}
use Rattle.cs_pending.specs.View.{undo}
use Rattle.cs_opening.specs.Steps.{IsLeading, IsNetTo, TableLeads, TablesLead}
use Rattle.std.specs.Str.{bytes_eq}
use Rattle.cs_value.specs.Facts.{by_test}
use Rattle.cs_opening.proofs.Bases.{StandsIn, base_stands, may_stand, no_net}

-- the laws that are used
pub record SeenLaws (tables : List TableDef) : Type 0 where
  pub catalogs : Catalogs tables
  pub set : SetColumnsFit
  pub rows : OneSpelledRow
  pub changes : ChangesApart

-- ---- tables by number and by name

-- a table under a name, with its number
abbrev IsNumbered : List TableDef → List ℕ → Type 0
IsNumbered tables name = (number : ℕ) × (table : TableDef) × (slice_get tables number ≡ Some table) × (table.name ≡ name)

later : (first : TableDef) (tables : List TableDef) (name : List ℕ) → IsNumbered tables name → IsNumbered (first ∷ tables) name
later first tables name (number, table, at, named) = (suc number, table, at, named)

not_later : (first : TableDef) (tables : List TableDef) (name : List ℕ) → (first.name ≡ name → ⊥) → (IsNumbered tables name → ⊥) → IsNumbered (first ∷ tables) name → ⊥
not_later first tables name here never (zero, table, at, named) = here (ap (λ (t : TableDef). t.name) (same_Some first table at) ∙ named)
not_later first tables name here never (suc number, table, at, named) = never (number, table, at, named)

numbered : (tables : List TableDef) (name : List ℕ) → IsNumbered tables name ⊎ (IsNumbered tables name → ⊥)
numbered [] name = inr (λ is. absurd (let no = is.2 in cc))
numbered (first ∷ tables) name =
    by_test (bytes_eq first.name name) _
    (λ t. inl (0, first, refl, name_is first.name name t))
    (λ t. elim (numbered tables name) [
      | inl is ↦ inl (later first tables name is)
      | inr never ↦ inr (not_later first tables name (name_not first.name name t) never)
    ])

-- a table that is there has a number
pub number_there : (tables : List TableDef) (table : TableDef) → Contains tables table → (number : ℕ) × (slice_get tables number ≡ Some table)
number_there tables table there = (there.0, slice_get-get_or tables there.0 table there.1 ∙ ap Some there.2)

-- each of the tables leads
pub table_leads : (contents : Contents) (tables : List TableDef) (first number : ℕ) (table : TableDef) → TablesLead contents first tables → slice_get tables number ≡ Some table → TableLeads contents (first + number) table
table_leads contents [] first number table lead at = absurd (let no = at in cc)
table_leads contents (t ∷ tables) first zero table lead at =
    subst (λ (n : ℕ). TableLeads contents n table) (omega arith) (subst (λ (u : TableDef). TableLeads contents first u) (same_Some t table at) lead.0)
table_leads contents (t ∷ tables) first (suc number) table lead at =
    subst (λ (n : ℕ). TableLeads contents n table) (omega arith) (table_leads contents tables (first + 1) number table lead.1 at)

-- ---- one spelling

pub one_change : ChangesApart → (table : TableDef) (some other : Change) → FitsChange table.key_marks some → FitsChange table.key_marks other → change_spelling some ≡ change_spelling other → some ≡ other
one_change law table some other s o e = (law table.key_marks some other [] [] s o (ap (λ (b : List ℕ). b ++ []) e)).0

one_place : OneSpelledRow → (table : TableDef) (key : List ℕ) (stored : Option (List ℕ)) (some other : Place) → StandsIn table key some → stored ≡ option_map row_bytes some → IsStored (length table.key_marks) stored other → other ≡ some
one_place law table key stored None None s e o = refl
one_place law table key stored None (Some row) s e o = absurd (let no = sym e ∙ o.1 in cc)
one_place law table key stored (Some row) None s e o = absurd (let no = sym o ∙ e in cc)
one_place law table key stored (Some row) (Some other) s e o =
    ap Some (law other row o.0.1 s.fits.1 (same_Some (row_bytes other) (row_bytes row) (sym o.1 ∙ e)))

-- ---- one place

-- what stands and is pending at a place of a table
record IsSpot (contents : Contents) (number : ℕ) (table : TableDef) (key : List ℕ) (place : Place) (change : Option Change) : Type 0 where
  pub row : stored_tables contents number key ≡ option_map row_bytes place
  pub body : stored_pending contents number key ≡ option_map change_spelling change
  pub fits : IfSome change (FitsChange table.key_marks)
  pub stands : StandsIn table key place
  pub base : StandsIn table key (undo (action_any change) place)
  pub leads : action_any change ≡ net table.key_marks (undo (action_any change) place) place

-- the same of a place under a name, if it is a table's
record IsSpotNamed (tables : List TableDef) (contents : Contents) (name key : List ℕ) (place : Place) (change : Option Change) : Type 0 where
  pub stands : MayStandAt tables name key place
  pub base : MayStandAt tables name key (undo (action_any change) place)
  pub spot : (number : ℕ) (table : TableDef) → slice_get tables number ≡ Some table → table.name ≡ name → IsSpot contents number table key place change

module _ (tables : List TableDef) (law : SeenLaws tables) (contents : Contents) (whole : HoldsTheirs tables contents) (lead : TablesLead contents 0 tables) where
  table_is : (some other : ℕ) (t u : TableDef) → pos some ≡ pos other → slice_get tables some ≡ Some t → slice_get tables other ≡ Some u → u ≡ t
  table_is some other t u e at found =
      let same : some ≡ other = (let f = e in cc) in
      same_Some u t (sym found ∙ ap (slice_get tables) (sym same) ∙ at)

  row_at : (number : ℕ) (table : TableDef) (key : List ℕ) → slice_get tables number ≡ Some table → (o : Option (List ℕ)) → stored_tables contents number key ≡ o
      → (place : Place) × (stored_tables contents number key ≡ option_map row_bytes place) × StandsIn table key place
  row_at number table key at None e = (None, e, tt)
  row_at number table key at (Some body) e =
      let w = whole.rows (pos number, key) body e in
      let stores : StoresRow table key body = subst (λ (t : TableDef). StoresRow t key body) (table_is number w.0 table w.1 w.2 at w.3) w.4 in
      (Some stores.0, e ∙ ap Some stores.2, stores.1)

  spot_none : (number : ℕ) (table : TableDef) (key : List ℕ) (place : Place) → stored_tables contents number key ≡ option_map row_bytes place → StandsIn table key place → stored_pending contents number key ≡ None → IsSpot contents number table key place None
  spot_none number table key place row stands e =
      let back : undo None place ≡ place = undo_none place in
      record {
        row = row;
        body = e;
        fits = tt;
        stands = stands;
        base = subst (λ (p : Place). StandsIn table key p) (sym back) stands;
        leads = sym (ap (λ (p : Place). net table.key_marks p place) back ∙ no_net table.key_marks place);
      }

  spot_some : (number : ℕ) (table : TableDef) (key body : List ℕ) (place : Place) → stored_tables contents number key ≡ option_map row_bytes place → StandsIn table key place → stored_pending contents number key ≡ Some body
      → StoresChange table key body → IsLeading table (stored_tables contents number key) body → (change : Change) × IsSpot contents number table key place (Some change)
  spot_some number table key body place row stands e (change, fits, spelled, set, keyed) leading =
      let same : leading.change ≡ change = one_change law.changes table leading.change change leading.fits fits (sym leading.spelled ∙ spelled) in
      let there : leading.place ≡ place = one_place law.rows table key (stored_tables contents number key) place leading.place stands row leading.stored in
      let leads : IsNetTo table.key_marks change place = subst (λ (c : Change). IsNetTo table.key_marks c place) same (subst (λ (p : Place). IsNetTo table.key_marks leading.change p) there leading.leads) in (
        change,
        record {
          row = row;
          body = e ∙ ap Some spelled;
          fits = fits;
          stands = stands;
          base = base_stands law.set table key change place fits set keyed stands;
          leads = sym leads;
        },
      )

  spot_with : (number : ℕ) (table : TableDef) (key : List ℕ) (place : Place) → slice_get tables number ≡ Some table → stored_tables contents number key ≡ option_map row_bytes place → StandsIn table key place → (o : Option (List ℕ)) → stored_pending contents number key ≡ o
      → (change : Option Change) × IsSpot contents number table key place change
  spot_with number table key place at row stands None e = (None, spot_none number table key place row stands e)
  spot_with number table key place at row stands (Some body) e =
      let w = whole.pending (pos number, key) body e in
      let stores : StoresChange table key body = subst (λ (t : TableDef). StoresChange t key body) (table_is number w.0 table w.1 w.2 at w.3) w.4 in
      let leading : IsLeading table (stored_tables contents number key) body = subst (λ (n : ℕ). TableLeads contents n table) (omega arith) (table_leads contents tables 0 number table lead at) key body e in
      let some = spot_some number table key body place row stands e stores leading in
      (Some some.0, some.1)

  spot_at : (number : ℕ) (table : TableDef) (key : List ℕ) → slice_get tables number ≡ Some table → (place : Place) × (change : Option Change) × IsSpot contents number table key place change
  spot_at number table key at =
      let row = row_at number table key at (stored_tables contents number key) refl in
      let more = spot_with number table key row.0 at row.1 row.2 (stored_pending contents number key) refl in
      (row.0, more.0, more.1)

  spot_named : (name key : List ℕ) → IsNumbered tables name ⊎ (IsNumbered tables name → ⊥) → (place : Place) × (change : Option Change) × IsSpotNamed tables contents name key place change
  spot_named name key (inl (number, table, at, named)) =
      let s = spot_at number table key at in
      let inside = contained tables number table at in (
        s.0,
        s.1,
        record {
          stands = subst (λ (n : List ℕ). MayStandAt tables n key s.0) named (may_stand tables table key s.0 inside s.2.stands);
          base = subst (λ (n : List ℕ). MayStandAt tables n key (undo (action_any s.1) s.0)) named (may_stand tables table key (undo (action_any s.1) s.0) inside s.2.base);
          spot = λ other u found other_named.
              let same : number ≡ other = number_is number other table u at found (named ∙ sym other_named) in
              let is : table ≡ u = same_Some table u (sym at ∙ ap (slice_get tables) same ∙ found) in
              subst (λ (n : ℕ). IsSpot contents n u key s.0 s.1) same (subst (λ (t : TableDef). IsSpot contents number t key s.0 s.1) is s.2);
        },
      )
    where
      number_is : (some other : ℕ) (t u : TableDef) → slice_get tables some ≡ Some t → slice_get tables other ≡ Some u → t.name ≡ u.name → some ≡ other
      number_is some other t u a b e =
          law.catalogs.one u.name tables some other law.catalogs.are (slice_get_within tables some t a) (slice_get_within tables other u b)
          (λ d. ap (λ (table : TableDef). table.name) (get_or_from_slice_get tables some t d a) ∙ e)
          (λ d. ap (λ (table : TableDef). table.name) (get_or_from_slice_get tables other u d b))
  spot_named name key (inr never) = (
    None,
    None,
    record {
      stands = tt;
      base = subst (λ (p : Place). MayStandAt tables name key p) (sym (undo_none None)) tt;
      spot = λ number table at named. absurd (never (number, table, at, named));
    },
  )

  seen : (name key : List ℕ) → (place : Place) × (change : Option Change) × IsSpotNamed tables contents name key place change
  seen name key = spot_named name key (numbered tables name)

  -- the view, and that the contents show it
  pub shows_some : ShowsSome tables contents
  shows_some = (
    record { tables = λ name key. (seen name key).0; pending = λ name key. (seen name key).1 },
    record {
      rows = record {
        rows = λ name key. (seen name key).2.stands;
        stored = λ number table key at. ((seen table.name key).2.spot number table at refl).row;
      };
      pends = record {
        stored = λ number table key at. ((seen table.name key).2.spot number table at refl).body;
        fits = λ table key inside. let n = number_there tables table inside in ((seen table.name key).2.spot n.0 table n.1 refl).fits;
      };
      sound = record {
        before_state = λ name key. (seen name key).2.base;
        after_state = λ name key. (seen name key).2.stands;
        net_of = λ table key inside. let n = number_there tables table inside in ((seen table.name key).2.spot n.0 table n.1 refl).leads;
      };
    },
  )
