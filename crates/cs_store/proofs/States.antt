-- Stores that hold the rows of tables.
use Rattle.std.proofs.Common.{◌≡◌, ℕ, List, Some, None, refl, sym, ap, subst, ◌∙◌, option_map, Contains}
use Rattle.std.specs.Prelude.{slice_get}
use Rattle.std.proofs.lemmas.Option.{same_Some, slice_get-get_or}
use Rattle.cs_value.specs.Key.{Place}
use Rattle.cs_value.specs.declared.catalog.TableDef.{TableDef}
use Rattle.cs_record.specs.Spelling.{row_bytes}
use Rattle.cs_record.specs.OneSpelling.{one_spelled_row}
use Rattle.cs_store.specs.log.State.{MayStandAt}
use Rattle.cs_store.specs.StateLaws as law
use Rattle.cs_store.proofs.StoreLaws.{writes_rows}

-- what two places of a table spell alike is one
one_place : (tables : List TableDef) (name key : List ℕ) (some other : Place) → MayStandAt tables name key some → MayStandAt tables name key other
    → option_map row_bytes some ≡ option_map row_bytes other → other ≡ some
one_place tables name key None None a b e = refl
one_place tables name key None (Some row) a b e = absurd cc
one_place tables name key (Some row) None a b e = absurd cc
one_place tables name key (Some row) (Some line) a b e =
    ap Some (one_spelled_row line row b.3.fits.1 a.3.fits.1 (sym (same_Some (row_bytes row) (row_bytes line) e)))

-- where something may stand the table stands in the list, at a number
numbered : (tables : List TableDef) (table : TableDef) → Contains tables table → (number : ℕ) × (slice_get tables number ≡ Some table)
numbered tables table there = (there.0, slice_get-get_or tables there.0 table there.1 ∙ ap Some there.2)

stored_alike : (tables : List TableDef) (name key : List ℕ) (some other : Place) → MayStandAt tables name key some → MayStandAt tables name key other
    → ((number : ℕ) (table : TableDef) → slice_get tables number ≡ Some table → table.name ≡ name → option_map row_bytes some ≡ option_map row_bytes other)
    → option_map row_bytes some ≡ option_map row_bytes other
stored_alike tables name key None None a b same = refl
stored_alike tables name key (Some row) other a b same = let at = numbered tables a.0 a.1 in same at.0 a.0 at.1 a.2
stored_alike tables name key None (Some row) a b same = let at = numbered tables b.0 b.1 in same at.0 b.0 at.1 b.2

pub holds_one_state : law.HoldsOneState
holds_one_state tables contents some other a b name key =
    one_place tables name key (some name key) (other name key) (a.rows name key) (b.rows name key)
    (stored_alike tables name key (some name key) (other name key) (a.rows name key) (b.rows name key) (λ number table there named.
    subst (λ (n : List ℕ). option_map row_bytes (some n key) ≡ option_map row_bytes (other n key)) named (sym (a.stored number table key there) ∙ b.stored number table key there)))

pub edits_lead_to_state : law.EditsLeadToState
edits_lead_to_state tables batch contents end is edits = record {
  rows = is;
  stored = λ number table key there. writes_rows batch contents number key ∙ edits.written number table key there;
}
