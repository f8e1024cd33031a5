-- What was judged of contents, from what each step told.
use Rattle.std.proofs.Common.{◌≡◌, ℕ, List, Option, Some, subst, sym}
use Rattle.cs_value.specs.declared.catalog.TableDef.{TableDef}
use Rattle.cs_normal.specs.declared.normal.TableChanges.{TableChanges}
use Rattle.cs_store.specs.Contents.{Contents}
use Rattle.cs_pending.specs.Shows.{ShowsRows, ShowsSome}
use Rattle.cs_pending.specs.View.{View}
use Rattle.cs_opening.specs.Steps.{FlightLeads, HoldsPlaces, IsCount, IsJudged, IsSound, TablesLead}
use Rattle.cs_opening.proofs.NoLog.{theirs}
use Rattle.cs_opening.proofs.Seen.{SeenLaws, shows_some}

module _ (tables : List TableDef) (law : SeenLaws tables) (first second third : Contents) (same : second ≡ first) (again : third ≡ second) (holds : HoldsPlaces tables first) (shown : List TableDef) (is : shown ≡ tables) where
  -- what was counted, of the contents and the tables as they were
  count_first : (count : Option ℕ) → IsCount second 0 shown count → IsCount first 0 tables count
  count_first count counted = subst (λ (ts : List TableDef). IsCount first 0 ts count) is (subst (λ (left : Contents). IsCount left 0 shown count) same counted)

  -- where each change leads, rows are shown
  pub some_shown : (count : ℕ) → IsCount second 0 shown (Some count) → ShowsSome tables first
  some_shown count counted = shows_some tables law first (theirs tables first holds.log holds.whole) (count_first (Some count) counted).0

  pub some_later : (count : ℕ) → IsCount second 0 shown (Some count) → ShowsSome tables third
  some_later count counted =
      subst (λ (left : Contents). ShowsSome tables left) (sym again) (subst (λ (left : Contents). ShowsSome tables left) (sym same) (some_shown count counted))

  module _ (changes : List TableChanges) (count : ℕ) (counted : IsCount second 0 shown (Some count)) where
    pub judged : ((view : View) → ShowsRows tables third view → FlightLeads view changes) → IsJudged tables first changes (Some count)
    judged flies =
        let is_counted = count_first (Some count) counted in
        let some = some_shown count counted in (
          record {
            holds = holds;
            lead = is_counted.0;
            view = some.0;
            shows = some.1;
            flies = flies some.0 (subst (λ (left : Contents). ShowsRows tables left some.0) (sym again) (subst (λ (left : Contents). ShowsRows tables left some.0) (sym same) some.1));
          },
          is_counted.1,
        )

  pub not_judged : (changes : List TableChanges) → ((view : View) → ShowsRows tables third view → FlightLeads view changes → ⊥) → IsSound tables first changes → ⊥
  not_judged changes never sound =
      never sound.view (subst (λ (left : Contents). ShowsRows tables left sound.view) (sym again) (subst (λ (left : Contents). ShowsRows tables left sound.view) (sym same) sound.shows)) sound.flies

  pub not_counted : (changes : List TableChanges) → (TablesLead second 0 shown → ⊥) → IsSound tables first changes → ⊥
  not_counted changes never sound =
      never (subst (λ (ts : List TableDef). TablesLead second 0 ts) (sym is) (subst (λ (left : Contents). TablesLead left 0 tables) (sym same) sound.lead))
