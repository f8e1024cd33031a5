-- An entry that is pulled leads to the log's next rows.
use Rattle.std.proofs.Common.{◌≡◌, List, Option, Some, None, sym, ap, subst, ◌∙◌, inl, inr}
use Rattle.cs_value.specs.Catalog.{AreTables}
use Rattle.cs_value.specs.Key.{Place}
use Rattle.cs_value.specs.declared.catalog.TableDef.{TableDef}
use Rattle.cs_normal.specs.Normal.{FitsCatalog}
use Rattle.cs_normal.specs.State.{IsApplied, NetIsApplied, State}
use Rattle.cs_normal.specs.declared.normal.TableChanges.{TableChanges}
use Rattle.cs_store.specs.log.Entry.{changes_of_body, entry_changes}
use Rattle.cs_store.specs.log.Log.{IsMade}
use Rattle.cs_store.specs.declared.log.body.Body.{Body}
use Rattle.cs_store.specs.declared.log.body.Body.TheVariants.{Changes, Widen}
use Rattle.cs_store.specs.declared.log.entry.LogEntry.{LogEntry}
use Rattle.cs_store.specs.Contents.{Contents}
use Rattle.cs_conflict.specs.declared.clash.Clash.{Clash}
use Rattle.cs_conflict.specs.declared.wish.Wish.{Wish}
use Rattle.cs_pending.specs.Nets.{undo_none}
use Rattle.cs_pending.specs.Shows.{IsSoundOf}
use Rattle.cs_pending.specs.View.{View, before as before_changes, middle}
use Rattle.cs_pending.specs.position.Shows.{ShowsAt, base, changes_at, flown}
use Rattle.cs_pending.specs.declared.position.position.Position.{Position}
use Rattle.cs_exchange.specs.pulling.Laws.{PulledLeads}
use Rattle.cs_exchange.specs.pulling.Pulls.{IsOwn, IsPulledBody}
use Rattle.cs_exchange.specs.taking.Laws.{WidenedLeads}
use Rattle.cs_exchange.proofs.PullingLemmas.Bodies.{own_flies}

-- where nothing is under way, the log's rows are those before what is pending
leads_on : (tables : List TableDef) (entry : List TableChanges) (log : State) (after : View) → IsApplied tables entry log (middle after) → IsApplied tables entry log (base None after)
leads_on tables entry log after applied =
    (applied.0, λ n k. applied.1 n k ∙ ap (λ (p : Place). Some p) (sym (undo_none (middle after n k))))

pub own_leads : NetIsApplied → (tables : List TableDef) (contents : Contents) (position : Position) (entry : LogEntry) (view : View) → AreTables tables → ShowsAt tables contents position view → IsOwn position entry
    → IsApplied tables (entry_changes entry) (base position.flight view) (middle view)
own_leads law tables contents position entry view are shows own =
    let changes = entry_changes entry in
    let flies = own_flies position entry own in
    let sound = subst (λ (f : Option (List TableChanges)). IsSoundOf tables (changes_at (flown f)) (middle view)) flies shows.under_way.sound in
    let fits = subst (λ (f : Option (List TableChanges)). FitsCatalog tables (flown f)) flies shows.under_way.fits in
    subst (λ (f : Option (List TableChanges)). IsApplied tables changes (base f view) (middle view)) (sym flies)
    (law tables changes (before_changes (changes_at changes) (middle view)) (middle view) are sound.before_state sound.after_state (fits, sound.net_of))

module _ (law : NetIsApplied) (widened_leads : WidenedLeads) {P : Type 0} (picks : P → Clash → Wish → P → Type 0) (tables : List TableDef) (contents : Contents) (position : Position) (before after : View) (p q : P)
    (are : AreTables tables) (shows : ShowsAt tables contents position before) where
  -- what another's entry does
  body_leads : (body : Body) → IsPulledBody picks tables position.flight body before after p q → IsMade tables body (base position.flight before) (base None after)
  body_leads (Changes changes) is = leads_on tables changes (base position.flight before) after is.applied
  body_leads (Widen table width) is = (is.0.may, (widened_leads tables contents position table width before after are shows is.0).0)

  -- the push that is under way
  confirmed_leads : (entry : LogEntry) (own : IsOwn position entry) → after ≡ before → IsMade tables entry.body (base position.flight before) (base None after)
  confirmed_leads entry own same =
      subst (λ (b : Body). IsMade tables b (base position.flight before) (base None after)) (sym own.body)
      (subst (λ (v : View). IsApplied tables own.changes (base position.flight before) (base None v)) (sym same)
      (leads_on tables own.changes (base position.flight before) before
      (subst (λ (changes : List TableChanges). IsApplied tables changes (base position.flight before) (middle before)) (ap changes_of_body own.body)
      (own_leads law tables contents position entry before are shows own))))

pub pulled_leads : NetIsApplied → WidenedLeads → {P : Type 0} (picks : P → Clash → Wish → P → Type 0) → PulledLeads picks
pulled_leads law widened_leads picks tables contents position entry before after p q are shows (room, inl (own, same, asked)) =
    confirmed_leads law widened_leads picks tables contents position before after p q are shows entry own same
pulled_leads law widened_leads picks tables contents position entry before after p q are shows (room, inr (other, pulled)) =
    body_leads law widened_leads picks tables contents position before after p q are shows entry.body pulled
