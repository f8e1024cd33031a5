-- A push that is made ready.
use Rattle.std.proofs.Common.{◌≡◌, ◌+◌, ◌++◌, ◌∷◌, ℕ, true, List, Option, Some, None, IsSome, is_some, Ok, Err, refl, sym, ap, subst, ◌∙◌, inl, inr}
use Rattle.std.proofs.lemmas.List.{append_cancel_left}
use Rattle.std.proofs.lemmas.Option.{same_Some}
use Rattle.cs_value.specs.Catalog.{AreTables}
use Rattle.cs_value.specs.declared.catalog.TableDef.{TableDef}
use Rattle.cs_normal.specs.Normal.{normal_spelling}
use Rattle.cs_normal.specs.State.{AreSame}
use Rattle.cs_normal.specs.declared.normal.TableChanges.{TableChanges}
use Rattle.cs_store.specs.log.Entry.{changes_of_body}
use Rattle.cs_store.specs.log.Laws.{OneBody}
use Rattle.cs_store.specs.declared.log.body.Body.TheVariants.{Changes}
use Rattle.cs_store.specs.declared.log.entry.LogEntry.{LogEntry}
use Rattle.cs_store.specs.Contents.{Contents}
use Rattle.cs_store.specs.declared.names.MetaName.TheVariants.{Flight}
use Rattle.cs_pending.specs.View.{View}
use Rattle.cs_pending.specs.position.Shows.{ShowsAt, base}
use Rattle.cs_pending.specs.declared.position.position.Position.{Position}
use Rattle.cs_exchange.specs.declared.pushing.fault.PushFault.{PushFault}
use Rattle.cs_exchange.specs.declared.pushing.fault.PushFault.TheVariants as push
use Rattle.cs_exchange.specs.pushing.Pushes.{IsPushMade, IsPushMadeIn, grounded, pushed}
use Rattle.cs_replica.specs.Flight.{entry_under_way, flight_entry}
use Rattle.cs_wire.specs.Numbers.{eight_bytes}
use Rattle.cs_nodes.specs.following.Faults.{told_of_push}
use Rattle.cs_nodes.specs.following.Pushes.{IsReadied, IsReady}
use Rattle.cs_nodes.specs.declared.following.fault.NodeFault.TheVariants.{Device}

behind_same : (front a b : List ℕ) → front ++ a ≡ front ++ b → a ≡ b
behind_same front a b is = append_cancel_left front a b is

-- what is written as under way, and what is held, are one changeset
same_changes : OneBody → (tables : List TableDef) → AreTables tables → (contents : Contents) (position now : Position) (changes others : List TableChanges) (view seen : View)
    → ShowsAt tables contents (pushed position changes) view → now ≡ pushed position others → ShowsAt tables contents now seen → others ≡ changes
same_changes one tables are contents position now changes others view seen made is shown =
    let held = subst (λ (x : Position). ShowsAt tables contents x seen) is shown in
    let front = eight_bytes (position.number + 1) in
    let bytes : front ++ normal_spelling others ≡ front ++ normal_spelling changes = same_Some _ _ (sym (held.values Flight) ∙ made.values Flight) in
    let spelled : normal_spelling others ≡ normal_spelling changes = behind_same front (normal_spelling others) (normal_spelling changes) bytes in
    ap changes_of_body (one tables (Changes others) (Changes changes) are (held.under_way.normal, held.under_way.fits) (made.under_way.normal, made.under_way.fits) tt tt (ap (λ (b : List ℕ). 0 ∷ b) spelled))

module _ (one : OneBody) (tables : List TableDef) (are : AreTables tables) (position now : Position) (old new : Contents) (before : View) (changes others : List TableChanges)
    (made : IsPushMade tables position before new changes) (is : now ≡ pushed position others) (seen : View) (shown : ShowsAt tables new now seen) where
  now_is : now ≡ pushed position changes
  now_is = is ∙ ap (pushed position) (same_changes one tables are new position now changes others (grounded before) seen made.shows is shown)

  pub made_shows : ShowsAt tables new now (grounded before)
  made_shows = subst (λ (x : Position). ShowsAt tables new x (grounded before)) (sym now_is) made.shows

  pub made_ready : IsReadied tables position before true now new
  made_ready = (grounded before, made_shows, inr (new, changes, made, now_is, refl))

  pub made_rows : AreSame (base position.flight before) (base now.flight (grounded before))
  made_rows = subst (λ (f : Option (List TableChanges)). AreSame (base position.flight before) (base f (grounded before))) (sym (ap (λ (x : Position). x.flight) now_is)) made.log_rows

-- ---- none is made

-- what the commit would have left, where it failed
pub made_next : (tables : List TableDef) (position other : Position) (old new : Contents) → other ≡ position → new ≡ old → (left : Contents) → IsPushMadeIn tables position old left → IsPushMadeIn tables other new left
made_next tables position other old new kept same left made =
    subst (λ (x : Position). IsPushMadeIn tables x new left) (sym kept) (subst (λ (c : Contents). IsPushMadeIn tables position c left) (sym same) made)

-- no fault is told as one that was made
pub never_made : (fault : PushFault) → told_of_push fault ≡ Ok true → ⊥
never_made push.Memory is = let no = is in cc
never_made push.Nothing is = let no = is in cc
never_made push.InFlight is = let no = is in cc
never_made push.Device is = let no = is in cc
never_made push.Spent is = let no = is in cc
never_made push.TooLarge is = let no = is in cc

-- and none but a failed device as that
pub device_made : (fault : PushFault) → told_of_push fault ≡ Err Device → fault ≡ push.Device
device_made push.Memory is = absurd (let no = is in cc)
device_made push.Nothing is = absurd (let no = is in cc)
device_made push.InFlight is = absurd (let no = is in cc)
device_made push.Device is = refl
device_made push.Spent is = absurd (let no = is in cc)
device_made push.TooLarge is = absurd (let no = is in cc)

-- ---- one is under way then

pub ready_flies : (tables : List TableDef) (position : Position) (before : View) (ready : Position) (view : View) → IsReady tables position before ready view → IsSome ready.flight
ready_flies tables position before ready view (inl (some, is, same)) = ap (λ (x : Position). is_some x.flight) is ∙ some
ready_flies tables position before ready view (inr (left, changes, made, is, same)) = ap (λ (x : Position). is_some x.flight) is

-- as an entry
pub flies_as : (position : Position) → IsSome position.flight → (entry : LogEntry) × (flight_entry position ≡ Some entry)
flies_as position some = under_way position.flight some
  where
    under_way : (flight : Option (List TableChanges)) → IsSome flight → (entry : LogEntry) × (entry_under_way position.id position.number flight ≡ Some entry)
    under_way None some = absurd cc
    under_way (Some changes) some = (record { origin = position.id; number = position.number; body = Changes changes }, refl)
