-- A replica that stands on what is known goes on standing there.
use Rattle.std.proofs.Common.{◌≡◌, ◌+◌, ◌≤◌, ◌<◌, ◌^◌, ℕ, List, [], ◌∷◌, ◌++◌, take, length, Option, Some, None, refl, sym, ap, subst, ◌∙◌, arith, inl, inr}
use Rattle.std.specs.Prelude.{IfOk, IfSome, Result, Ok, Err, slice_get}
use Rattle.std.specs.FinMap.{len}
use Rattle.std.proofs.lemmas.List.{take_more, take-append-le}
use Rattle.std.proofs.lemmas.Option.{slice_get_within, get_or_from_slice_get}
use Rattle.cs_value.specs.Catalog.{AreTables}
use Rattle.cs_value.specs.declared.catalog.TableDef.{TableDef}
use Rattle.cs_normal.specs.Normal.{IsNormalChangeset}
use Rattle.cs_normal.specs.State.{AreSame, DefinedIsApplied, IsApplied, IsDefinedOn, State}
use Rattle.cs_normal.specs.declared.normal.TableChanges.{TableChanges}
use Rattle.cs_store.specs.log.Entry.{MayWiden, changes_of_body, entry_changes}
use Rattle.cs_store.specs.log.Laws.{AppendedIsLog, CatalogNext, CatalogsAreTables}
use Rattle.cs_store.specs.log.Log.{IsLog, IsMade, catalog_after, catalog_at, catalog_of, tables_at}
use Rattle.cs_store.specs.declared.log.body.Body.{Body}
use Rattle.cs_store.specs.declared.log.body.Body.TheVariants.{Changes, Widen}
use Rattle.cs_store.specs.declared.log.entry.LogEntry.{LogEntry}
use Rattle.cs_store.specs.Contents.{Contents}
use Rattle.cs_store.specs.declared.store.RowStore.{Ghosts}
use Rattle.cs_conflict.specs.declared.clash.Clash.{Clash}
use Rattle.cs_conflict.specs.declared.wish.Wish.{Wish}
use Rattle.cs_pending.specs.Edits.{Asked}
use Rattle.cs_pending.specs.View.{View, middle}
use Rattle.cs_pending.specs.position.Shows.{ShowsAt, ShowsSomeAt, base}
use Rattle.cs_pending.specs.declared.position.position.Position.{Position}
use Rattle.cs_exchange.specs.pulling.Laws.{PulledLeads}
use Rattle.cs_exchange.specs.pulling.Pulls.{IsBad, IsPulledBody, IsPulledIn, PullsOne}
use Rattle.cs_replica.specs.Edited.{IsEditedIn, with_pending}
use Rattle.cs_replica.specs.Flight.{entry_under_way, flight_entry}
use Rattle.cs_replica.specs.Holding.{Holding, Shows}
use Rattle.cs_replica.specs.Laws.{EditStands, EntryStands, FlightFits, KeptStands, StandsLonger}
use Rattle.cs_replica.specs.Stands.{StandsOn}
use Rattle.cs_exchange.specs.taking.Takes.{taken}
use Rattle.cs_widening.specs.Laws.{WidenedAreTables}
use Rattle.cs_nodes.specs.following.Pulls.{IsTakeFault}
use Rattle.cs_nodes.specs.following.Standing.{IsBadAt, StandsIn, StandsWhereHonest}
use Rattle.cs_nodes.specs.declared.following.fault.NodeFault.{NodeFault}
use Rattle.cs_nodes.specs.declared.following.fault.NodeFault.TheVariants.{BadEntry}

-- ---- one entry more

pub front_more : (known : List LogEntry) (v : ℕ) (e : LogEntry) → slice_get known v ≡ Some e → take (v + 1) known ≡ take v known ++ e ∷ []
front_more known v e is =
    take_more known v e (slice_get_within known v e is) ∙ ap (λ (x : LogEntry). take v known ++ x ∷ []) (get_or_from_slice_get known v e e is)

-- states that hold the same at each place are one
pub one_state : (some other : State) → AreSame some other → some ≡ other
one_state some other same = sym (λ i n k. same n k i)

pub applied_there : (tables : List TableDef) (changes : List TableChanges) (some other end : State) → AreSame some other → IsApplied tables changes other end → IsApplied tables changes some end
applied_there tables changes some other end same applied =
    subst (λ (s : State). IsApplied tables changes s end) (sym (one_state some other same)) applied

-- ---- after the next entry

-- no change is defined everywhere
no_changes_defined : (tables : List TableDef) (state : State) → IsDefinedOn tables [] state
no_changes_defined tables state = (tt, λ name key. refl)

-- an entry that is pulled leaves tables
module _ (law : WidenedAreTables) {P : Type 0} (picks : P → Clash → Wish → P → Type 0) (tables : List TableDef) (position : Position) (before after : View) (p q : P) (are : AreTables tables) where
  body_tables : (body : Body) → IsPulledBody picks tables position.flight body before after p q → AreTables (catalog_after tables body)
  body_tables (Changes changes) is = are
  body_tables (Widen table width) is = law tables table width are is.0.may

  pub next_tables : (entry : LogEntry) → PullsOne picks tables position entry before p after q → AreTables (catalog_after tables entry.body)
  next_tables entry (room, inl (own, same, asked)) = subst AreTables (sym (ap (catalog_after tables) own.body)) are
  next_tables entry (room, inr (others, takes)) = body_tables entry.body takes

-- what was pulled may stand there
pulled_body : {P : Type 0} (picks : P → Clash → Wish → P → Type 0) (tables : List TableDef) (flight : Option (List TableChanges)) (body : Body) (before after : View) (p q : P) → IsPulledBody picks tables flight body before after p q → MayWiden tables body
pulled_body picks tables flight (Changes changes) before after p q is = tt
pulled_body picks tables flight (Widen table width) before after p q is = is.0.may

pub pulled_may : {P : Type 0} (picks : P → Clash → Wish → P → Type 0) (tables : List TableDef) (position : Position) (entry : LogEntry) (before after : View) (p q : P) → PullsOne picks tables position entry before p after q → MayWiden tables entry.body
pulled_may picks tables position entry before after p q (room, inl (own, rows, asked)) = subst (λ (b : Body). MayWiden tables b) (sym own.body) tt
pulled_may picks tables position entry before after p q (room, inr (others, takes)) = pulled_body picks tables position.flight entry.body before after p q takes

-- what makes something of a state is defined there
made_defined : DefinedIsApplied → (tables : List TableDef) (body : Body) (state before end : State) → AreSame state before → IsMade tables body before end → IsDefinedOn tables (changes_of_body body) state
made_defined defined tables (Changes changes) state before end same made =
    (defined tables changes state).1 (end, applied_there tables changes state before end same made)
made_defined defined tables (Widen table width) state before end same made = no_changes_defined tables state

-- the catalog of the first entries at their end
front_catalog : (opening : List TableDef) (known : List LogEntry) (v : ℕ) → v ≤ length known → catalog_at opening (take v known) (length (take v known)) ≡ catalog_at opening known v
front_catalog opening known v within =
    ap (λ (l : List LogEntry). catalog_of opening l) (all_taken (take v known))
  where
    all_taken : (l : List LogEntry) → take (length l) l ≡ l
    all_taken [] = refl
    all_taken (x ∷ l) = ap (λ (m : List LogEntry). x ∷ m) (all_taken l)

-- the laws that a replica is known to stand by, one entry further
pub record EntryLaws : Type 0 where
  pub defined : DefinedIsApplied
  pub appended : AppendedIsLog
  pub next : CatalogNext
  pub stands : EntryStands

pub stood_on : EntryLaws → (tables : List TableDef) (known : List LogEntry) (entry : LogEntry) (position other : Position) (before after : View)
    → MayWiden tables entry.body → IsNormalChangeset (entry_changes entry) → slice_get known position.version ≡ Some entry
    → other.version ≡ position.version + 1 → other.flight ≡ None
    → IsMade tables entry.body (base position.flight before) (base None after)
    → StandsIn tables known position before → StandsIn (catalog_after tables entry.body) known other after
stood_on laws tables known entry position other before after may normal here version flight made s =
    let v = position.version in
    let there : catalog_at s.opening (take v known) (length (take v known)) ≡ tables = front_catalog s.opening known v s.stands.within ∙ sym s.catalog in
    let is_defined = made_defined laws.defined tables entry.body (tables_at known v) (base position.flight before) (base None after) s.stands.on_tables made in
    record {
      opening = s.opening;
      of_catalog = s.of_catalog;
      front = subst (λ (n : ℕ). IsLog s.opening (take n known)) (sym version)
          (subst (λ (l : List LogEntry). IsLog s.opening l) (sym (front_more known v entry here))
          (laws.appended s.opening (take v known) entry s.front (record {
            normal = normal;
            defined = subst (λ (ts : List TableDef). IsDefinedOn ts (entry_changes entry) (tables_at known v)) (sym there) is_defined;
            widens = subst (λ (ts : List TableDef). MayWiden ts entry.body) (sym there) may;
          })));
      catalog = ap (λ (ts : List TableDef). catalog_after ts entry.body) s.catalog ∙ sym (ap (λ (n : ℕ). catalog_at s.opening known n) version ∙ laws.next s.opening known v entry here);
      stands = laws.stands s.opening known entry position other before after here version
          (subst (λ (ts : List TableDef). IsMade ts entry.body (base position.flight before) (base other.flight after)) s.catalog
          (subst (λ (f : Option (List TableChanges)). IsMade tables entry.body (base position.flight before) (base f after)) (sym flight) made)) s.stands;
    }

-- ---- the tables of one that stands

-- they are a catalog's
pub are_tables : CatalogsAreTables → (tables : List TableDef) (known : List LogEntry) (position : Position) (view : View) → StandsIn tables known position view → AreTables tables
are_tables law tables known position view s =
    let v = position.version in
    subst AreTables (sym (s.catalog ∙ sym (front_catalog s.opening known v s.stands.within))) (law s.opening (take v known) (length (take v known)) s.of_catalog s.front)

-- what is under way is defined on the tables at its version
pub flight_defined : FlightFits → DefinedIsApplied → CatalogsAreTables → {E : Type 0} (tables : List TableDef) (contents : Contents) (known : List LogEntry) (position : Position) (view : View)
    → ShowsAt tables contents position view → StandsIn tables known position view → (result : Result (Option LogEntry) E) → IfOk result (λ found. found ≡ flight_entry position)
    → IfOk result (λ found. IfSome found (λ entry. IsDefinedOn tables (entry_changes entry) (tables_at known position.version)))
flight_defined flies defined tabled tables contents known position view shows s (Err fault) is = tt
flight_defined flies defined tabled tables contents known position view shows s (Ok found) is =
    subst (λ (o : Option LogEntry). IfSome o (λ entry. IsDefinedOn tables (entry_changes entry) (tables_at known position.version))) (sym is) (under_way position.flight refl)
  where
    under_way : (flight : Option (List TableChanges)) → position.flight ≡ flight
        → IfSome (entry_under_way position.id position.number flight) (λ entry. IsDefinedOn tables (entry_changes entry) (tables_at known position.version))
    under_way None is = tt
    under_way (Some changes) is =
        (defined tables changes (tables_at known position.version)).1
        (middle view, flies tables contents known position changes view (are_tables tabled tables known position view s) shows is s.stands)

-- ---- where more is known

pub stood_longer : StandsLonger → (tables : List TableDef) (known more all : List LogEntry) (position : Position) (view : View)
    → all ≡ known ++ more → StandsIn tables known position view → StandsIn tables all position view
stood_longer law tables known more all position view is s = record {
  opening = s.opening;
  of_catalog = s.of_catalog;
  front = subst (λ (l : List LogEntry). IsLog s.opening l) (sym longer) s.front;
  catalog = s.catalog ∙ ap (λ (l : List LogEntry). catalog_of s.opening l) (sym longer);
  stands = subst (λ (l : List LogEntry). StandsOn l position view) (sym is) (law known more position view s.stands);
}
  where
    longer : take position.version all ≡ take position.version known
    longer = ap (take position.version) is ∙ take-append-le position.version known more s.stands.within

module _ {S : Type 0} (g : Ghosts S) where
  pub stands_longer : StandsLonger → (known more all : List LogEntry) (held : Holding S) → all ≡ known ++ more → StandsWhereHonest g known held → StandsWhereHonest g all held
  stands_longer law known more all held is stands h =
      let s = stands h in (s.0, s.1, stood_longer law held.catalog known more all held.position s.0 is s.2)

  -- ---- what a step leaves

  module _ (known : List LogEntry) (old new : Holding S) (was_honest : g.honest new.store → g.honest old.store) where
    same_stands : (tables : List TableDef) (position : Position) (view : View) → new.catalog ≡ tables → new.position ≡ position → ShowsAt tables (g.contents new.store) position view → StandsIn tables known position view
        → (view : View) × Shows g.contents new view × StandsIn new.catalog known new.position view
    same_stands tables position view catalog is shows stands = (
      view,
      subst (λ (x : Position). ShowsAt new.catalog (g.contents new.store) x view) (sym is) (subst (λ (t : List TableDef). ShowsAt t (g.contents new.store) position view) (sym catalog) shows),
      subst (λ (x : Position). StandsIn new.catalog known x view) (sym is) (subst (λ (t : List TableDef). StandsIn t known position view) (sym catalog) stands),
    )

    -- an edit
    pub edited_stands : EditStands → CatalogsAreTables → new.catalog ≡ old.catalog → (name : List ℕ) (asked : Asked)
        → (g.honest new.store → IsEditedIn old.catalog old.position name asked (g.contents old.store) (g.contents new.store))
        → new.position ≡ with_pending old.position new.position.pending
        → (g.honest new.store → (view : View) × Shows g.contents new view)
        → StandsWhereHonest g known old → StandsWhereHonest g known new
    edited_stands law tabled catalog name asked edited moved shown stands h =
        let s = stands (was_honest h) in
        let e = edited h s.0 s.1 in
        let pending = len (g.contents new.store).pending in
        let is : new.position ≡ with_pending old.position pending = moved ∙ ap (with_pending old.position) ((shown h).1.counted) in
        same_stands old.catalog (with_pending old.position pending) e.0 catalog is e.2 (record {
          opening = s.2.opening;
          of_catalog = s.2.of_catalog;
          front = s.2.front;
          catalog = s.2.catalog;
          stands = law old.catalog known name asked (g.contents old.store) (g.contents new.store) old.position pending s.0 e.0 (are_tables tabled old.catalog known old.position s.0 s.2) s.1 e.1 e.2 s.2.stands;
        })

    -- the entry at the version was taken
    pub taken_stands : {P : Type 0} (picks : P → Clash → Wish → P → Type 0) → PulledLeads picks → EntryLaws → CatalogsAreTables → (entry : LogEntry) (p q : P)
        → IsNormalChangeset (entry_changes entry)
        → slice_get known old.position.version ≡ Some entry
        → (g.honest new.store → IsPulledIn picks old.catalog old.position entry p q (g.contents old.store) (g.contents new.store))
        → new.catalog ≡ catalog_after old.catalog entry.body
        → new.position ≡ taken old.position new.position.pending
        → (g.honest new.store → ShowsSomeAt old.catalog old.position (g.contents old.store) → new.position.pending ≡ len (g.contents new.store).pending)
        → StandsWhereHonest g known old → StandsWhereHonest g known new
    taken_stands picks leads laws tabled entry p q normal here pulled wide moved counted stands h =
        let s = stands (was_honest h) in
        let e = pulled h s.0 s.1 in
        let pending = len (g.contents new.store).pending in
        let is : new.position ≡ taken old.position pending = moved ∙ ap (taken old.position) (counted h (s.0, s.1)) in
        same_stands (catalog_after old.catalog entry.body) (taken old.position pending) e.0 wide is e.1
        (stood_on laws old.catalog known entry old.position (taken old.position pending) s.0 e.0 (pulled_may picks old.catalog old.position entry s.0 e.0 p q e.2) normal here refl refl
        (leads old.catalog (g.contents old.store) old.position entry s.0 e.0 p q (are_tables tabled old.catalog known old.position s.0 s.2) s.1 e.2) s.2)

    -- what is pending was made a push
    pub readied_stands : KeptStands → new.catalog ≡ old.catalog → (before view : View) → g.honest new.store → ShowsAt new.catalog (g.contents new.store) new.position view → new.position.version ≡ old.position.version
        → AreSame (base old.position.flight before) (base new.position.flight view) → StandsIn old.catalog known old.position before
        → (view : View) × Shows g.contents new view × StandsIn new.catalog known new.position view
    readied_stands law catalog before view h shows version same s = (
      view,
      shows,
      record {
        opening = s.opening;
        of_catalog = s.of_catalog;
        front = subst (λ (n : ℕ). IsLog s.opening (take n known)) (sym version) s.front;
        catalog = catalog ∙ s.catalog ∙ ap (λ (n : ℕ). catalog_at s.opening known n) (sym version);
        stands = law known old.position new.position before view version same s.stands;
      },
    )

-- ---- a bad entry

pub bad_there : (tables : List TableDef) (known : List LogEntry) (entry : LogEntry) (position : Position) (view : View)
    → slice_get known position.version ≡ Some entry → length known < 2 ^ 64 → StandsIn tables known position view → IsBad tables position entry view → IsBadAt tables known position.version
bad_there tables known entry position view here short s (inl last) =
    absurd (omega (arith, slice_get_within known position.version entry here, last, short))
bad_there tables known entry position view here short s (inr (others, undefined)) = record {
  entry = entry;
  here = here;
  undefined = λ both.
      undefined (subst (λ (t : State). IsDefinedOn tables (entry_changes entry) t) (one_state (tables_at known position.version) (base position.flight view) s.stands.on_tables) both.0, both.1);
}

-- as it is told
pub bad_told : {P : Type 0} (picks : P → Clash → Wish → P → Type 0) (tables others : List TableDef) (known : List LogEntry) (entry : LogEntry) (position now : Position) (view : View) (p q : P) (fault : NodeFault)
    → slice_get known position.version ≡ Some entry → length known < 2 ^ 64 → StandsIn tables known position view → IsTakeFault picks tables fault position entry view p q → fault ≡ BadEntry
    → others ≡ tables → now ≡ position → IsBadAt others known now.version
bad_told picks tables others known entry position now view p q fault here short s told is same kept =
    let bad : IsTakeFault picks tables BadEntry position entry view p q = subst (λ (f : NodeFault). IsTakeFault picks tables f position entry view p q) is told in
    subst (λ (t : List TableDef). IsBadAt t known now.version) (sym same)
    (subst (λ (x : Position). IsBadAt tables known x.version) (sym kept) (bad_there tables known entry position view here short s bad.0))
