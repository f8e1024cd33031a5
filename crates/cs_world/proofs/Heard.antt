-- What the hub's answers make of a replica of a sound world: it stands on the log again, and no entry was bad.
use Rattle.std.proofs.Common.{◌≡◌, ◌<◌, ◌+◌, ◌-◌, ◌^◌, ◌∙◌, ℕ, zero, suc, List, ◌∷◌, take, drop, length, Option, Some, None, Result, Ok, Err, slice_get, refl, sym, ap, subst, inl, inr, arith}
use Rattle.std.specs.Prelude.{IsSome}
use Rattle.std.proofs.lemmas.List.{take_all}
use Rattle.std.proofs.lemmas.Option.{slice_get_within}
use Rattle.cs_value.specs.Key.{Place}
use Rattle.cs_value.specs.declared.catalog.TableDef.{TableDef}
use Rattle.cs_change.specs.Action.{action_any, after_any}
use Rattle.cs_conflict.specs.declared.wish.Wish.{Wish}
use Rattle.cs_store.specs.log.Entry.{MayWiden, WidensNone, body_spelling, changes_of_body, entry_changes}
use Rattle.cs_store.specs.log.Laws.{CatalogNext, CatalogsAreTables, OneBody}
use Rattle.cs_store.specs.log.Log.{IsMade, catalog_after, catalog_at, catalog_of, tables_at}
use Rattle.cs_store.specs.log.Stored.{AreChangesOf, FitsBody}
use Rattle.cs_value.specs.Catalog.{AreTables}
use Rattle.cs_store.specs.declared.log.body.Body.{Body}
use Rattle.cs_store.specs.declared.log.body.Body.TheVariants.{Changes, Widen}
use Rattle.cs_store.specs.declared.log.entry.LogEntry.{LogEntry}
use Rattle.cs_normalising.specs.Laws.{NormalAgain, OneNormalForm}
use Rattle.cs_normalising.specs.NormalFormOf.{IsNormalFormOf}
use Rattle.cs_change.specs.declared.group.Group.{Group}
use Rattle.cs_changeset.specs.Laws.{OneChangeset}
use Rattle.cs_hub.specs.catching.Laws.{ConsolidatedLeads}
use Rattle.cs_hub.specs.catching.Told.{AreOthersAsOne}
use Rattle.cs_normal.specs.Laws.{NormalIsTaken}
use Rattle.cs_normal.specs.Normal.{change_of, groups_of, normal_spelling}
use Rattle.cs_normal.specs.State.{AreSame, IsApplied, IsDefinedOn, State}
use Rattle.cs_normal.specs.declared.normal.TableChanges.{TableChanges}
use Rattle.cs_pending.specs.Nets.{undo_none}
use Rattle.cs_pending.specs.View.{View, middle}
use Rattle.cs_pending.specs.position.Shows.{ShowsAt, base, flown}
use Rattle.cs_pending.specs.declared.position.position.Position.{Position}
use Rattle.cs_exchange.specs.pulling.Laws.{OneRead, PulledLeads}
use Rattle.cs_exchange.specs.pulling.Listed.{Ends, EndsBad, IsToldAt, PullsList, PullsMany, count_of}
use Rattle.cs_exchange.specs.pulling.Merged.{TakesTold}
use Rattle.cs_exchange.specs.pulling.Told.{IsFormOf, IsReadAs, IsReadBody}
use Rattle.cs_exchange.specs.declared.pulling.fault.AnswerFault.{AnswerFault}
use Rattle.cs_exchange.specs.declared.pulling.fault.AnswerFault.TheVariants as fault
use Rattle.cs_exchange.specs.declared.pulling.listing.Pulled.{Pulled}
use Rattle.cs_exchange.specs.declared.pulling.listing.Pulled.TheVariants as pulled
use Rattle.cs_exchange.specs.pushing.Pushes.{confirmed}
use Rattle.cs_replica.specs.Accepted.{IsAccepted}
use Rattle.cs_replica.specs.Answered.{Answers, TellsAccepted, TellsMerged, told_of}
use Rattle.cs_replica.specs.Laws.{EntryStands, FlightFits, KeptStands, LeadStands}
use Rattle.cs_replica.specs.Stands.{StandsOn}
use Rattle.cs_replica.specs.declared.told.Told.{Told}
use Rattle.cs_store.specs.Contents.{Contents}
use Rattle.cs_exchange.specs.taking.Laws.{OneLogRows}
use Rattle.cs_exchange.specs.taking.Takes.{IsTaken, brought, taken}
use Rattle.cs_wire.specs.Entries.{ToldEntry}
use Rattle.cs_wire.specs.Told.{told_entry}
use Rattle.cs_wire.specs.declared.answer.Answer.{Answer}
use Rattle.cs_wire.specs.declared.answer.Answer.TheVariants.{Short, Entries, Merged}
use Rattle.cs_wire.specs.declared.short_answer.ShortAnswer.TheVariants.{Accepted, Stale, Refused}
use Rattle.cs_conflict.specs.wish_list.Wished.{IsWished}
use Rattle.cs_wire.specs.declared.push_head.PushHead.{PushHead}
use Rattle.cs_world.specs.Headline.{IsGood}
use Rattle.cs_world.specs.Sound.{ArePartOf, IsAcceptedIn, IsPlaced, IsSound, IsStoredEntry, IsTrueAnswer, WasOffered}
use Rattle.cs_world.specs.Steps.{Hears, heard}
use Rattle.cs_world.specs.World.{Member, World}
use Rattle.cs_world.proofs.Catalogs.{plain_on}
use Rattle.cs_world.proofs.Found.{all_at, between_at, some_is}

-- the laws below
pub record Below : Type 0 where
  pub entry : EntryStands
  pub kept : KeptStands
  pub flight : FlightFits
  pub leads : PulledLeads IsWished
  pub read : OneRead
  pub taken : NormalIsTaken
  pub again : NormalAgain
  pub body : OneBody
  pub catalogs : CatalogsAreTables
  pub next : CatalogNext
  pub rows : OneLogRows
  pub lead : LeadStands
  pub consolidated : ConsolidatedLeads
  pub changesets : OneChangeset
  pub form : OneNormalForm

-- what a replica is like after an answer: it stands on the log, with the tables that the catalog has there. What is under way is what
-- was, at the same version
pub record IsOn (opening : List TableDef) (log : List LogEntry) (position : Position) (tables : List TableDef) (other : Position) (end : View) : Type 0 where
  pub stands : StandsOn log other end
  pub tables_are : tables ≡ catalog_at opening log other.version
  pub id : other.id ≡ position.id
  pub number : other.number ≡ position.number
  pub flight : (changes : List TableChanges) → other.flight ≡ Some changes → (position.flight ≡ Some changes) × (other.version ≡ position.version)

-- ---- of options and states

no_some : {X : Type 0} (o : Option X) → IsSome o → o ≡ None → ⊥
no_some {X = X} o some none = let bad : IsSome {T = X} None = subst (λ (x : Option X). IsSome x) none some in absurd (cc)

-- a changeset that is defined on the same rows is defined
defined_same : (tables : List TableDef) (changes : List TableChanges) (some other : State) → AreSame some other → IsDefinedOn tables changes some → IsDefinedOn tables changes other
defined_same tables changes some other same defined =
    (defined.0, λ n k. subst (λ (place : Place). IsSome (after_any (action_any (change_of n k changes)) place)) (sym (same n k)) (defined.1 n k))

-- what it leaves of the same rows is the same
applied_same : (tables : List TableDef) (changes : List TableChanges) (some other left end : State) → AreSame some other → AreSame left end → IsApplied tables changes some left → IsApplied tables changes other end
applied_same tables changes some other left end same too applied =
    (applied.0, λ n k. ap (after_any (action_any (change_of n k changes))) (same n k) ∙ (applied.1 n k ∙ ap (λ (place : Place). Some place) (sym (too n k))))

module _ (laws : Below) (limit : ℕ) (small : limit < 2 ^ 32) (world : World) (s : IsSound limit world) where
  -- the catalog at a version
  abbrev at_version : ℕ → List TableDef
  at_version version = catalog_at world.tables world.log version

  are_at : (version : ℕ) → AreTables (at_version version)
  are_at version = laws.catalogs world.tables world.log version s.tables s.log

  -- the bytes of changes are of one body
  one_changes : (tables : List TableDef) (changes others : List TableChanges) → AreTables tables → AreChangesOf tables changes → AreChangesOf tables others → normal_spelling changes ≡ normal_spelling others
      → others ≡ changes
  one_changes tables changes others are fits its same =
      let both : Changes others ≡ Changes changes = laws.body tables (Changes others) (Changes changes) are its fits tt tt (ap (λ (bytes : List ℕ). 0 ∷ bytes) (sym same)) in
      ap changes_of_body both

  stays : (tables : List TableDef) (position : Position) (end : View) → tables ≡ at_version position.version → StandsOn world.log position end → IsOn world.tables world.log position tables position end
  stays tables position end are stands = record { stands = stands; tables_are = are; id = refl; number = refl; flight = λ changes is. (is, refl) }

  -- ---- entries

  -- what an entry does is read as it was told
  body_reads_itself : (tables : List TableDef) (body : Body) → AreTables tables → FitsBody tables body → IsReadBody tables (body_spelling body) body
  body_reads_itself tables (Changes changes) are fits =
      let own = laws.taken changes fits.changes.0 in
      record {
        groups = groups_of changes;
        fits = own.0;
        spelled = sym own.1;
        form = laws.again tables changes are fits.changes.0 fits.changes.1;
      }
  body_reads_itself tables (Widen table width) are fits = (fits.widens, refl)

  -- and so is an entry of the log
  reads_itself : (version : ℕ) (entry : LogEntry) → IsStoredEntry (at_version version) entry → IsReadAs (at_version version) (told_entry entry) entry
  reads_itself version entry stored = record {
    kind = refl;
    origin = refl;
    number = refl;
    read = body_reads_itself (at_version version) entry.body (are_at version) stored.0;
  }

  module _ (first : ℕ) (entries : List ToldEntry) (part : ArePartOf world.log first entries) where
    -- what is told at a version is the log's entry there
    told_there : (version : ℕ) (told : ToldEntry) → IsToldAt first entries version told → (entry : LogEntry) × (slice_get world.log version ≡ Some entry) × (told ≡ told_entry entry)
    told_there version told at =
        let e = part at.at told at.there in
        (e.0, subst (λ (v : ℕ). slice_get world.log v ≡ Some e.0) (sym at.place) e.1, e.2)

    pub read_there : (version : ℕ) (told : ToldEntry) (entry : LogEntry) → IsToldAt first entries version told → IsReadAs (at_version version) told entry → slice_get world.log version ≡ Some entry
    read_there version told entry at read =
        let e = told_there version told at in
        let own = reads_itself version e.0 (s.entries version e.0 e.1) in
        let same : entry ≡ e.0 = laws.read (at_version version) (told_entry e.0) entry e.0 (are_at version) (subst (λ (t : ToldEntry). IsReadAs (at_version version) t entry) e.2 read) own in
        e.1 ∙ ap (λ (x : LogEntry). Some x) (sym same)

    -- one after another
    many_on : (count : ℕ) (contents : Contents) (tables : List TableDef) (position : Position) (view : View) (p : List Wish) (others : List TableDef) (other : Position) (end : View) (q : List Wish)
        → tables ≡ at_version position.version → ShowsAt tables contents position view → StandsOn world.log position view
        → PullsMany IsWished first entries count tables position view p others other end q
        → IsOn world.tables world.log position others other end
    unfolding PullsMany
    many_on zero contents tables position view p others other end q are shows stands (wide, here, still, none) =
        subst (λ (ts : List TableDef). IsOn world.tables world.log position ts other end) (sym wide)
        (subst (λ (o : Position). IsOn world.tables world.log position tables o end) (sym here)
        (subst (λ (e : View). IsOn world.tables world.log position tables position e) (sym still) (stays tables position view are stands)))
    many_on (suc count) contents tables position view p others other end q are shows stands (told, entry, pending, left, next, between, at, read, pulls, shown, more) =
        let there = read_there position.version told entry at (subst (λ (ts : List TableDef). IsReadAs ts told entry) are read) in
        let made = laws.leads tables contents position entry view next p between (subst AreTables (sym are) (are_at position.version)) shows pulls in
        let stood = laws.entry world.tables world.log entry position (taken position pending) view next there refl
        (subst (λ (ts : List TableDef). IsMade ts entry.body (base position.flight view) (base None next)) are made) stands in
        let are_next : catalog_after tables entry.body ≡ at_version (position.version + 1) =
        ap (λ (ts : List TableDef). catalog_after ts entry.body) are ∙ sym (laws.next world.tables world.log position.version entry there) in
        let rest = many_on count left (catalog_after tables entry.body) (taken position pending) next between others other end q are_next shown stood more in
        record {
          stands = rest.stands;
          tables_are = rest.tables_are;
          id = rest.id;
          number = rest.number;
          flight = λ changes is. let none = (rest.flight changes is).0 in absurd (cc);
        }

    -- and none is bad
    none_bad : (tables : List TableDef) (position : Position) (view : View) → tables ≡ at_version position.version → StandsOn world.log position view → EndsBad IsWished first entries tables position view → ⊥
    none_bad tables position view are stands bad =
        let e = told_there position.version bad.told bad.there in
        let stored = s.entries position.version e.0 e.1 in
        let own = subst (λ (ts : List TableDef). IsReadAs ts bad.told e.0) (sym are) (subst (λ (t : ToldEntry). IsReadAs (at_version position.version) t e.0) (sym e.2) (reads_itself position.version e.0 stored)) in
        let within = slice_get_within world.log position.version e.0 e.1 in
        elim (bad.bad e.0 own) [
          | inl last ↦ omega (arith, last, within, s.short, small)
          | inr wrong ↦
              let next = s.log position.version e.0 e.1 in
              let front = take position.version world.log in
              let same : catalog_at world.tables front (length front) ≡ tables = ap (catalog_of world.tables) (take_all (length front) front (omega arith)) ∙ sym are in
              let there = subst (λ (ts : List TableDef). IsDefinedOn ts (entry_changes e.0) (tables_at world.log position.version)) same next.defined in
              wrong.1 (
                defined_same tables (entry_changes e.0) (tables_at world.log position.version) (base position.flight view) stands.on_tables there,
                subst (λ (ts : List TableDef). MayWiden ts e.0.body) (sym are) stored.0.widens,
              )
        ]

  -- ---- entries that were taken together

  module _ (origin next : ℕ) (bytes : List ℕ) (position : Position) (view : View) (is : AreOthersAsOne (at_version position.version) world.log origin position.version next bytes) (stands : StandsOn world.log position view) where
    abbrev tables : List TableDef
    tables = at_version position.version

    leads : IsApplied tables is.changes (tables_at world.log position.version) (tables_at world.log next)
    leads = laws.consolidated world.tables world.log position.version next is.changes s.tables s.log is.rising is.within is.plain is.together

    -- the catalog stays
    pub kept_tables : at_version next ≡ tables
    kept_tables =
        let count = next - position.version in
        let rising = is.rising in
        let sum : position.version + count ≡ next = omega (arith, rising) in
        let within = is.within in
        sym (ap at_version sum)
        ∙ plain_on laws.next world.tables world.log position.version count (omega (arith, sum, within)) (λ at entry below there.
        all_at (λ (e : LogEntry). WidensNone e.body) (drop position.version (take next world.log)) at entry is.plain
        (between_at position.version next world.log at entry (omega (arith, below, sum)) there))

    -- they are defined on the log's rows as the replica has them
    defined_there : IsDefinedOn tables is.changes (base position.flight view)
    defined_there =
        defined_same tables is.changes (tables_at world.log position.version) (base position.flight view) stands.on_tables
        (leads.0, λ n k. some_is (leads.1 n k))

    -- the bytes are read as them
    own_form : IsFormOf tables bytes is.changes
    own_form =
        let own = laws.taken is.changes is.together.of_tables.0 in
        record {
          groups = groups_of is.changes;
          fits = own.0;
          spelled = is.spelled ∙ sym own.1;
          form = laws.again tables is.changes (are_at position.version) is.together.of_tables.0 is.together.of_tables.1;
        }

    -- and as nothing else
    pub form_is : (changes : List TableChanges) → IsFormOf tables bytes changes → changes ≡ is.changes
    form_is changes read =
        let same : read.groups ≡ own_form.groups = laws.changesets read.groups own_form.groups read.fits own_form.fits (sym read.spelled ∙ own_form.spelled) in
        laws.form tables own_form.groups changes is.changes (are_at position.version) (subst (λ (gs : List Group). IsNormalFormOf tables gs changes) same read.form) own_form.form

    -- where they were taken it stands behind them
    pub taken_on : (changes : List TableChanges) (pending : ℕ) (after : View) (wishes unused : List Wish) → IsFormOf tables bytes changes → IsTaken IsWished tables position.flight changes view after wishes unused
        → StandsOn world.log (brought position next pending) after
    taken_on changes pending after wishes unused read t =
        let applied = subst (λ (c : List TableChanges). IsApplied tables c (base position.flight view) (middle after)) (form_is changes read) t.applied in
        laws.lead tables world.log next is.changes position (brought position next pending) view after is.within leads refl
        (applied.0, λ n k. applied.1 n k ∙ ap (λ (place : Place). Some place) (sym (undo_none (middle after n k))))
        stands

  -- ---- a push is confirmed

  -- the push under way is the entry that was told to be accepted
  module _ (r : ℕ) (before : Member) (p : IsPlaced world r before) where
    -- what was offered as a push of this replica is a push
    its_body : (changes : List TableChanges) (head : PushHead) (body : Body) → before.position.flight ≡ Some changes → head.origin ≡ before.position.id → head.number ≡ before.position.number
        → WasOffered world head body → AreChangesOf before.tables (changes_of_body body) → body ≡ Changes changes
    its_body changes head (Changes others) flight origins numbers offered fits =
        let both = s.once _ _ (normal_spelling changes) (normal_spelling others) (p.sent changes flight) offered (sym origins) (sym numbers) in
        let own = subst (λ (f : Option (List TableChanges)). AreChangesOf before.tables (flown f)) flight (p.shown.under_way.normal, p.shown.under_way.fits) in
        ap (λ (c : List TableChanges). Changes c) (one_changes before.tables changes others p.are own fits both.1)
    its_body changes head (Widen table width) flight origins numbers offered fits = absurd (omega (arith, offered.0, origins, p.id, p.small))

    its_entry : (changes : List TableChanges) (origin number version : ℕ) → before.position.flight ≡ Some changes → IsAcceptedIn world.log origin number version → IsAccepted before.position origin number version
        → (entry : LogEntry) × (slice_get world.log before.position.version ≡ Some entry) × (entry.body ≡ Changes changes)
    its_entry changes origin number version flight a is =
        let place : a.at ≡ before.position.version = omega (arith, a.next, is.next) in
        let there : slice_get world.log before.position.version ≡ Some a.entry = subst (λ (i : ℕ). slice_get world.log i ≡ Some a.entry) place a.there in
        let stored = s.entries before.position.version a.entry there in (
          a.entry,
          there,
          its_body changes (record { origin = a.entry.origin; number = a.entry.number; base = a.at }) a.entry.body flight (a.by ∙ is.own) (a.numbered ∙ is.last) (s.offered a.at a.entry a.there)
              (subst (λ (ts : List TableDef). AreChangesOf ts (entry_changes a.entry)) (sym p.tables) stored.0.changes),
        )

    its_entry_stands : (changes : List TableChanges) (entry : LogEntry) → before.position.flight ≡ Some changes → slice_get world.log before.position.version ≡ Some entry → entry.body ≡ Changes changes
        → StandsOn world.log (confirmed before.position) before.view
    its_entry_stands changes entry flight there same =
        let applied = laws.flight before.tables p.contents world.log before.position changes before.view p.are p.shown flight p.stands in
        laws.entry world.tables world.log entry before.position (confirmed before.position) before.view before.view there refl
        (subst (λ (b : Body). IsMade (at_version before.position.version) b (base before.position.flight before.view) (base None before.view)) (sym same)
        (subst (λ (ts : List TableDef). IsApplied ts changes (base before.position.flight before.view) (base None before.view)) p.tables
        (applied_same before.tables changes (tables_at world.log before.position.version) (base before.position.flight before.view) (middle before.view) (base None before.view)
        p.stands.on_tables (λ n k. undo_none (middle before.view n k)) applied)))
        p.stands

    abbrev IsOnAt : List TableDef → Position → View → Type 0
    IsOnAt others other end = IsOn world.tables world.log before.position others other end

    kept_on : (others : List TableDef) (other : Position) → others ≡ before.tables → other ≡ before.position → IsOnAt others other before.view
    kept_on others other same_tables same =
        subst (λ (ts : List TableDef). IsOnAt ts other before.view) (sym same_tables)
        (subst (λ (o : Position). IsOnAt before.tables o before.view) (sym same) (stays before.tables before.position before.view p.tables p.stands))

    -- an entry with changes leaves the catalog
    confirmed_tables : (changes : List TableChanges) (entry : LogEntry) → slice_get world.log before.position.version ≡ Some entry → entry.body ≡ Changes changes → before.tables ≡ at_version (before.position.version + 1)
    confirmed_tables changes entry there same =
        p.tables ∙ sym (laws.next world.tables world.log before.position.version entry there ∙ ap (λ (b : Body). catalog_after (at_version before.position.version) b) same)

    accepted_on : (origin number version : ℕ) (result : Result Told AnswerFault) (others : List TableDef) (other : Position) → others ≡ before.tables → IsAcceptedIn world.log origin number version → TellsAccepted origin number version result before.position other
        → IsOnAt others other before.view
    accepted_on origin number version result others other wide a (inl (is, so, moved)) =
        confirmed_on (before.position.flight) refl
      where
        confirmed_on : (f : Option (List TableChanges)) → before.position.flight ≡ f → IsOnAt others other before.view
        confirmed_on None none = let some = is.under_way in absurd (no_some before.position.flight some none)
        confirmed_on (Some changes) flight =
            let e = its_entry changes origin number version flight a is in
            subst (λ (ts : List TableDef). IsOnAt ts other before.view) (sym wide)
            (subst (λ (o : Position). IsOnAt before.tables o before.view) (sym moved) (record {
              stands = its_entry_stands changes e.0 flight e.1 e.2;
              tables_are = confirmed_tables changes e.0 e.1 e.2;
              id = refl;
              number = refl;
              flight = λ cs gone. absurd (cc);
            }))
    accepted_on origin number version result others other wide a (inr (inl (away, so, same))) = kept_on others other wide same
    accepted_on origin number version result others other wide a (inr (inr (why, same))) = kept_on others other wide same

    -- ---- each answer

    good_accepted : (origin number version : ℕ) (result : Result Told AnswerFault) (other : Position) → TellsAccepted origin number version result before.position other → IsGood (heard result)
    good_accepted origin number version result other (inl (is, so, moved)) n e = cc
    good_accepted origin number version result other (inr (inl (away, so, same))) n e = cc
    good_accepted origin number version result other (inr (inr (inl so, same))) n e = cc
    good_accepted origin number version result other (inr (inr (inr so, same))) n e = cc

    -- what an answer leaves is shown, on the log, and no entry was bad
    pub record IsLeft (result : Result Told AnswerFault) (others : List TableDef) (other : Position) (left : Contents) : Type 0 where
      pub end : View
      pub shows : ShowsAt others left other end
      pub on : IsOnAt others other end
      pub good : IsGood (heard result)

    list_left : (first : ℕ) (entries : List ToldEntry) (wishes unused : List Wish) (result : Result Pulled AnswerFault) (others : List TableDef) (other : Position) (left : Contents) → ArePartOf world.log first entries
        → PullsList IsWished first entries result before.tables before.position before.view wishes others other left unused
        → IsLeft (told_of result) others other left
    list_left first entries wishes unused result others other left part (end, between, many, shows, ends) =
        let on = many_on first entries part (count_of result) p.contents before.tables before.position before.view wishes others other end between p.tables p.shown p.stands many in
        record { end = end; shows = shows; on = on; good = good_list result ends on }
      where
        good_list : (result : Result Pulled AnswerFault) → Ends IsWished first entries result others other end between unused → IsOnAt others other end → IsGood (heard (told_of result))
        good_list (Ok (pulled.Taken count)) e on n is = cc
        good_list (Ok (pulled.Stopped count)) e on n is = cc
        good_list (Err (fault.Memory count)) e on n is = cc
        good_list (Err (fault.Device count)) e on n is = cc
        good_list (Err (fault.BadEntry count)) e on n is = absurd (none_bad first entries part others other end on.tables_are on.stands e.0)

    still_left : (result : Result Told AnswerFault) (others : List TableDef) (other : Position) (left : Contents) → IsGood (heard result) → others ≡ before.tables → other ≡ before.position → ShowsAt before.tables left other before.view → IsLeft result others other left
    still_left result others other left good wide same shows = record {
      end = before.view;
      shows = subst (λ (ts : List TableDef). ShowsAt ts left other before.view) (sym wide) shows;
      on = kept_on others other wide same;
      good = good;
    }

    abbrev AreOthers : ℕ → ℕ → ℕ → List ℕ → Type 0
    AreOthers origin first next bytes = AreOthersAsOne (at_version first) world.log origin first next bytes

    merged_left : (origin next : ℕ) (bytes : List ℕ) (wishes unused : List Wish) (result : Result Pulled AnswerFault) (others : List TableDef) (other : Position) (left : Contents)
        → others ≡ before.tables → AreOthers origin before.position.version next bytes
        → TakesTold IsWished before.tables next bytes result before.position before.view wishes other left unused
        → IsLeft (told_of result) others other left
    merged_left origin next bytes wishes unused (Ok (pulled.Taken count)) others other left wide is (sum, changes, after, read, moved, shows, takes) =
        let read_so = subst (λ (ts : List TableDef). IsFormOf ts bytes changes) p.tables read in
        let takes_so = subst (λ (ts : List TableDef). IsTaken IsWished ts before.position.flight changes before.view after wishes unused) p.tables takes in
        let stands = taken_on origin next bytes before.position before.view is p.stands changes other.pending after wishes unused read_so takes_so in
        record {
          end = after;
          shows = subst (λ (ts : List TableDef). ShowsAt ts left other after) (sym wide) shows;
          on = subst (λ (o : Position). IsOnAt others o after) (sym moved) (record {
            stands = stands;
            tables_are = wide ∙ (p.tables ∙ sym (kept_tables origin next bytes before.position before.view is p.stands));
            id = refl;
            number = refl;
            flight = λ cs gone. absurd (cc);
          });
          good = λ n e. cc;
        }
    merged_left origin next bytes wishes unused (Ok (pulled.Stopped count)) others other left wide is (none, changes, conflict, read, stops, (same, shows)) =
        still_left (told_of (Ok (pulled.Stopped count))) others other left (λ n e. cc) wide same (subst (λ (o : Position). ShowsAt before.tables left o before.view) (sym same) shows)
    merged_left origin next bytes wishes unused (Err (fault.Memory count)) others other left wide is (none, (same, shows)) =
        still_left (Err (fault.Memory count)) others other left (λ n e. cc) wide same (subst (λ (o : Position). ShowsAt before.tables left o before.view) (sym same) shows)
    merged_left origin next bytes wishes unused (Err (fault.Device count)) others other left wide is (none, (same, shows)) =
        still_left (Err (fault.Device count)) others other left (λ n e. cc) wide same (subst (λ (o : Position). ShowsAt before.tables left o before.view) (sym same) shows)
    merged_left origin next bytes wishes unused (Err (fault.BadEntry count)) others other left wide is (none, bad, unasked, stays) =
        absurd (bad (
          is.changes,
          subst (λ (ts : List TableDef). IsFormOf ts bytes is.changes) (sym p.tables) (own_form origin next bytes before.position before.view is p.stands),
          subst (λ (ts : List TableDef). IsDefinedOn ts is.changes (base before.position.flight before.view)) (sym p.tables) (defined_there origin next bytes before.position before.view is p.stands),
        ))

    together_left : (origin first next : ℕ) (bytes : List ℕ) (wishes unused : List Wish) (result : Result Told AnswerFault) (others : List TableDef) (other : Position) (left : Contents)
        → others ≡ before.tables → AreOthers origin first next bytes
        → TellsMerged IsWished before.tables origin first next bytes result before.position before.view wishes other left unused
        → IsLeft result others other left
    together_left origin first next bytes wishes unused result others other left wide is (inl (away, so, (same, (shows, asked)))) = still_left result others other left (λ n e. cc) wide same shows
    together_left origin first next bytes wishes unused result others other left wide is (inr (inl (mine, none, so, (same, (shows, asked))))) = still_left result others other left (λ n e. cc) wide same shows
    together_left origin first next bytes wishes unused result others other left wide is (inr (inr (inl (mine, below, so, keeps)))) = let rising = is.rising in absurd (omega (arith, below, rising))
    together_left origin first next bytes wishes unused result others other left wide is (inr (inr (inr (mine, above, outcome, so, takes)))) =
        let there = subst (λ (v : ℕ). AreOthers origin v next bytes) mine.1 is in
        subst (λ (r : Result Told AnswerFault). IsLeft r others other left) (sym so) (merged_left origin next bytes wishes unused outcome others other left wide there takes)

    left_by : (answer : Answer) (wishes unused : List Wish) (result : Result Told AnswerFault) (others : List TableDef) (other : Position) (left : Contents) → IsTrueAnswer world answer
        → Answers IsWished before.tables answer result before.position before.view wishes others other left unused
        → IsLeft result others other left
    left_by (Short (Accepted origin number version)) wishes unused result others other left t (wide, tells, (shows, asked)) = record {
      end = before.view;
      shows = subst (λ (ts : List TableDef). ShowsAt ts left other before.view) (sym wide) shows;
      on = accepted_on origin number version result others other wide t tells;
      good = good_accepted origin number version result other tells;
    }
    left_by (Short (Stale newest)) wishes unused result others other left t (wide, is, (same, (shows, asked))) = still_left result others other left (λ n e. cc) wide same shows
    left_by (Short (Refused code)) wishes unused result others other left t (wide, is, (same, (shows, asked))) = still_left result others other left (λ n e. cc) wide same shows
    left_by (Entries first entries) wishes unused result others other left t (list, is, pulls) =
        subst (λ (x : Result Told AnswerFault). IsLeft x others other left) (sym is) (list_left first entries wishes unused list others other left t pulls)
    left_by (Merged origin first next changeset) wishes unused result others other left t (wide, tells) = together_left origin first next changeset wishes unused result others other left wide t tells

    -- where the replica is placed after it
    pub hears_on : (answer : Answer) (wishes : List Wish) (result : Result Told AnswerFault) (after : Member) → IsTrueAnswer world answer → Hears before answer wishes result after
        → IsOnAt after.tables after.position after.view × IsGood (heard result)
    hears_on answer wishes result after t hears =
        let left = left_by answer wishes hears.unused result after.tables after.position hears.left t hears.answers in
        let rows = laws.rows after.tables hears.left after.position left.end after.view left.shows hears.shows in (
          record {
            stands = laws.kept world.log after.position after.position left.end after.view refl rows.0 left.on.stands;
            tables_are = left.on.tables_are;
            id = left.on.id;
            number = left.on.number;
            flight = left.on.flight;
          },
          left.good,
        )
