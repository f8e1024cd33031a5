-- A push that was offered, and what came of it.
use Rattle.std.proofs.Common.{◌≡◌, ◌++◌, ◌∷◌, ℕ, true, List, [], length, Option, Some, None, option_map, Ok, Err, refl, sym, ap, subst, ◌∙◌, inl, inr}
use Rattle.std.specs.Prelude.{pos, slice_get}
use Rattle.std.specs.FinMap.{empty_of_len, get, get-empty, len}
use Rattle.std.proofs.lemmas.Option.{same_Some, slice_get-get_or}
use Rattle.cs_value.specs.Catalog.{AreTables}
use Rattle.cs_value.specs.declared.catalog.TableDef.{TableDef}
use Rattle.cs_change.specs.Spelling.{change_spelling}
use Rattle.cs_change.specs.declared.change.Change.{Change}
use Rattle.cs_normal.specs.State.{IsDefinedOn}
use Rattle.cs_store.specs.log.Entry.{entry_changes}
use Rattle.cs_store.specs.log.Log.{catalog_after, tables_at}
use Rattle.cs_store.specs.declared.log.entry.LogEntry.{LogEntry}
use Rattle.cs_store.specs.Contents.{Bodies, Contents, place_cmp, stored_pending}
use Rattle.cs_conflict.specs.declared.clash.Clash.{Clash}
use Rattle.cs_conflict.specs.declared.wish.Wish.{Wish}
use Rattle.cs_pending.specs.View.{View}
use Rattle.cs_pending.specs.position.Shows.{ShowsAt}
use Rattle.cs_pending.specs.declared.position.position.Position.{Position}
use Rattle.cs_exchange.specs.pulling.Pulls.{IsPulledIn}
use Rattle.cs_exchange.specs.pushing.Pushes.{HasNothing, IsPushMadeIn, grounded, pushed}
use Rattle.cs_replica.specs.Flight.{flight_entry}
use Rattle.cs_exchange.specs.taking.Takes.{taken}
use Rattle.cs_nodes.specs.following.Pulls.{IsNextKnown, IsTakeFault}
use Rattle.cs_nodes.specs.following.Pushes.{IsNotOffered, IsReadied, IsReadyFault, IsSent, IsSentAmong, IsSentNext, PushesOn}
use Rattle.cs_nodes.specs.declared.following.fault.NodeFault.{NodeFault}
use Rattle.cs_nodes.specs.declared.following.fault.NodeFault.TheVariants.{BadEntry, Device, Full, Memory, Spent, Stopped, TooLarge}
use Rattle.cs_nodes.specs.declared.following.pushed.NodePush.TheVariants.{Nothing, Accepted, Other}
use Rattle.cs_nodes.proofs.FollowingLemmas.Readied.{flies_as, ready_flies}

-- the entry behind a list
pub behind : (known : List LogEntry) (held : LogEntry) → slice_get (known ++ held ∷ []) (length known) ≡ Some held
behind [] held = refl
behind (x ∷ known) held = behind known held

pub held_is : (known all : List LogEntry) (held entry : LogEntry) → all ≡ known ++ held ∷ [] → slice_get all (length known) ≡ Some entry → entry ≡ held
held_is known all held entry is at =
    sym (same_Some held entry (sym (behind known held) ∙ ap (λ (l : List LogEntry). slice_get l (length known)) (sym is) ∙ at))

module _ {P : Type 0} (picks : P → Clash → Wish → P → Type 0) (tables : List TableDef) (known : List LogEntry) (position : Position) (before : View) (p : P) where
  -- a push was made, and not offered
  pub memory_sent : (cells : ℕ) (others : List TableDef) → others ≡ tables → (other : Position) (new : Contents) (learned : List LogEntry) → IsReadied tables position before true other new → learned ≡ known
      → PushesOn picks tables known position before p cells (Err Memory) learned others other new p
  memory_sent cells others tabled other new learned (view, shows, ready) same = record {
    view = view;
    held = inr ready;
    catalog = tabled;
    shows = shows;
    told = inl (tt, same, refl);
  }

  pub full_sent : (cells : ℕ) (others : List TableDef) → others ≡ tables → (other : Position) (new : Contents) (learned : List LogEntry) → IsReadied tables position before true other new → position.version ≡ length known → length known ≡ cells → learned ≡ known
      → PushesOn picks tables known position before p cells (Err Full) learned others other new p
  full_sent cells others tabled other new learned (view, shows, ready) at_end full same = record {
    view = view;
    held = inr ready;
    catalog = tabled;
    shows = shows;
    told = inl ((at_end, full, ready), same, refl);
  }

  -- one that is ready is under way, so that it is found
  pub never_none : (cells : ℕ) (others : List TableDef) (other : Position) (new : Contents) (learned : List LogEntry) → IsReadied tables position before true other new
      → (found : Option LogEntry) → found ≡ flight_entry other → ((mine : LogEntry) → found ≡ Some mine → ⊥) → PushesOn picks tables known position before p cells (Ok Nothing) learned others other new p
  never_none cells others other new learned (view, shows, ready) found is none =
      let f = flies_as other (ready_flies tables position before other view ready) in
      absurd (none f.0 (is ∙ f.1))

  -- none was made
  pub not_made : (cells : ℕ) (fault : NodeFault) (others : List TableDef) → others ≡ tables → (other : Position) (new : Contents) → position.version ≡ length known → other ≡ position → IsReadyFault fault tables position before → ShowsAt tables new other before
      → PushesOn picks tables known position before p cells (Err fault) known others other new p
  not_made cells fault others tabled other new at_end same is shows = record {
    view = before;
    held = inl (same, refl);
    catalog = tabled;
    shows = shows;
    told = inl (why fault is, refl, refl);
  }
    where
      why : (fault : NodeFault) → IsReadyFault fault tables position before → IsNotOffered picks tables known position before p cells fault other before
      why Memory is = tt
      why Device is = tt
      why Spent is = record { at_end = at_end; fault_is = is; position_is = same; view_is = refl }
      why TooLarge is = record { at_end = at_end; fault_is = is; position_is = same; view_is = refl }
      why BadEntry is = absurd is
      why (Stopped conflict) is = absurd is
      why Full is = absurd is

  module _ (cells : ℕ) (ready : Position) (mid : Contents) (readied : IsReadied tables position before true ready mid) (learned : List LogEntry) (held : LogEntry) (holds : learned ≡ known ++ held ∷ [])
      (entry : LogEntry) (at : slice_get learned (length known) ≡ Some entry) (at_end : position.version ≡ length known) (q : P) where
    it_holds : learned ≡ known ++ entry ∷ []
    it_holds = holds ∙ ap (λ (e : LogEntry). known ++ e ∷ []) (sym (held_is known learned held entry holds at))

    -- what the cell holds was not taken
    pub stopped_sent : (fault : NodeFault) (others : List TableDef) → others ≡ tables → (other : Position) (new : Contents) → new ≡ mid → other ≡ ready
        → ((view : View) → ShowsAt tables mid ready view → IsTakeFault picks tables fault ready entry view p q)
        → PushesOn picks tables known position before p cells (Err fault) learned others other new q
    stopped_sent fault others tabled other new same kept told =
        subst (λ (x : Position). PushesOn picks tables known position before p cells (Err fault) learned others x new q) (sym kept) (record {
          view = readied.0;
          held = inr readied.2;
          catalog = tabled;
          shows = subst (λ (c : Contents). ShowsAt tables c ready readied.0) (sym same) readied.1;
          told = inr (record { at_end = at_end; readied = readied.2; entry = entry; holds = it_holds; told = told readied.0 readied.1 });
        })

    -- it was
    module _ (others : List TableDef) (wide : others ≡ catalog_after tables entry.body) (other : Position) (new : Contents) (mine : LogEntry) (flight : flight_entry ready ≡ Some mine)
        (defined : IsDefinedOn tables (entry_changes mine) (tables_at known position.version))
        (pulled : IsPulledIn picks tables ready entry p q mid new) (moved : other ≡ taken ready other.pending) (counted : other.pending ≡ len new.pending) where
      is_sent : IsSent picks tables known position before p entry mine learned others other new q
      is_sent =
          let after = pulled readied.0 readied.1 in
          record {
            at_end = at_end;
            ready = ready;
            view = readied.0;
            readied = readied.2;
            flight = flight;
            defined = defined;
            holds = it_holds;
            after = after.0;
            pulls = after.2;
            catalog = wide;
            version = moved;
            shows = subst (λ (t : List TableDef). ShowsAt t new other after.0) (sym wide)
                (subst (λ (x : Position). ShowsAt (catalog_after tables entry.body) new x after.0) (sym (moved ∙ ap (taken ready) counted)) after.1);
          }

      pub mine_sent : held ≡ mine → PushesOn picks tables known position before p cells (Ok (Accepted other.version)) learned others other new q
      mine_sent is =
          let one : mine ≡ entry = sym is ∙ sym (held_is known learned held entry holds at) in
          (refl, (entry, subst (λ (e : LogEntry). IsSent picks tables known position before p entry e learned others other new q) one is_sent))

      pub other_sent : (held ≡ mine → ⊥) → PushesOn picks tables known position before p cells (Ok (Other other.version)) learned others other new q
      other_sent not =
          (refl, (entry, mine, (λ same. not (sym (held_is known learned held entry holds at) ∙ sym same)), is_sent))

-- ---- contents on the way

pub made_leaves : {P : Type 0} (picks : P → Clash → Wish → P → Type 0) (tables : List TableDef) (position : Position) (old : Contents) (p : P) → (left : Contents) → IsPushMadeIn tables position old left → IsSentAmong picks tables position old p left
made_leaves picks tables position old p left is are before shows =
    let made = is before shows in
    (pushed position made.0, grounded before, inr (left, made.0, made.1, refl, refl), inl made.1.shows)

-- what a stop may leave behind the entry of the cell
pub taken_leaves : {P : Type 0} (picks : P → Clash → Wish → P → Type 0) (tables : List TableDef) (position ready : Position) (old mid : Contents) (p q : P) (entry : LogEntry)
    → (AreTables tables → (before : View) → ShowsAt tables old position before → IsReadied tables position before true ready mid)
    → (left : Contents) → IsPulledIn picks tables ready entry p q mid left → IsSentAmong picks tables position old p left
taken_leaves picks tables position ready old mid p q entry readied left pulled are before shows =
    let r = readied are before shows in
    let after = pulled r.0 r.1 in
    (ready, r.0, r.2, inr (entry, after.0, q, len left.pending, after.2, after.1))

-- and what its commit would have left, where that failed
pub taken_next : {P : Type 0} (picks : P → Clash → Wish → P → Type 0) (tables others : List TableDef) (ready other : Position) (mid new : Contents) (p q : P) (learned : List LogEntry) (entry : LogEntry)
    → others ≡ tables → other ≡ ready → slice_get learned ready.version ≡ Some entry → new ≡ mid
    → (left : Contents) → IsPulledIn picks tables ready entry p q mid left → IsSentNext picks others learned other new left
taken_next picks tables others ready other mid new p q learned entry same kept here stays left pulled =
    inr (subst (λ (t : List TableDef). IsNextKnown picks t learned other new left) (sym same)
    (subst (λ (x : Position). IsNextKnown picks tables learned x new left) (sym kept)
    (subst (λ (c : Contents). IsNextKnown picks tables learned ready c left) (sym stays)
    (entry, here, (p, q, pulled)))))

-- ---- nothing is pending

no_change : (o : Option Change) → option_map change_spelling o ≡ None → o ≡ None
no_change None e = refl
no_change (Some change) e = absurd (let no = e in cc)

pub nothing_there : (tables : List TableDef) (contents : Contents) (position : Position) (view : View) → ShowsAt tables contents position view → position.pending ≡ 0 → HasNothing tables view
nothing_there tables contents position view shows none = record {
  fits = tt;
  normal = tt;
  changes_are = λ table key inside.
      let at : slice_get tables inside.0 ≡ Some table = slice_get-get_or tables inside.0 table inside.1 ∙ ap (λ (t : TableDef). Some t) inside.2 in
      let gone : stored_pending contents inside.0 key ≡ None = ap (λ (m : Bodies). get m (pos inside.0, key)) (empty_of_len contents.pending (sym shows.counted ∙ none)) ∙ get-empty place_cmp (pos inside.0, key) in
      sym (no_change (view.pending table.name key) (sym (shows.rows.pends.stored inside.0 table key at) ∙ gone));
}
