-- Entries that are known, on the way: those before were taken.
use Rattle.std.proofs.Common.{◌≡◌, ◌+◌, ◌≤◌, ℕ, zero, suc, List, [], ◌∷◌, ◌++◌, take, drop, length, Some, Ok, Err, refl, sym, ap, subst, ◌∙◌, arith}
use Rattle.std.specs.Prelude.{slice_get}
use Rattle.std.specs.FinMap.{len}
use Rattle.std.proofs.lemmas.List.Sums.{fold-append}
use Rattle.std.proofs.lemmas.Option.{slice_get_within}
use Rattle.cs_value.specs.declared.catalog.TableDef.{TableDef}
use Rattle.cs_store.specs.log.Log.{catalog_after, catalog_next, catalog_of, entries_between}
use Rattle.cs_store.specs.declared.log.entry.LogEntry.{LogEntry}
use Rattle.cs_store.specs.Contents.{Contents}
use Rattle.cs_store.specs.declared.store.RowStore.{Ghosts}
use Rattle.cs_conflict.specs.declared.clash.Clash.{Clash}
use Rattle.cs_conflict.specs.declared.wish.Wish.{Wish}
use Rattle.cs_pending.specs.Calls.{WritesStore}
use Rattle.cs_pending.specs.View.{View}
use Rattle.cs_pending.specs.position.Shows.{ShowsAt, ShowsSomeAt}
use Rattle.cs_pending.specs.declared.position.position.Position.{Position}
use Rattle.cs_exchange.specs.pulling.Calls.{WritesInTurn}
use Rattle.cs_exchange.specs.pulling.Pulls.{IsPulledIn, PullsOne}
use Rattle.cs_replica.specs.Holding.{Holding, Shows}
use Rattle.cs_exchange.specs.taking.Takes.{taken}
use Rattle.cs_nodes.proofs.FollowingLemmas.InTurn.{WentOn, no_call_yet, one_more, one_failed}
use Rattle.cs_nodes.specs.following.Pulls.{IsNextKnown, IsPulledAmong, IsTakeFault, PullsAll, PullsEach, PullsKnown}
use Rattle.cs_nodes.specs.following.Standing.{StandsWhereHonest, TablesGoOn}
use Rattle.cs_nodes.specs.declared.following.fault.NodeFault.{NodeFault}
use Rattle.cs_nodes.specs.declared.following.fault.NodeFault.TheVariants.{Device}
use Rattle.cs_nodes.proofs.FollowingLemmas.Stood.{front_more}

-- ---- the entries from one version to another

none_between : (known : List LogEntry) (v : ℕ) → entries_between known v v ≡ []
none_between known zero = refl
none_between [] (suc v) = refl
none_between (x ∷ known) (suc v) = none_between known v

between_more : (known : List LogEntry) (v at : ℕ) (e : LogEntry) → v ≤ at → slice_get known at ≡ Some e → entries_between known v (at + 1) ≡ entries_between known v at ++ e ∷ []
between_more [] v at e less is = absurd cc
between_more (x ∷ known) zero at e less is = front_more (x ∷ known) at e is
between_more (x ∷ known) (suc v) zero e less is = absurd (omega (arith, less))
between_more (x ∷ known) (suc v) (suc at) e less is =
    let further : suc at + 1 ≡ suc (at + 1) = omega arith in
    ap (λ (n : ℕ). drop (suc v) (take n (x ∷ known))) further ∙ between_more known v at e (omega (arith, less)) is

-- ---- the tables that they leave

-- where none was taken
pub stayed_at : (tables others : List TableDef) (known : List LogEntry) (from to : ℕ) → others ≡ tables → to ≡ from → TablesGoOn known tables from others to
stayed_at tables others known from to same at = record {
  onwards = omega (arith, at);
  catalog = same ∙ sym (ap (λ (n : ℕ). catalog_of tables (entries_between known from n)) at ∙ ap (λ (es : List LogEntry). catalog_of tables es) (none_between known from));
}

-- and one more
pub went_on : (tables mid others : List TableDef) (known : List LogEntry) (from at to : ℕ) (entry : LogEntry) → TablesGoOn known tables from mid at → slice_get known at ≡ Some entry → to ≡ at + 1
    → others ≡ catalog_after mid entry.body → TablesGoOn known tables from others to
went_on tables mid others known from at to entry so here next wide = record {
  onwards = omega (arith, so.onwards, next);
  catalog = wide ∙ ap (λ (ts : List TableDef). catalog_next ts entry) so.catalog
      ∙ sym (ap (λ (n : ℕ). catalog_of tables (entries_between known from n)) next ∙ ap (λ (es : List LogEntry). catalog_of tables es) (between_more known from at entry so.onwards here)
      ∙ fold-append catalog_next tables (entries_between known from at) (entry ∷ []));
}

-- ---- one entry after another

module _ {P : Type 0} (picks : P → Clash → Wish → P → Type 0) where
  -- one more behind those
  pulls_more : (tables : List TableDef) (entries : List LogEntry) (position : Position) (view : View) (p : P) (others : List TableDef) (other : Position) (end : View) (q : P) → PullsEach picks tables entries position view p others other end q
      → (entry : LogEntry) (pending : ℕ) (left : Contents) (next : View) (between : P)
      → PullsOne picks others other entry end q next between → ShowsAt (catalog_after others entry.body) left (taken other pending) next
      → PullsEach picks tables (entries ++ entry ∷ []) position view p (catalog_after others entry.body) (taken other pending) next between
  unfolding PullsEach
  pulls_more tables [] position view p others other end q same entry pending left next between one shows =
      subst (λ (ts : List TableDef). PullsEach picks ts (entry ∷ []) position view p (catalog_after others entry.body) (taken other pending) next between) same.0
      (subst (λ (x : Position). PullsEach picks others (entry ∷ []) x view p (catalog_after others entry.body) (taken other pending) next between) same.1
      (subst (λ (v : View). PullsEach picks others (entry ∷ []) other v p (catalog_after others entry.body) (taken other pending) next between) same.2
      (subst (λ (r : P). PullsEach picks others (entry ∷ []) other end r (catalog_after others entry.body) (taken other pending) next between) same.3
      (pending, left, next, between, one, shows, (refl, refl, refl, refl)))))
  pulls_more tables (first ∷ entries) position view p others other end q (pending', left', next', between', one', shows', rest) entry pending left next between one shows =
      (pending', left', next', between', one', shows', pulls_more (catalog_after tables first.body) entries (taken position pending') next' between' others other end q rest entry pending left next between one shows)

  module _ (tables : List TableDef) (known : List LogEntry) (position : Position) (view : View) (p : P) where
    pub known_none : position.version ≤ length known → PullsKnown picks tables known position view p tables position view p
    unfolding PullsEach
    known_none within = record {
      onwards = omega arith;
      within = within;
      pulls = subst (λ (es : List LogEntry). PullsEach picks tables es position view p tables position view p) (sym (none_between known position.version)) (refl, refl, refl, refl);
    }

    pub known_more : (others : List TableDef) (other : Position) (end : View) (q : P) → PullsKnown picks tables known position view p others other end q → (entry : LogEntry) → slice_get known other.version ≡ Some entry
        → (pending : ℕ) (left : Contents) (next : View) (between : P) → PullsOne picks others other entry end q next between → ShowsAt (catalog_after others entry.body) left (taken other pending) next
        → PullsKnown picks tables known position view p (catalog_after others entry.body) (taken other pending) next between
    known_more others other end q so_far entry here pending left next between one shows = record {
      onwards = omega (arith, so_far.onwards);
      within = omega (arith, slice_get_within known other.version entry here);
      pulls = subst (λ (es : List LogEntry). PullsEach picks tables es position view p (catalog_after others entry.body) (taken other pending) next between) (sym (between_more known position.version other.version entry so_far.onwards here))
          (pulls_more tables (entries_between known position.version other.version) position view p others other end q so_far.pulls entry pending left next between one shows);
    }

module _ {P S : Type 0} (picks : P → Clash → Wish → P → Type 0) (g : Ghosts S)
    (known : List LogEntry) (begun : Holding S) (p : P) where
  -- how far it has come
  pub record IsAlong (at : ℕ) (now : Holding S) (q : P) : Type 0 where
    pub at_is : now.position.version ≡ at
    pub from : begun.position.version ≤ at
    pub within : at ≤ length known
    pub catalog : TablesGoOn known begun.catalog begun.position.version now.catalog now.position.version
    pub seen : g.honest now.store → (before : View) → Shows g.contents begun before
        → (here : View) × PullsKnown picks begun.catalog known begun.position before p now.catalog now.position here q × Shows g.contents now here
    pub turn : WentOn g (ShowsSomeAt begun.catalog begun.position (g.contents begun.store))
        (IsPulledAmong picks begun.catalog known begun.position (g.contents begun.store) p) (IsNextKnown picks now.catalog known now.position (g.contents now.store)) begun.store now.store
    pub stands : StandsWhereHonest g known begun → StandsWhereHonest g known now

  -- at the start
  pub along_none : (at : ℕ) → at ≡ begun.position.version → begun.position.version ≤ length known → IsAlong at begun p
  along_none at is within = record {
    at_is = sym is;
    from = omega (arith, is);
    within = omega (arith, is, within);
    catalog = stayed_at begun.catalog begun.catalog known begun.position.version begun.position.version refl refl;
    seen = λ h before shows. (before, known_none picks begun.catalog known begun.position before p within, shows);
    turn = no_call_yet g _ _ _ begun.store;
    stands = λ s. s;
  }

  module _ (at : ℕ) (mid new : Holding S) (q r : P) (a : IsAlong at mid q) (entry : LogEntry) (here : slice_get known at ≡ Some entry) where
    there : slice_get known mid.position.version ≡ Some entry
    there = ap (λ (n : ℕ). slice_get known n) a.at_is ∙ here

    pub readable : g.honest mid.store → ShowsSomeAt begun.catalog begun.position (g.contents begun.store) → ShowsSomeAt mid.catalog mid.position (g.contents mid.store)
    readable h (before, shows) = let s = a.seen h before shows in (s.0, s.2)

    -- what a stop may leave behind one more
    pub among : g.honest mid.store → (left : Contents) → IsPulledIn picks mid.catalog mid.position entry q r (g.contents mid.store) left → IsPulledAmong picks begun.catalog known begun.position (g.contents begun.store) p left
    among h left pulled before shows =
        let s = a.seen h before shows in
        let after = pulled s.0 s.2 in (
          catalog_after mid.catalog entry.body,
          taken mid.position (len left.pending),
          after.0,
          r,
          known_more picks begun.catalog known begun.position before p mid.catalog mid.position s.0 q s.1 entry there (len left.pending) left after.0 r after.2 after.1,
          omega (arith, a.from, a.at_is),
          after.1,
        )

    -- one more was taken
    pub along_more : (done : Unit {0})
        → WritesStore g {T = Unit {0}} {E = NodeFault} Device (ShowsSomeAt mid.catalog mid.position (g.contents mid.store)) (IsPulledIn picks mid.catalog mid.position entry q r (g.contents mid.store)) mid.store new.store (Ok done)
        → new.position ≡ taken mid.position new.position.pending
        → (g.honest new.store → ShowsSomeAt mid.catalog mid.position (g.contents mid.store) → new.position.pending ≡ len (g.contents new.store).pending)
        → new.catalog ≡ catalog_after mid.catalog entry.body
        → ((known : List LogEntry) → slice_get known mid.position.version ≡ Some entry → StandsWhereHonest g known mid → StandsWhereHonest g known new)
        → IsAlong (at + 1) new r
    along_more done writes moved counted wide stands = record {
      at_is = ap (λ (x : Position). x.version) moved ∙ ap (λ (n : ℕ). n + 1) a.at_is;
      from = omega (arith, a.from);
      within = omega (arith, slice_get_within known at entry here);
      catalog = went_on begun.catalog mid.catalog new.catalog known begun.position.version mid.position.version new.position.version entry a.catalog there (ap (λ (x : Position). x.version) moved) wide;
      seen = λ h before shows.
          let h' = writes.was_honest h in
          let s = a.seen h' before shows in
          let after = writes.ok h s.0 s.2 in
          let pending = len (g.contents new.store).pending in
          let is : new.position ≡ taken mid.position pending = moved ∙ ap (taken mid.position) (counted h (s.0, s.2)) in
          let onwards = known_more picks begun.catalog known begun.position before p mid.catalog mid.position s.0 q s.1 entry there pending (g.contents new.store) after.0 r after.2 after.1 in (
            after.0,
            subst (λ (t : List TableDef). PullsKnown picks begun.catalog known begun.position before p t new.position after.0 r) (sym wide)
                (subst (λ (x : Position). PullsKnown picks begun.catalog known begun.position before p (catalog_after mid.catalog entry.body) x after.0 r) (sym is) onwards),
            subst (λ (t : List TableDef). ShowsAt t (g.contents new.store) new.position after.0) (sym wide)
                (subst (λ (x : Position). ShowsAt (catalog_after mid.catalog entry.body) (g.contents new.store) x after.0) (sym is) after.1),
          );
      turn = one_more g _ _ _ _ _ _ begun.store mid.store new.store readable among a.turn Device done writes;
      stands = λ s. stands known there (a.stands s);
    }

    module _ (fault : NodeFault) (kept : new.position ≡ mid.position) (same : new.catalog ≡ mid.catalog)
        (writes : WritesStore g {T = Unit {0}} {E = NodeFault} Device (ShowsSomeAt mid.catalog mid.position (g.contents mid.store)) (IsPulledIn picks mid.catalog mid.position entry q r (g.contents mid.store)) mid.store new.store (Err fault)) where
      -- the next wasn't taken
      pub along_stop : (g.honest new.store → (view : View) → Shows g.contents mid view → IsTakeFault picks mid.catalog fault mid.position entry view q r)
          → g.honest new.store → (before : View) → Shows g.contents begun before
          → PullsAll picks begun.catalog known (Err fault) begun.position before p new.catalog new.position (g.contents new.store) r
      along_stop refused h before shows =
          let h' = writes.was_honest h in
          let s = a.seen h' before shows in
          let told = refused h s.0 s.2 in
          subst (λ (t : List TableDef). PullsAll picks begun.catalog known (Err fault) begun.position before p t new.position (g.contents new.store) r) (sym same)
          (subst (λ (x : Position). PullsAll picks begun.catalog known (Err fault) begun.position before p mid.catalog x (g.contents new.store) r) (sym kept) (
            s.0,
            q,
            s.1,
            subst (λ (c : Contents). ShowsAt mid.catalog c mid.position s.0) (sym (writes.err h)) s.2,
            (entry, there, told),
          ))

      -- its commit, where that failed
      next : g.contents new.store ≡ g.contents mid.store → (left : Contents) → IsPulledIn picks mid.catalog mid.position entry q r (g.contents mid.store) left
          → IsNextKnown picks new.catalog known new.position (g.contents new.store) left
      next stays left pulled =
          subst (λ (t : List TableDef). IsNextKnown picks t known new.position (g.contents new.store) left) (sym same)
          (subst (λ (x : Position). IsNextKnown picks mid.catalog known x (g.contents new.store) left) (sym kept)
          (subst (λ (c : Contents). IsNextKnown picks mid.catalog known mid.position c left) (sym stays)
          (entry, there, (q, r, pulled))))

      pub along_failed : (finished told : Type 0) → (finished → ⊥) → (told → fault ≡ Device)
          → WritesInTurn g finished told (ShowsSomeAt begun.catalog begun.position (g.contents begun.store))
          (IsPulledAmong picks begun.catalog known begun.position (g.contents begun.store) p) (IsNextKnown picks new.catalog known new.position (g.contents new.store)) begun.store new.store
      along_failed finished told undone is = one_failed g _ _ _ _ _ _ begun.store mid.store new.store readable among a.turn Device fault finished told undone is next writes

      -- the tables are those that it had come to
      pub along_tables : TablesGoOn known begun.catalog begun.position.version new.catalog new.position.version
      along_tables =
          subst (λ (t : List TableDef). TablesGoOn known begun.catalog begun.position.version t new.position.version) (sym same)
          (subst (λ (x : Position). TablesGoOn known begun.catalog begun.position.version mid.catalog x.version) (sym kept) a.catalog)
