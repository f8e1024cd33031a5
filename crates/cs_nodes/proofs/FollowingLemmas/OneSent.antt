-- A push has one outcome, given what the cell holds that it is offered for, and leaves one thing.
use Rattle.std.proofs.Common.{◌≡◌, ◌≢◌, ◌≤◌, ◌<◌, ◌+◌, ℕ, List, [], ◌∷◌, ◌++◌, length, Option, Some, None, is_some, option_map, IsSome, false, true, Ok, Err, refl, sym, ap, subst, ◌∙◌, arith, inl, inr, length-append}
use Rattle.std.specs.Prelude.{◌⊎◌, ℤ, pos, negsuc, Result, slice_get}
use Rattle.std.specs.Cmp.{IsTotalOrder}
use Rattle.std.specs.FinMap.{IsAntisymmetric, empty, get, get-empty, len, len-empty, same_map}
use Rattle.std.specs.Ordering.{int_cmp, nat_cmp}
use Rattle.std.specs.Cmp.Lexicographic.{slice_cmp}
use Rattle.std.proofs.lemmas.Cmp.{int_cmp_total, nat_list_cmp_total, on_total, then_total}
use Rattle.std.proofs.lemmas.Map.Lookups.{exact_bytes, exact_pairs, exact_signed}
use Rattle.std.proofs.lemmas.Option.{same_Some, slice_get_cases}
use Rattle.cs_value.specs.Catalog.{AreTables}
use Rattle.cs_value.specs.declared.catalog.TableDef.{TableDef}
use Rattle.cs_change.specs.Spelling.{change_spelling}
use Rattle.cs_change.specs.declared.change.Change.{Change}
use Rattle.cs_store.specs.log.Log.{catalog_after}
use Rattle.cs_store.specs.declared.log.entry.LogEntry.{LogEntry}
use Rattle.cs_store.specs.Contents.{Bodies, Contents, StorePlace, place_cmp}
use Rattle.cs_conflict.specs.declared.clash.Clash.{Clash}
use Rattle.cs_conflict.specs.declared.wish.Wish.{Wish}
use Rattle.cs_pending.specs.OnePlace.{contained}
use Rattle.cs_pending.specs.Shows.{IsElsewhere}
use Rattle.cs_pending.specs.View.{View}
use Rattle.cs_pending.specs.position.Shows.{ShowsAt}
use Rattle.cs_pending.specs.declared.position.position.Position.{Position}
use Rattle.cs_exchange.specs.pulling.Pulls.{PullsOne}
use Rattle.cs_exchange.specs.pushing.Laws.{IsOfPush, NoFaultWhereMade, OnePush, OnePushFault}
use Rattle.cs_exchange.specs.pushing.Pushes.{HasNothing, IsPushFault, pushed}
use Rattle.cs_exchange.specs.declared.pushing.fault.PushFault.{PushFault}
use Rattle.cs_exchange.specs.declared.pushing.fault.PushFault.TheVariants as push
use Rattle.cs_replica.specs.Flight.{flight_entry}
use Rattle.cs_exchange.specs.taking.Laws.{PicksOnce}
use Rattle.cs_exchange.specs.taking.Takes.{taken}
use Rattle.cs_nodes.specs.following.Laws.{AreNormal, IsOfEntries, IsOfOffer, OneKnownPush}
use Rattle.cs_nodes.specs.following.Pulls.{IsTakeFault}
use Rattle.cs_nodes.specs.following.Pushes.{IsAtRest, IsNotMade, IsNotOffered, IsNotTaken, IsReady, IsSent, PushesOn}
use Rattle.cs_nodes.specs.declared.following.fault.NodeFault.{NodeFault}
use Rattle.cs_nodes.specs.declared.following.fault.NodeFault.TheVariants.{Memory, Device, BadEntry, Stopped, Full, Spent, TooLarge}
use Rattle.cs_nodes.specs.declared.following.pushed.NodePush.{NodePush}
use Rattle.cs_nodes.specs.declared.following.pushed.NodePush.TheVariants.{Nothing, Behind, Accepted, Other}
use Rattle.cs_nodes.proofs.FollowingLemmas.OneKnown.{PullLaws, as_pull_fault}
use Rattle.cs_nodes.proofs.FollowingLemmas.Sent.{behind, held_is}

-- the laws that a push is known by
pub record PushLaws {P : Type 0} (picks : P → Clash → Wish → P → Type 0) : Type 0 where
  pub pulls : PullLaws picks
  pub push : OnePush
  pub fault : OnePushFault
  pub no_fault : NoFaultWhereMade

-- ---- where nothing is pending, none is counted

place_total : IsTotalOrder place_cmp
place_total = then_total (on_total (λ (p : StorePlace). p.0) int_cmp_total) (on_total (λ (p : StorePlace). p.1) nat_list_cmp_total)

place_exact : IsAntisymmetric place_cmp
place_exact = exact_pairs int_cmp (slice_cmp nat_cmp) exact_signed exact_bytes

past : (tables : List TableDef) (key : List ℕ) (number : ℕ) → length tables ≤ number → IsElsewhere tables (pos number, key)
past tables key number is other e = let same : number ≡ other = (let f = e in cc) in omega (arith, is, same)

before_all : (tables : List TableDef) (key : List ℕ) (number : ℕ) → IsElsewhere tables (negsuc number, key)
before_all tables key number other e = absurd (let no = e in cc)

module _ (tables : List TableDef) (contents : Contents) (position : Position) (view : View) (shows : ShowsAt tables contents position view) (none : HasNothing tables view) where
  none_at : (number : ℤ) (key : List ℕ) → get contents.pending (number, key) ≡ None
  none_at (pos n) key =
      elim (slice_get_cases tables n).1 [
        | inl found ↦ shows.rows.pends.stored n found.0 key found.2 ∙ ap (λ (c : Option Change). option_map change_spelling c) (sym (none.changes_are found.0 key (contained tables n found.0 found.2)))
        | inr out ↦ shows.alone.pending (pos n, key) (past tables key n out.0)
      ]
  none_at (negsuc n) key = shows.alone.pending (negsuc n, key) (before_all tables key n)

  none_pending : contents.pending ≡ empty
  none_pending = same_map place_total place_exact contents.pending empty (λ place. none_at place.0 place.1 ∙ sym (get-empty place_cmp place))

  none_counted : position.pending ≡ 0
  none_counted = shows.counted ∙ ap (λ (m : Bodies). len m) none_pending ∙ len-empty place_cmp (List ℕ)

-- ---- two outcomes

longer : (known learned : List LogEntry) (entry : LogEntry) → learned ≡ known → learned ≡ known ++ entry ∷ [] → ⊥
longer known learned entry same more =
    let count : length known ≡ length known + 1 = ap length (sym same ∙ more) ∙ length-append known (entry ∷ []) in
    omega (arith, count)

one_held : (known learned : List LogEntry) (some other : LogEntry) → learned ≡ known ++ some ∷ [] → learned ≡ known ++ other ∷ [] → other ≡ some
one_held known learned some other is are = held_is known learned some other is (ap (λ (l : List LogEntry). slice_get l (length known)) are ∙ behind known other)

-- what a push that isn't made is told as
abbrev told_of : PushFault → Result NodePush NodeFault
told_of push.Memory = Err Memory
told_of push.Nothing = Ok Nothing
told_of push.InFlight = Ok Nothing
told_of push.Device = Err Device
told_of push.Spent = Err Spent
told_of push.TooLarge = Err TooLarge

module _ {P : Type 0} (picks : P → Clash → Wish → P → Type 0) (laws : PushLaws picks) (once : PicksOnce picks) (tables : List TableDef) (are : AreTables tables)
    (known learned : List LogEntry) (normal : AreNormal learned) (position : Position) (before : View) (old : Contents) (shows : ShowsAt tables old position before) (cells : ℕ) (p : P) where
  -- ---- the push that is under way then

  module _ (ready other : Position) (view seen : View) where
    flies_or_made : IsSome position.flight → position.flight ≡ None → ⊥
    flies_or_made some none = let never : false ≡ true = sym (ap (λ o. is_some o) none) ∙ some in absurd cc

    pub one_ready : IsReady tables position before ready view → IsReady tables position before other seen → (other ≡ ready) × (seen ≡ view)
    one_ready (inl (some, is, same)) (inl (some', is', same')) = (is' ∙ sym is, same' ∙ sym same)
    one_ready (inl (some, is, same)) (inr (left, changes, made, is', same')) = absurd (flies_or_made some made.none_under_way)
    one_ready (inr (left, changes, made, is, same)) (inl (some, is', same')) = absurd (flies_or_made some made.none_under_way)
    one_ready (inr (left, changes, made, is, same)) (inr (left', changes', made', is', same')) =
        let one = laws.push tables position before left left' changes changes' are made made' in
        (is' ∙ ap (pushed position) (sym one) ∙ sym is, same' ∙ sym same)

  shown : (ready : Position) (view : View) → IsReady tables position before ready view → (store : Contents) × ShowsAt tables store ready view
  shown ready view (inl (some, is, same)) =
      (old, subst (λ (x : Position). ShowsAt tables old x view) (sym is) (subst (λ (v : View). ShowsAt tables old position v) (sym same) shows))
  shown ready view (inr (left, changes, made, is, same)) =
      (left, subst (λ (x : Position). ShowsAt tables left x view) (sym is) (subst (λ (v : View). ShowsAt tables left (pushed position changes) v) (sym same) made.shows))

  -- one that was made, or was under way, has no fault
  no_fault : (ready : Position) (view : View) (fault : PushFault) → position.flight ≡ None → IsOfPush fault → IsPushFault fault tables position before → IsReady tables position before ready view → ⊥
  no_fault ready view fault none of is (inl (some, still, same)) = flies_or_made ready ready view view some none
  no_fault ready view fault none of is (inr (left, changes, made, to, same)) = laws.no_fault tables position before left changes fault are made of is

  -- what shows one view at one position is one
  one_store : (here there : Position) (new last : Contents) (view seen : View) → there ≡ here → seen ≡ view → ShowsAt tables new here view → ShowsAt tables last there seen → new ≡ last
  one_store here there new last view seen is same s o =
      let there_is = subst (λ (x : Position). ShowsAt tables last x view) is (subst (λ (v : View). ShowsAt tables last there v) same o) in
      laws.pulls.contents tables here new last view view (subst (λ (n : ℕ). ShowsAt tables new (record here { pending = n }) view) s.counted s)
      (subst (λ (n : ℕ). ShowsAt tables last (record here { pending = n }) view) there_is.counted there_is) (λ name key. refl) (λ table key inside. refl)

  -- ---- the kinds of outcomes

  -- nothing has changed, since the replica is behind what is known
  record IsLate (result : Result NodePush NodeFault) : Type 0 where
    told : result ≡ Ok Behind
    busy : IsAtRest position → ⊥
    behind_known : position.version < length known

  -- or since no push is made
  record IsUnmade (result : Result NodePush NodeFault) : Type 0 where
    fault : PushFault
    told : result ≡ told_of fault
    of : IsOfPush fault
    is : IsPushFault fault tables position before
    none : position.flight ≡ None
    rest_or_level : IsAtRest position ⊎ (position.version ≡ length known)

  -- it isn't offered, since no cell is left
  record IsFilled (result : Result NodePush NodeFault) (others : List TableDef) (other : Position) (new : Contents) : Type 0 where
    told : result ≡ Err Full
    at_end : position.version ≡ length known
    tabled : others ≡ tables
    view : View
    readied : IsReady tables position before other view
    shown_then : ShowsAt tables new other view

  -- the entry of the cell is taken
  record IsDone (result : Result NodePush NodeFault) (others : List TableDef) (other : Position) (new : Contents) (q : P) : Type 0 where
    entry : LogEntry
    mine : LogEntry
    sent : IsSent picks tables known position before p entry mine learned others other new q
    told : ((result ≡ Ok (Accepted other.version)) × (mine ≡ entry)) ⊎ ((result ≡ Ok (Other other.version)) × (mine ≢ entry))

  -- or it isn't
  record IsStuck (result : Result NodePush NodeFault) (others : List TableDef) (other : Position) (new : Contents) (q : P) : Type 0 where
    fault : NodeFault
    told : result ≡ Err fault
    of : IsOfEntries (Err fault)
    tabled : others ≡ tables
    view : View
    shown_then : ShowsAt tables new other view
    not_taken : IsNotTaken picks tables known position before p fault learned other view q

  abbrev Stays : List TableDef → Position → Contents → P → Type 0
  Stays others other new q = (learned ≡ known) × (others ≡ tables) × (other ≡ position) × ShowsAt tables new position before × (q ≡ p)

  abbrev Kind : Result NodePush NodeFault → List TableDef → Position → Contents → P → Type 0
  Kind result others other new q =
      (Stays others other new q × (IsLate result ⊎ IsUnmade result))
      ⊎ (((learned ≡ known) × (q ≡ p) × IsFilled result others other new) ⊎ (IsDone result others other new q ⊎ IsStuck result others other new q))

  unmade_kind : (fault : PushFault) (told : NodeFault) (others : List TableDef) → others ≡ tables → (other : Position) (new : Contents) (q : P) (view : View) → told_of fault ≡ Err told → IsOfPush fault → position.flight ≡ None → ShowsAt tables new other view
      → IsNotMade picks tables known position before p fault other view → learned ≡ known → q ≡ p → Kind (Err told) others other new q
  unmade_kind fault told others tabled other new q view is of none shown_then why same asked =
      inl (
        (same, tabled, why.position_is, subst (λ (x : Position). ShowsAt tables new x before) why.position_is (subst (λ (v : View). ShowsAt tables new other v) why.view_is shown_then), asked),
        inr (record {
          fault = fault;
          told = sym is;
          of = of;
          is = why.fault_is;
          none = none;
          rest_or_level = inr why.at_end;
        }),
      )

  stuck_kind : (fault : NodeFault) (others : List TableDef) → others ≡ tables → (other : Position) (new : Contents) (q : P) (view : View) → IsOfEntries (Err fault) → ShowsAt tables new other view → IsNotTaken picks tables known position before p fault learned other view q → Kind (Err fault) others other new q
  stuck_kind fault others tabled other new q view of shown_then is = inr (inr (inr (record { fault = fault; told = refl; of = of; tabled = tabled; view = view; shown_then = shown_then; not_taken = is })))

  failed_kind : (fault : NodeFault) (others : List TableDef) → others ≡ tables → (other : Position) (new : Contents) (q : P) (view : View) → IsOfOffer (Err fault) → ShowsAt tables new other view
      → (IsNotOffered picks tables known position before p cells fault other view × (learned ≡ known) × (q ≡ p)) ⊎ IsNotTaken picks tables known position before p fault learned other view q
      → Kind (Err fault) others other new q
  failed_kind Memory others tabled other new q view of s is = absurd of
  failed_kind Device others tabled other new q view of s is = absurd of
  failed_kind Full others tabled other new q view of s (inl (is, same, asked)) = inr (inl (same, asked, record { told = refl; at_end = is.0; tabled = tabled; view = view; readied = is.2; shown_then = s }))
  failed_kind Full others tabled other new q view of s (inr is) = absurd is.told
  failed_kind Spent others tabled other new q view of s (inl (is, same, asked)) = unmade_kind push.Spent Spent others tabled other new q view refl (λ e. cc, λ e. cc) is.fault_is.1 s is same asked
  failed_kind Spent others tabled other new q view of s (inr is) = absurd is.told
  failed_kind TooLarge others tabled other new q view of s (inl (is, same, asked)) = unmade_kind push.TooLarge TooLarge others tabled other new q view refl (λ e. cc, λ e. cc) is.fault_is.1 s is same asked
  failed_kind TooLarge others tabled other new q view of s (inr is) = absurd is.told
  failed_kind BadEntry others tabled other new q view of s (inl is) = absurd is.0
  failed_kind BadEntry others tabled other new q view of s (inr is) = stuck_kind BadEntry others tabled other new q view tt s is
  failed_kind (Stopped conflict) others tabled other new q view of s (inl is) = absurd is.0
  failed_kind (Stopped conflict) others tabled other new q view of s (inr is) = stuck_kind (Stopped conflict) others tabled other new q view tt s is

  kind_of : (result : Result NodePush NodeFault) (others : List TableDef) (other : Position) (new : Contents) (q : P) → IsOfOffer result → PushesOn picks tables known position before p cells result learned others other new q → Kind result others other new q
  kind_of (Ok Nothing) others other new q of (none, has, same, tabled, still, s, asked) =
      inl (
        (same, tabled, still, s, asked),
        inr (record {
          fault = push.Nothing;
          told = refl;
          of = (λ e. cc, λ e. cc);
          is = has;
          none = none;
          rest_or_level = inl (none, none_counted tables new position before s has);
        }),
      )
  kind_of (Ok Behind) others other new q of (busy, late, same, tabled, still, s, asked) = inl ((same, tabled, still, s, asked), inl (record { told = refl; busy = busy; behind_known = late }))
  kind_of (Ok (Accepted version)) others other new q of (is, (entry, sent)) =
      inr (inr (inl (record { entry = entry; mine = entry; sent = sent; told = inl (ap (λ (n : ℕ). Ok (Accepted n)) is, refl) })))
  kind_of (Ok (Other version)) others other new q of (is, (entry, mine, not, sent)) =
      inr (inr (inl (record { entry = entry; mine = mine; sent = sent; told = inr (ap (λ (n : ℕ). Ok (Other n)) is, not) })))
  kind_of (Err fault) others other new q of is = failed_kind fault others is.catalog other new q is.view of is.shows is.told

  -- ---- none is of two kinds

  -- one that is late is none of the others
  late_or_unmade : (some other : Result NodePush NodeFault) → IsLate some → IsUnmade other → ⊥
  late_or_unmade some other l u = elim u.rest_or_level [ inl rest ↦ l.busy rest | inr level ↦ (let late = l.behind_known in omega (arith, level, late)) ]

  late_or_ended : (some : Result NodePush NodeFault) → IsLate some → position.version ≡ length known → ⊥
  late_or_ended some l level = let late = l.behind_known in omega (arith, level, late)

  -- what is taken is not refused
  done_or_stuck : (some other : Result NodePush NodeFault) (wide its : List TableDef) (here there : Position) (new last : Contents) (q r : P) → IsDone some wide here new q → IsStuck other its there last r → ⊥
  done_or_stuck some other wide its here there new last q r d s =
      let both = one_ready d.sent.ready there d.sent.view s.view d.sent.readied s.not_taken.readied in
      let same = one_held known learned d.entry s.not_taken.entry d.sent.holds s.not_taken.holds in
      let store = shown d.sent.ready d.sent.view d.sent.readied in
      let told : IsTakeFault picks tables s.fault d.sent.ready d.entry d.sent.view p r =
      subst (λ (x : Position). IsTakeFault picks tables s.fault x d.entry d.sent.view p r) both.0
      (subst (λ (v : View). IsTakeFault picks tables s.fault there d.entry v p r) both.1
      (subst (λ (e : LogEntry). IsTakeFault picks tables s.fault there e s.view p r) same s.not_taken.told)) in
      let fault = as_pull_fault picks laws.pulls once tables are learned normal d.sent.ready store.0 d.sent.view d.sent.view store.1 store.1 s.fault d.entry p r s.of told in
      laws.pulls.no_fault tables d.sent.ready d.entry d.sent.view d.sent.after fault.0 p q r once fault.1 d.sent.pulls fault.2

  -- ---- and each kind leaves one thing

  abbrev One : (some other : Result NodePush NodeFault) (wide its : List TableDef) (here there : Position) (new last : Contents) (q r : P) → Type 0
  One some other wide its here there new last q r = (some ≡ other) × (wide ≡ its) × (here ≡ there) × (new ≡ last) × (q ≡ r)

  one_late : (some other : Result NodePush NodeFault) → (IsLate some ⊎ IsUnmade some) → (IsLate other ⊎ IsUnmade other) → some ≡ other
  one_late some other (inl l) (inl m) = l.told ∙ sym m.told
  one_late some other (inl l) (inr u) = absurd (late_or_unmade some other l u)
  one_late some other (inr u) (inl l) = absurd (late_or_unmade other some l u)
  one_late some other (inr u) (inr v) =
      u.told ∙ ap told_of (laws.fault tables position before u.fault v.fault u.of v.of u.is v.is) ∙ sym v.told

  one_still : (some other : Result NodePush NodeFault) (wide its : List TableDef) (here there : Position) (new last : Contents) (q r : P) → Stays wide here new q → Stays its there last r → some ≡ other → One some other wide its here there new last q r
  one_still some other wide its here there new last q r (same, tabled, is, s, asked) (same', tabled', is', s', asked') one =
      (one, tabled ∙ sym tabled', is ∙ sym is', one_store position position new last before before refl refl s s', asked ∙ sym asked')

  one_filled : (some other : Result NodePush NodeFault) (wide its : List TableDef) (here there : Position) (new last : Contents) (q r : P) → q ≡ p → r ≡ p → IsFilled some wide here new → IsFilled other its there last → One some other wide its here there new last q r
  one_filled some other wide its here there new last q r asked asked' f g =
      let both = one_ready here there f.view g.view f.readied g.readied in
      (f.told ∙ sym g.told, f.tabled ∙ sym g.tabled, sym both.0, one_store here there new last f.view g.view both.0 both.1 f.shown_then g.shown_then, asked ∙ sym asked')

  one_stuck : (some other : Result NodePush NodeFault) (wide its : List TableDef) (here there : Position) (new last : Contents) (q r : P) → IsStuck some wide here new q → IsStuck other its there last r → One some other wide its here there new last q r
  one_stuck some other wide its here there new last q r s t =
      let both = one_ready here there s.view t.view s.not_taken.readied t.not_taken.readied in
      let same = one_held known learned s.not_taken.entry t.not_taken.entry s.not_taken.holds t.not_taken.holds in
      let entry = s.not_taken.entry in
      let told : IsTakeFault picks tables t.fault here entry s.view p r =
      subst (λ (x : Position). IsTakeFault picks tables t.fault x entry s.view p r) both.0
      (subst (λ (v : View). IsTakeFault picks tables t.fault there entry v p r) both.1
      (subst (λ (e : LogEntry). IsTakeFault picks tables t.fault there e t.view p r) same t.not_taken.told)) in
      let fault = as_pull_fault picks laws.pulls once tables are learned normal here new s.view s.view s.shown_then s.shown_then s.fault entry p q s.of s.not_taken.told in
      let also = fault.3 t.fault r t.of told in (
        s.told ∙ ap (λ (f : NodeFault). Err f) (also.0 also.1) ∙ sym t.told,
        s.tabled ∙ sym t.tabled,
        sym both.0,
        one_store here there new last s.view t.view both.0 both.1 s.shown_then t.shown_then,
        also.1,
      )

  one_told : (some other : Result NodePush NodeFault) (here there : ℕ) (entry mine its : LogEntry) → here ≡ there → its ≡ mine
      → ((some ≡ Ok (Accepted here)) × (mine ≡ entry)) ⊎ ((some ≡ Ok (Other here)) × (mine ≢ entry))
      → ((other ≡ Ok (Accepted there)) × (its ≡ entry)) ⊎ ((other ≡ Ok (Other there)) × (its ≢ entry)) → some ≡ other
  one_told some other here there entry mine its at same (inl (is, m)) (inl (is', m')) = is ∙ ap (λ (n : ℕ). Ok (Accepted n)) at ∙ sym is'
  one_told some other here there entry mine its at same (inl (is, m)) (inr (is', m')) = absurd (m' (same ∙ m))
  one_told some other here there entry mine its at same (inr (is, m)) (inl (is', m')) = absurd (m (sym same ∙ m'))
  one_told some other here there entry mine its at same (inr (is, m)) (inr (is', m')) = is ∙ ap (λ (n : ℕ). Ok (Other n)) at ∙ sym is'

  one_done : (some other : Result NodePush NodeFault) (wide its : List TableDef) (here there : Position) (new last : Contents) (q r : P) → IsDone some wide here new q → IsDone other its there last r → One some other wide its here there new last q r
  one_done some other wide its here there new last q r d e =
      let ready = d.sent.ready in
      let view = d.sent.view in
      let entry = d.entry in
      let both = one_ready ready e.sent.ready view e.sent.view d.sent.readied e.sent.readied in
      let same = one_held known learned entry e.entry d.sent.holds e.sent.holds in
      let store = shown ready view d.sent.readied in
      let pulls : PullsOne picks tables ready entry view p e.sent.after r =
      subst (λ (x : Position). PullsOne picks tables x entry view p e.sent.after r) both.0
      (subst (λ (v : View). PullsOne picks tables e.sent.ready entry v p e.sent.after r) both.1
      (subst (λ (x : LogEntry). PullsOne picks tables e.sent.ready x e.sent.view p e.sent.after r) same e.sent.pulls)) in
      let here_in : slice_get learned (length known) ≡ Some entry = ap (λ (l : List LogEntry). slice_get l (length known)) d.sent.holds ∙ behind known entry in
      let pulled = laws.pulls.pull tables store.0 ready entry view view d.sent.after e.sent.after p q r are (normal (length known) entry here_in) once store.1 store.1 d.sent.pulls pulls in
      let here_is : here ≡ taken ready (len new.pending) = d.sent.version ∙ ap (taken ready) d.sent.shows.counted in
      let there_is : there ≡ taken ready (len last.pending) = e.sent.version ∙ ap (λ (x : Position). taken x there.pending) both.0 ∙ ap (taken ready) e.sent.shows.counted in
      let after = catalog_after tables entry.body in
      let its_is : its ≡ after = e.sent.catalog ∙ ap (λ (x : LogEntry). catalog_after tables x.body) same in
      let held = laws.pulls.contents after (taken ready 0) new last d.sent.after e.sent.after
      (subst (λ (ts : List TableDef). ShowsAt ts new (taken ready (len new.pending)) d.sent.after) d.sent.catalog (subst (λ (x : Position). ShowsAt wide new x d.sent.after) here_is d.sent.shows))
      (subst (λ (ts : List TableDef). ShowsAt ts last (taken ready (len last.pending)) e.sent.after) its_is (subst (λ (x : Position). ShowsAt its last x e.sent.after) there_is e.sent.shows)) pulled.0 pulled.1 in
      let at : here ≡ there = here_is ∙ ap (λ (c : Contents). taken ready (len c.pending)) held ∙ sym there_is in
      let mine : e.mine ≡ d.mine = same_Some e.mine d.mine (sym e.sent.flight ∙ ap (λ (x : Position). flight_entry x) both.0 ∙ d.sent.flight) in
      let told : ((other ≡ Ok (Accepted there.version)) × (e.mine ≡ entry)) ⊎ ((other ≡ Ok (Other there.version)) × (e.mine ≢ entry)) =
      subst (λ (x : LogEntry). ((other ≡ Ok (Accepted there.version)) × (e.mine ≡ x)) ⊎ ((other ≡ Ok (Other there.version)) × (e.mine ≢ x))) same e.told in
      (one_told some other here.version there.version entry d.mine e.mine (ap (λ (x : Position). x.version) at) mine d.told told, d.sent.catalog ∙ sym its_is, at, held, pulled.2)

  -- ---- so there is one

  one_kind : (some other : Result NodePush NodeFault) (wide its : List TableDef) (here there : Position) (new last : Contents) (q r : P) → Kind some wide here new q → Kind other its there last r → One some other wide its here there new last q r
  one_kind some other wide its here there new last q r (inl (still, why)) (inl (still', why')) = one_still some other wide its here there new last q r still still' (one_late some other why why')
  one_kind some other wide its here there new last q r (inl (still, inl l)) (inr (inl (same, asked, f))) = absurd (late_or_ended some l f.at_end)
  one_kind some other wide its here there new last q r (inl (still, inr u)) (inr (inl (same, asked, f))) = absurd (no_fault there f.view u.fault u.none u.of u.is f.readied)
  one_kind some other wide its here there new last q r (inl (still, why)) (inr (inr (inl d))) = absurd (longer known learned d.entry still.0 d.sent.holds)
  one_kind some other wide its here there new last q r (inl (still, why)) (inr (inr (inr s))) = absurd (longer known learned s.not_taken.entry still.0 s.not_taken.holds)
  one_kind some other wide its here there new last q r (inr (inl (same, asked, f))) (inl (still, inl l)) = absurd (late_or_ended other l f.at_end)
  one_kind some other wide its here there new last q r (inr (inl (same, asked, f))) (inl (still, inr u)) = absurd (no_fault here f.view u.fault u.none u.of u.is f.readied)
  one_kind some other wide its here there new last q r (inr (inl (same, asked, f))) (inr (inl (same', asked', g))) = one_filled some other wide its here there new last q r asked asked' f g
  one_kind some other wide its here there new last q r (inr (inl (same, asked, f))) (inr (inr (inl d))) = absurd (longer known learned d.entry same d.sent.holds)
  one_kind some other wide its here there new last q r (inr (inl (same, asked, f))) (inr (inr (inr s))) = absurd (longer known learned s.not_taken.entry same s.not_taken.holds)
  one_kind some other wide its here there new last q r (inr (inr (inl d))) (inl (still, why)) = absurd (longer known learned d.entry still.0 d.sent.holds)
  one_kind some other wide its here there new last q r (inr (inr (inl d))) (inr (inl (same, asked, f))) = absurd (longer known learned d.entry same d.sent.holds)
  one_kind some other wide its here there new last q r (inr (inr (inl d))) (inr (inr (inl e))) = one_done some other wide its here there new last q r d e
  one_kind some other wide its here there new last q r (inr (inr (inl d))) (inr (inr (inr s))) = absurd (done_or_stuck some other wide its here there new last q r d s)
  one_kind some other wide its here there new last q r (inr (inr (inr s))) (inl (still, why)) = absurd (longer known learned s.not_taken.entry still.0 s.not_taken.holds)
  one_kind some other wide its here there new last q r (inr (inr (inr s))) (inr (inl (same, asked, f))) = absurd (longer known learned s.not_taken.entry same s.not_taken.holds)
  one_kind some other wide its here there new last q r (inr (inr (inr s))) (inr (inr (inl d))) = absurd (done_or_stuck other some its wide there here last new r q d s)
  one_kind some other wide its here there new last q r (inr (inr (inr s))) (inr (inr (inr t))) = one_stuck some other wide its here there new last q r s t

pub one_known_push : {P : Type 0} (picks : P → Clash → Wish → P → Type 0) → PushLaws picks → OneKnownPush picks
one_known_push picks laws tables wide its known learned cells old new last position here there before some other p q r are normal once shows of so is are' =
    one_kind picks laws once tables are known learned normal position before old shows cells p some other wide its here there new last q r
    (kind_of picks laws once tables are known learned normal position before old shows cells p some wide here new q of is)
    (kind_of picks laws once tables are known learned normal position before old shows cells p other its there last r so are')
