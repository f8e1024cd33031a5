-- The changes of an entry that is defined on the log's rows, worked through. Each is merged, up to the first at which the picker stops.
use Rattle.std.proofs.Common.{◌≡◌, ◌⊎◌, ℕ, Bool, false, List, [], ◌∷◌, Option, Some, None, refl, sym, ap, subst, ◌∙◌, inl, inr}
use Rattle.std.proofs.lemmas.Option.{same_Some}
use Rattle.std.specs.List.{AllByRecursion}
use Rattle.std.specs.Prelude.{◌≢◌}
use Rattle.cs_value.specs.Catalog.{AreTables}
use Rattle.cs_value.specs.Key.{Place, FitsPlace}
use Rattle.cs_value.specs.Laws.{OnePlaceOfName}
use Rattle.cs_value.specs.declared.catalog.TableDef.{TableDef}
use Rattle.cs_change.specs.Action.{action, action_any, after}
use Rattle.cs_change.specs.Laws.{NormalIsNet}
use Rattle.cs_change.specs.Listed.{listed}
use Rattle.cs_change.specs.Net.{net}
use Rattle.cs_change.specs.Normal.{IsNormal}
use Rattle.cs_change.specs.declared.change.Change.{Change}
use Rattle.cs_change.specs.netting.Combine.{with_flag_any}
use Rattle.cs_normal.specs.keyed.Laws.{BytesTellKeys}
use Rattle.cs_normal.specs.Laws.{SetColumnsFit}
use Rattle.cs_normal.specs.State.{IsApplied, IsStateOf, MayStandAt, State}
use Rattle.cs_normal.specs.declared.normal.TableChanges.{TableChanges}
use Rattle.cs_conflict.specs.Conflict.{kind, replaced}
use Rattle.cs_conflict.specs.Laws.{KindTells, MadeAsReplaced, ReplacesUnlessNotFound}
use Rattle.cs_conflict.specs.Lawful.{covers}
use Rattle.cs_conflict.specs.Wishes.{IsLawfulWish, resolution_of}
use Rattle.cs_conflict.specs.declared.clash.Clash.{Clash}
use Rattle.cs_conflict.specs.declared.conflict.Conflict.{Conflict}
use Rattle.cs_conflict.specs.declared.kind.Kind.{Kind}
use Rattle.cs_conflict.specs.declared.wish.Wish.{Wish}
use Rattle.cs_conflict.specs.declared.wish.Wish.TheVariants.{Keep, Take, Stop}
use Rattle.cs_apply.specs.NormalTasks.{AreElsewhere, HaveOwnPlaces, spot_of}
use Rattle.cs_apply.specs.Spots.{spots_apart}
use Rattle.cs_tasks.specs.Tasks.{Task}
use Rattle.cs_rebaser.specs.Diamond.{Diamond}
use Rattle.cs_rebaser.specs.Merge.{merge}
use Rattle.cs_pending.specs.Nets.{action_with_flag}
use Rattle.cs_pending.specs.OnePlace.{by_spot}
use Rattle.cs_pending.specs.View.{put_at}
use Rattle.cs_exchange.specs.taking.Laws.{AnswersLawfully}
use Rattle.cs_exchange.specs.taking.Steps.{LeavesOwn}
use Rattle.cs_exchange.specs.taking.Takes.{Asks, IsClashOf, StopsAt, StopsHere, TakeAll}
use Rattle.cs_exchange.proofs.TakingLemmas.EntryPlaces.{IsOfEntry, keyed_there, left_there, stands_there}
use Rattle.cs_exchange.proofs.TakingLemmas.Local.{gone_deletes, no_local}
use Rattle.cs_exchange.proofs.TakingLemmas.Merged.{left_own_stands, takes_one}
use Rattle.cs_exchange.proofs.TakingLemmas.Stepped.{put_other, put_there}

pub by_option : {A : Type 0} (o : Option A) (P : Type 0) → (o ≡ None → P) → ((a : A) → o ≡ Some a → P) → P
by_option None P none some = none refl
by_option (Some a) P none some = some a refl

-- the laws that a merged row is known by
pub record MergeLaws : Type 0 where
  pub tells : BytesTellKeys
  pub fit : SetColumnsFit
  pub place : OnePlaceOfName
  pub normal_is_net : NormalIsNet
  pub kinds : KindTells
  pub made_as : MadeAsReplaced
  pub replaces : ReplacesUnlessNotFound
  pub diamond : Diamond

-- ---- one change, which is defined on the log's row

module _ {P : Type 0} (picks : P → Clash → Wish → P → Type 0) (is_ready : P → Type 0) (laws : MergeLaws) (t : Task) (log own : Place) where
  -- it leaves some own row, or the picker stops
  abbrev pub Steps : P → Type 0
  Steps p =
      ((merged : Place) × (q : P) × LeavesOwn picks t log own p merged q × is_ready q)
      ⊎ ((conflict : Conflict) × (q : P) × StopsHere picks t log own p conflict q)

  step_by_wish : (clash : Clash) → IsClashOf t log own clash → (p : P) (wish : Wish) (q : P) → picks p clash wish q → is_ready q → IsLawfulWish wish clash.conflict.kind clash.covers → Steps p
  step_by_wish clash is p Keep q picked ready lawful = inl (own, q, inr (Keep, λ e. cc, (clash, is, picked, lawful), refl), ready)
  step_by_wish clash is p Take q picked ready lawful =
      by_option (replaced (action t.change) own) _
      (λ none. absurd (lawful (same_Some _ _ (sym is.of_conflict.of_kind ∙ (laws.replaces (action t.change) own).0 none))))
      (λ merged left. inl (merged, q, inr (Take, λ e. cc, (clash, is, picked, lawful), left), ready))
  step_by_wish clash is p Stop q picked ready lawful = inr (clash.conflict, q, (clash, is, picked, refl))

  module _ (theirs : Place) (made : after (action t.change) log ≡ Some theirs) where
    -- where it conflicts there is an own change
    no_local_none : (why : Kind) → kind (action t.change) own ≡ Some why → with_flag_any false (net t.marks log own) ≡ None → ⊥
    no_local_none why stuck none =
        no_local laws.kinds t.marks log own theirs (action t.change) why (listed None) (ap listed (sym none)) refl made stuck

    shown : (why : Kind) → kind (action t.change) own ≡ Some why → (local : Change) → with_flag_any false (net t.marks log own) ≡ Some local → Clash
    shown why stuck local is = record {
      conflict = record { kind = why; table = t.table; change = t.change; row = own };
      local = local;
      covers = covers (action local) (action t.change);
      covers_is = refl;
      kind_is = stuck;
      not_found = λ gone. gone_deletes laws.kinds laws.replaces t.marks log own theirs (action t.change) local made (stuck ∙ ap (λ k. Some k) gone)
          (sym (action_with_flag false (net t.marks log own)) ∙ ap action_any is);
    }

    shown_is : (why : Kind) (stuck : kind (action t.change) own ≡ Some why) (local : Change) (is : with_flag_any false (net t.marks log own) ≡ Some local) → IsClashOf t log own (shown why stuck local is)
    unfolding shown
    shown_is why stuck local is = record {
      of_conflict = record { of_kind = stuck; of_table = refl; of_change = refl; of_row = refl };
      of_local = is;
    }

    pub step : AnswersLawfully picks is_ready → (p : P) → is_ready p → Steps p
    step answers p ready =
        by_option (kind (action t.change) own) _
        (λ free. let end = (laws.kinds (action t.change) own).0 free in inl (end.0, p, inl (free, end.1, refl), ready))
        (λ why stuck. by_option (with_flag_any false (net t.marks log own)) _
        (λ none. absurd (no_local_none why stuck none))
        (λ local is. let clash = shown why stuck local is in
        let answer = answers p clash ready in
        step_by_wish clash (shown_is why stuck local is) p answer.0 answer.1 answer.2 answer.3 answer.4))

-- ---- all of them

-- where the rows that the entry leaves of the log's, or the merged ones, are others elsewhere
pub take_all_as : {P : Type 0} (picks : P → Clash → Wish → P → Type 0) (log own theirs left merged rows : State) (ts : List Task)
    → AllByRecursion (λ (t : Task). (left t.name t.key ≡ theirs t.name t.key) × (rows t.name t.key ≡ merged t.name t.key)) ts
    → (p q : P) → TakeAll picks log own theirs merged ts p q → TakeAll picks log own left rows ts p q
unfolding TakeAll
take_all_as picks log own theirs left merged rows [] same p q takes = takes
take_all_as picks log own theirs left merged rows (t ∷ ts) same p q (wish, between, on, asks, is, rest) = (
  wish,
  between,
  on,
  asks,
  same.0.1 ∙ is ∙ ap (λ (x : Place). merge (resolution_of wish) (log t.name t.key) (own t.name t.key) x) (sym same.0.0),
  take_all_as picks log own theirs left merged rows ts same.1 between q rest,
)

put_elsewhere : (theirs rows : State) (name key : List ℕ) (x : Place) (ts : List Task) → AreElsewhere (name, key) ts
    → AllByRecursion (λ (t : Task). (theirs t.name t.key ≡ theirs t.name t.key) × (put_at name key x rows t.name t.key ≡ rows t.name t.key)) ts
put_elsewhere theirs rows name key x [] away = tt
put_elsewhere theirs rows name key x (t ∷ ts) away =
    ((refl, put_other name key x rows t.name t.key (spots_apart (name, key) (spot_of t) away.0)), put_elsewhere theirs rows name key x ts away.1)

put_state : (tables : List TableDef) (rows : State) (name key : List ℕ) (x : Place) → IsStateOf tables rows → MayStandAt tables name key x → IsStateOf tables (put_at name key x rows)
put_state tables rows name key x states stands n k =
    by_spot n k name key _
    (λ e same_n same_k. simp e (subst (λ (m : List ℕ). MayStandAt tables m k x) (sym same_n) (subst (λ (j : List ℕ). MayStandAt tables name j x) (sym same_k) stands)))
    (λ e. simp e (states n k))

module _ {P : Type 0} (picks : P → Clash → Wish → P → Type 0) (is_ready : P → Type 0) (laws : MergeLaws) (tables : List TableDef) (are : AreTables tables) (entry : List TableChanges) (log own theirs : State)
    (log_state : IsStateOf tables log) (own_state : IsStateOf tables own) (applied : IsApplied tables entry log theirs) where
  -- the merged rows, which are the own ones elsewhere, and a picker that may be asked; or where it stops
  abbrev pub Worked : List Task → P → Type 0
  Worked ts p =
      ((rows : State) × (q : P) × TakeAll picks log own theirs rows ts p q × ((name key : List ℕ) → AreElsewhere (name, key) ts → rows name key ≡ own name key) × IsStateOf tables rows × is_ready q)
      ⊎ ((conflict : Conflict) × (q : P) × StopsAt picks log own ts p conflict q)

  module _ (t : Task) (is : IsOfEntry tables entry t) where
    made : after (action t.change) (log t.name t.key) ≡ Some (theirs t.name t.key)
    made = left_there tables entry t is log theirs (applied.1 t.name t.key)

    keyed : (state : State) → IsStateOf tables state → FitsPlace is.table.key_marks is.normal.key (state t.name t.key)
    keyed = keyed_there laws.tells laws.fit laws.place tables are entry t is

    took : (merged : Place) (p q : P) → LeavesOwn picks t (log t.name t.key) (own t.name t.key) p merged q
        → (wish : Wish) × (wish ≢ Stop) × Asks picks t (log t.name t.key) (own t.name t.key) p wish q × (merged ≡ merge (resolution_of wish) (log t.name t.key) (own t.name t.key) (theirs t.name t.key))
    took merged p q left =
        takes_one picks laws.diamond laws.normal_is_net t is.normal.key (log t.name t.key) (own t.name t.key) (theirs t.name t.key) merged p q
        (subst (λ (m : List Bool). IsNormal m is.normal.key (action t.change)) is.marked is.normal.normal)
        (subst (λ (m : List Bool). FitsPlace m is.normal.key (log t.name t.key)) is.marked (keyed log log_state))
        (subst (λ (m : List Bool). FitsPlace m is.normal.key (own t.name t.key)) is.marked (keyed own own_state)) made left

    merged_stands : (merged : Place) (p q : P) → LeavesOwn picks t (log t.name t.key) (own t.name t.key) p merged q → MayStandAt tables t.name t.key merged
    merged_stands merged p q left =
        subst (λ (n : List ℕ). MayStandAt tables n t.key merged) is.named
        (left_own_stands laws.tells laws.fit laws.place laws.made_as laws.kinds tables are is.table is.inside t.key t.change is.normal picks t (log t.name t.key) (own t.name t.key) merged p q refl
        (stands_there laws.tells laws.fit laws.place tables are entry t is own own_state) left)

    work_on : (ts : List Task) → AreElsewhere (spot_of t) ts → (merged : Place) (p between : P) → LeavesOwn picks t (log t.name t.key) (own t.name t.key) p merged between → Worked ts between → Worked (t ∷ ts) p
    unfolding TakeAll StopsAt
    work_on ts away merged p between left (inl (rows, q, takes, elsewhere, states, ready)) =
        let one = took merged p between left in inl (
          put_at t.name t.key merged rows,
          q,
          (
            one.0,
            between,
            one.1,
            one.2,
            put_there t.name t.key merged rows ∙ one.3,
            take_all_as picks log own theirs theirs rows (put_at t.name t.key merged rows) ts (put_elsewhere theirs rows t.name t.key merged ts away) between q takes,
          ),
          λ n k apart. put_other t.name t.key merged rows n k apart.0 ∙ elsewhere n k apart.1,
          put_state tables rows t.name t.key merged states (merged_stands merged p between left),
          ready,
        )
    work_on ts away merged p between left (inr (conflict, q, stops)) =
        let one = took merged p between left in inr (conflict, q, inr (one.0, between, one.1, one.2, stops))

    stop_at : (ts : List Task) (p : P) (conflict : Conflict) (q : P) → StopsHere picks t (log t.name t.key) (own t.name t.key) p conflict q → Worked (t ∷ ts) p
    unfolding StopsAt
    stop_at ts p conflict q here = inr (conflict, q, inl here)

  no_work : (p : P) → is_ready p → Worked [] p
  unfolding TakeAll
  no_work p ready = inl (own, p, refl, λ n k away. refl, own_state, ready)

  module _ (answers : AnswersLawfully picks is_ready) where
    work_first : (t : Task) (is : IsOfEntry tables entry t) (ts : List Task) → AreElsewhere (spot_of t) ts → (p : P)
        → ((q : P) → is_ready q → Worked ts q) → Steps picks is_ready laws t (log t.name t.key) (own t.name t.key) p → Worked (t ∷ ts) p
    work_first t is ts away p others (inl (merged, q, left, ready)) = work_on t is ts away merged p q left (others q ready)
    work_first t is ts away p others (inr (conflict, q, here)) = stop_at t is ts p conflict q here

    pub work : (ts : List Task) → HaveOwnPlaces ts → AllByRecursion (IsOfEntry tables entry) ts → (p : P) → is_ready p → Worked ts p
    work [] apart all p ready = no_work p ready
    work (t ∷ ts) apart all p ready =
        work_first t all.0 ts apart.0 p (λ q r. work ts apart.1 all.1 q r)
        (step picks is_ready laws t (log t.name t.key) (own t.name t.key) (theirs t.name t.key) (made t all.0) answers p ready)
