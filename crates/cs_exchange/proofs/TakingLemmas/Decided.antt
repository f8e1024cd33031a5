-- A place of the entry merged, and the others.
use Rattle.std.proofs.Common.{◌≡◌, ℕ, false, List, [], ◌∷◌, map, Some, refl, sym, ap, subst, ◌∙◌, inl, inr}
use Rattle.std.specs.Prelude.{◌≢◌, Contains}
use Rattle.std.specs.List.{AllByRecursion}
use Rattle.cs_value.specs.Key.{Place}
use Rattle.cs_value.specs.declared.catalog.TableDef.{TableDef}
use Rattle.cs_change.specs.Action.{action, after}
use Rattle.cs_normal.specs.State.{State, MayStandAt}
use Rattle.cs_conflict.specs.Wishes.{resolution_of}
use Rattle.cs_conflict.specs.declared.clash.Clash.{Clash}
use Rattle.cs_conflict.specs.declared.conflict.Conflict.{Conflict}
use Rattle.cs_conflict.specs.declared.wish.Wish.{Wish}
use Rattle.cs_conflict.specs.declared.wish.Wish.TheVariants.{Keep, Stop}
use Rattle.cs_apply.specs.NormalTasks.{AreElsewhere, spot_of}
use Rattle.cs_apply.specs.Spots.{same_spot, spots_apart}
use Rattle.cs_tasks.specs.Tasks.{Task}
use Rattle.cs_rebaser.specs.Merge.{merge}
use Rattle.cs_pending.specs.Settled.{Catalogs}
use Rattle.cs_pending.specs.Shows.{IsSoundOf}
use Rattle.cs_pending.specs.View.{View, middle, settled}
use Rattle.cs_change.specs.Laws.{NormalIsNet}
use Rattle.cs_normal.specs.keyed.Laws.{BytesTellKeys}
use Rattle.cs_normal.specs.Laws.{SetColumnsFit}
use Rattle.cs_store.specs.Contents.{Contents}
use Rattle.cs_conflict.specs.Laws.{KindTells, MadeAsReplaced}
use Rattle.cs_rebaser.specs.Diamond.{Diamond}
use Rattle.cs_pending.specs.OnePlace.{contained}
use Rattle.cs_pending.specs.Placing.{StandsIn}
use Rattle.cs_pending.specs.Settling.{Settles}
use Rattle.cs_pending.specs.declared.settling.Settling.{Settling}
use Rattle.cs_exchange.specs.taking.Steps.{AreOn, IsDecided, IsPlaced, IsReady, IsStill, LeavesOwn, site_task}
use Rattle.cs_exchange.specs.taking.Takes.{Asks, IfStopped, StopsAt, StopsHere, TakeAll}
use Rattle.cs_exchange.specs.declared.taking.fault.TakeFault.{TakeFault}
use Rattle.cs_exchange.specs.declared.taking.fault.TakeFault.TheVariants.{Memory, BadEntry, Stopped, Device}
use Rattle.cs_exchange.specs.declared.taking.site.Site.{Site}
use Rattle.cs_exchange.proofs.TakingLemmas.Merged.{left_own_stands, made_stands, takes_one}
use Rattle.cs_exchange.proofs.TakingLemmas.Standing.{stands_keyed}
use Rattle.cs_exchange.proofs.TakingLemmas.Stepped.{direct_there, middle_there, other_still, put_there, still_direct, still_log, still_then}

module _ {P : Type 0} (picks : P → Clash → Wish → P → Type 0) (tables : List TableDef) (law : Catalogs tables) (log own : State) (site : Site) (sites : List Site) (view : View) (theirs merged : Place)
    (inside : Contains tables site.at.table.now) (sound : IsSoundOf tables view.pending view.tables) (ready : IsReady tables log own (site ∷ sites) view)
    (theirs_stand : MayStandAt tables site.at.table.now.name site.at.key.now theirs) (merged_stand : MayStandAt tables site.at.table.now.name site.at.key.now merged) where
  abbrev table : TableDef
  table = site.at.table.now

  abbrev key : List ℕ
  key = site.at.key.now

  abbrev next : View
  next = settled table key theirs merged view

  still_there : (n k : List ℕ) → same_spot (n, k) (table.name, key) ≡ false → IsStill view next n k
  still_there = other_still tables law view table key theirs merged inside sound theirs_stand merged_stand

  stand_still : (ts : List Task) → AreElsewhere (table.name, key) ts
      → AllByRecursion (λ (t : Task). (view.tables t.name t.key ≡ own t.name t.key) × (middle view t.name t.key ≡ log t.name t.key)) ts
      → AllByRecursion (λ (t : Task). (next.tables t.name t.key ≡ own t.name t.key) × (middle next t.name t.key ≡ log t.name t.key)) ts
  stand_still [] away stand = tt
  stand_still (u ∷ ts) away stand =
      let apart = spots_apart (table.name, key) (spot_of u) away.0 in
      let still = still_there u.name u.key apart in
      ((still.row ∙ stand.0.0, still_log view next u.name u.key still ∙ stand.0.1), stand_still ts away.1 stand.1)

  pub ready_next : IsReady tables log own sites next
  ready_next = record {
    placed = ready.placed.1;
    on = ready.on.1;
    apart = ready.apart.1;
    entries = ready.entries.1;
    log_state = ready.log_state;
    own_state = ready.own_state;
    stand = stand_still (map site_task sites) ready.apart.0 ready.stand.1;
  }

  pub decided_more : (wish : Wish) (p between q : P) (end : View) → wish ≢ Stop → Asks picks (site_task site) (log table.name key) (own table.name key) p wish between
      → merged ≡ merge (resolution_of wish) (log table.name key) (own table.name key) theirs → after (action site.at.change) (log table.name key) ≡ Some theirs
      → IsDecided picks tables log own (map site_task sites) next between end q → IsDecided picks tables log own (map site_task (site ∷ sites)) view p end q
  unfolding TakeAll
  decided_more wish p between q end on asks is made rest =
      let still = rest.elsewhere table.name key ready.apart.0 in
      let row : end.tables table.name key ≡ merged = still.row ∙ put_there table.name key merged view.tables in
      let mid : middle end table.name key ≡ theirs = still_log next end table.name key still ∙ middle_there tables law view table key theirs merged inside sound theirs_stand merged_stand in
      record {
        takes = (wish, between, on, asks, row ∙ is ∙ ap (λ (x : Place). merge (resolution_of wish) (log table.name key) (own table.name key) x) (sym mid), rest.takes);
        theirs = (made ∙ ap (λ (x : Place). Some x) (sym mid), rest.theirs);
        direct = (
          still_direct tables next end table.name key still (direct_there tables law view table key theirs merged inside sound theirs_stand merged_stand),
          rest.direct,
        );
        elsewhere = λ n k away. still_then view next end n k (still_there n k away.0) (rest.elsewhere n k away.1);
      }

-- ---- where the picker stops

module _ {P : Type 0} (picks : P → Clash → Wish → P → Type 0) (log own : State) (t : Task) (ts : List Task) (p : P) (conflict : Conflict) where
  pub stop_here : (q : P) → StopsHere picks t (log t.name t.key) (own t.name t.key) p conflict q → StopsAt picks log own (t ∷ ts) p conflict q
  unfolding StopsAt
  stop_here q here = inl here

  pub stop_behind : (wish : Wish) (between q : P) → wish ≢ Stop → Asks picks t (log t.name t.key) (own t.name t.key) p wish between → StopsAt picks log own ts between conflict q → StopsAt picks log own (t ∷ ts) p conflict q
  unfolding StopsAt
  stop_behind wish between q on asks behind = inr (wish, between, on, asks, behind)

pub if_stopped_as : (fault : TakeFault) (some other : Conflict → Type 0) → ((conflict : Conflict) → some conflict → other conflict) → IfStopped fault some → IfStopped fault other
if_stopped_as Memory some other on is = tt
if_stopped_as BadEntry some other on is = tt
if_stopped_as (Stopped conflict) some other on is = on conflict is
if_stopped_as Device some other on is = tt

module _ {P : Type 0} (picks : P → Clash → Wish → P → Type 0) (log own : State) (site : Site) (sites all : List Site) (p q : P) (parts : all ≡ site ∷ sites) (on : AreOn log own all) where
  on_all : AreOn log own (site ∷ sites)
  on_all = subst (λ (ss : List Site). AreOn log own ss) parts on

  pub left_on : (merged : Place) → LeavesOwn picks (site_task site) site.before.base site.before.mine p merged q
      → LeavesOwn picks (site_task site) (log site.at.table.now.name site.at.key.now) (own site.at.table.now.name site.at.key.now) p merged q
  left_on merged left =
      subst (λ (x : Place). LeavesOwn picks (site_task site) x (own site.at.table.now.name site.at.key.now) p merged q) on_all.0.log_is
      (subst (λ (x : Place). LeavesOwn picks (site_task site) site.before.base x p merged q) on_all.0.own_is left)

  pub stop_at_site : (conflict : Conflict) → StopsHere picks (site_task site) site.before.base site.before.mine p conflict q → StopsAt picks log own (map site_task all) p conflict q
  stop_at_site conflict here =
      subst (λ (ss : List Site). StopsAt picks log own (map site_task ss) p conflict q) (sym parts)
      (stop_here picks log own (site_task site) (map site_task sites) p conflict q
      (subst (λ (x : Place). StopsHere picks (site_task site) x (own site.at.table.now.name site.at.key.now) p conflict q) on_all.0.log_is
      (subst (λ (x : Place). StopsHere picks (site_task site) site.before.base x p conflict q) on_all.0.own_is here)))

asks_of : {P : Type 0} (picks : P → Clash → Wish → P → Type 0) (task : Task) (log own merged : Place) (p q : P) → LeavesOwn picks task log own p merged q
    → (wish : Wish) × (wish ≢ Stop) × Asks picks task log own p wish q
asks_of picks task log own merged p q (inl (free, left, same)) = (Keep, λ e. cc, inl (free, same))
asks_of picks task log own merged p q (inr (wish, on, (clash, is, picked, lawful), left)) = (wish, on, inr (clash, is, picked))

pub stop_later : {P : Type 0} (picks : P → Clash → Wish → P → Type 0) (log own : State) (site : Site) (sites all : List Site) (p between q : P) (merged : Place) (conflict : Conflict) → all ≡ site ∷ sites → AreOn log own all
    → LeavesOwn picks (site_task site) site.before.base site.before.mine p merged between → StopsAt picks log own (map site_task sites) between conflict q → StopsAt picks log own (map site_task all) p conflict q
stop_later picks log own site sites all p between q merged conflict parts on left behind =
    let asks = asks_of picks (site_task site) (log site.at.table.now.name site.at.key.now) (own site.at.table.now.name site.at.key.now) merged p between (left_on picks log own site sites all p between parts on merged left) in
    subst (λ (ss : List Site). StopsAt picks log own (map site_task ss) p conflict q) (sym parts)
    (stop_behind picks log own (site_task site) (map site_task sites) p conflict asks.0 between q asks.1 asks.2 behind)

decided_none : {P : Type 0} (picks : P → Clash → Wish → P → Type 0) (tables : List TableDef) (log own : State) (view : View) (p : P) → IsDecided picks tables log own [] view p view p
unfolding TakeAll
decided_none picks tables log own view p = record { takes = refl; theirs = tt; direct = tt; elsewhere = λ n k away. record { row = refl; pending = refl } }

-- ---- the whole step

pub record AllLaws : Type 0 where
  pub tells : BytesTellKeys
  pub fit : SetColumnsFit
  pub made_as : MadeAsReplaced
  pub kinds : KindTells
  pub diamond : Diamond
  pub normal_is_net : NormalIsNet

-- the places before the rest were merged: what the rest leads to from here, all lead to from the start
pub record DecidesOn {P : Type 0} (picks : P → Clash → Wish → P → Type 0) (tables : List TableDef) (contents : Contents) (begun : ℕ) (log own : State) (all rest : List Site) (view : View) (p : P) (now : Settling) (q : P) : Type 0 where
  pub mid : View
  pub ready : IsReady tables log own rest mid
  pub settles : Settles tables contents begun now mid
  pub leads : (end : View) (last : P) → IsDecided picks tables log own (map site_task rest) mid q end last → IsDecided picks tables log own (map site_task all) view p end last

module _ {P : Type 0} (picks : P → Clash → Wish → P → Type 0) (tables : List TableDef) (contents : Contents) (begun : ℕ) (log own : State) (all : List Site) (view : View) (p : P) where
  pub decides_more : AllLaws → Catalogs tables → (rest : List Site) (site : Site) (sites : List Site) (merged : Place) (q between : P) (old new : Settling) → rest ≡ site ∷ sites
      → LeavesOwn picks (site_task site) site.before.base site.before.mine q merged between
      → ((mid : View) → IsPlaced tables site.at → MayStandAt tables site.at.table.now.name site.at.key.now site.theirs → MayStandAt tables site.at.table.now.name site.at.key.now merged → StandsIn mid site.at.table.now site.at.key.now site.before
      → Settles tables contents begun old mid → Settles tables contents begun new (settled site.at.table.now site.at.key.now site.theirs merged mid))
      → DecidesOn picks tables contents begun log own all rest view p old q → DecidesOn picks tables contents begun log own all sites view p new between
  decides_more laws law rest site sites merged q between old new parts left claim so_far =
      let on = subst (λ (ss : List Site). DecidesOn picks tables contents begun log own all ss view p old q) parts so_far in
      let name = site.at.table.now.name in
      let key = site.at.key.now in
      let change = site.at.change in
      let ready = on.ready in
      let inside = contained tables site.at.number site.at.table.now ready.placed.0 in
      let entry = ready.entries.0 in
      let log_stands = ready.log_state name key in
      let own_stands = ready.own_state name key in
      let made : after (action change) (log name key) ≡ Some site.theirs = ap (λ (x : Place). after (action change) x) (sym ready.on.0.log_is) ∙ site.made in
      let here = left_on picks log own site sites (site ∷ sites) q between refl ready.on merged left in
      let theirs_stand = made_stands laws.tells laws.fit law.one laws.made_as laws.kinds tables law.are site.at.table.now inside key change entry (log name key) site.theirs log_stands made in
      let merged_stand = left_own_stands laws.tells laws.fit law.one laws.made_as laws.kinds tables law.are site.at.table.now inside key change entry picks (site_task site) (log name key) (own name key) merged q between refl own_stands here in
      let took = takes_one picks laws.diamond laws.normal_is_net (site_task site) entry.key (log name key) (own name key) site.theirs merged q between entry.normal
      (stands_keyed laws.tells laws.fit law.one tables law.are site.at.table.now inside key change (log name key) entry log_stands)
      (stands_keyed laws.tells laws.fit law.one tables law.are site.at.table.now inside key change (own name key) entry own_stands) made here in
      record {
        mid = settled site.at.table.now key site.theirs merged on.mid;
        ready = ready_next picks tables law log own site sites on.mid site.theirs merged inside on.settles.sound ready theirs_stand merged_stand;
        settles = claim on.mid ready.placed.0 theirs_stand merged_stand (record { mine_is = ready.on.0.own_is ∙ sym ready.stand.0.0; base_is = ready.on.0.log_is ∙ sym ready.stand.0.1 }) on.settles;
        leads = λ end last rest_decided. on.leads end last
            (decided_more picks tables law log own site sites on.mid site.theirs merged inside on.settles.sound ready theirs_stand merged_stand took.0 q between last end took.1 took.2 took.3 made rest_decided);
      }

  pub decides_end : (rest : List Site) (now : Settling) (q : P) → rest ≡ [] → DecidesOn picks tables contents begun log own all rest view p now q
      → (end : View) × Settles tables contents begun now end × IsDecided picks tables log own (map site_task all) view p end q
  decides_end rest now q none so_far =
      let on = subst (λ (ss : List Site). DecidesOn picks tables contents begun log own all ss view p now q) none so_far in
      (on.mid, on.settles, on.leads on.mid q (decided_none picks tables log own on.mid q))
