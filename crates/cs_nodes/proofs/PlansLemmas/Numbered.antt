-- How the number of the last push goes.
use Rattle.std.proofs.Common.{◌≡◌, ◌≢◌, ◌+◌, ℕ, Bool, true, false, not, ◌&&◌, List, [], ◌∷◌, Ok, Err, refl, sym, ap, subst, ◌∙◌, inl, inr, arith}
use Rattle.std.specs.Prelude.{◌↔◌, IsTrue, IsSome, Result, is_some}
use Rattle.cs_conflict.specs.declared.clash.Clash.{Clash}
use Rattle.cs_conflict.specs.declared.wish.Wish.{Wish}
use Rattle.cs_nodes.specs.following.Pulls.{PullsAll, PullsEach}
use Rattle.cs_nodes.specs.following.Pushes.{IsHeld, IsReady, PushesOn}
use Rattle.cs_nodes.specs.declared.following.fault.NodeFault.{NodeFault}
use Rattle.cs_nodes.specs.declared.following.pushed.NodePush.{NodePush}
use Rattle.cs_nodes.specs.declared.following.pushed.NodePush.TheVariants.{Nothing, Behind, Accepted, Other}
use Rattle.cs_store.specs.log.Log.{catalog_after, entries_between}
use Rattle.cs_store.specs.declared.log.entry.LogEntry.{LogEntry}
use Rattle.cs_pending.specs.View.{View}
use Rattle.cs_pending.specs.declared.position.position.Position.{Position}
use Rattle.cs_store.specs.Contents.{Contents}
use Rattle.cs_exchange.specs.taking.Takes.{taken}
use Rattle.cs_value.specs.declared.catalog.TableDef.{TableDef}
use Rattle.cs_nodes.specs.plans.Marks.{is_taken}
use Rattle.cs_nodes.proofs.FollowingLemmas.Readied.{ready_flies}

-- the mark of a call that made no push
pub unmade : (made : Bool) (number other : ℕ) → made ≡ false → other ≡ number → IsTrue made ↔ (number ≢ other)
unmade true number other denied same = absurd cc
unmade false number other denied same = ((λ stated. absurd cc), (λ apart. absurd (apart (sym same))))

-- and of one that made one
pub made : (is : Bool) (number other : ℕ) → is ≡ true → other ≡ number + 1 → IsTrue is ↔ (number ≢ other)
made is number other stated next = ((λ t. λ same. absurd (omega (arith, next, same))), (λ apart. stated))

module _ {P : Type 0} (picks : P → Clash → Wish → P → Type 0) where
  each_number : (tables : List TableDef) (entries : List LogEntry) (position : Position) (view : View) (p : P) (others : List TableDef) (other : Position) (end : View) (q : P) → PullsEach picks tables entries position view p others other end q
      → other.number ≡ position.number
  unfolding PullsEach
  each_number tables [] position view p others other end q h = ap (λ (x : Position). x.number) h.1
  each_number tables (entry ∷ entries) position view p others other end q h = each_number (catalog_after tables entry.body) entries (taken position h.0) h.2 h.3 others other end q h.6

  -- entries that are pulled leave it
  pub pull_number : (tables : List TableDef) (known : List LogEntry) (result : Result ℕ NodeFault) (position : Position) (before : View) (p : P) (others : List TableDef) (other : Position) (new : Contents) (q : P)
      → PullsAll picks tables known result position before p others other new q → other.number ≡ position.number
  pull_number tables known result position before p others other new q h =
      each_number tables (entries_between known position.version other.version) position before p others other h.0 h.1 h.2.pulls

-- a push that is under way was so before, or is the next
pub ready_number : (was : Bool) (tables : List TableDef) (position : Position) (before : View) (ready : Position) (view : View) → IsTrue was ↔ IsSome position.flight → IsReady tables position before ready view
    → IsTrue (not was) ↔ (position.number ≢ ready.number)
ready_number true tables position before ready view tells (inl (some, is, same)) = unmade false position.number ready.number refl (ap (λ (x : Position). x.number) is)
ready_number true tables position before ready view tells (inr (left, changes, made', is, same)) =
    let never : false ≡ true = sym (ap (λ o. is_some o) made'.none_under_way) ∙ tells.0 refl in absurd cc
ready_number false tables position before ready view tells (inl (some, is, same)) =
    let never : false ≡ true = tells.1 some in absurd cc
ready_number false tables position before ready view tells (inr (left, changes, made', is, same)) =
    made true position.number ready.number refl (ap (λ (x : Position). x.number) is)

sent_number : (was is : Bool) (position ready other : Position) (pending : ℕ) → is ≡ true → IsTrue (not was) ↔ (position.number ≢ ready.number) → other ≡ taken ready pending
    → IsTrue (not was && is) ↔ (position.number ≢ other.number)
sent_number was is position ready other pending stated tells next =
    let same : other.number ≡ ready.number = ap (λ (x : Position). x.number) next in
    subst (λ (n : ℕ). IsTrue (not was && is) ↔ (position.number ≢ n)) (sym same) (subst (λ (b : Bool). IsTrue b ↔ (position.number ≢ ready.number)) (sym (both was is stated)) tells)
  where
    both : (was is : Bool) → is ≡ true → (not was && is) ≡ not was
    both true is stated = refl
    both false is stated = stated

neither : (was : Bool) → (not was && false) ≡ false
neither true = refl
neither false = refl

module _ {P : Type 0} (picks : P → Clash → Wish → P → Type 0) (tables : List TableDef) (known : List LogEntry) (position : Position) (before : View) (p : P) (cells : ℕ) where
  -- what is told of a push tells whether it was made
  pub told_number : (was : Bool) (told : NodePush) (learned : List LogEntry) (others : List TableDef) (other : Position) (new : Contents) (q : P) → IsTrue was ↔ IsSome position.flight
      → PushesOn picks tables known position before p cells (Ok told) learned others other new q → IsTrue (not was && is_taken told) ↔ (position.number ≢ other.number)
  told_number was Nothing learned others other new q tells h = unmade (not was && false) position.number other.number (neither was) (ap (λ (x : Position). x.number) h.4)
  told_number was Behind learned others other new q tells h = unmade (not was && false) position.number other.number (neither was) (ap (λ (x : Position). x.number) h.4)
  told_number was (Accepted version) learned others other new q tells h =
      let s = h.1.1 in
      sent_number was true position s.ready other other.pending refl (ready_number was tables position before s.ready s.view tells s.readied) s.version
  told_number was (Other version) learned others other new q tells h =
      let s = h.1.3 in
      sent_number was true position s.ready other other.pending refl (ready_number was tables position before s.ready s.view tells s.readied) s.version

  -- and of one that failed, what is under way then
  pub failed_number : (was flies : Bool) (fault : NodeFault) (learned : List LogEntry) (others : List TableDef) (other : Position) (new : Contents) (q : P) → IsTrue was ↔ IsSome position.flight → IsTrue flies ↔ IsSome other.flight
      → PushesOn picks tables known position before p cells (Err fault) learned others other new q → IsTrue (not was && flies) ↔ (position.number ≢ other.number)
  failed_number was flies fault learned others other new q tells told h = held_number was flies h.view tells told h.held
    where
      sent_as : (was flies : Bool) → IsTrue flies → IsTrue (not was) ↔ (position.number ≢ other.number) → IsTrue (not was && flies) ↔ (position.number ≢ other.number)
      sent_as true true stated tells = tells
      sent_as false true stated tells = tells
      sent_as true false stated tells = absurd cc
      sent_as false false stated tells = absurd cc

      held_number : (was flies : Bool) (view : View) → IsTrue was ↔ IsSome position.flight → IsTrue flies ↔ IsSome other.flight → IsHeld picks tables known position before p other view
          → IsTrue (not was && flies) ↔ (position.number ≢ other.number)
      held_number true flies view tells told (inl (is, same)) = unmade false position.number other.number refl (ap (λ (x : Position). x.number) is)
      held_number false true view tells told (inl (is, same)) =
          let never : false ≡ true = tells.1 (sym (ap (λ (x : Position). is_some x.flight) is) ∙ told.0 refl) in absurd cc
      held_number false false view tells told (inl (is, same)) = unmade false position.number other.number refl (ap (λ (x : Position). x.number) is)
      held_number was flies view tells told (inr ready) =
          sent_as was flies (told.1 (ready_flies tables position before other view ready)) (ready_number was tables position before other view tells ready)
