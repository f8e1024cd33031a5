-- What is read of a world.
use Rattle.std.proofs.Common.{◌≡◌, ◌≤◌, ◌∙◌, ℕ, List, [], Some, Result, Ok, Err, length, take, slice_get, slice_set, refl, sym, ap, subst, inl, inr, arith}
use Rattle.cs_value.specs.declared.catalog.TableDef.{TableDef}
use Rattle.cs_value.specs.declared.value.Value.{Value}
use Rattle.cs_hub.specs.Holding as hub
use Rattle.cs_replica.specs.Leaves.{CallLeaves, Counts}
use Rattle.cs_opening.specs.declared.fault.OpenFault.{OpenFault}
use Rattle.cs_pending.specs.rows.Rows.{AreRowsOf}
use Rattle.cs_pending.specs.View.{View}
use Rattle.cs_replica.specs.Holding as replica
use Rattle.cs_replica.specs.Opened.{Reopens}
use Rattle.cs_store.specs.Contents.{Contents}
use Rattle.cs_store.specs.log.Log.{catalog_at, state_of}
use Rattle.cs_store.specs.declared.log.entry.LogEntry.{LogEntry}
use Rattle.cs_store.specs.declared.store.RowStore.{Ghosts}
use Rattle.cs_world.specs.Steps as step
use Rattle.cs_world.specs.Steps.{Step}
use Rattle.cs_world.specs.World.{IsMember, Member, World}
use Rattle.cs_world.specs.declared.event.Event.TheVariants.{Restart}
use Rattle.cs_world.specs.declared.letter.Letter.{Letter}
use Rattle.cs_world.specs.declared.outcome.Outcome.TheVariants as told
use Rattle.cs_world.specs.Holding.{AreHonest, Holding, ShowsWorld, StandsAt}
use Rattle.cs_world.specs.Moves.{KeepsLeft, Moves}
use Rattle.cs_world.specs.Reads.{AreRowsIn, Reads}
use Rattle.cs_world.specs.Turns.{Turns}
use Rattle.cs_world.proofs.Catalogs.{as_many, opened_as}
use Rattle.cs_world.proofs.Found.{set_there}
use Rattle.cs_world.proofs.Left.{left_of_hub}
use Rattle.cs_world.proofs.Moved.{held, member_there, unturned}

-- what a stop leaves of a store that was read again
pub reloaded_leaves : {S : Type 0} (g : Ghosts S) (old new : replica.Holding S) (result : Result (Unit {0}) OpenFault) → Reopens g old.store new.store result
    → new.catalog ≡ old.catalog → (g.honest new.store → new.position ≡ old.position) → CallLeaves g (λ position now left. ⊥) old new
reloaded_leaves g old new (Ok done) reopens tables position h are fits view shows left may =
    elim (reopens.durable h left may) [ inl now ↦ inl now | inr (before, same) ↦ inr (inl (before, same, tables, position h)) ]
reloaded_leaves g old new (Err fault) reopens tables position h are fits view shows left may =
    elim (reopens.crash h left may) [ inl before ↦ inr (inl (before, reopens.err h, tables, position h)) | inr is ↦ inl (is ∙ sym (reopens.err h)) ]

module _ {S : Type 0} (g : Ghosts S) (limit : ℕ) where
  abbrev all_of : hub.Holding S → List (replica.Holding S) → List Letter → Holding S
  all_of = held g limit

  -- a store that is read again leaves the world as it was
  same_world : (world next : World) (r : ℕ) → Step limit world (Restart r) told.Done next → world ≡ next
  same_world world next r (step.restarts is) = refl

  module _ (h : hub.Holding S) (replicas : List (replica.Holding S)) (letters : List Letter) where
    module _ (r : ℕ) (old : replica.Holding S) (was : slice_get replicas r ≡ Some old) (new : replica.Holding S) where
      reads_as : Counts g ⊥ old new → CallLeaves g (λ position now left. ⊥) old new → Turns g (λ before after. after ≡ before) old new
          → Moves g limit (all_of h replicas letters) (Restart r) told.Done (all_of h (slice_set replicas r new) letters)
      reads_as counts leaves turns =
          unturned g limit h replicas letters r old was new (λ position now left. ⊥) leaves (λ world stands position now left none. absurd none)
          (Restart r) told.Done counts letters refl (λ before after. after ≡ before) turns (λ world before after is t. (t, step.restarts is))

      pub replica_left : Counts g ⊥ old new → CallLeaves g (λ position now left. ⊥) old new → Turns g (λ before after. after ≡ before) old new
          → KeepsLeft g limit (all_of h replicas letters) (all_of h (slice_set replicas r new) letters)
      replica_left counts leaves turns = (reads_as counts leaves turns).left

      pub reads_replica : Counts g ⊥ old new → CallLeaves g (λ position now left. ⊥) old new → Turns g (λ before after. after ≡ before) old new
          → Reads g limit (all_of h replicas letters) (all_of h (slice_set replicas r new) letters)
      reads_replica counts leaves turns =
          let m = reads_as counts leaves turns in
          record {
            was_honest = m.was_honest;
            stands = λ all world stands.
                let n = m.moved all world stands in
                (subst (ShowsWorld g (all_of h (slice_set replicas r new) letters)) (sym (same_world world n.0 r n.1)) n.2, stands.1);
          }

      pub listed : (P : List TableDef → View → Type 0) → (g.honest new.store → (view : View) → replica.Shows g.contents old view → P old.catalog view)
          → AreHonest g (all_of h (slice_set replicas r new) letters) → (world : World) → StandsAt g limit (all_of h replicas letters) world
          → (member : Member) → IsMember world r member → P member.tables member.view
      listed P tells all world stands member is =
          let m = member_there g limit h replicas letters r old was world stands in
          let both : Some m.0 ≡ Some member = sym m.1 ∙ is in
          let same : m.0 ≡ member = cc in
          let there = tells (all.replicas r new (set_there replicas r new old was)) m.0.view m.2.shows in
          subst (λ (x : Member). P x.tables x.view) same (subst (λ (tables : List TableDef). P tables m.0.view) m.2.catalog there)

    -- what a stop leaves of a hub's store that was only read
    pub hub_left : (new : hub.Holding S) → (g.honest new.store → (left : Contents) → g.may_leave new.store left → g.may_leave h.store left) → (g.honest new.store → g.contents new.store ≡ g.contents h.store)
        → KeepsLeft g limit (all_of h replicas letters) (all_of new replicas letters)
    hub_left new crash same = left_of_hub g limit h replicas letters new (λ world all stands left may. inr (inl (crash all.hub left may, same all.hub))) letters

-- the rows of a hub's table are those of the newest catalog's
pub hub_listed : (opening tables : List TableDef) (log : List LogEntry) (table : ℕ) (rows : List (List ℕ × List Value)) → opening ≡ tables
    → ((def : TableDef) → slice_get opening table ≡ Some def → AreRowsOf (state_of log def.name) rows) → (length opening ≤ table → rows ≡ [])
    → AreRowsIn (catalog_at tables log (length log)) (state_of log) table rows
hub_listed opening tables log table rows same listed none = record {
  there = λ def at.
      let first = opened_as tables (take (length log) log) table def at in
      subst (λ (name : List ℕ). AreRowsOf (state_of log name) rows) first.2 (listed first.0 (ap (λ (ts : List TableDef). slice_get ts table) same ∙ first.1));
  past = λ behind. none (let many = as_many tables (take (length log) log) in let one = ap (λ (ts : List TableDef). length ts) same in omega (arith, many, one, behind));
}
