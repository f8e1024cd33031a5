-- A world in which nothing has happened.
use Rattle.std.proofs.Common.{◌≡◌, ◌≤◌, ◌-◌, ◌^◌, ◌∙◌, ◌++◌, ℕ, List, [], ◌∷◌, Option, Some, None, Ok, length, map, option_map, slice_get, refl, sym, ap, subst, inl, inr, arith}
use Rattle.std.specs.FinMap.{get-empty}
use Rattle.std.proofs.lemmas.Option.{slice_get-map, slice_get_within}
use Rattle.std.proofs.lemmas.List.{length-map}
use Rattle.cs_value.specs.Catalog.{AreTables}
use Rattle.cs_value.specs.declared.catalog.TableDef.{TableDef}
use Rattle.cs_hub.specs.declared.judgement.widen.TheConstants.{WIDEN_ORIGIN}
use Rattle.cs_hub.specs.Holding as hub
use Rattle.cs_store.specs.declared.log.entry.LogEntry.{LogEntry}
use Rattle.cs_hub.specs.log_store.Shows.{ShowsLog}
use Rattle.cs_replica.specs.Moved.{IsStoreOpened}
use Rattle.cs_opening.specs.Wider.{IsOpenedBy, OpensBy}
use Rattle.cs_opening.specs.WiderLaws.{NothingByHanded}
use Rattle.cs_opening.specs.Fresh.{IsFirst, first_position}
use Rattle.cs_order.specs.Order.{by_bytes}
use Rattle.cs_pending.specs.Calls.{WritesStore}
use Rattle.cs_pending.specs.Laws.{empty_view}
use Rattle.cs_pending.specs.position.Shows.{ShowsAt}
use Rattle.cs_pending.specs.declared.position.position.Position.{Position}
use Rattle.cs_replica.specs.Holding as replica
use Rattle.cs_pending.specs.View.{View}
use Rattle.cs_store.specs.Contents.{Contents, meta_value, name_text, nothing}
use Rattle.cs_store.specs.declared.store.RowStore.{Ghosts}
use Rattle.cs_store.specs.declared.names.MetaName.TheVariants.{Catalog, Pending}
use Rattle.cs_world.specs.Holding.{AreHonest, Holding, StandsAt}
use Rattle.cs_world.specs.declared.letter.Letter.{Letter}
use Rattle.cs_world.specs.Laws.{FirstIsSound, IsFirstMember}
use Rattle.cs_world.specs.Left.{Leaves}
use Rattle.cs_world.specs.Opened.{IsNewReplica, LeavesAlone}
use Rattle.cs_world.specs.Runs.{IsNew}
use Rattle.cs_world.specs.World.{IsMember, Member, World, first_world}
use Rattle.cs_world.proofs.Found.{in_one_more, nowhere}

-- a store that held nothing is opened at the first position
pub opened_new : (tables : List TableDef) (id : ℕ) (old new : Contents) (position : Position) → old ≡ nothing → IsStoreOpened tables id old new position → (position ≡ first_position id) × IsFirst tables id new
opened_new tables id old new position none (inl (inl (bare, at, first))) = (at, first)
opened_new tables id old new position none (inl (inr (some, same, stands))) = absurd (some none)
opened_new tables id old new position none (inr (changes, keeps, moved, stands)) =
    let gone : meta_value old Pending ≡ None = ap (λ (c : Contents). meta_value c Pending) none ∙ get-empty by_bytes (name_text Pending) in
    let there = keeps.there in
    absurd (cc)

-- by the tables that were handed
pub opened_bare : NothingByHanded → (handed tables : List TableDef) (id : ℕ) (old new : Contents) (position : Position) → old ≡ nothing → IsOpenedBy handed id old new tables position
    → (tables ≡ handed) × (position ≡ first_position id) × IsFirst handed id new
opened_bare law handed tables id old new position none (by, is) =
    let same = law handed tables (subst (λ (c : Contents). OpensBy handed c tables) none by) in
    let first = opened_new handed id old new position none (subst (λ (t : List TableDef). IsStoreOpened t id old new position) same is) in
    (same, first.0, first.1)

-- what shows a replica is something, and so is what shows a log
shows_some : (tables : List TableDef) (contents : Contents) (bytes : List ℕ) → meta_value contents Catalog ≡ Some bytes → contents ≡ nothing → ⊥
shows_some tables contents bytes there none =
    let gone : meta_value contents Catalog ≡ None = ap (λ (c : Contents). meta_value c Catalog) none ∙ get-empty by_bytes (name_text Catalog) in
    absurd (let e = sym gone ∙ there in cc)

module _ {S T E : Type 0} (g : Ghosts S) (device : E) (readable : Type 0) (after : Contents → Type 0) (old new : S) (value : T)
    (writes : WritesStore g device readable after old new (Ok value)) (bare : g.contents old ≡ nothing) where
  alone : (g.honest new → g.contents new ≡ nothing → ⊥) → LeavesAlone g new
  alone some h left may =
      elim (writes.durable h left may) [ inl is ↦ is | inr (before, same) ↦ absurd (some h (same ∙ bare)) ]

  pub replica_alone : (tables : List TableDef) (position : Position) (view : View) → (g.honest new → ShowsAt tables (g.contents new) position view) → LeavesAlone g new
  replica_alone tables position view shows = alone (λ h. shows_some tables (g.contents new) _ ((shows h).values Catalog))

  pub hub_alone : (tables : List TableDef) (log : List LogEntry) → (g.honest new → ShowsLog tables (g.contents new) log) → LeavesAlone g new
  hub_alone tables log shows = alone (λ h. shows_some tables (g.contents new) _ ((shows h).values.values Catalog))

module _ {S : Type 0} (g : Ghosts S) (limit : ℕ) (tables : List TableDef) (are : AreTables tables) (sound : FirstIsSound) (origin : WIDEN_ORIGIN ≡ 4294967295) (h : hub.Holding S) (replicas : List (replica.Holding S)) where
  abbrev first_of : replica.Holding S → Member
  first_of one = record { tables = tables; position = one.position; view = empty_view }

  abbrev members : List Member
  members = map first_of replicas

  member_of : (r : ℕ) (member : Member) (found : Option (replica.Holding S)) → slice_get replicas r ≡ found → option_map first_of found ≡ Some member
      → (one : replica.Holding S) × (slice_get replicas r ≡ Some one) × (member ≡ first_of one)
  member_of r member None is there = absurd (cc)
  member_of r member (Some one) is there = (one, is, cc)

  found : (r : ℕ) (member : Member) → slice_get members r ≡ Some member → (one : replica.Holding S) × (slice_get replicas r ≡ Some one) × (member ≡ first_of one)
  found r member at = member_of r member (slice_get replicas r) refl (sym (slice_get-map first_of replicas r) ∙ at)

  pub is_new : (letters : List Letter) → letters ≡ [] → (count : ℕ) → length replicas ≡ count → count ≤ 2 ^ 32 - 1 → h.catalog ≡ tables → (g.honest h.store → hub.Shows g.contents h [])
      → ((r : ℕ) (one : replica.Holding S) → slice_get replicas r ≡ Some one → IsNewReplica g tables r one)
      → IsNew g limit tables count (record { hub = h; replicas = replicas; letters = letters })
  is_new letters bare count counted few catalog log news all =
      let firsts : (r : ℕ) (member : Member) → IsMember (first_world tables members) r member → IsFirstMember tables r member = (λ r member at.
      let f = found r member at in
      let n = news r f.0 f.1 (all.replicas r f.0 f.1) in
      let within = slice_get_within replicas r f.0 f.1 in
      record {
        tables_are = ap (λ (m : Member). m.tables) f.2;
        position = ap (λ (m : Member). m.position) f.2 ∙ n.1;
        view = ap (λ (m : Member). m.view) f.2;
        small = omega (arith, within, counted, few, origin);
        contents = g.contents f.0.store;
        shown = subst (λ (m : Member). ShowsAt tables (g.contents f.0.store) m.position m.view) (sym f.2) (subst (λ (p : Position). ShowsAt tables (g.contents f.0.store) p empty_view) (sym n.1) n.2);
      }) in (
        members,
        length-map replicas first_of ∙ counted,
        firsts,
        (
          record {
            catalog = catalog;
            log = log all.hub;
            members_count = sym (length-map replicas first_of);
            members = λ r one at.
                let n = news r one at (all.replicas r one at) in (
                  first_of one,
                  slice_get-map first_of replicas r ∙ ap (option_map first_of) at,
                  record {
                    catalog = n.0;
                    position = refl;
                    shows = subst (λ (t : List TableDef). ShowsAt t (g.contents one.store) one.position empty_view) (sym n.0) (subst (λ (p : Position). ShowsAt tables (g.contents one.store) p empty_view) (sym n.1) n.2);
                  },
                );
            messages_count = ap (λ (l : List Letter). length l) bare;
            messages = λ k one at. let none : slice_get [] k ≡ Some one = subst (λ (l : List Letter). slice_get l k ≡ Some one) bare at in absurd (cc);
          },
          sound limit tables members are firsts,
        ),
      )

-- none so far
pub none_yet : {S : Type 0} (g : Ghosts S) (tables : List TableDef) (replicas : List (replica.Holding S)) → replicas ≡ []
    → (r : ℕ) (one : replica.Holding S) → slice_get replicas r ≡ Some one → IsNewReplica g tables r one
none_yet {S = S} g tables replicas none r one at =
    absurd (nowhere one r (subst (λ (l : List (replica.Holding S)). slice_get l r ≡ Some one) none at))

-- a replica more
pub one_more : {S : Type 0} (g : Ghosts S) (tables : List TableDef) (replicas : List (replica.Holding S)) (new : replica.Holding S)
    → ((r : ℕ) (one : replica.Holding S) → slice_get replicas r ≡ Some one → IsNewReplica g tables r one)
    → IsNewReplica g tables (length replicas) new
    → (all : List (replica.Holding S)) → all ≡ replicas ++ new ∷ []
    → (r : ℕ) (one : replica.Holding S) → slice_get all r ≡ Some one → IsNewReplica g tables r one
one_more g tables replicas new news is all same r one at =
    elim (in_one_more replicas one new r (subst (λ (l : List (replica.Holding _)). slice_get l r ≡ Some one) same at)) [
      | inl old ↦ news r one old
      | inr (last, it) ↦ subst (λ (i : ℕ). IsNewReplica g tables i one) (sym last) (subst (λ (x : replica.Holding _). IsNewReplica g tables (length replicas) x) (sym it) is)
    ]

-- where it is new, it stands at a world
pub new_stands : {S : Type 0} (g : Ghosts S) (limit : ℕ) (tables : List TableDef) (count : ℕ) (held : Holding S) → IsNew g limit tables count held
    → AreHonest g held → (world : World) × StandsAt g limit held world
new_stands g limit tables count held is all =
    let n = is all in
    (first_world tables n.0, n.3)

-- and a stop leaves of each of its stores what it holds
pub new_leaves : {S : Type 0} (g : Ghosts S) (limit : ℕ) (tables : List TableDef) (h : hub.Holding S) (replicas : List (replica.Holding S)) (letters : List Letter) → LeavesAlone g h.store
    → ((r : ℕ) (one : replica.Holding S) → slice_get replicas r ≡ Some one → IsNewReplica g tables r one)
    → AreHonest g (record { hub = h; replicas = replicas; letters = letters }) → (world : World) → Leaves g limit world (record { hub = h; replicas = replicas; letters = letters })
new_leaves g limit tables h replicas letters alone news all world = record {
  hub = λ left may. inl (alone all.hub left may);
  replicas = λ r one at left may.
      let good = all.replicas r one at in
      inl ((news r one at good).3 good left may);
}
