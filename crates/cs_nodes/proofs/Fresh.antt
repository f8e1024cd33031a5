-- A node over a store that held nothing.
use Rattle.std.proofs.Common.{◌≡◌, ℕ, Bool, true, false, List, Option, Some, None, Ok, Err, refl, sym, ap, subst, ◌∙◌, inl, inr}
use Rattle.std.specs.Prelude.{◌⊎◌, IsTrue}
use Rattle.std.specs.FinMap.{get-empty}
use Rattle.cs_order.specs.Order.{by_bytes}
use Rattle.cs_value.specs.Catalog.{AreTables}
use Rattle.cs_value.specs.declared.catalog.TableDef.{TableDef}
use Rattle.cs_store.specs.declared.log.entry.LogEntry.{LogEntry}
use Rattle.cs_store.specs.Contents.{Contents, meta_value, name_text, nothing}
use Rattle.cs_store.specs.declared.names.MetaName.TheVariants.{Catalog, Pending}
use Rattle.cs_store.specs.declared.store.RowStore.{Ghosts}
use Rattle.cs_pending.specs.Laws.{empty_view}
use Rattle.cs_pending.specs.View.{View}
use Rattle.cs_pending.specs.position.Shows.{ShowsAt}
use Rattle.cs_pending.specs.declared.position.position.Position.{Position}
use Rattle.cs_opening.specs.Fresh.{first_position}
use Rattle.cs_opening.specs.declared.fault.OpenFault.{OpenFault}
use Rattle.cs_opening.specs.declared.fault.OpenFault.TheVariants.{Memory, Damaged, Device, Mismatch}
use Rattle.cs_opening.specs.Wider.{IsOpenedBy, IsRefused, OpensBy}
use Rattle.cs_replica.specs.Moved.{IsStoreFault, IsStoreOpened}
use Rattle.cs_replica.specs.Opened.{Opens}
use Rattle.cs_nodes.specs.following.Laws.{FreshStands}
use Rattle.cs_nodes.specs.following.Standing.{StandsIn}

-- what is opened is at the first position
pub fresh_at : (tables : List TableDef) (id : ℕ) (old new : Contents) (position : Position) → old ≡ nothing → IsStoreOpened tables id old new position
    → (position ≡ first_position id) × ShowsAt tables new position empty_view
fresh_at tables id old new position bare (inl (inl (none, is, first))) = (is, subst (λ (x : Position). ShowsAt tables new x empty_view) (sym is) first)
fresh_at tables id old new position bare (inl (inr (some, same, stands))) = absurd (some bare)
fresh_at tables id old new position bare (inr (changes, keeps, is, stands)) =
    absurd (let no : ◌≡◌ {A = Option (List ℕ)} (Some keeps.bytes) None = sym keeps.there ∙ ap (λ (c : Contents). meta_value c Pending) bare ∙ get-empty by_bytes (name_text Pending) in cc)

-- what holds nothing keeps no tables, so it is opened by the handed ones
pub opened_by : (handed : List TableDef) (old : Contents) (tables : List TableDef) → old ≡ nothing → OpensBy handed old tables → tables ≡ handed
opened_by handed old tables bare (inl keeps) =
    absurd (let no : ◌≡◌ {A = Option (List ℕ)} (Some keeps.bytes) None = sym keeps.there ∙ ap (λ (c : Contents). meta_value c Catalog) bare ∙ get-empty by_bytes (name_text Catalog) in cc)
opened_by handed old tables bare (inr (none, is)) = is

pub shown_at : (handed tables : List TableDef) (id : ℕ) (old new : Contents) (position : Position) → old ≡ nothing → IsOpenedBy handed id old new tables position
    → (position ≡ first_position id) × ShowsAt tables new position empty_view
shown_at handed tables id old new position bare opened = fresh_at tables id old new position bare opened.1

pub fresh_node : FreshStands → (handed tables : List TableDef) (known : List LogEntry) (id : ℕ) (old new : Contents) (position : Position) → AreTables handed → old ≡ nothing → IsOpenedBy handed id old new tables position
    → (view : View) × ShowsAt tables new position view × StandsIn tables known position view
fresh_node law handed tables known id old new position are bare opened =
    let first = shown_at handed tables id old new position bare opened in
    let same = opened_by handed old tables bare opened.0 in
    (empty_view, first.1, law tables known position (subst (λ (t : List TableDef). AreTables t) (sym same) are) (ap (λ (x : Position). x.version) first.0) (ap (λ (x : Position). x.flight) first.0))

-- nothing that is held is at fault
store_fault : (tables : List TableDef) (id : ℕ) (old : Contents) (fault : OpenFault) → old ≡ nothing → IsStoreFault tables id old fault → (fault ≡ Memory) ⊎ (fault ≡ Device)
store_fault tables id old Memory bare told = inl refl
store_fault tables id old Damaged bare told = absurd (told.0.0 bare)
store_fault tables id old Device bare told = inr refl
store_fault tables id old Mismatch bare told = absurd (told.0 bare)

pub bare_fault : (handed : List TableDef) (id : ℕ) (old : Contents) (fault : OpenFault) → old ≡ nothing → IsRefused handed id old fault → (fault ≡ Memory) ⊎ (fault ≡ Device)
bare_fault handed id old Memory bare told = inl refl
bare_fault handed id old Damaged bare told = store_fault told.0 id old Damaged bare told.2
bare_fault handed id old Device bare told = inr refl
bare_fault handed id old Mismatch bare told = store_fault told.0 id old Mismatch bare told.2

pub is_false : (b : Bool) → b ≡ false → IsTrue b → ⊥
is_false true is told = absurd (let no = is in cc)
is_false false is told = cc

module _ {S : Type 0} (g : Ghosts S) (handed tables : List TableDef) (id : ℕ) (old new last : S) (same : last ≡ new) where
  -- what is opened over nothing is at version 0 and has the handed tables, where the store is honest
  pub never_further : (position : Position) → g.contents old ≡ nothing → (g.honest new → IsOpenedBy handed id (g.contents old) (g.contents new) tables position) → ((position.version ≡ 0) × (tables ≡ handed) → ⊥)
      → g.honest last → ⊥
  never_further position bare opened further h =
      let is = opened (subst g.honest same h) in
      further (ap (λ (x : Position). x.version) (fresh_at tables id (g.contents old) (g.contents new) position bare is.1).0, opened_by handed (g.contents old) tables bare is.0)

  -- of a store that isn't honest something else is told than that it was opened
  pub told_else : Opens g handed id old new (Ok tt) → (g.honest last → ⊥)
      → Opens g handed id old last (Err Damaged)
  told_else opens never =
      subst (λ (s : S). Opens g handed id old s (Err Damaged)) (sym same) (record {
        was_honest = opens.was_honest;
        ok = λ h. tt;
        err = λ h. absurd (never (subst g.honest (sym same) h));
        durable = λ h. tt;
        crash = λ h left may. absurd (never (subst g.honest (sym same) h));
        kept = tt;
        later = opens.later;
        cause = λ told. absurd (let no = told in cc);
        as_read = opens.as_read;
      })
