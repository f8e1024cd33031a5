-- A store that shows a replica, opened again.
use Rattle.std.proofs.Common.{◌≡◌, ℕ, List, refl, inl, inr}
use Rattle.std.specs.Prelude.{◌⊎◌, Ok, Err, IsUtf8}
use Rattle.std.specs.List.{AllByRecursion}
use Rattle.cs_value.specs.Catalog.{AreTables}
use Rattle.cs_value.specs.declared.catalog.TableDef.{TableDef}
use Rattle.cs_store.specs.Contents.{Contents}
use Rattle.cs_store.specs.declared.store.RowStore.{Ghosts}
use Rattle.cs_pending.specs.Calls.{WritesStore}
use Rattle.cs_pending.specs.position.Laws.{FitsPosition}
use Rattle.cs_pending.specs.position.Shows.{ShowsSomeAt}
use Rattle.cs_pending.specs.declared.position.position.Position.{Position}
use Rattle.cs_opening.specs.Fresh.{IsSameOrFirst}
use Rattle.cs_opening.specs.Laws.{NoFaultWhereOpened, NothingShowsNone, OneOpening}
use Rattle.cs_opening.specs.Opens.{IsOpenFault, IsReplicaAt}
use Rattle.cs_opening.specs.declared.fault.OpenFault.{OpenFault}
use Rattle.cs_opening.specs.declared.fault.OpenFault.TheVariants.{Memory, Damaged, Device, Mismatch}

module _ (some : NothingShowsNone) (tables : List TableDef) (position : Position) (old : Contents) (shown : ShowsSomeAt tables position old) where
  -- it holds something, so it is as it was
  pub as_it_was : (id : ℕ) (left : Contents) → IsSameOrFirst tables id old left → left ≡ old
  as_it_was id left (inl same) = same
  as_it_was id left (inr (none, first)) = absurd (some tables position old shown none)

  -- it is opened at the position
  pub opened_there : FitsPosition position → IsReplicaAt tables position.id old old position
  opened_there fits = inr (some tables position old shown, refl, record { of = refl; fits = fits; shows = shown })

  pub same_position : OneOpening → AreTables tables → FitsPosition position → (new : Contents) (read : Position) → IsReplicaAt tables position.id old new read → read ≡ position
  same_position one are fits new read is = one tables position.id old new old read position are is (opened_there fits)

  -- nothing is told of what it holds
  pub none_told : NoFaultWhereOpened → AreTables tables → AllByRecursion (λ (table : TableDef). IsUtf8 table.name) tables → FitsPosition position
      → (fault : OpenFault) → IsOpenFault tables position.id old fault → (fault ≡ Memory) ⊎ (fault ≡ Device)
  none_told none are named fits Memory told = inl refl
  none_told none are named fits Damaged told =
      absurd (none tables position.id old old position Damaged are named (opened_there fits) ((λ e. cc), (λ e. cc)) told)
  none_told none are named fits Device told = inr refl
  none_told none are named fits Mismatch told =
      absurd (none tables position.id old old position Mismatch are named (opened_there fits) ((λ e. cc), (λ e. cc)) told)

module _ {S : Type 0} (g : Ghosts S)
    (some : NothingShowsNone) (tables : List TableDef) (position : Position) (old new : S) (id : ℕ) (shown : g.honest old → ShowsSomeAt tables position (g.contents old)) where
  crash_same : (w : g.honest old) (left : Contents) → g.may_leave old left ⊎ IsSameOrFirst tables id (g.contents old) left → g.may_leave old left ⊎ (left ≡ g.contents old)
  crash_same h left (inl may) = inl may
  crash_same h left (inr is) = inr (as_it_was some tables position (g.contents old) (shown h) id left is)

  pub reopened : (read : Position)
      → WritesStore g {T = Position} {E = OpenFault} Device (Unit {0}) (IsSameOrFirst tables id (g.contents old)) old new (Ok read)
      → WritesStore g {T = Position} {E = OpenFault} Device (Unit {0}) (λ left. left ≡ g.contents old) old new (Ok read)
  reopened read w = record {
    was_honest = w.was_honest;
    ok = λ h. as_it_was some tables position (g.contents old) (shown (w.was_honest h)) id (g.contents new) (w.ok h);
    err = w.err;
    durable = w.durable;
    crash = λ h left may. crash_same (w.was_honest h) left (w.crash h left may);
    kept = w.kept;
    later = w.later;
    cause = w.cause;
    as_read = w.as_read;
  }

  pub not_reopened : (fault : OpenFault)
      → WritesStore g {T = Position} {E = OpenFault} Device (Unit {0}) (IsSameOrFirst tables id (g.contents old)) old new (Err fault)
      → WritesStore g {T = Position} {E = OpenFault} Device (Unit {0}) (λ left. left ≡ g.contents old) old new (Err fault)
  not_reopened fault w = record {
    was_honest = w.was_honest;
    ok = w.ok;
    err = w.err;
    durable = w.durable;
    crash = λ h left may. crash_same (w.was_honest h) left (w.crash h left may);
    kept = w.kept;
    later = w.later;
    cause = w.cause;
    as_read = w.as_read;
  }
