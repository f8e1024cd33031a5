-- What a store holds that is opened in files, and why none is opened at a path.
use Rattle.std.proofs.Common.{◌≡◌, ◌⊎◌, inl, inr, Option, None, IsTrue, IfSome, ap, sym, subst, ◌∙◌, arith}
use Rattle.std.proofs.lemmas.Option.{IfSome_then}
use Rattle.sqlite.specs.Effect.{Database}
use Rattle.sqlite.specs.Files.{AreFoundIn, FailsToOpenFiles, IsCleanLeft, IsOpened, LeavesFiles, file_state, over_files}
use Rattle.sqlite.specs.Held.{Held, IsNew}
use Rattle.sqlite.specs.Opening.{is_open_error}
use Rattle.sqlite.specs.Recovery.{Image}
use Rattle.sqlite.specs.Start.{FindsIn}
use Rattle.sqlite.specs.State.{HasCleanDisk}
use Rattle.sqlite.specs.declared.error.Error.{Error}
use Rattle.sqlite.specs.declared.error.Error.TheVariants.{SqliteFailure}
use Rattle.sqlite.specs.declared.error.ErrorCode.TheVariants.{CannotOpen, DatabaseBusy, OutOfMemory}
use Rattle.sqlite.specs.declared.file.Leftover.{Leftover}
use Rattle.sqlite_disk.specs.declared.Disk as disk
use Rattle.sqlite_disk.specs.declared.Files.{Files}
use Rattle.sqlite_store.specs.declared.store.FileStore.{FileStore}
use Rattle.cs_store.specs.declared.fault.StoreFault.{StoreFault}
use Rattle.cs_store.specs.declared.fault.StoreFault.TheVariants.{Device, Memory}
use Rattle.cs_sql.specs.Causes.{EngineFails}
use Rattle.cs_sql.specs.Keeping.{IsGivenBack, Kept, ShowsForeign, holds}
use Rattle.cs_sql.specs.Opening.{IsOpenedAt, IsUnadopted, IsUnopened, OpenedHolds}

never_memory : (error : Error) (fault : StoreFault) → (error ≡ SqliteFailure OutOfMemory → fault ≡ Memory) → fault ≡ Device → ¬ (error ≡ SqliteFailure OutOfMemory)
never_memory error fault memory told is = let same : Memory ≡ Device = sym (memory is) ∙ told in absurd cc

module _ {D : Type 0} {g : disk.Ghosts D} where
  pub unopened_told : (P Q : Files D → Type 0) (error : Error) (left : Option (Leftover D g)) (fault : StoreFault) → (error ≡ SqliteFailure OutOfMemory → fault ≡ Memory) → IsTrue (is_open_error error)
      → (left ≡ None → (error ≡ SqliteFailure CannotOpen) ⊎ ((error ≡ SqliteFailure OutOfMemory) ⊎ (error ≡ SqliteFailure DatabaseBusy)))
      → IfSome left (λ rest. (files : Files D) × P files × Q files × (IsCleanLeft rest → FailsToOpenFiles files rest error × LeavesFiles files rest)) → fault ≡ Device → IsUnopened g
  unopened_told P Q error left fault memory named unopened cause told =
      let other = never_memory error fault memory told in
      record {
        error = error;
        left = left;
        other = other;
        named = named;
        unopened = λ none. elim (unopened none) [ inl cannot ↦ inl cannot | inr (inl is) ↦ absurd (other is) | inr (inr busy) ↦ inr busy ];
        cause = IfSome_then left cause (λ rest it. (it.0, λ clean. (it.3 clean).0));
      }

  pub unadopted_told : (image : Image) (conn given : Held (FileStore D g)) (fault : StoreFault) → IsNew conn → (HasCleanDisk (file_state conn) → IsOpened conn) → (HasCleanDisk (file_state conn) → FindsIn image (file_state conn))
      → IsGivenBack over_files (file_state conn) given → (HasCleanDisk (file_state given) → fault ≡ Device → EngineFails (file_state conn) (file_state given) ⊎ ShowsForeign (file_state conn)) → fault ≡ Device → IsUnadopted g image
  unadopted_told image conn given fault fresh opened found back why told =
      let earlier : HasCleanDisk (file_state given) → HasCleanDisk (file_state conn) = λ clean. let was = back.survives.clean in omega (arith, clean, was) in
      record { conn = conn; given = given; fresh = fresh; opened = λ clean. opened (earlier clean); found = λ clean. found (earlier clean); why = λ clean. why clean told }

  -- what it holds is what the files held
  pub opened_holds : (image : Image) (s : Kept (FileStore D g)) → IsOpenedAt image s → OpenedHolds image (holds over_files s)
  opened_holds image s it =
      let start = file_state it.conn in
      let shown : start.now.trees ≡ start.committed.trees = ap (λ (d : Database). d.trees) it.opened.0.clean in (
        start.now,
        record {
          sound = (it.opened.1 it.opened.0.is_open).0;
          holds = λ trees held. shown ∙ it.found.holds trees held;
          reads = subst (AreFoundIn image) (sym shown) it.found.reads;
        },
        it.adopted.from,
      )
