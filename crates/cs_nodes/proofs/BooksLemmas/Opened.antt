-- A book that is not opened.
use Rattle.std.proofs.Common.{◌≡◌, ◌≢◌, List, Ok, Err, refl, arith, inl}
use Rattle.std.specs.Prelude.{Result}
use Rattle.cs_value.specs.declared.catalog.TableDef.{TableDef}
use Rattle.cs_store.specs.declared.store.RowStore.{Ghosts}
use Rattle.cs_pending.specs.Storing.{err_is}
use Rattle.cs_hub.specs.Opened.{Opens}
use Rattle.cs_hub.specs.log_opening.Opens.{IsHubFault}
use Rattle.cs_opening.specs.declared.fault.OpenFault.{OpenFault}
use Rattle.cs_opening.specs.declared.fault.OpenFault.TheVariants.{Damaged, Device, Memory, Mismatch}

module _ {S : Type 0} (g : Ghosts S) (opening : List TableDef) where
  abbrev Opened : S → S → Result (Unit {0}) OpenFault → Type 0
  Opened = Opens g opening

  -- the store as it was let go, and what is told of it
  abbrev NotOpened : S → OpenFault → Type 0
  NotOpened store fault =
      (last : S) × Opened store last (Err fault) × (g.honest last → IsHubFault opening (g.contents store) fault)

  -- nothing was asked of it
  pub not_asked : (store : S) (fault : OpenFault) → fault ≡ Memory → NotOpened store fault
  not_asked store Memory is = (
    store,
    record {
      was_honest = λ h. h;
      ok = λ h. tt;
      err = λ h. refl;
      durable = λ h. tt;
      crash = λ h left l. inl l;
      kept = tt;
      later = omega arith;
      cause = λ e. absurd cc;
      as_read = λ h r. refl;
    },
    λ h. tt,
  )
  not_asked store Damaged is = absurd (let e = is in cc)
  not_asked store Device is = absurd (let e = is in cc)
  not_asked store Mismatch is = absurd (let e = is in cc)

  -- a hub was opened that no honest store has
  pub not_so : (store last : S) (fault : OpenFault) → fault ≢ Device → (g.honest last → ⊥) → Opened store last (Ok tt) → NotOpened store fault
  not_so store last fault no_device never opened = (
    last,
    record {
      was_honest = opened.was_honest;
      ok = λ h. tt;
      err = λ h. absurd (never h);
      durable = λ h. tt;
      crash = λ h. absurd (never h);
      kept = tt;
      later = opened.later;
      cause = λ e. absurd (no_device (err_is fault Device e));
      as_read = opened.as_read;
    },
    λ h. absurd (never h),
  )
