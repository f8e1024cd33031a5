-- What a taken entry is told as, where it was another's.
use Rattle.std.proofs.Common.{◌≡◌, ◌<◌, ℕ, List, Result, refl, sym, ap, subst, ◌∙◌, inl, inr}
use Rattle.std.specs.FinMap.{len}
use Rattle.std.specs.Prelude.{◌⊎◌, ◌-◌, ◌^◌, Ok, Err}
use Rattle.std.specs.Result.{result_err}
use Rattle.std.proofs.lemmas.Option.{same_Some}
use Rattle.cs_value.specs.declared.catalog.TableDef.{TableDef}
use Rattle.cs_store.specs.declared.log.entry.LogEntry.{LogEntry}
use Rattle.cs_store.specs.Contents.{Contents}
use Rattle.cs_store.specs.declared.store.RowStore.{Ghosts}
use Rattle.cs_conflict.specs.declared.clash.Clash.{Clash}
use Rattle.cs_conflict.specs.declared.conflict.Conflict.{Conflict}
use Rattle.cs_conflict.specs.declared.wish.Wish.{Wish}
use Rattle.cs_pending.specs.Calls.{WritesStore}
use Rattle.cs_pending.specs.declared.position.position.Position.{Position}
use Rattle.cs_store.specs.declared.fault.StoreFault.{StoreFault}
use Rattle.cs_store.specs.declared.fault.StoreFault.TheVariants as stored
use Rattle.cs_pending.specs.position.Shows.{ShowsAt}
use Rattle.cs_exchange.specs.pushing.Pushes.{IsConfirmedIn}
use Rattle.cs_exchange.specs.taking.Takes.{taken}
use Rattle.cs_exchange.proofs.PullingLemmas.Bodies.{own_catalog}
use Rattle.cs_exchange.specs.declared.taking.fault.TakeFault.{TakeFault}
use Rattle.cs_exchange.specs.declared.taking.fault.TakeFault.TheVariants as take
use Rattle.cs_exchange.specs.pulling.Pulls.{IsOwn, IsPulledIn, IsTakenBody}
use Rattle.cs_exchange.specs.declared.pulling.fault.PullFault.{PullFault}
use Rattle.cs_exchange.specs.declared.pulling.fault.PullFault.TheVariants.{Memory, BadEntry, Stopped, Device}

-- a fault that is told as a failed device is one
pub was_device : (fault : TakeFault) (told : PullFault) → (fault ≡ take.Memory → told ≡ Memory) → (fault ≡ take.BadEntry → told ≡ BadEntry) → ((conflict : Conflict) → fault ≡ take.Stopped conflict → told ≡ Stopped conflict)
    → told ≡ Device → fault ≡ take.Device
was_device take.Memory told memory bad stopped is = absurd (let e = sym (memory refl) ∙ is in cc)
was_device take.BadEntry told memory bad stopped is = absurd (let e = sym (bad refl) ∙ is in cc)
was_device (take.Stopped conflict) told memory bad stopped is = absurd (let e = sym (stopped conflict refl) ∙ is in cc)
was_device take.Device told memory bad stopped is = refl

module _ {P S : Type 0} (picks : P → Clash → Wish → P → Type 0) (g : Ghosts S)
    (tables : List TableDef) (position : Position) (entry : LogEntry) (p q : P) (readable : Type 0) (old new : S)
    (room : position.version < 2 ^ 64 - 1) (others : IsOwn position entry → ⊥) where
  pulled : (left : Contents) → IsTakenBody picks tables position entry.body p q (g.contents old) left → IsPulledIn picks tables position entry p q (g.contents old) left
  pulled left is before shows = let after = is before shows in (after.0, after.1, (room, inr (others, after.2)))

  stopped : (left : Contents) → g.may_leave old left ⊎ IsTakenBody picks tables position entry.body p q (g.contents old) left → g.may_leave old left ⊎ IsPulledIn picks tables position entry p q (g.contents old) left
  stopped left (inl before) = inl before
  stopped left (inr is) = inr (pulled left is)

  pub others_pulled : (done : Unit {0})
      → WritesStore g {T = Unit {0}} {E = TakeFault} take.Device readable (IsTakenBody picks tables position entry.body p q (g.contents old)) old new (Ok done)
      → WritesStore g {T = Unit {0}} {E = PullFault} Device readable (IsPulledIn picks tables position entry p q (g.contents old)) old new (Ok tt)
  others_pulled done w = record {
    was_honest = w.was_honest;
    ok = λ h. pulled (g.contents new) (w.ok h);
    err = λ h. tt;
    durable = w.durable;
    crash = λ h left may. stopped left (w.crash h left may);
    kept = w.kept;
    later = w.later;
    cause = λ e. absurd cc;
    as_read = w.as_read;
  }

  pub others_not : (fault : TakeFault) (told : PullFault) → (told ≡ Device → fault ≡ take.Device)
      → WritesStore g {T = Unit {0}} {E = TakeFault} take.Device readable (IsTakenBody picks tables position entry.body p q (g.contents old)) old new (Err fault)
      → WritesStore g {T = Unit {0}} {E = PullFault} Device readable (IsPulledIn picks tables position entry p q (g.contents old)) old new (Err told)
  others_not fault told device w = record {
    was_honest = w.was_honest;
    ok = λ h. tt;
    err = w.err;
    durable = λ h. tt;
    crash = λ h left may. stopped left (w.crash h left may);
    kept = tt;
    later = w.later;
    cause = λ e. w.cause (ap (λ (f : TakeFault). Err f) (device (same_Some told Device (ap (λ (r : Result (Unit {0}) PullFault). result_err r) e))));
    as_read = w.as_read;
  }

-- ---- the push that is under way, confirmed

-- a fault that is told as a failed device is one of the store
pub was_stored : (fault : StoreFault) (told : PullFault) → (fault ≡ stored.Memory → told ≡ Memory) → told ≡ Device → fault ≡ stored.Device
was_stored stored.Memory told memory is = absurd (let e = sym (memory refl) ∙ is in cc)
was_stored stored.Device told memory is = refl

module _ {P : Type 0} (picks : P → Clash → Wish → P → Type 0) (tables : List TableDef) (position : Position) (entry : LogEntry) (p : P) (old left : Contents)
    (room : position.version < 2 ^ 64 - 1) (own : IsOwn position entry) (confirmed : IsConfirmedIn tables position old left) where
  pub own_pulled : IsPulledIn picks tables position entry p p old left
  own_pulled before shows =
      let is = (confirmed before shows).0 in
      let now : ShowsAt tables left (taken position (len left.pending)) before = subst (λ (n : ℕ). ShowsAt tables left (taken position n) before) is.counted is in (
        before,
        subst (λ (ts : List TableDef). ShowsAt ts left (taken position (len left.pending)) before) (sym (own_catalog tables position entry own)) now,
        (room, inl (own, refl, refl)),
      )
