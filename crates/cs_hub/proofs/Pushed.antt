-- A push that was judged, and then appended.
use Rattle.std.proofs.Common.{◌≡◌, ◌+◌, ℕ, List, ◌∷◌, [], ◌++◌, inr, Ok, Err, refl, sym, subst}
use Rattle.cs_store.specs.declared.log.entry.LogEntry.{LogEntry}
use Rattle.cs_store.specs.Contents.{Contents}
use Rattle.cs_store.specs.declared.fault.StoreFault.{StoreFault}
use Rattle.cs_store.specs.declared.fault.StoreFault.TheVariants as stored
use Rattle.cs_store.specs.declared.store.RowStore.{Ghosts}
use Rattle.cs_pending.specs.Calls.{WritesStore}
use Rattle.cs_pending.specs.Storing.{WasRead, then_not_written, then_written}
use Rattle.cs_hub.specs.log_store.Versions.{ShowsBy, ShowsSomeBy, Versions}
use Rattle.cs_hub.specs.appending.Appended.{IsAppendedIn}
use Rattle.cs_hub.specs.judgement.Hub.{with_entry}
use Rattle.cs_hub.specs.judgement.Judged.{hub_of}
use Rattle.cs_hub.specs.judgement.Pushes.{Push, Pushes, entry_of_push}
use Rattle.cs_hub.specs.PushedOf.{IsSameOrAppended}
use Rattle.cs_hub.specs.declared.judgement.fault.HubFault.{HubFault}
use Rattle.cs_hub.specs.declared.judgement.fault.HubFault.TheVariants.{Memory, Device}
use Rattle.cs_hub.specs.declared.judgement.push.Pushed.TheVariants.{Accepted}

-- a fault of a store is told as itself
abbrev pub IsToldAs : StoreFault → HubFault → Type 0
IsToldAs fault told = (fault ≡ stored.Memory → told ≡ Memory) × (fault ≡ stored.Device → told ≡ Device)

was_device : (fault : StoreFault) (told : HubFault) → IsToldAs fault told → told ≡ Device → fault ≡ stored.Device
was_device stored.Memory told is at = absurd (let m = is.0 refl in cc)
was_device stored.Device told is at = refl

module _ {S : Type 0} (g : Ghosts S) (limit : ℕ) (versions : Versions) (push : Push) (entry : LogEntry) (of : entry ≡ entry_of_push push) (old mid new : S) where
  abbrev Readable : S → Type 0
  Readable store = ShowsSomeBy versions (g.contents store)

  abbrev Appended : Contents → Type 0
  Appended = IsSameOrAppended limit versions push (g.contents old)

  abbrev AppendedThere : Contents → Type 0
  AppendedThere = IsAppendedIn versions entry (g.contents mid)

  module _ (read : WasRead g (Readable old) old mid) (judged : g.honest mid → (log : List LogEntry) → ShowsBy versions (g.contents old) log
      → Pushes limit (hub_of versions.opening log) push (Ok (Accepted (push.head.base + 1))) (with_entry (hub_of versions.opening log) entry)) where
    there : g.honest mid → Readable old → Readable mid
    there h shown = subst (ShowsSomeBy versions) (sym (read.same h)) shown

    since : g.honest mid → (c : Contents) → AppendedThere c → IsAppendedIn versions entry (g.contents old) c
    since h c i = subst (λ (was : Contents). IsAppendedIn versions entry was c) (read.same h) i

    as_push : g.honest mid → (c : Contents) → AppendedThere c → Appended c
    as_push h c i = inr (
      subst (λ (e : LogEntry). IsAppendedIn versions e (g.contents old) c) of (since h c i),
      λ log shows. (
        log ++ entry ∷ [],
        judged h log shows,
        (since h c i log shows).1,
      ),
    )

    pub then_wrote : {T U : Type 0} (t : T) (u : U) → WritesStore g stored.Device (Readable mid) AppendedThere mid new (Ok t) → WritesStore g Device (Readable old) Appended old new (Ok u)
    then_wrote t u writes =
        then_written g AppendedThere Appended (Readable old) (Readable mid) (Readable old) old mid new (λ r. r) there as_push read stored.Device Device t u writes

    pub then_wrote_not : {T U : Type 0} (fault : StoreFault) (told : HubFault) → IsToldAs fault told → WritesStore g {T = T} stored.Device (Readable mid) AppendedThere mid new (Err fault)
        → WritesStore g {T = U} Device (Readable old) Appended old new (Err told)
    then_wrote_not {T} {U} fault told is writes =
        then_not_written g AppendedThere Appended (Readable old) (Readable mid) (Readable old) old mid new (λ r. r) there as_push read {T = T} {U = U} stored.Device fault Device told (was_device fault told is) writes
