-- Which row of the table of pushes decides, where the base is the newest version and there is room.
use Rattle.std.proofs.Common.{◌≡◌, ◌≢◌, ℕ, ◌+◌, ◌<◌, List, [], length, inl, inr, Result, Ok, Err, refl, sym, subst, ◌∙◌, arith}
use Rattle.std.proofs.lemmas.Option.{slice_get_within}
use Rattle.cs_conflict.specs.declared.conflict.Conflict.{Conflict}
use Rattle.cs_normal.specs.Normal.{IsNormalChangeset}
use Rattle.cs_store.specs.declared.log.entry.LogEntry.{LogEntry}
use Rattle.cs_store.specs.Contents.{Contents}
use Rattle.cs_store.specs.declared.batch.Batch.{Batch}
use Rattle.cs_hub.specs.log_store.Versions.{ShowsBy, Versions}
use Rattle.cs_hub.specs.appending.Appended.{AppendsEntry, IsAppendFault}
use Rattle.cs_hub.specs.declared.appending.fault.AppendFault.{AppendFault}
use Rattle.cs_hub.specs.declared.appending.fault.AppendFault.TheVariants as append
use Rattle.cs_hub.specs.judgement.Hub.{HubState, with_entry}
use Rattle.cs_hub.specs.judgement.Judged.{IsJudgement, hub_of}
use Rattle.cs_hub.specs.judgement.Pushes.{CanFollow, Case, IsRepeat, Push, Pushes, PushesIf, TellsConflict, entry_of_push}
use Rattle.cs_hub.specs.declared.judgement.fault.HubFault.{HubFault}
use Rattle.cs_hub.specs.declared.judgement.fault.HubFault.TheVariants.{Memory, Conflict as OnConflict, Device}
use Rattle.cs_hub.specs.declared.judgement.push.Pushed.{Pushed}
use Rattle.cs_hub.specs.declared.judgement.push.Pushed.TheVariants.{Accepted}

repeat_below : (log : List LogEntry) (push : Push) → IsRepeat log push → push.head.base < length log
repeat_below log push is = slice_get_within log push.head.base (entry_of_push push) is

abbrev LastCase : HubState → Push → Result Pushed HubFault → HubState → Type 0
LastCase old push answer new =
    Case (CanFollow old push) ((answer ≡ Ok (Accepted (push.head.base + 1))) × (new ≡ with_entry old (entry_of_push push))) (TellsConflict old push answer × (new ≡ old))

module _ (limit : ℕ) (versions : Versions) (push : Push) (some : push.changes ≢ []) where
  abbrev Hub : List LogEntry → HubState
  Hub log = hub_of versions.opening log

  -- the base is the newest version, and there is room
  abbrev IsNewest : List LogEntry → Type 0
  IsNewest log = (push.head.base ≡ length log) × (length log < limit)

  of_newest : (log : List LogEntry) (new : HubState) (answer : Result Pushed HubFault) → IsNewest log → LastCase (Hub log) push answer new → Pushes limit (Hub log) push answer new
  of_newest log new answer (newest, room) below =
      inr (some, inr (λ above. omega (arith, above, newest), inr (λ is. omega (arith, repeat_below log push is, newest), inr (λ late. omega (arith, late, newest), inr (λ many. omega (arith, many, room), below)))))

  newest_of : (contents : Contents) (log : List LogEntry) → push.head.base ≡ versions.newest → versions.newest < limit → ShowsBy versions contents log → IsNewest log
  newest_of contents log base room shows = (base ∙ shows.1, omega (arith, shows.1, room))

  -- it is to be appended
  pub to_append : (contents : Contents) (batch : Batch) (log : List LogEntry) → push.head.base ≡ versions.newest → versions.newest < limit → AppendsEntry versions (entry_of_push push) contents batch → ShowsBy versions contents log
      → Pushes limit (Hub log) push (Ok (Accepted (push.head.base + 1))) (with_entry (Hub log) (entry_of_push push))
  to_append contents batch log base room appends shows =
      of_newest log (with_entry (Hub log) (entry_of_push push)) (Ok (Accepted (push.head.base + 1))) (newest_of contents log base room shows) (inl ((appends log shows).0.defined, (refl, refl)))

  -- or it isn't, for a fault that is told
  pub record IsTold (fault : AppendFault) (told : HubFault) : Type 0 where
    pub memory : fault ≡ append.Memory → told ≡ Memory
    pub device : fault ≡ append.Device → told ≡ Device
    pub conflict : (shown : Conflict) → fault ≡ append.Conflict shown → told ≡ OnConflict shown

  refused_by : (log : List LogEntry) (fault : AppendFault) (told : HubFault) → IsNormalChangeset push.changes → IsNewest log → IsTold fault told → IsAppendFault versions.opening log (entry_of_push push) fault
      → PushesIf limit (Hub log) push (Err told) (Hub log)
  refused_by log append.Memory told normal newest is not =
      subst (λ (f : HubFault). PushesIf limit (Hub log) push (Err f) (Hub log)) (sym (is.memory refl)) refl
  refused_by log append.Device told normal newest is not =
      subst (λ (f : HubFault). PushesIf limit (Hub log) push (Err f) (Hub log)) (sym (is.device refl)) refl
  refused_by log (append.Conflict shown) told normal newest is not =
      subst (λ (f : HubFault). PushesIf limit (Hub log) push (Err f) (Hub log)) (sym (is.conflict shown refl))
      (of_newest log (Hub log) (Err (OnConflict shown)) newest
      (inr ((λ follows. not.0 (record { normal = normal; defined = follows; widens = tt })), ((shown, not.1, refl), refl))))

  pub refused : (contents : Contents) (log : List LogEntry) (fault : AppendFault) (told : HubFault) → push.head.base ≡ versions.newest → versions.newest < limit → ShowsBy versions contents log → IsNormalChangeset push.changes → IsTold fault told
      → IsAppendFault versions.opening log (entry_of_push push) fault → IsJudgement limit (Hub log) push (Err told)
  refused contents log fault told base room shows normal is not = refused_by log fault told normal (newest_of contents log base room shows) is not
