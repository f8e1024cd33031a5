-- A request that was judged, and then served.
use Rattle.std.proofs.Common.{Vec, ◌≡◌, ◌≢◌, ◌⊎◌, ◌+◌, ℕ, List, ◌∷◌, [], ◌++◌, Result, Ok, Err, inl, inr, refl, sym, ap, subst, ◌∙◌, arith}
use Rattle.std.specs.Global.{Global}
use Rattle.std.specs.Prelude.{IfOk}
use Rattle.cs_value.specs.declared.catalog.TableDef.{TableDef}
use Rattle.cs_store.specs.declared.log.entry.LogEntry.{LogEntry}
use Rattle.cs_store.specs.Calls.{MoreFailures}
use Rattle.cs_store.specs.Contents.{Contents}
use Rattle.cs_store.specs.declared.batch.Batch.{Batch}
use Rattle.cs_store.specs.declared.fault.StoreFault.{StoreFault}
use Rattle.cs_store.specs.declared.fault.StoreFault.TheVariants.{Device}
use Rattle.cs_store.specs.declared.store.RowStore.{Ghosts}
use Rattle.cs_pending.specs.Calls.{WritesStore}
use Rattle.cs_hub.specs.log_store.Versions.{ShowsBy, Versions}
use Rattle.cs_hub.specs.appending.Appended.{IsAppendedIn}
use Rattle.cs_hub.specs.judgement.Judged.{hub_of}
use Rattle.cs_hub.specs.declared.judgement.fault.HubFault.TheVariants as hub
use Rattle.cs_wire.specs.Answers.{answer_spelling}
use Rattle.cs_wire.specs.declared.answer.Answer.TheVariants.{Short}
use Rattle.cs_wire.specs.declared.short_answer.ShortAnswer.TheVariants.{Accepted}
use Rattle.cs_hub.specs.Calls.{AnswersHub, IsNotServed, IsSameOrGrown, IsServedIn, ServesStore}
use Rattle.cs_hub.specs.Holding.{Holding, Shows, ShowsSome, versions_of}
use Rattle.cs_hub.specs.Judges.{AcceptsNext, IsJudged, ReadsHub}
use Rattle.cs_hub.specs.Serves.{Serves, refused}
use Rattle.cs_hub.specs.declared.judged.Judged.{Judged}
use Rattle.cs_hub.specs.declared.judged.Judged.TheVariants.{Append}
use Rattle.cs_hub.specs.declared.refusal.Refusal.TheVariants.{ByHub}
use Rattle.cs_hub.proofs.LogStoreLemmas.Versions.{versions_are}

-- ---- what was judged

-- an entry is to be appended: then it is the reply, at the limit that the hub has
pub replies : (device_failed : Type 0) (least limit : ℕ) (opening : List TableDef) (log : List LogEntry) (request : List ℕ) (told : Judged) (entry : LogEntry) (batch : Batch) (reply : Vec ℕ Global) → least ≡ limit → told ≡ Append entry batch reply
    → IsJudged device_failed least opening log request told → Serves limit (hub_of opening log) request reply.items (hub_of opening (log ++ entry ∷ []))
replies device_failed least limit opening log request told entry batch reply same is judged =
    subst (λ (n : ℕ). Serves n (hub_of opening log) request reply.items (hub_of opening (log ++ entry ∷ []))) same (subst (IsJudged device_failed least opening log request) is judged).1

same_tag : (a b : ℕ) (xs ys : List ℕ) → a ∷ xs ≡ b ∷ ys → a ≡ b
same_tag a b xs ys e = cc

-- it doesn't tell that the device failed
pub is_served : (count : ℕ) (told : Judged) (entry : LogEntry) (batch : Batch) (reply : Vec ℕ Global) → told ≡ Append entry batch reply → AcceptsNext count told → reply.items ≢ refused (ByHub hub.Device)
is_served count told entry batch reply is accepts = λ e.
    let a : answer_spelling (Short (Accepted entry.origin entry.number (count + 1))) ≡ refused (ByHub hub.Device) = sym (subst (AcceptsNext count) is accepts) ∙ e in
    let t : ◌≡◌ {A = ℕ} 17 19 = same_tag 17 19 _ _ a in
    omega (arith, t)

-- and a failed device is told as such
pub is_not_served : {E : Type 0} (result : Result (Vec ℕ Global) E) → IfOk result (λ bytes. bytes.items ≡ refused (ByHub hub.Device)) → IsNotServed result
is_not_served (Ok bytes) is = is
is_not_served (Err want) is = tt

-- ---- what it leaves of the store

module _ {S : Type 0} (g : Ghosts S) (limit : ℕ) (request : List ℕ) (old mid new : Holding S) (read : ReadsHub g old mid) (entry : LogEntry) (reply : Vec ℕ Global)
    (judged : g.honest mid.store → (log : List LogEntry) → Shows g.contents old log → Serves limit (hub_of old.catalog log) request reply.items (hub_of old.catalog (log ++ entry ∷ []))) where
  abbrev Stores : {E : Type 0} → Result (Vec ℕ Global) E → Type 0
  Stores result = ServesStore g (versions_of old) (ShowsSome g.contents old) (IsServedIn limit (versions_of old) request (g.contents old.store)) old.store new.store result

  abbrev Appends : {T : Type 0} → Result T StoreFault → Type 0
  Appends result = WritesStore g Device (ShowsSome g.contents mid) (IsAppendedIn (versions_of mid) entry (g.contents mid.store)) mid.store new.store result

  -- the tables of the log are known as before
  same_versions : versions_of mid ≡ versions_of old
  same_versions = versions_are (versions_of mid) (versions_of old) read.catalog read.newest read.widens

  -- what was appended behind what was read
  since : g.honest mid.store → (left : Contents) → IsAppendedIn (versions_of mid) entry (g.contents mid.store) left → IsAppendedIn (versions_of old) entry (g.contents old.store) left
  since h left i =
      subst (λ (was : Contents). IsAppendedIn (versions_of old) entry was left) (read.same h) (subst (λ (v : Versions). IsAppendedIn v entry (g.contents mid.store) left) same_versions i)

  -- contents that a stop may leave: those from before, or the request was served
  stopped : g.honest mid.store → (left : Contents) → g.may_leave mid.store left ⊎ IsAppendedIn (versions_of mid) entry (g.contents mid.store) left
      → g.may_leave old.store left ⊎ (IsSameOrGrown (versions_of old) (g.contents old.store) left × (ShowsSome g.contents old → IsServedIn limit (versions_of old) request (g.contents old.store) left))
  stopped h left (inl before) = inl (read.crash h left before)
  stopped h left (inr i) = inr (
    inr (entry, since h left i),
    λ shown log shows. (
      reply.items,
      log ++ entry ∷ [],
      inl (judged h log shows),
      (since h left i log shows).1,
    ),
  )

  lasts : g.honest mid.store → (left : Contents) → (left ≡ g.contents new.store) ⊎ (g.may_leave mid.store left × (g.contents new.store ≡ g.contents mid.store))
      → (left ≡ g.contents new.store) ⊎ (g.may_leave old.store left × (g.contents new.store ≡ g.contents old.store))
  lasts h left (inl e) = inl e
  lasts h left (inr (l, e)) = inr (read.crash h left l, e ∙ read.same h)

  -- the same log is shown
  still : g.honest mid.store → (log : List LogEntry) → Shows g.contents old log → Shows g.contents mid log
  still h log shows = subst (λ (v : Versions). ShowsBy v (g.contents mid.store) log) (sym same_versions) (subst (λ (c : Contents). ShowsBy (versions_of old) c log) (sym (read.same h)) shows)

  misread_alike : {T : Type 0} (result : Result T StoreFault) → Appends result → g.honest new.store → (log : List LogEntry) → Shows g.contents old log → g.misreads new.store ≡ g.misreads old.store
  misread_alike result writes h log shows =
      let was = writes.was_honest h in
      let is = still was log shows in
      writes.as_read h (log, is) ∙ read.as_read was log shows

  -- it was appended, and the reply is told
  pub stored : {T E : Type 0} (t : T) → reply.items ≢ refused (ByHub hub.Device) → Appends (Ok t) → Stores {E = E} (Ok reply)
  stored t served writes = record {
    was_honest = λ h. read.was_honest (writes.was_honest h);
    grown = λ h. inr (entry, since (writes.was_honest h) (g.contents new.store) (writes.ok h));
    err = λ h not. absurd (served not);
    durable = λ h told left l. lasts (writes.was_honest h) left (writes.durable h left l);
    crash = λ h left l. stopped (writes.was_honest h) left (writes.crash h left l);
    later = omega (arith, read.later, writes.later);
    as_read = λ h shown. misread_alike (Ok t) writes h shown.0 shown.1;
  }

  -- it wasn't, and that is told
  pub not_stored : {T E : Type 0} (fault : StoreFault) (result : Result (Vec ℕ Global) E) → IsNotServed result → Appends {T = T} (Err fault) → Stores result
  not_stored {T} fault result not writes = record {
    was_honest = λ h. read.was_honest (writes.was_honest h);
    grown = λ h. inl (writes.err h ∙ read.same (writes.was_honest h));
    err = λ h told. writes.err h ∙ read.same (writes.was_honest h);
    durable = λ h served left l. absurd (served not);
    crash = λ h left l. stopped (writes.was_honest h) left (writes.crash h left l);
    later = omega (arith, read.later, writes.later);
    as_read = λ h shown. misread_alike {T = T} (Err fault) writes h shown.0 shown.1;
  }

  pub answered : {T : Type 0} (t : T) → new.catalog ≡ mid.catalog → Appends (Ok t) → (g.honest new.store → (log : List LogEntry) → Shows g.contents mid log → Shows g.contents new (log ++ entry ∷ [])) → AnswersHub g limit old request reply.items new
  answered t catalog writes grown = record {
    was_honest = λ h. read.was_honest (writes.was_honest h);
    catalog = catalog ∙ read.catalog;
    answered = λ h log shows.
        let was = writes.was_honest h in
        (log ++ entry ∷ [], inl (judged was log shows), grown h log (still was log shows));
    as_read = λ h log shows. misread_alike (Ok t) writes h log shows;
  }

  pub failed : {T : Type 0} (fault : StoreFault) (answer : List ℕ) → fault ≡ Device → new.catalog ≡ mid.catalog → new.newest ≡ mid.newest → new.widens ≡ mid.widens → Appends {T = T} (Err fault) → answer ≡ refused (ByHub hub.Device) → AnswersHub g limit old request answer new
  failed {T} fault answer device catalog newest widens writes is = record {
    was_honest = λ h. read.was_honest (writes.was_honest h);
    catalog = catalog ∙ read.catalog;
    answered = λ h log shows.
        let more : MoreFailures (g.failed old.store) (g.failed new.store) = omega (arith, read.later, writes.cause (ap (λ (e : StoreFault). Err e) device)) in
        let here = still (writes.was_honest h) log shows in (
          log,
          inr (more, is, refl),
          subst (λ (v : Versions). ShowsBy v (g.contents new.store) log) (sym (versions_are (versions_of new) (versions_of mid) catalog newest widens)) (subst (λ (c : Contents). ShowsBy (versions_of mid) c log) (sym (writes.err h)) here),
        );
    as_read = λ h log shows. misread_alike {T = T} (Err fault) writes h log shows;
  }
