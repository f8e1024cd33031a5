-- Calls of a store one after another: from what each leaves to what all leave. Crates above cite it.
use Rattle.std.proofs.Common.{◌≡◌, ◌⊎◌, ℕ, Result, Ok, Err, refl, sym, ap, subst, ◌∙◌, arith, inl, inr}
use Rattle.std.specs.Prelude.{OnOk}
use Rattle.cs_store.specs.Calls.{Commits, CountsMisread, MoreFailures}
use Rattle.cs_store.specs.Contents.{Contents}
use Rattle.cs_store.specs.declared.fault.StoreFault.{StoreFault}
use Rattle.cs_store.specs.declared.fault.StoreFault.TheVariants.{Device}
use Rattle.cs_store.specs.declared.store.RowStore.{Ghosts}
use Rattle.cs_pending.specs.Calls.{ReadsStore, WritesStore}

pub same_err : {T U E : Type 0} (a b : E) → ◌≡◌ {A = Result T E} (Err a) (Err b) → ◌≡◌ {A = Result U E} (Err a) (Err b)
same_err a b e =
    let f : a ≡ b = (let g = e in cc) in
    ap (λ x. Err x) f

pub err_is : {T E : Type 0} (a b : E) → ◌≡◌ {A = Result T E} (Err a) (Err b) → a ≡ b
err_is a b e = cc

module _ {S : Type 0} (g : Ghosts S) where
  -- what reads that succeeded have left
  pub record WasRead (readable : Type 0) (old new : S) : Type 0 where
    pub was_honest : g.honest new → g.honest old
    pub same : g.honest new → g.contents new ≡ g.contents old
    pub crash : g.honest new → (left : Contents) → g.may_leave new left → g.may_leave old left
    pub kept : g.failed new ≡ g.failed old
    pub as_read : g.honest new → readable → g.misreads new ≡ g.misreads old

  pub no_call : (readable : Type 0) (old : S) → WasRead readable old old
  no_call readable old = record { was_honest = λ h. h; same = λ h. refl; crash = λ h left l. l; kept = refl; as_read = λ h r. refl }

  pub went_well : {T E : Type 0} (device : E) (readable : Type 0) (old new : S) (t : T) → ReadsStore g device readable old new (Ok t) → WasRead readable old new
  went_well device readable old new t reads = record {
    was_honest = reads.was_honest;
    same = reads.same;
    crash = reads.crash;
    kept = reads.kept;
    as_read = reads.as_read;
  }

  pub then_well : (first second all : Type 0) (old mid new : S) → (all → first) → (g.honest mid → all → second) → WasRead first old mid → WasRead second mid new → WasRead all old new
  then_well first second all old mid new one two a b = record {
    was_honest = λ h. a.was_honest (b.was_honest h);
    same = λ h. b.same h ∙ a.same (b.was_honest h);
    crash = λ h left l. a.crash (b.was_honest h) left (b.crash h left l);
    kept = b.kept ∙ a.kept;
    as_read = λ h r. b.as_read h (two (b.was_honest h) r) ∙ a.as_read (b.was_honest h) (one r);
  }

  -- ---- told as reads

  pub reads_well : {T E : Type 0} (device : E) (readable : Type 0) (old new : S) (t : T) → WasRead readable old new → ReadsStore g device readable old new (Ok t)
  reads_well device readable old new t reads = record {
    was_honest = reads.was_honest;
    same = reads.same;
    crash = reads.crash;
    kept = reads.kept;
    later = omega (arith, reads.kept);
    cause = λ e. absurd cc;
    as_read = reads.as_read;
  }

  -- reads that fail after others
  pub then_reads_failed : {T U E : Type 0} (device fault : E) (first second all : Type 0) (old mid new : S) → (all → first) → (g.honest mid → all → second) → WasRead first old mid
      → ReadsStore g {T = T} device second mid new (Err fault)
      → ReadsStore g {T = U} device all old new (Err fault)
  then_reads_failed device fault first second all old mid new one two a b = record {
    was_honest = λ h. a.was_honest (b.was_honest h);
    same = λ h. b.same h ∙ a.same (b.was_honest h);
    crash = λ h left l. a.crash (b.was_honest h) left (b.crash h left l);
    kept = tt;
    later = omega (arith, b.later, a.kept);
    cause = λ e. subst (λ (n : ℕ). MoreFailures n (g.failed new)) a.kept (b.cause (same_err fault device e));
    as_read = λ h r. b.as_read h (two (b.was_honest h) r) ∙ a.as_read (b.was_honest h) (one r);
  }

  -- no call, and a fault that isn't the device's
  pub not_read : {T E : Type 0} (device fault : E) (readable : Type 0) (old : S) → (fault ≡ device → ⊥) → ReadsStore g {T = T} device readable old old (Err fault)
  not_read device fault readable old other = record {
    was_honest = λ h. h;
    same = λ h. refl;
    crash = λ h left l. l;
    kept = tt;
    later = omega arith;
    cause = λ e. absurd (other (err_is fault device e));
    as_read = λ h r. refl;
  }

  -- what can be read where something else is shown
  pub reads_if : {T E : Type 0} (device : E) (readable other : Type 0) (old new : S) (result : Result T E) → (other → readable)
      → ReadsStore g device readable old new result → ReadsStore g device other old new result
  reads_if device readable other old new result on reads = record {
    was_honest = reads.was_honest;
    same = reads.same;
    crash = reads.crash;
    kept = reads.kept;
    later = reads.later;
    cause = reads.cause;
    as_read = λ h r. reads.as_read h (on r);
  }

  -- ---- told as a write

  -- a read that fails writes nothing
  pub only_read : {T U E : Type 0} (device fault : E) (readable : Type 0) (after : Contents → Type 0) (old new : S) → ReadsStore g {T = T} device readable old new (Err fault)
      → WritesStore g {T = U} device readable after old new (Err fault)
  only_read device fault readable after old new reads = record {
    was_honest = reads.was_honest;
    ok = λ h. tt;
    err = reads.same;
    durable = λ h. tt;
    crash = λ h left l. inl (reads.crash h left l);
    kept = tt;
    later = reads.later;
    cause = λ e. reads.cause (same_err fault device e);
    as_read = reads.as_read;
  }

  or_written : (after : Contents → Type 0) (old : S) (whole left : Contents) → after whole → g.may_leave old left ⊎ (left ≡ whole) → g.may_leave old left ⊎ after left
  or_written after old whole left is (inl l) = inl l
  or_written after old whole left is (inr e) = inr (subst after (sym e) is)

  pub committed : {T U E : Type 0} (device : E) (readable : Type 0) (after : Contents → Type 0) (whole : Contents) (old new : S) (t : T) (u : U) → (g.honest old → after whole)
      → Commits g.honest g.contents g.failed g.may_leave g.misreads {T = T} whole old new (Ok t)
      → WritesStore g {T = U} device readable after old new (Ok u)
  committed device readable after whole old new t u is commits = record {
    was_honest = commits.was_honest;
    ok = λ h. subst after (sym (commits.ok h)) (is (commits.was_honest h));
    err = λ h. tt;
    durable = λ h left l. inl (commits.durable h left l ∙ sym (commits.ok h));
    crash = λ h left l. or_written after old whole left (is (commits.was_honest h)) (commits.crash h left l);
    kept = commits.failures.kept;
    later = commits.failures.later;
    cause = λ e. absurd cc;
    as_read = λ h r. commits.as_read;
  }

  pub nothing_written : {T E : Type 0} (device : E) (readable : Type 0) (after : Contents → Type 0) (old : S) (t : T) → (g.honest old → after (g.contents old))
      → WritesStore g device readable after old old (Ok t)
  nothing_written device readable after old t is = record {
    was_honest = λ h. h;
    ok = is;
    err = λ h. tt;
    durable = λ h left l. inr (l, refl);
    crash = λ h left l. inl l;
    kept = refl;
    later = omega arith;
    cause = λ e. absurd cc;
    as_read = λ h r. refl;
  }

  pub not_committed : {T U : Type 0} (fault : StoreFault) (readable : Type 0) (after : Contents → Type 0) (whole : Contents) (old new : S) → (g.honest old → after whole)
      → Commits g.honest g.contents g.failed g.may_leave g.misreads {T = T} whole old new (Err fault)
      → WritesStore g {T = U} Device readable after old new (Err fault)
  not_committed fault readable after whole old new is commits = record {
    was_honest = commits.was_honest;
    ok = λ h. tt;
    err = λ h. commits.err h;
    durable = λ h. tt;
    crash = λ h left l. or_written after old whole left (is (commits.was_honest h)) (commits.crash h left l);
    kept = tt;
    later = commits.failures.later;
    cause = λ e. commits.failures.cause (same_err fault Device e);
    as_read = λ h r. commits.as_read;
  }

  module _ (inner after : Contents → Type 0) (first second all : Type 0) (old mid new : S) (one : all → first) (two : g.honest mid → all → second) (on : g.honest mid → (c : Contents) → inner c → after c) (a : WasRead first old mid) where
    either : g.honest mid → (left : Contents) → g.may_leave mid left ⊎ inner left → g.may_leave old left ⊎ after left
    either h left (inl l) = inl (a.crash h left l)
    either h left (inr i) = inr (on h left i)

    stays : g.honest mid → (left : Contents) → (left ≡ g.contents new) ⊎ (g.may_leave mid left × (g.contents new ≡ g.contents mid)) → (left ≡ g.contents new) ⊎ (g.may_leave old left × (g.contents new ≡ g.contents old))
    stays h left (inl e) = inl e
    stays h left (inr (l, e)) = inr (a.crash h left l, e ∙ a.same h)

    -- a write after reads
    pub then_written : {T U E F : Type 0} (inner_device : E) (device : F) (t : T) (u : U)
        → WritesStore g inner_device second inner mid new (Ok t)
        → WritesStore g device all after old new (Ok u)
    then_written inner_device device t u b = record {
      was_honest = λ h. a.was_honest (b.was_honest h);
      ok = λ h. on (b.was_honest h) (g.contents new) (b.ok h);
      err = λ h. tt;
      durable = λ h left l. stays (b.was_honest h) left (b.durable h left l);
      crash = λ h left l. either (b.was_honest h) left (b.crash h left l);
      kept = b.kept ∙ a.kept;
      later = omega (arith, b.later, a.kept);
      cause = λ e. absurd cc;
      as_read = λ h r. b.as_read h (two (b.was_honest h) r) ∙ a.as_read (b.was_honest h) (one r);
    }

    pub then_not_written : {T U E F : Type 0} (inner_device fault : E) (device told : F) → (told ≡ device → fault ≡ inner_device)
        → WritesStore g {T = T} inner_device second inner mid new (Err fault)
        → WritesStore g {T = U} device all after old new (Err told)
    then_not_written inner_device fault device told is b = record {
      was_honest = λ h. a.was_honest (b.was_honest h);
      ok = λ h. tt;
      err = λ h. b.err h ∙ a.same (b.was_honest h);
      durable = λ h. tt;
      crash = λ h left l. either (b.was_honest h) left (b.crash h left l);
      kept = tt;
      later = omega (arith, b.later, a.kept);
      cause = λ e. subst (λ (n : ℕ). MoreFailures n (g.failed new)) a.kept (b.cause (ap (λ x. Err x) (is (err_is told device e))));
      as_read = λ h r. b.as_read h (two (b.was_honest h) r) ∙ a.as_read (b.was_honest h) (one r);
    }

-- ---- said of what was written

pub ok_as : {T E : Type 0} (result : Result T E) (P Q : Type 0) → (P → Q) → OnOk result P → OnOk result Q
ok_as (Ok t) P Q on is = on is
ok_as (Err e) P Q on is = tt

module _ {S : Type 0} (g : Ghosts S) where
  or_as : (some other : Contents → Type 0) (old : S) (left : Contents) → ((c : Contents) → some c → other c) → g.may_leave old left ⊎ some left → g.may_leave old left ⊎ other left
  or_as some other old left on (inl l) = inl l
  or_as some other old left on (inr s) = inr (on left s)

  pub writes_as : {T E : Type 0} (device : E) (readable : Type 0) (some other : Contents → Type 0) (old new : S) (result : Result T E) → ((c : Contents) → some c → other c)
      → WritesStore g device readable some old new result
      → WritesStore g device readable other old new result
  writes_as device readable some other old new result on writes = record {
    was_honest = writes.was_honest;
    ok = λ h. ok_as result (some (g.contents new)) (other (g.contents new)) (on (g.contents new)) (writes.ok h);
    err = writes.err;
    durable = writes.durable;
    crash = λ h left l. or_as some other old left on (writes.crash h left l);
    kept = writes.kept;
    later = writes.later;
    cause = writes.cause;
    as_read = writes.as_read;
  }

-- what was read is told to be no such thing, where it can't be so
pub misread_told : {S T U : Type 0} (g : Ghosts S) (fault : StoreFault) (readable less : Type 0) (old mid new : S) (t : T)
    → (g.honest mid → readable → ⊥)
    → ReadsStore g {T = T} {E = StoreFault} Device less old mid (Ok t)
    → CountsMisread g.honest g.contents g.failed g.may_leave g.misreads mid new fault
    → ReadsStore g {T = U} Device readable old new (Err fault)
misread_told g fault readable less old mid new t never reads counts = record {
  was_honest = λ h. reads.was_honest (counts.was_honest h);
  same = λ h. counts.same h ∙ reads.same (counts.was_honest h);
  crash = λ h left l. reads.crash (counts.was_honest h) left (counts.crash h left l);
  kept = tt;
  later = omega (arith, counts.failures.later, reads.kept);
  cause = λ e. subst (λ (n : ℕ). MoreFailures n (g.failed new)) reads.kept (counts.failures.cause (same_err fault Device e));
  as_read = λ h r. absurd (never (counts.was_honest h) r);
}
