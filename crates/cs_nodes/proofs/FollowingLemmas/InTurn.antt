-- Calls of a store one after another, each of which writes once and whole: what they leave together.
use Rattle.std.proofs.Common.{◌≡◌, ℕ, Ok, Err, refl, sym, ap, subst, ◌∙◌, arith, inl, inr}
use Rattle.std.specs.Prelude.{◌⊎◌}
use Rattle.cs_pending.specs.Calls.{WritesStore}
use Rattle.cs_exchange.specs.pulling.Calls.{WritesInTurn}
use Rattle.cs_store.specs.Calls.{MoreFailures}
use Rattle.cs_store.specs.Contents.{Contents}
use Rattle.cs_store.specs.declared.store.RowStore.{Ghosts}

module _ {S : Type 0} (g : Ghosts S) where
  -- calls that went well so far; nothing is left undone then, so nothing is said of one commit more
  abbrev pub WentOn : Type 0 → (Contents → Type 0) → (Contents → Type 0) → S → S → Type 0
  WentOn readable between further old new = WritesInTurn g (Unit {0}) ⊥ readable between further old new

  -- what a stop may leave at the end of calls: what is held, or nothing was written, or one commit more
  abbrev LeavesAtEnd : Type 0 → (Contents → Type 0) → S → S → Contents → Type 0
  LeavesAtEnd undone further old new left =
      (left ≡ g.contents new) ⊎ ((g.may_leave old left × (g.contents new ≡ g.contents old)) ⊎ (undone × further left))

  -- where one commit more says this
  onwards : (undone other : Type 0) (ahead further : Contents → Type 0) (old new : S) (left : Contents) → (undone → ahead left → other × further left)
      → LeavesAtEnd undone ahead old new left → LeavesAtEnd other further old new left
  onwards undone other ahead further old new left says (inl is) = inl is
  onwards undone other ahead further old new left says (inr (inl before)) = inr (inl before)
  onwards undone other ahead further old new left says (inr (inr (not, more))) = inr (inr (says not more))

  -- and where less is said of what stood after one of the commits
  or_less : (after less : Contents → Type 0) (leaves : (left : Contents) → after left → less left) (old : S) (left : Contents) → g.may_leave old left ⊎ after left → g.may_leave old left ⊎ less left
  or_less after less leaves old left (inl may) = inl may
  or_less after less leaves old left (inr is) = inr (leaves left is)

  pub no_call_yet : (readable : Type 0) (between further : Contents → Type 0) (old : S) → WentOn readable between further old old
  no_call_yet readable between further old = record {
    was_honest = λ h. h;
    durable = λ h left may. inr (inl (may, refl));
    crash = λ h left may. inl may;
    kept = λ finished. refl;
    later = omega arith;
    cause = λ none. absurd none;
    as_read = λ h readable. refl;
  }

  -- what was asked was done, and no device failed
  pub all_well : (readable : Type 0) (between further : Contents → Type 0) (old new : S) (finished device : Type 0) → (device → ⊥) → WentOn readable between further old new
      → WritesInTurn g finished device readable between further old new
  all_well readable between further old new finished device none on = record {
    was_honest = on.was_honest;
    durable = λ h left may. onwards (Unit {0} → ⊥) (finished → ⊥) further further old new left (λ undone more. absurd (undone tt)) (on.durable h left may);
    crash = on.crash;
    kept = λ done. on.kept tt;
    later = on.later;
    cause = λ told. absurd (none told);
    as_read = on.as_read;
  }

  module _ (readable : Type 0) (inner between ahead further : Contents → Type 0) (old new : S) (leaves : (left : Contents) → inner left → between left) (finished device : Type 0)
      (turn : WritesInTurn g finished device readable inner ahead old new) where
    -- calls that did what was asked of them
    pub turned_on : finished → WentOn readable between further old new
    turned_on done = record {
      was_honest = turn.was_honest;
      durable = λ h left may. onwards (finished → ⊥) (Unit {0} → ⊥) ahead further old new left (λ undone more. absurd (undone done)) (turn.durable h left may);
      crash = λ h left may. or_less inner between leaves old left (turn.crash h left may);
      kept = λ finished. turn.kept done;
      later = turn.later;
      cause = λ none. absurd none;
      as_read = turn.as_read;
    }

    -- calls after which something is left undone
    pub turned_early : ((left : Contents) → ahead left → further left) → (all told : Type 0) → (all → ⊥) → (told → device)
        → WritesInTurn g all told readable between further old new
    turned_early leads all told undone is = record {
      was_honest = turn.was_honest;
      durable = λ h left may. onwards (finished → ⊥) (all → ⊥) ahead further old new left (λ early more. (undone, leads left more)) (turn.durable h left may);
      crash = λ h left may. or_less inner between leaves old left (turn.crash h left may);
      kept = λ done. absurd (undone done);
      later = turn.later;
      cause = λ t. turn.cause (is t);
      as_read = turn.as_read;
    }

  module _ (readable inner : Type 0) (between after ahead further : Contents → Type 0) (old mid new : S)
      (can : g.honest mid → readable → inner) (leaves : g.honest mid → (left : Contents) → after left → between left) (on : WentOn readable between ahead old mid) where
    -- where the last call wrote nothing
    as_before : (undone : Type 0) (left : Contents) → g.contents new ≡ g.contents mid → LeavesAtEnd (Unit {0} → ⊥) ahead old mid left → LeavesAtEnd undone further old new left
    as_before undone left same (inl is) = inl (is ∙ sym same)
    as_before undone left same (inr (inl (before, stays))) = inr (inl (before, same ∙ stays))
    as_before undone left same (inr (inr (not, more))) = absurd (not tt)

    twice : g.honest mid → (left : Contents) → (left ≡ g.contents new) ⊎ (g.may_leave mid left × (g.contents new ≡ g.contents mid)) → LeavesAtEnd (Unit {0} → ⊥) further old new left
    twice h left (inl is) = inl is
    twice h left (inr (may, same)) = as_before (Unit {0} → ⊥) left same (on.durable h left may)

    once_more : (undone : Type 0) → undone → g.honest mid → g.contents new ≡ g.contents mid → ((left : Contents) → after left → further left) → (left : Contents) → g.may_leave mid left ⊎ after left
        → LeavesAtEnd undone further old new left
    once_more undone not h same leads left (inl may) = as_before undone left same (on.durable h left may)
    once_more undone not h same leads left (inr is) = inr (inr (not, leads left is))

    either : g.honest mid → (left : Contents) → g.may_leave mid left ⊎ after left → g.may_leave old left ⊎ between left
    either h left (inl may) = on.crash h left may
    either h left (inr is) = inr (leaves h left is)

    -- one more call went well
    pub one_more : {T E : Type 0} (device : E) (t : T) → WritesStore g device inner after mid new (Ok t) → WentOn readable between further old new
    one_more device t writes = record {
      was_honest = λ h. on.was_honest (writes.was_honest h);
      durable = λ h left may. twice (writes.was_honest h) left (writes.durable h left may);
      crash = λ h left may. either (writes.was_honest h) left (writes.crash h left may);
      kept = λ done. writes.kept ∙ on.kept tt;
      later = omega (arith, on.later, writes.later);
      cause = λ none. absurd none;
      as_read = λ h r. writes.as_read h (can (writes.was_honest h) r) ∙ on.as_read (writes.was_honest h) r;
    }

    -- and then one failed; `leads` says what is known of what it would have written
    pub one_failed : {T E : Type 0} (device fault : E) (finished told : Type 0) → (finished → ⊥) → (told → fault ≡ device)
        → (g.contents new ≡ g.contents mid → (left : Contents) → after left → further left)
        → WritesStore g {T = T} {E = E} device inner after mid new (Err fault)
        → WritesInTurn g finished told readable between further old new
    one_failed {T} {E} device fault finished told undone is leads writes = record {
      was_honest = λ h. on.was_honest (writes.was_honest h);
      durable = λ h left may. once_more (finished → ⊥) undone (writes.was_honest h) (writes.err h) (leads (writes.err h)) left (writes.crash h left may);
      crash = λ h left may. either (writes.was_honest h) left (writes.crash h left may);
      kept = λ done. absurd (undone done);
      later = omega (arith, on.later, writes.later);
      cause = λ t. subst (λ (n : ℕ). MoreFailures n (g.failed new)) (on.kept tt) (writes.cause (ap (λ (f : E). Err f) (is t)));
      as_read = λ h r. writes.as_read h (can (writes.was_honest h) r) ∙ on.as_read (writes.was_honest h) r;
    }

  -- the same of one call that failed
  pub failed_alone : {T E : Type 0} (device fault : E) (readable : Type 0) (after further : Contents → Type 0) (old new : S) (finished told : Type 0) → (finished → ⊥) → (told → fault ≡ device)
      → (g.contents new ≡ g.contents old → (left : Contents) → after left → further left)
      → WritesStore g {T = T} {E = E} device readable after old new (Err fault)
      → WritesInTurn g finished told readable after further old new
  failed_alone device fault readable after further old new finished told undone is leads writes =
      one_failed readable readable after after further further old old new (λ h r. r) (λ h left is. is) (no_call_yet readable after further old) device fault finished told undone is leads writes
