-- What entries that are told at once are told as, taken or not.
use Rattle.std.proofs.Common.{◌≡◌, ◌<◌, ◌≤◌, ◌+◌, ◌⊎◌, ℕ, List, Result, Ok, Err, refl, sym, ap, subst, ◌∙◌, arith, inl, inr}
use Rattle.std.specs.FinMap.{len}
use Rattle.std.proofs.lemmas.Bool.{cases_lt}
use Rattle.cs_value.specs.declared.catalog.TableDef.{TableDef}
use Rattle.cs_normal.specs.State.{IsDefinedOn}
use Rattle.cs_normal.specs.declared.normal.TableChanges.{TableChanges}
use Rattle.cs_store.specs.Contents.{Contents}
use Rattle.cs_store.specs.declared.store.RowStore.{Ghosts}
use Rattle.cs_conflict.specs.declared.clash.Clash.{Clash}
use Rattle.cs_conflict.specs.declared.conflict.Conflict.{Conflict}
use Rattle.cs_conflict.specs.declared.wish.Wish.{Wish}
use Rattle.cs_pending.specs.Calls.{WritesStore}
use Rattle.cs_pending.specs.View.{View}
use Rattle.cs_pending.specs.position.Shows.{ShowsAt, ShowsSomeAt, base}
use Rattle.cs_pending.specs.declared.position.position.Position.{Position}
use Rattle.cs_exchange.specs.taking.Takes.{IfStopped, IsTakenTo, StopsTaking, brought}
use Rattle.cs_exchange.specs.declared.taking.fault.TakeFault.{TakeFault}
use Rattle.cs_exchange.specs.declared.taking.fault.TakeFault.TheVariants as take
use Rattle.cs_exchange.specs.pulling.Calls.{WritesInTurn}
use Rattle.cs_exchange.specs.pulling.Listed.{TakesAll, TellsDevice}
use Rattle.cs_exchange.specs.pulling.Merged.{IsGoodMerged, IsMergeFault, IsToldNext, IsToldTaken, TakesTold}
use Rattle.cs_exchange.specs.pulling.Steps.{MergeEndsAt}
use Rattle.cs_exchange.specs.pulling.Told.{IsFormOf}
use Rattle.cs_exchange.specs.declared.pulling.fault.AnswerFault.{AnswerFault}
use Rattle.cs_exchange.specs.declared.pulling.fault.AnswerFault.TheVariants as list
use Rattle.cs_exchange.specs.declared.pulling.fault.PullFault.{PullFault}
use Rattle.cs_exchange.specs.declared.pulling.fault.PullFault.TheVariants.{Memory, BadEntry, Stopped, Device}
use Rattle.cs_exchange.specs.declared.pulling.listing.Pulled.{Pulled}
use Rattle.cs_exchange.specs.declared.pulling.listing.Pulled.TheVariants as pulled

-- ---- changes

-- what is told of changes that aren't taken
module _ {P : Type 0} (picks : P → Clash → Wish → P → Type 0) (tables : List TableDef) (position : Position) (first next : ℕ) (changes : List TableChanges) (view : View) (p q : P) (here : first ≡ position.version) where
  above_it : (conflict : Conflict) → (next ≤ position.version → take.Stopped conflict ≡ take.BadEntry) → (position.version < next) ⊎ (next ≤ position.version) → position.version < next
  above_it conflict last (inl more) = more
  above_it conflict last (inr below) = absurd (let e = last below in cc)

  pub merge_refused : (fault : TakeFault) (told : PullFault)
      → (fault ≡ take.Memory → told ≡ Memory) → (fault ≡ take.BadEntry → told ≡ BadEntry) → ((conflict : Conflict) → fault ≡ take.Stopped conflict → told ≡ Stopped conflict) → (fault ≡ take.Device → told ≡ Device)
      → (fault ≡ take.BadEntry → (next ≤ position.version) ⊎ (IsDefinedOn tables changes (base position.flight view) → ⊥))
      → (fault ≡ take.BadEntry → q ≡ p)
      → (next ≤ position.version → fault ≡ take.BadEntry)
      → IfStopped fault (λ conflict. StopsTaking picks tables position.flight changes view p conflict q)
      → IsMergeFault picks tables position first next changes view p q told
  merge_refused take.Memory told memory bad stopped device wrong asked last stops = subst (IsMergeFault picks tables position first next changes view p q) (sym (memory refl)) tt
  merge_refused take.BadEntry told memory bad stopped device wrong asked last stops = subst (IsMergeFault picks tables position first next changes view p q) (sym (bad refl)) (here, wrong refl, asked refl)
  merge_refused (take.Stopped conflict) told memory bad stopped device wrong asked last stops =
      subst (IsMergeFault picks tables position first next changes view p q) (sym (stopped conflict refl)) (here, above_it conflict last (cases_lt position.version next), stops)
  merge_refused take.Device told memory bad stopped device wrong asked last stops = subst (IsMergeFault picks tables position first next changes view p q) (sym (device refl)) tt

-- ---- bytes

-- where a failed device is told, it is that fault
of_device : (fault : TakeFault) (result : Result Pulled AnswerFault) → MergeEndsAt fault result → TellsDevice result → fault ≡ take.Device
of_device take.Memory result is told = absurd (subst TellsDevice is told)
of_device take.BadEntry result is told = absurd (subst TellsDevice is told)
of_device (take.Stopped conflict) result is told = absurd (subst TellsDevice is told)
of_device take.Device result is told = refl

-- a fault leaves them undone
unfinished : (fault : TakeFault) (result : Result Pulled AnswerFault) → MergeEndsAt fault result → TakesAll result → ⊥
unfinished take.Memory result is all = subst TakesAll is all
unfinished take.BadEntry result is all = subst TakesAll is all
unfinished (take.Stopped conflict) result is all = subst TakesAll is all
unfinished take.Device result is all = subst TakesAll is all

module _ {P S : Type 0} (picks : P → Clash → Wish → P → Type 0) (g : Ghosts S) (tables : List TableDef) (next : ℕ) (bytes : List ℕ) (changes : List TableChanges) (form : IsFormOf tables bytes changes) (position other : Position) (p q : P) (old new : S) where
  abbrev Took : Contents → Contents → Type 0
  Took before left = IsTakenTo picks tables position next changes p q before left

  or_told : (left : Contents) → g.may_leave old left ⊎ Took (g.contents old) left → g.may_leave old left ⊎ IsToldTaken picks tables next bytes position p (g.contents old) left
  or_told left (inl may) = inl may
  or_told left (inr is) = inr (changes, q, form, is)

  -- ---- taken

  pub taken_told : (count : ℕ) → position.version + count ≡ next → other ≡ brought position next other.pending
      → (ShowsSomeAt tables position (g.contents old) → other.pending ≡ len (g.contents new).pending)
      → Took (g.contents old) (g.contents new)
      → (before : View) → ShowsAt tables (g.contents old) position before
      → TakesTold picks tables next bytes (Ok (pulled.Taken count)) position before p other (g.contents new) q
  taken_told count sum moved counted is before shows =
      let left = is before shows in
      let where_is : other ≡ brought position next (len (g.contents new).pending) = moved ∙ ap (λ (n : ℕ). brought position next n) (counted (before, shows)) in
      (sum, changes, left.0, form, moved, subst (λ (x : Position). ShowsAt tables (g.contents new) x left.0) (sym where_is) left.1, left.2)

  at_once : (count : ℕ) (left : Contents) → (left ≡ g.contents new) ⊎ (g.may_leave old left × (g.contents new ≡ g.contents old))
      → (left ≡ g.contents new) ⊎ ((g.may_leave old left × (g.contents new ≡ g.contents old)) ⊎ ((TakesAll (Ok (pulled.Taken count)) → ⊥) × IsToldNext picks tables next bytes other (g.contents new) left))
  at_once count left (inl now) = inl now
  at_once count left (inr before) = inr (inl before)

  pub taken_writes : (readable : Type 0) (count : ℕ) (done : Unit {0})
      → WritesStore g {T = Unit {0}} {E = TakeFault} take.Device readable (Took (g.contents old)) old new (Ok done)
      → WritesInTurn g (TakesAll (Ok (pulled.Taken count))) (TellsDevice (Ok (pulled.Taken count))) readable
      (IsToldTaken picks tables next bytes position p (g.contents old)) (IsToldNext picks tables next bytes other (g.contents new)) old new
  taken_writes readable count done w = record {
    was_honest = w.was_honest;
    durable = λ h left may. at_once count left (w.durable h left may);
    crash = λ h left may. or_told left (w.crash h left may);
    kept = λ finished. w.kept;
    later = w.later;
    cause = λ none. absurd none;
    as_read = w.as_read;
  }

  -- ---- not taken

  module _ (fault : TakeFault) (result : Result Pulled AnswerFault) (ended : MergeEndsAt fault result) (kept : other ≡ position) where
    told_next : g.contents new ≡ g.contents old → (left : Contents) → Took (g.contents old) left → IsToldNext picks tables next bytes other (g.contents new) left
    told_next same left is = (
      p,
      subst (λ (x : Position). IsToldTaken picks tables next bytes x p (g.contents new) left) (sym kept)
          (subst (λ (c : Contents). IsToldTaken picks tables next bytes position p c left) (sym same) (changes, q, form, is)),
    )

    not_at_once : g.contents new ≡ g.contents old → (left : Contents) → g.may_leave old left ⊎ Took (g.contents old) left
        → (left ≡ g.contents new) ⊎ ((g.may_leave old left × (g.contents new ≡ g.contents old)) ⊎ ((TakesAll result → ⊥) × IsToldNext picks tables next bytes other (g.contents new) left))
    not_at_once same left (inl may) = inr (inl (may, same))
    not_at_once same left (inr is) = inr (inr (unfinished fault result ended, told_next same left is))

    pub not_taken_writes : (readable : Type 0)
        → WritesStore g {T = Unit {0}} {E = TakeFault} take.Device readable (Took (g.contents old)) old new (Err fault)
        → WritesInTurn g (TakesAll result) (TellsDevice result) readable
        (IsToldTaken picks tables next bytes position p (g.contents old)) (IsToldNext picks tables next bytes other (g.contents new)) old new
    not_taken_writes readable w = record {
      was_honest = w.was_honest;
      durable = λ h left may. not_at_once (w.err h) left (w.crash h left may);
      crash = λ h left may. or_told left (w.crash h left may);
      kept = λ finished. absurd (unfinished fault result ended finished);
      later = w.later;
      cause = λ device. w.cause (ap (λ (f : TakeFault). Err f) (of_device fault result ended device));
      as_read = w.as_read;
    }

  -- where these are no good, none that the bytes spell are
  none_good : (before : View) → ((others : List TableChanges) → IsFormOf tables bytes others → changes ≡ others) → position.version < next
      → (next ≤ position.version) ⊎ (IsDefinedOn tables changes (base position.flight before) → ⊥) → IsGoodMerged tables position bytes before → ⊥
  none_good before only above (inl below) good = absurd (omega (arith, below, above))
  none_good before only above (inr undefined) (others, also, defined) =
      undefined (subst (λ (cs : List TableChanges). IsDefinedOn tables cs (base position.flight before)) (sym (only others also)) defined)

  stays : (before : View) → other ≡ position → g.contents new ≡ g.contents old → ShowsAt tables (g.contents old) position before → (other ≡ position) × ShowsAt tables (g.contents new) position before
  stays before kept same shows = (kept, subst (λ (c : Contents). ShowsAt tables c position before) (sym same) shows)

  told_as : (before : View) (some result : Result Pulled AnswerFault) → result ≡ some → TakesTold picks tables next bytes some position before p other (g.contents new) q → TakesTold picks tables next bytes result position before p other (g.contents new) q
  told_as before some result is tells = subst (λ (r : Result Pulled AnswerFault). TakesTold picks tables next bytes r position before p other (g.contents new) q) (sym is) tells

  pub not_taken_told : (fault : TakeFault) (result : Result Pulled AnswerFault) → MergeEndsAt fault result → other ≡ position → g.contents new ≡ g.contents old → position.version < next
      → ((others : List TableChanges) → IsFormOf tables bytes others → changes ≡ others)
      → (before : View) → ShowsAt tables (g.contents old) position before
      → (fault ≡ take.BadEntry → (next ≤ position.version) ⊎ (IsDefinedOn tables changes (base position.flight before) → ⊥))
      → (fault ≡ take.BadEntry → q ≡ p)
      → IfStopped fault (λ conflict. StopsTaking picks tables position.flight changes before p conflict q)
      → TakesTold picks tables next bytes result position before p other (g.contents new) q
  not_taken_told take.Memory result ended kept same above only before shows bad asked stops = told_as before (Err (list.Memory 0)) result ended (refl, stays before kept same shows)
  not_taken_told take.BadEntry result ended kept same above only before shows bad asked stops =
      told_as before (Err (list.BadEntry 0)) result ended (refl, none_good before only above (bad refl), asked refl, stays before kept same shows)
  not_taken_told (take.Stopped conflict) result ended kept same above only before shows bad asked stops =
      told_as before (Ok (pulled.Stopped 0)) result ended (refl, changes, conflict, form, stops, stays before kept same shows)
  not_taken_told take.Device result ended kept same above only before shows bad asked stops = told_as before (Err (list.Device 0)) result ended (refl, stays before kept same shows)
