-- Why a call of the engine fails.
use Rattle.std.proofs.Common.{◌≡◌, inl, inr, ℕ, List, [], length, Bool, true, false, IsTrue, IsSome, append-nil, refl, sym, ap, subst, ◌∙◌, arith}
use Rattle.sqlite_trees.specs.Tree.{Trees}
use Rattle.sqlite_trees.specs.declared.error.StoreError.{StoreError}
use Rattle.sqlite_trees.specs.declared.error.StoreError.TheVariants.{OutOfMemory, Io, Corrupt, Full, Broken, Unstorable}
use Rattle.sqlite.specs.Order.{Row}
use Rattle.sqlite.specs.Schema.{Schema}
use Rattle.sqlite_tied.specs.Compute.{everything}
use Rattle.sqlite.specs.Listing.{understood}
use Rattle.sqlite.specs.declared.error.Error.{Error}
use Rattle.sqlite.specs.Clock.{timed}
use Rattle.sqlite.specs.Effect.{Database, RefusesToRead}
use Rattle.sqlite.specs.State.{State, Fails, FailsToQuery, FailsToShow, HasCause, IsNoStatement, IsNotRun, IsUnchanged, Survives, store_error}
use Rattle.sqlite.proofs.Callers.{IsPlain}
use Rattle.cs_sql.specs.Causes.{EngineFails, IsCaused, IsGranted, IsOne}

caused_by : (old new : State) (too_big : Type 0) (e : Error) → ¬ too_big → (cause : StoreError) → e ≡ store_error cause → HasCause old new too_big cause → IsCaused old new e
caused_by old new too_big e none OutOfMemory is h = inl is
caused_by old new too_big e none Io is h = inr (inl h)
caused_by old new too_big e none Corrupt is h = inr (inl h)
caused_by old new too_big e none Full is h = inr (inl h)
caused_by old new too_big e none Broken is h = inr (inr (inl h))
caused_by old new too_big e none Unstorable is h = absurd (none h)

pub fails_caused : (old new : State) (too_big : Type 0) (e : Error) → ¬ too_big → Fails old new too_big e → IsCaused old new e
fails_caused old new too_big e none f = caused_by old new too_big e none f.0 f.1 f.2

module _ (sql : List ℕ) (params : Row) (old new : State) (plain : IsPlain (understood old.now.schema sql)) (one : IsOne (length params) sql (understood old.now.schema sql)) where
  is_statement : (e : Error) → ¬ IsNoStatement old sql params e
  is_statement e (inl none) = subst IsPlain none.1 plain
  is_statement e (inr some) =
      let it = subst (IsOne (length params) sql) some.1 one in
      let bare = subst IsPlain some.1 plain in
      elim some.2 [ inl longer ↦ longer.0 (omega (arith, it.0)) | inr (inl others) ↦ others.0 (sym it.1) | inr (inr clock) ↦ clock.0 bare.1 ]

  -- a statement that isn't run is so for a cause
  pub unrun_caused : (e : Error) → IsNotRun old new sql params e → IsCaused old new e
  unfolding IsNotRun
  unrun_caused e (inl none) = absurd (is_statement e none.0)
  unrun_caused e (inr fails) = fails_caused old new ⊥ e (λ none. none) fails

-- a query that the engine grants fails for a cause
pub query_caused : (sql : List ℕ) (params : Row) (old new : State) → IsPlain (understood old.now.schema sql) → IsGranted sql params old.now → (e : Error) → FailsToQuery sql params old new e → IsCaused old new e
unfolding FailsToQuery
query_caused sql params old new plain grants e (inl unrun) = unrun_caused sql params old new plain grants.one e unrun
query_caused sql params old new plain grants e (inr it) =
    let bare = subst IsPlain it.1.is plain in
    let full : timed params it.0.formats it.1.now ≡ params = ap (λ formats. timed params formats it.1.now) bare.1 ∙ append-nil params in
    let refused = subst (FailsToShow old new sql it.0 (timed params it.0.formats it.1.now) e) bare.0 it.2 in
    inr (inr (inr (grants.granted old.step_limit it.0 refused.0 e it.1.is refused.1 (subst (λ ps. RefusesToRead old.step_limit it.0.command refused.0 ps e) full refused.2))))

-- ---- in several steps

not_open : (b : Bool) → ¬ IsTrue b → b ≡ false
not_open true none = absurd (none refl)
not_open false none = refl

-- a cause that was seen from a later moment is seen from an earlier
pub fails_later : (start old new : State) (P : Trees → Type 0) → Survives start old P → (IsTrue start.is_open → IsTrue old.is_open) → EngineFails old new → EngineFails start new
fails_later start old new P s opened (inl disk) = inl (let counts = s.counts in omega (arith, disk, counts))
fails_later start old new P s opened (inr (inl shut)) = inr (inl (not_open start.is_open (λ o. let both : true ≡ false = sym (opened o) ∙ shut in absurd cc)))
fails_later start old new P s opened (inr (inr limit)) = inr (inr (subst IsSome s.limit limit))

pub caused_later : (start old new : State) (P : Trees → Type 0) (e : Error) → Survives start old P → (IsTrue start.is_open → IsTrue old.is_open) → IsCaused old new e → IsCaused start new e
caused_later start old new P e s opened (inl memory) = inl memory
caused_later start old new P e s opened (inr fails) = inr (fails_later start old new P s opened fails)

-- and one that was seen up to an earlier moment is seen up to a later
pub caused_since : (old mid new : State) (P : Trees → Type 0) (e : Error) → Survives mid new P → IsCaused old mid e → IsCaused old new e
caused_since old mid new P e s (inl memory) = inl memory
caused_since old mid new P e s (inr (inl disk)) = inr (inl (let counts = s.counts in omega (arith, disk, counts)))
caused_since old mid new P e s (inr (inr rest)) = inr (inr rest)

-- where the connection showed the same meanwhile
pub caused_unchanged : (start old new : State) (P : Trees → Type 0) (e : Error) → Survives start old P → IsUnchanged start old → IsCaused old new e → IsCaused start new e
caused_unchanged start old new P e s same cause = caused_later start old new P e s (λ _. same.0.is_open) cause

-- a query that was under way since a moment fails for a cause that is seen from that moment
pub reading_caused : (sql : List ℕ) (params : Row) (start old new : State) (P : Trees → Type 0) → IsPlain (understood start.now.schema sql) → IsGranted sql params start.now → (e : Error) → Survives start old P → IsUnchanged start old
    → FailsToQuery sql params old new e → IsCaused start new e
reading_caused sql params start old new P plain grants e s same fails =
    let now : start.now ≡ old.now = sym same.0.now_is in
    caused_unchanged start old new P e s same (query_caused sql params old new (subst (λ (d : Database). IsPlain (understood d.schema sql)) now plain) (subst (IsGranted sql params) now grants) e fails)

-- an empty text is a statement, whatever the schema
empty_plain : (schema : Schema) → IsPlain (understood schema []) × IsOne 0 [] (understood schema [])
unfolding understood everything
empty_plain schema = ((refl, refl), (refl, refl))

pub probe_caused : (old new : State) (e : Error) → IsNotRun old new [] [] e → IsCaused old new e
probe_caused old new e h = unrun_caused [] [] old new (empty_plain old.now.schema).0 (empty_plain old.now.schema).1 e h
