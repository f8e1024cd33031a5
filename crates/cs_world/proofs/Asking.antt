-- A request that reaches the hub.
use Rattle.std.proofs.Common.{Vec, ◌≡◌, ◌∙◌, ◌≤◌, ◌++◌, ℕ, List, [], ◌∷◌, Some, None, length, slice_get, refl, sym, ap, subst, inl, inr}
use Rattle.std.specs.declared.alloc.Global.{Global}
use Rattle.cs_conflict.specs.declared.wish.Wish.{Wish}
use Rattle.cs_hub.specs.Calls.{AnswersHub}
use Rattle.cs_hub.specs.Holding as hub
use Rattle.cs_replica.specs.Holding as replica
use Rattle.cs_store.specs.declared.store.RowStore.{Ghosts}
use Rattle.cs_wire.specs.Requests.{Asked, request_spelling}
use Rattle.cs_world.specs.Fails.{AsksHub}
use Rattle.cs_world.specs.declared.event.Event.TheVariants.{Deliver}
use Rattle.cs_world.specs.declared.letter.Letter.{Letter}
use Rattle.cs_world.specs.declared.letter.Letter.TheVariants as letter
use Rattle.cs_world.specs.declared.outcome.Outcome.{Outcome}
use Rattle.cs_world.specs.declared.outcome.Outcome.TheVariants.{Memory}
use Rattle.cs_world.proofs.Found.{none_too}

module _ {S : Type 0} (g : Ghosts S) (limit k : ℕ) (wishes : List Wish) (h new : hub.Holding S) (replicas others : List (replica.Holding S)) (letters all : List Letter) where
  abbrev Asks : Outcome → Type 0
  Asks outcome = AsksHub g limit (Deliver k wishes) outcome (record { hub = h; replicas = replicas; letters = letters }) (record { hub = new; replicas = others; letters = all })

  -- memory was refused
  pub asks_none : Asks Memory
  asks_none = (λ r request at. inl refl, λ request at. inl refl)

  -- there is no message, or one that asks nothing
  pub asks_nobody : (outcome : Outcome) → length letters ≤ k → Asks outcome
  asks_nobody outcome few =
      let none : slice_get letters k ≡ None = none_too letters letters k refl few in
      (λ r request at. absurd (let e = sym none ∙ at in cc), λ request at. absurd (let e = sym none ∙ at in cc))

  pub asks_replica : (outcome : Outcome) (q : ℕ) (bytes : Vec ℕ Global) → slice_get letters k ≡ Some (letter.Tells q bytes) → Asks outcome
  asks_replica outcome q bytes there = (λ r request at. absurd (let e = sym there ∙ at in cc), λ request at. absurd (let e = sym there ∙ at in cc))

  pub asks_no_one : (outcome : Outcome) (bytes : Vec ℕ Global) → slice_get letters k ≡ Some (letter.Replies bytes) → Asks outcome
  asks_no_one outcome bytes there = (λ r request at. absurd (let e = sym there ∙ at in cc), λ request at. absurd (let e = sym there ∙ at in cc))

  -- the hub answered
  pub asks_hub : (outcome : Outcome) (q : ℕ) (asked : Asked) (bytes : List ℕ) (answer : Vec ℕ Global) (ls : List Letter) → slice_get letters k ≡ Some (letter.Asks q asked)
      → bytes ≡ request_spelling asked → ls ≡ letters → all ≡ ls ++ letter.Tells q answer ∷ []
      → AnswersHub g limit h bytes answer.items new
      → Asks outcome
  asks_hub outcome q asked bytes answer ls there spelled same is answers = (
    λ r request at.
        let both : Some (letter.Asks q asked) ≡ Some (letter.Asks r request) = sym there ∙ at in
        let who : q ≡ r = cc in
        let what : asked ≡ request = cc in
        inr (
          answer,
          is ∙ (ap (λ (l : List Letter). l ++ letter.Tells q answer ∷ []) same ∙ ap (λ (x : ℕ). letters ++ letter.Tells x answer ∷ []) who),
          subst (λ (b : List ℕ). AnswersHub g limit h b answer.items new) (spelled ∙ ap request_spelling what) answers,
        ),
    λ request at. absurd (let e = sym there ∙ at in cc),
  )

  pub asks_hub_alone : (outcome : Outcome) (asked : Asked) (bytes : List ℕ) (answer : Vec ℕ Global) (ls : List Letter) → slice_get letters k ≡ Some (letter.Orders asked)
      → bytes ≡ request_spelling asked → ls ≡ letters → all ≡ ls ++ letter.Replies answer ∷ []
      → AnswersHub g limit h bytes answer.items new
      → Asks outcome
  asks_hub_alone outcome asked bytes answer ls there spelled same is answers = (
    λ r request at. absurd (let e = sym there ∙ at in cc),
    λ request at.
        let both : Some (letter.Orders asked) ≡ Some (letter.Orders request) = sym there ∙ at in
        let what : asked ≡ request = cc in
        inr (
          answer,
          is ∙ ap (λ (l : List Letter). l ++ letter.Replies answer ∷ []) same,
          subst (λ (b : List ℕ). AnswersHub g limit h b answer.items new) (spelled ∙ ap request_spelling what) answers,
        ),
  )
