-- Steps of a replica, from those of the calls.
use Rattle.std.proofs.Common.{ℕ, List, Result}
use Rattle.std.specs.declared.alloc.AllocError.{AllocError}
use Rattle.cs_replica.specs.Holding.{Holding}
use Rattle.cs_replica.specs.Step.{Member, member_of}
use Rattle.cs_store.specs.declared.store.RowStore.{Ghosts}
use Rattle.cs_node_lines.specs.declared.working.reply.Reply.{Reply}
use Rattle.cs_node_lines.specs.working.Steps.{Counted, Makes, Stepped}

module _ {S : Type 0} (g : Ghosts S) where
  -- what a step leads to
  pub counted_map : (P Q : ℕ → ℕ → Member → Member → Type 0) (old new : Holding S)
      → ((had has : ℕ) (before after : Member) → P had has before after → Q had has before after) → Counted g P old new → Counted g Q old new
  counted_map P Q old new leads counted = record {
    later = counted.later;
    turns = record {
      was_honest = counted.turns.was_honest;
      turned = λ h are fits view shows.
          let t = counted.turns.turned h are fits view shows in
          (t.0, t.1, t.2, leads (g.failed old.store) (g.failed new.store) (member_of old view) (member_of new t.0) t.3);
    };
  }

  pub stepped_map : {A B : Type 0} (step : ℕ → ℕ → Member → A → List ℕ → Member → Type 0) (other : ℕ → ℕ → Member → B → List ℕ → Member → Type 0)
      (asked : A) (its : B) (text : List ℕ) (old new : Holding S)
      → ((had has : ℕ) (before after : Member) → step had has before asked text after → other had has before its text after)
      → Stepped g step asked text old new → Stepped g other its text old new
  stepped_map step other asked its text old new leads stepped =
      counted_map (λ had has before after. step had has before asked text after) (λ had has before after. other had has before its text after) old new leads stepped

  pub makes_map : {A B : Type 0} (step : ℕ → ℕ → Member → A → List ℕ → Member → Type 0) (other : ℕ → ℕ → Member → B → List ℕ → Member → Type 0)
      (asked : A) (its : B) (result : Result Reply AllocError) (old new : Holding S)
      → ((had has : ℕ) (before after : Member) (text : List ℕ) → step had has before asked text after → other had has before its text after)
      → Makes g step asked result old new → Makes g other its result old new
  makes_map step other asked its result old new leads (text, stepped, says) =
      (text, stepped_map step other asked its text old new (λ had has before after goes. leads had has before after text goes) stepped, says)
