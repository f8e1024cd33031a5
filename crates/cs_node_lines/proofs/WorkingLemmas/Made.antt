-- What the calls give, as the step of a line.
use Rattle.std.proofs.Common.{◌≡◌, ◌≤◌, ℕ, List, refl, ap, inl, inr, arith}
use Rattle.std.specs.Prelude.{◌⊎◌, Result, Ok, Err}
use Rattle.cs_node_lines.specs.declared.asks.ask.Ask.TheVariants as line
use Rattle.cs_conflict.specs.declared.wish.Wish.{Wish}
use Rattle.cs_conflict.specs.wish_list.Wished.{IsWished}
use Rattle.cs_lines.specs.Lines.{hex_line}
use Rattle.cs_replica.specs.Leaves.{Counts}
use Rattle.cs_replica.specs.Step.{IsAnsweredTo, IsPushedTo, IsResent, Member, Turns, member_of}
use Rattle.cs_exchange.specs.declared.pulling.fault.AnswerFault.{AnswerFault}
use Rattle.cs_exchange.specs.declared.pushing.fault.PushFault.{PushFault}
use Rattle.cs_exchange.specs.declared.pushing.fault.PushFault.TheVariants as pushes
use Rattle.cs_replica.specs.Answered.{SaysDevice}
use Rattle.cs_replica.specs.Holding.{Holding}
use Rattle.cs_replica.specs.declared.told.Told.{Told}
use Rattle.cs_store.specs.declared.store.RowStore.{Ghosts}
use Rattle.cs_wire.specs.Answers.{FitsAnswer, answer_spelling}
use Rattle.cs_wire.specs.Requests.{asked_by_owned, request_spelling}
use Rattle.cs_wire.specs.declared.answer.Answer.{Answer}
use Rattle.cs_wire.specs.declared.request.RequestBuf.{RequestBuf}
use Rattle.cs_node_lines.specs.working.LineStep.{LineStep, SaysMemory}
use Rattle.cs_node_lines.specs.working.Steps.{Counted, Stepped}
use Rattle.cs_node_lines.specs.working.Texts.{heard_text, pushed_text}

module _ {S : Type 0} (g : Ghosts S) where
  -- what a call's step leads to, between the counts
  pub counted_as : (old new : Holding S) (P : Member → Member → Type 0) (Q : ℕ → ℕ → Member → Member → Type 0) → g.failed old.store ≤ g.failed new.store
      → ((before after : Member) → P before after → Q (g.failed old.store) (g.failed new.store) before after)
      → Turns g P old new → Counted g Q old new
  counted_as old new P Q later leads turns = record {
    later = later;
    turns = record {
      was_honest = turns.was_honest;
      turned = λ h are fits view shows.
          let t = turns.turned h are fits view shows in
          (t.0, t.1, t.2, leads (member_of old view) (member_of new t.0) t.3);
    };
  }

  -- what isn't touched
  pub counted_there : (held : Holding S) (Q : ℕ → ℕ → Member → Member → Type 0) → ((had has : ℕ) (m : Member) → m.tables ≡ held.catalog → m.position ≡ held.position → Q had has m m) → Counted g Q held held
  counted_there held Q so = record {
    later = omega arith;
    turns = record {
      was_honest = λ h. h;
      turned = λ h are fits view shows. (view, shows, fits, so (g.failed held.store) (g.failed held.store) (member_of held view) refl refl);
    };
  }

  -- ---- a line whose reply is there

  pub stepped_there : {A : Type 0} (step : ℕ → ℕ → Member → A → List ℕ → Member → Type 0) (asked : A) (text : List ℕ) (held : Holding S)
      → ((had has : ℕ) (m : Member) → m.tables ≡ held.catalog → m.position ≡ held.position → step had has m asked text m) → Stepped g step asked text held held
  stepped_there step asked text held so = counted_there held (λ had has before after. step had has before asked text after) so

  pub stepped_still : {A : Type 0} (step : ℕ → ℕ → Member → A → List ℕ → Member → Type 0) (asked : A) (text : List ℕ) (held : Holding S)
      → ((had has : ℕ) (m : Member) → m.position ≡ held.position → step had has m asked text m) → Stepped g step asked text held held
  stepped_still step asked text held so = stepped_there step asked text held (λ had has m same at. so had has m at)

  -- ---- a push

  pub push_made : (result : Result RequestBuf PushFault) (text : List ℕ) (old new : Holding S) → text ≡ pushed_text result
      → Turns g (IsPushedTo result) old new → Counts g (result ≡ Err pushes.Device) old new
      → Stepped g LineStep line.Push text old new
  push_made result text old new says turns counts =
      counted_as old new (IsPushedTo result) (λ had has before after. LineStep had has before line.Push text after) counts.later
      (λ before after pushed. (result, pushed, counts.cause, says)) turns

  -- ---- an answer

  pub answer_told : (bytes : List ℕ) (wishes : List Wish) (answer : Answer) (result : Result Told AnswerFault) (version : ℕ) (old new : Holding S)
      → FitsAnswer answer → bytes ≡ answer_spelling answer → version ≡ new.position.version
      → Turns g (IsAnsweredTo IsWished answer wishes result) old new → Counts g (SaysDevice result) old new
      → Stepped g LineStep (line.Answer bytes wishes) (heard_text result version) old new
  answer_told bytes wishes answer result version old new fits is at turns counts = record {
    later = counts.later;
    turns = record {
      was_honest = turns.was_honest;
      turned = λ h are in_range view shows.
          let t = turns.turned h are in_range view shows in
          (t.0, t.1, t.2, inl (answer, result, fits, is, t.3, counts.cause, ap (heard_text result) at));
    };
  }

-- ---- a push that is given again

pub resent : (had has : ℕ) (before : Member) (request : RequestBuf) (text : List ℕ) → IsResent (Ok request) before.position
    → (text ≡ hex_line (request_spelling (asked_by_owned request))) ⊎ SaysMemory text → LineStep had has before line.Resend text before
resent had has before request text is (inl says) = (refl, inl (Ok request, is, says))
resent had has before request text is (inr memory) = (refl, inr memory)
