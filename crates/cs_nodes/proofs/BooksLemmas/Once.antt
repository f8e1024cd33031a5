-- On one list of entries a request has one answer.
use Rattle.std.proofs.Common.{◌≡◌, ℕ, List, length, take, inl, inr, sym, ap, subst, ◌∙◌}
use Rattle.std.proofs.Math.Seq.{take-length}
use Rattle.std.specs.Prelude.{All}
use Rattle.cs_value.specs.declared.catalog.TableDef.{TableDef}
use Rattle.cs_store.specs.log.Log.{IsLog}
use Rattle.cs_store.specs.log.Stored.{AreEntriesOf, IsEntryOf}
use Rattle.cs_store.specs.declared.log.entry.LogEntry.{LogEntry}
use Rattle.cs_hub.specs.judgement.Judged.{hub_of}
use Rattle.cs_hub.specs.Laws.{OneService}
use Rattle.cs_nodes.specs.books.Answers.{HasTaken, IsStuckAt}
use Rattle.cs_nodes.specs.books.Laws.{OneKnownAnswer}
use Rattle.cs_nodes.proofs.BooksLemmas.Goes.{behind_front}

-- all that was taken is a log
whole : (tables : List TableDef) (known : List LogEntry) (taken : ℕ) → taken ≡ length known → HasTaken tables known taken → IsLog tables known
whole tables known taken level front =
    subst (IsLog tables) (ap (λ (n : ℕ). take n known) level ∙ take-length known) front.is_log

-- all that was taken fits, so nothing is stuck there
apart : (tables : List TableDef) (known : List LogEntry) (taken others : ℕ) → taken ≡ length known → HasTaken tables known taken → IsStuckAt tables known others → ⊥
apart tables known taken others level front stuck =
    let all : take taken known ≡ known = ap (λ (n : ℕ). take n known) level ∙ take-length known in
    let is_log = whole tables known taken level front in
    let fit : AreEntriesOf tables known = subst (AreEntriesOf tables) all front.fit in
    stuck.unfit (subst (λ (ts : List TableDef). IsEntryOf ts stuck.entry) (behind_front tables known others) (fit others stuck.entry stuck.here), is_log others stuck.entry stuck.here)

pub one_known_answer : OneService → OneKnownAnswer
one_known_answer one limit tables known taken others request answer other are (inl p) (inl q) =
    (one limit (hub_of tables known) (hub_of tables known) (hub_of tables known) request answer other (record { tables = are; log = whole tables known taken p.level p.front }) p.serves q.serves).0
one_known_answer one limit tables known taken others request answer other are (inl p) (inr q) = absurd (apart tables known taken others p.level p.front q.stuck)
one_known_answer one limit tables known taken others request answer other are (inr p) (inl q) = absurd (apart tables known others taken q.level q.front p.stuck)
one_known_answer one limit tables known taken others request answer other are (inr p) (inr q) = p.told ∙ sym q.told
