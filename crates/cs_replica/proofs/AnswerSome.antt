-- An answer of the hub has a result, and there is what it leaves.
use Rattle.std.proofs.Common.{◌≡◌, ◌<◌, ◌≤◌, ◌⊎◌, ℕ, List, Option, Some, None, Result, Ok, Err, refl, arith, inl, inr}
use Rattle.std.specs.Prelude.{◌+◌, IsSome}
use Rattle.std.proofs.lemmas.Bool.{cases_lt}
use Rattle.std.proofs.lemmas.Bool.Decides.{eqb_tells}
use Rattle.cs_varint.specs.Bytes.{AreBytes}
use Rattle.cs_value.specs.Catalog.{AreTables}
use Rattle.cs_value.specs.Decided.{OrNot}
use Rattle.cs_value.specs.declared.catalog.TableDef.{TableDef}
use Rattle.cs_store.specs.Contents.{Contents}
use Rattle.cs_conflict.specs.declared.clash.Clash.{Clash}
use Rattle.cs_conflict.specs.declared.wish.Wish.{Wish}
use Rattle.cs_pending.specs.View.{View}
use Rattle.cs_pending.specs.position.Shows.{ShowsAt}
use Rattle.cs_pending.specs.declared.position.position.Position.{Position}
use Rattle.cs_exchange.specs.pushing.Pushes.{confirmed}
use Rattle.cs_exchange.specs.pulling.Laws.{IsOfList, ListHasResult, ToldHasResult}
use Rattle.cs_exchange.specs.declared.pulling.fault.AnswerFault.{AnswerFault}
use Rattle.cs_exchange.specs.declared.pulling.fault.AnswerFault.TheVariants.{Memory, Device, BadEntry}
use Rattle.cs_exchange.specs.declared.pulling.listing.Pulled.{Pulled}
use Rattle.cs_exchange.specs.declared.pulling.listing.Pulled.TheVariants as pulled
use Rattle.cs_exchange.specs.taking.Laws.{AnswersLawfully, NextIsShown}
use Rattle.cs_wire.specs.declared.answer.Answer.{Answer}
use Rattle.cs_wire.specs.declared.answer.Answer.TheVariants.{Short, Entries, Merged}
use Rattle.cs_wire.specs.declared.short_answer.ShortAnswer.TheVariants as short
use Rattle.cs_replica.specs.Accepted.{IsAccepted}
use Rattle.cs_replica.specs.Answered.{Answers, IsForIt, told_of}
use Rattle.cs_replica.specs.Laws.{AnswerHasResult, IsOfAnswer}
use Rattle.cs_replica.specs.declared.told.Told.{Told}
use Rattle.cs_replica.specs.declared.told.Told.TheVariants.{Confirmed, Ignored, Stale, Refused, Taken}

-- ---- whether a push was accepted

same_number : (a b : ℕ) → OrNot (a ≡ b)
same_number a b = elim (eqb_tells a b) [ inl (e, is) ↦ inl is | inr (e, ne) ↦ inr ne ]

some_or_not : {A : Type 0} (o : Option A) → OrNot (IsSome o)
some_or_not None = inr (λ none. (let e = none in cc))
some_or_not (Some a) = inl refl

accepted_with : (position : Position) (origin number version : ℕ) → OrNot (IsSome position.flight) → OrNot (origin ≡ position.id) → OrNot (number ≡ position.number) → OrNot (version ≡ position.version + 1)
    → OrNot (IsAccepted position origin number version)
accepted_with position origin number version (inl some) (inl own) (inl last) (inl next) = inl (record { under_way = some; own = own; last = last; next = next })
accepted_with position origin number version (inr none) own last next = inr (λ is. none is.under_way)
accepted_with position origin number version (inl some) (inr other) last next = inr (λ is. other is.own)
accepted_with position origin number version (inl some) (inl own) (inr other) next = inr (λ is. other is.last)
accepted_with position origin number version (inl some) (inl own) (inl last) (inr other) = inr (λ is. other is.next)

accepted_or_not : (position : Position) (origin number version : ℕ) → OrNot (IsAccepted position origin number version)
accepted_or_not position origin number version =
    accepted_with position origin number version (some_or_not position.flight) (same_number origin position.id) (same_number number position.number) (same_number version (position.version + 1))

-- ---- whether entries that are told together are for it

for_it_or_not : (position : Position) (origin first : ℕ) → OrNot (IsForIt position origin first)
for_it_or_not position origin first = with_both (same_number origin position.id) (same_number first position.version)
  where
    with_both : OrNot (origin ≡ position.id) → OrNot (first ≡ position.version) → OrNot (IsForIt position origin first)
    with_both (inl own) (inl here) = inl (own, here)
    with_both (inl own) (inr other) = inr (λ is. other is.1)
    with_both (inr other) here = inr (λ is. other is.0)

-- ---- each answer

of_answer : (result : Result Pulled AnswerFault) → IsOfList result → IsOfAnswer (told_of result)
of_answer (Ok (pulled.Taken count)) of = tt
of_answer (Ok (pulled.Stopped count)) of = tt
of_answer (Err (Memory count)) of = of
of_answer (Err (Device count)) of = of
of_answer (Err (BadEntry count)) of = tt

module _ (shown_next : NextIsShown) {P : Type 0} (picks : P → Clash → Wish → P → Type 0) (is_ready : P → Type 0) (lists : ListHasResult picks is_ready) (told : ToldHasResult picks is_ready) where
  module _ (tables : List TableDef) (old : Contents) (position : Position) (before : View) (p : P) (shows : ShowsAt tables old position before) where
    abbrev Told_of : Answer → Type 0
    Told_of answer =
        (result : Result Told AnswerFault) × (others : List TableDef) × (other : Position) × (new : Contents) × (q : P) × IsOfAnswer result × Answers picks tables answer result position before p others other new q

    by_accepted : (origin number version : ℕ) → OrNot (IsAccepted position origin number version) → Told_of (Short (short.Accepted origin number version))
    by_accepted origin number version (inl is) =
        let left = shown_next tables old position (position.version + 1) in
        (Ok (Confirmed version), tables, confirmed position, left.0, p, tt, (refl, inl (is, refl, refl), (left.1 before shows, refl)))
    by_accepted origin number version (inr other) = (Ok Ignored, tables, position, old, p, tt, (refl, inr (inl (other, refl, refl)), (shows, refl)))

    module _ (are : AreTables tables) (answers : AnswersLawfully picks is_ready) (ready : is_ready p) (origin first next : ℕ) (changeset : List ℕ) (small : AreBytes changeset) where
      by_place : IsForIt position origin first → (next < first) ⊎ (first ≤ next) → (first < next) ⊎ (next ≤ first) → Told_of (Merged origin first next changeset)
      by_place meant (inl less) order = (Err (BadEntry 0), tables, position, old, p, tt, (refl, inr (inr (inl (meant, less, refl, (refl, (shows, refl)))))))
      by_place meant (inr least) (inr most) = (Ok (Taken 0), tables, position, old, p, tt, (refl, inr (inl (meant, omega (arith, least, most), refl, (refl, (shows, refl))))))
      by_place meant (inr least) (inl above) =
          let one = told tables next changeset old position before p are small (omega (arith, meant.1, above)) shows answers ready in
          (told_of one.0, tables, one.1, one.2, one.3, of_answer one.0 one.4, (refl, inr (inr (inr (meant, above, one.0, refl, one.5)))))

      by_meant : OrNot (IsForIt position origin first) → Told_of (Merged origin first next changeset)
      by_meant (inl meant) = by_place meant (cases_lt next first) (cases_lt first next)
      by_meant (inr other) = (Ok Ignored, tables, position, old, p, tt, (refl, inl (other, refl, (refl, (shows, refl)))))

  pub answer_has_result : AnswerHasResult picks is_ready
  answer_has_result tables (Short (short.Accepted origin number version)) old position before p are small ranged shows answers ready =
      by_accepted tables old position before p shows origin number version (accepted_or_not position origin number version)
  answer_has_result tables (Short (short.Stale newest)) old position before p are small ranged shows answers ready = (Ok (Stale newest), tables, position, old, p, tt, (refl, refl, (refl, (shows, refl))))
  answer_has_result tables (Short (short.Refused code)) old position before p are small ranged shows answers ready = (Ok (Refused code), tables, position, old, p, tt, (refl, refl, (refl, (shows, refl))))
  answer_has_result tables (Entries first entries) old position before p are small ranged shows answers ready =
      let list = lists tables first entries old position before p are small ranged shows answers ready in
      (told_of list.0, list.1, list.2, list.3, list.4, of_answer list.0 list.5, (list.0, refl, list.6))
  answer_has_result tables (Merged origin first next changeset) old position before p are small ranged shows answers ready =
      by_meant tables old position before p shows are answers ready origin first next changeset small (for_it_or_not position origin first)
