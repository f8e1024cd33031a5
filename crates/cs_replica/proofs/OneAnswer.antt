-- An answer of the hub has one result, and leaves one thing.
use Rattle.std.proofs.Common.{◌≡◌, ◌⊎◌, ℕ, List, Result, Ok, Err, sym, ap, subst, ◌∙◌, arith, inl, inr}
use Rattle.std.specs.FinMap.{len}
use Rattle.cs_value.specs.Catalog.{AreTables}
use Rattle.cs_value.specs.declared.catalog.TableDef.{TableDef}
use Rattle.cs_store.specs.Contents.{Contents}
use Rattle.cs_conflict.specs.declared.clash.Clash.{Clash}
use Rattle.cs_conflict.specs.declared.wish.Wish.{Wish}
use Rattle.cs_pending.specs.Laws.{OneView}
use Rattle.cs_pending.specs.View.{View}
use Rattle.cs_pending.specs.position.Shows.{ShowsAt}
use Rattle.cs_pending.specs.declared.position.position.Position.{Position}
use Rattle.cs_exchange.specs.pulling.Laws.{IsOfList, OneList, OneTold}
use Rattle.cs_exchange.specs.declared.pulling.fault.AnswerFault.{AnswerFault}
use Rattle.cs_exchange.specs.declared.pulling.fault.AnswerFault.TheVariants.{Memory, Device, BadEntry}
use Rattle.cs_exchange.specs.declared.pulling.listing.Pulled.{Pulled}
use Rattle.cs_exchange.specs.declared.pulling.listing.Pulled.TheVariants as pulled
use Rattle.cs_exchange.specs.taking.Laws.{OneContents, PicksOnce}
use Rattle.cs_wire.specs.declared.answer.Answer.TheVariants.{Short, Entries, Merged}
use Rattle.cs_wire.specs.declared.short_answer.ShortAnswer.TheVariants as short
use Rattle.cs_replica.specs.Answered.{KeepsRows, KeepsReplica, TellsAccepted, TellsMerged, told_of}
use Rattle.cs_replica.specs.Laws.{IsOfAnswer, OneAnswered}
use Rattle.cs_replica.specs.declared.told.Told.{Told}

pub counted : (tables : List TableDef) (position : Position) (left : Contents) (view : View) → ShowsAt tables left position view → ShowsAt tables left (record position { pending = len left.pending }) view
counted tables position left view shows = subst (λ (n : ℕ). ShowsAt tables left (record position { pending = n }) view) shows.counted shows

-- what keeps the rows that a store shows leaves one thing at one position
module _ (contents : OneContents) (view : OneView) {P : Type 0} (tables : List TableDef) (old : Contents) (position : Position) (before seen : View) (shows : ShowsAt tables old position before) (sees : ShowsAt tables old position seen)
    (new last : Contents) (here there : Position) (p q r : P) where
  kept_once : here ≡ there → KeepsRows tables before p here new q → KeepsRows tables seen p there last r → (new ≡ last) × (q ≡ r)
  kept_once same (is, asked) (so, still) =
      let alike = view tables old before seen shows.rows sees.rows in
      let at_here = subst (λ (x : Position). ShowsAt tables last x seen) (sym same) so in (
        contents tables here new last before seen (counted tables here new before is) (counted tables here last seen at_here) alike.0 alike.1,
        asked ∙ sym still,
      )

  stay_once : KeepsReplica tables position before p here new q → KeepsReplica tables position seen p there last r → (here ≡ there) × (new ≡ last) × (q ≡ r)
  stay_once (moved, keeps) (stood, stays) =
      let kept = kept_once (moved ∙ sym stood) keeps stays in
      (moved ∙ sym stood, kept.0, kept.1)

-- what says something is no want of memory or failed device
no_store_fault : (result : Result Told AnswerFault) → IsOfAnswer result → (result ≡ Err (Memory 0)) ⊎ (result ≡ Err (Device 0)) → ⊥
no_store_fault result of (inl is) = subst (λ (x : Result Told AnswerFault). IsOfAnswer x) is of
no_store_fault result of (inr is) = subst (λ (x : Result Told AnswerFault). IsOfAnswer x) is of

-- a push is confirmed, or ignored
accepted_once : (origin number version : ℕ) (position here there : Position) (some other : Result Told AnswerFault) → IsOfAnswer some → IsOfAnswer other → TellsAccepted origin number version some position here
    → TellsAccepted origin number version other position there → (some ≡ other) × (here ≡ there)
accepted_once origin number version position here there some other of so (inr (inr (fault, stays))) tells = absurd (no_store_fault some of fault)
accepted_once origin number version position here there some other of so (inl told) (inr (inr (fault, stays))) = absurd (no_store_fault other so fault)
accepted_once origin number version position here there some other of so (inr (inl told)) (inr (inr (fault, stays))) = absurd (no_store_fault other so fault)
accepted_once origin number version position here there some other of so (inl (own, is, moved)) (inl (same, so_is, went)) = (is ∙ sym so_is, moved ∙ sym went)
accepted_once origin number version position here there some other of so (inl (own, is, moved)) (inr (inl (away, so_is, stays))) = absurd (away own)
accepted_once origin number version position here there some other of so (inr (inl (away, is, stays))) (inl (own, so_is, moved)) = absurd (away own)
accepted_once origin number version position here there some other of so (inr (inl (away, is, stays))) (inr (inl (far, so_is, stay))) = (is ∙ sym so_is, stays ∙ sym stay)

-- what is told of a list says something of it
of_list : (result : Result Pulled AnswerFault) → IsOfAnswer (told_of result) → IsOfList result
of_list (Ok (pulled.Taken count)) of = tt
of_list (Ok (pulled.Stopped count)) of = tt
of_list (Err (Memory count)) of = of
of_list (Err (Device count)) of = of
of_list (Err (BadEntry count)) of = tt

module _ (contents : OneContents) (view : OneView) {P : Type 0} (picks : P → Clash → Wish → P → Type 0) (law : OneTold picks) (tables : List TableDef) (origin first next : ℕ) (changeset : List ℕ) (old new last : Contents)
    (position here there : Position) (before seen : View) (some other : Result Told AnswerFault) (p q r : P) (are : AreTables tables) (once : PicksOnce picks) (shows : ShowsAt tables old position before) (sees : ShowsAt tables old position seen)
    (of : IsOfAnswer some) (so : IsOfAnswer other) where
  abbrev One : Type 0
  One = (some ≡ other) × (here ≡ there) × (new ≡ last) × (q ≡ r)

  both_stay : some ≡ other → KeepsReplica tables position before p here new q → KeepsReplica tables position seen p there last r → One
  both_stay same stays stay =
      let one = stay_once contents view tables old position before seen shows sees new last here there p q r stays stay in
      (same, one.0, one.1, one.2)

  merged_once : TellsMerged picks tables origin first next changeset some position before p here new q → TellsMerged picks tables origin first next changeset other position seen p there last r → One
  merged_once (inl (away, is, stays)) (inl (far, so_is, stay)) = both_stay (is ∙ sym so_is) stays stay
  merged_once (inl (away, is, stays)) (inr (inl (meant, alike, so_is, stay))) = absurd (away meant)
  merged_once (inl (away, is, stays)) (inr (inr (inl (meant, alike, so_is, stay)))) = absurd (away meant)
  merged_once (inl (away, is, stays)) (inr (inr (inr (meant, over, outcome, so_is, took)))) = absurd (away meant)
  merged_once (inr (inl (meant, same, is, stays))) (inl (far, so_is, stay)) = absurd (far meant)
  merged_once (inr (inr (inl (meant, same, is, stays)))) (inl (far, so_is, stay)) = absurd (far meant)
  merged_once (inr (inr (inr (meant, above, result, is, takes)))) (inl (far, so_is, stay)) = absurd (far meant)
  merged_once (inr (inl (meant, same, is, stays))) (inr (inl (also, alike, so_is, stay))) = both_stay (is ∙ sym so_is) stays stay
  merged_once (inr (inl (meant, same, is, stays))) (inr (inr (inl (also, less, so_is, stay)))) = absurd (omega (arith, same, less))
  merged_once (inr (inl (meant, same, is, stays))) (inr (inr (inr (also, above, outcome, so_is, took)))) = absurd (omega (arith, same, above))
  merged_once (inr (inr (inl (meant, less, is, stays)))) (inr (inl (also, alike, so_is, stay))) = absurd (omega (arith, less, alike))
  merged_once (inr (inr (inl (meant, less, is, stays)))) (inr (inr (inl (also, under, so_is, stay)))) = both_stay (is ∙ sym so_is) stays stay
  merged_once (inr (inr (inl (meant, less, is, stays)))) (inr (inr (inr (also, above, outcome, so_is, took)))) = absurd (omega (arith, less, above))
  merged_once (inr (inr (inr (meant, above, result, is, takes)))) (inr (inl (also, alike, so_is, stay))) = absurd (omega (arith, above, alike))
  merged_once (inr (inr (inr (meant, above, result, is, takes)))) (inr (inr (inl (also, under, so_is, stay)))) = absurd (omega (arith, above, under))
  merged_once (inr (inr (inr (meant, above, result, is, takes)))) (inr (inr (inr (also, over, outcome, so_is, took)))) =
      let one = law tables next changeset old new last position here there before seen result outcome p q r are once shows sees
      (of_list result (subst (λ (x : Result Told AnswerFault). IsOfAnswer x) is of)) (of_list outcome (subst (λ (x : Result Told AnswerFault). IsOfAnswer x) so_is so)) takes took in
      (is ∙ ap told_of one.0 ∙ sym so_is, one.1, one.2, one.3)

pub one_answered : OneContents → OneView → {P : Type 0} (picks : P → Clash → Wish → P → Type 0) → OneList picks → OneTold picks → OneAnswered picks
one_answered contents view picks law told_law tables wide its (Short (short.Accepted origin number version)) old new last position here there before seen some other p q r are once shows sees of so (wide_is, told, keeps) (its_is, says, stays) =
    let same = accepted_once origin number version position here there some other of so told says in
    let kept = kept_once contents view tables old position before seen shows sees new last here there p q r same.1 keeps stays in
    (same.0, wide_is ∙ sym its_is, same.1, kept.0, kept.1)
one_answered contents view picks law told_law tables wide its (Short (short.Stale newest)) old new last position here there before seen some other p q r are once shows sees of so (wide_is, told, stays) (its_is, says, stay) =
    let one = stay_once contents view tables old position before seen shows sees new last here there p q r stays stay in
    (told ∙ sym says, wide_is ∙ sym its_is, one.0, one.1, one.2)
one_answered contents view picks law told_law tables wide its (Short (short.Refused code)) old new last position here there before seen some other p q r are once shows sees of so (wide_is, told, stays) (its_is, says, stay) =
    let one = stay_once contents view tables old position before seen shows sees new last here there p q r stays stay in
    (told ∙ sym says, wide_is ∙ sym its_is, one.0, one.1, one.2)
one_answered contents view picks law told_law tables wide its (Entries first entries) old new last position here there before seen some other p q r are once shows sees of so (result, told, pulls) (outcome, says, took) =
    let one = law tables wide its first entries old new last position here there before seen result outcome p q r are once shows sees
    (of_list result (subst (λ (x : Result Told AnswerFault). IsOfAnswer x) told of)) (of_list outcome (subst (λ (x : Result Told AnswerFault). IsOfAnswer x) says so)) pulls took in
    (told ∙ ap told_of one.0 ∙ sym says, one.1, one.2, one.3, one.4)
one_answered contents view picks law told_law tables wide its (Merged origin first next changeset) old new last position here there before seen some other p q r are once shows sees of so (wide_is, tells) (its_is, says) =
    let one = merged_once contents view picks told_law tables origin first next changeset old new last position here there before seen some other p q r are once shows sees of so tells says in
    (one.0, wide_is ∙ sym its_is, one.1, one.2, one.3)
