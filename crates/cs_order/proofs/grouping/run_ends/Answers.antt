use Rattle.std.proofs.Common.{◌≡◌, ℕ, ◌+◌, ◌%◌, ◌^◌, ◌<◌, List, [], ◌∷◌, ◌++◌, length, drop, sym, ap, subst, ◌∙◌, arith, eqb-true}
use Rattle.std.specs.List.{All, slice_range}
use Rattle.std.proofs.lemmas.Bool.{eqb-false}
use Rattle.std.proofs.lemmas.List.{length-map, nil_from_length}
use Rattle.std.proofs.lemmas.List.Elements.{All-nil, All-push}
use Rattle.cs_order.specs.Steps.Packed.{places_in}
use Rattle.cs_order.specs.Steps.Runs.{grow, parts, ranges_of, runs, IsRangeWithin}
use Rattle.cs_order.proofs.Ends.{last_end, last_pushed, range_pushed}
use Rattle.cs_order.proofs.RunLaws.{runs_begin, told, run_more, run_cut, run_last}
use Rattle.cs_order.proofs.grouping.run_ends.Goals as goal
use Rattle.cs_order.proofs.grouping.run_ends.Goals.{then-not-same_key+in_ok-push, else-not-same_key}

pub returns-then-is_empty-clause-runs : goal.returns-then-is_empty-clause-runs
returns-then-is_empty-clause-runs c =
    let keys = c.args.keys.now in
    let ps = places_in (2 ^ c.args.ranks.bits) c.args.words.now in
    let e = eqb-true (length c.args.words.now) 0 (sym c.is_empty.ensures ∙ c.if-is_empty.true) in
    ap (λ (es : List ℕ). parts ps (ranges_of es)) c.in_ok-ends.ensures.items ∙ sym (ap (runs keys) (nil_from_length ps (length-map c.args.words.now _ ∙ e)))

pub loop-at-init : goal.loop-at-init
loop-at-init c =
    let keys = c.args.keys.now in
    let ps = places_in (2 ^ c.args.ranks.bits) c.args.words.now in
    let n = length c.args.words.now in
    let e = eqb-false n 0 (sym c.is_empty.ensures ∙ c.if-is_empty.false) in
    let items = c.in_ok-ends.ensures.items in (
      omega arith,
      sym (ap (last_end 0) items),
      subst (λ (es : List ℕ). All (IsRangeWithin n) (ranges_of es)) (sym items) (All-nil (IsRangeWithin n)),
      subst (λ (es : List ℕ). parts ps (ranges_of es) ++ grow keys (slice_range ps 0 1) (drop 1 ps) ≡ runs keys ps) (sym items) (runs_begin keys ps (omega (arith, length-map c.args.words.now (λ word. word % 2 ^ c.args.ranks.bits)))),
    )

pub loop-at-preserved : goal.loop-at-preserved
loop-at-preserved c =
    let keys = c.args.keys.now in
    let span = 2 ^ c.args.ranks.bits in
    let words = c.args.words.now in
    let ps = places_in span words in
    let start = c.loop-at.start in
    let at = c.loop-at.at in
    let old = c.loop-at.ends.items in
    let before = ranges_of old in
    let inv = c.loop-at.invariant in
    let here : at < length words = c.loop-at-test.true in
    let test = told keys span words c.requires.apart start at c.same_key.result (omega (arith, inv.0)) here c.same_key.ensures in
    elim c.if-not-same_key.branch [
      | then-not-same_key+in_ok-push w ↦
          let pushed : c.if-not-same_key.ends.items ≡ old ++ at ∷ [] = ap (λ v. v.items) w.ends-is ∙ w.in_ok-push.ensures.items in
          let items = range_pushed old c.if-not-same_key.ends.items start at pushed inv.1 in
          let cut = run_cut keys span words c.requires.apart before start at inv.0 here (test ∙ w.if-not-same_key.true) inv.3 in (
            omega (arith, w.start-is),
            w.start-is ∙ sym (last_pushed 0 old at) ∙ ap (last_end 0) (sym pushed),
            subst (All (IsRangeWithin (length words))) (sym items) (All-push (IsRangeWithin (length words)) before (start, at) inv.2 (inv.0, omega arith)),
            subst (λ (rs : List (ℕ × ℕ)). parts ps rs ++ grow keys (slice_range ps c.if-not-same_key.start (at + 1)) (drop (at + 1) ps) ≡ runs keys ps) (sym items)
                (subst (λ s. parts ps (before ++ (start, at) ∷ []) ++ grow keys (slice_range ps s (at + 1)) (drop (at + 1) ps) ≡ runs keys ps) (sym w.start-is) cut),
          )
      | else-not-same_key w ↦
          let same : c.if-not-same_key.ends.items ≡ old = ap (λ v. v.items) w.ends-is in
          let items = ap ranges_of same in
          let more = run_more keys span words c.requires.apart before start at inv.0 here (test ∙ w.if-not-same_key.false) inv.3 in (
            omega (arith, w.start-is, inv.0),
            w.start-is ∙ inv.1 ∙ ap (last_end 0) (sym same),
            subst (All (IsRangeWithin (length words))) (sym items) inv.2,
            subst (λ (rs : List (ℕ × ℕ)). parts ps rs ++ grow keys (slice_range ps c.if-not-same_key.start (at + 1)) (drop (at + 1) ps) ≡ runs keys ps) (sym items)
                (subst (λ s. parts ps before ++ grow keys (slice_range ps s (at + 1)) (drop (at + 1) ps) ≡ runs keys ps) (sym w.start-is) more),
          )
    ]

pub returns-clause-runs : goal.returns-clause-runs
returns-clause-runs c =
    let keys = c.args.keys.now in
    let span = 2 ^ c.args.ranks.bits in
    let words = c.args.words.now in
    let ps = places_in span words in
    let some = eqb-false (length words) 0 (sym c.is_empty.ensures ∙ c.if-is_empty.false) in
    let end : c.loop-at.at ≡ length words = omega (arith, c.loop-at.auto.at-end) in
    ap (parts ps) (range_pushed c.loop-at.ends.items _ c.loop-at.start (length words) c.in_ok-push-2.ensures.items c.loop-at.invariant.1)
    ∙ run_last keys span words c.requires.apart (ranges_of c.loop-at.ends.items) c.loop-at.start (length words) (omega arith)
    (subst (λ at. parts ps (ranges_of c.loop-at.ends.items) ++ grow keys (slice_range ps c.loop-at.start at) (drop at ps) ≡ runs keys ps) end c.loop-at.invariant.3)

pub returns-clause-within : goal.returns-clause-within
returns-clause-within c =
    let n = length c.args.words.now in
    let items = range_pushed c.loop-at.ends.items _ c.loop-at.start n c.in_ok-push-2.ensures.items c.loop-at.invariant.1 in
    let some = eqb-false n 0 (sym c.is_empty.ensures ∙ c.if-is_empty.false) in
    let end : c.loop-at.at ≡ n = omega (arith, c.loop-at.auto.at-end) in
    subst (All (IsRangeWithin n)) (sym items) (All-push (IsRangeWithin n) (ranges_of c.loop-at.ends.items) (c.loop-at.start, n) c.loop-at.invariant.2 (omega (arith, c.loop-at.invariant.0, end), omega arith))
