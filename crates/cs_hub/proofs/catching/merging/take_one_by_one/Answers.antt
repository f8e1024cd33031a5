use Rattle.std.proofs.Common.{◌≡◌, ◌+◌, ◌<◌, ◌++◌, List, [], ◌∷◌, get_or, length, take, ap, sym, ◌∙◌, arith}
use Rattle.std.proofs.lemmas.List.{take_more}
use Rattle.cs_normal.specs.declared.normal.TableChanges.{TableChanges}
use Rattle.cs_hub.proofs.CatchingLemmas.Taken.{ends_long, one_more_so_far, one_with}
use Rattle.cs_hub.proofs.catching.merging.take_one_by_one.Goals as goal

pub returns-then-not-branch : goal.returns-then-not-branch
returns-then-not-branch c =
    let tables = c.args.catalog.now in
    let list = c.args.list.now in
    let at = c.loop-at.at in
    let next = c.index-list-at.result in
    let less : at < length list = omega (arith, c.loop-at-test.true) in
    let here : get_or list at next ≡ next = sym c.index-list-at.is in
    let more : take (at + 1) list ≡ take at list ++ next ∷ [] = take_more list at next less ∙ ap (λ (n : List TableChanges). take at list ++ n ∷ []) here in
    let both = c.in_ok-both.both in
    let one = one_with c.some_join.ensures.more tables list at next c.loop-at.joined both less more c.loop-at.invariant.one c.in_ok-both.ensures.normal c.in_ok-both.ensures.fits c.in_ok-both.ensures.then in
    ends_long c.one_join.ensures tables list at c.loop-at.joined both c.tables-tables.ensures.tables c.loop-at.invariant one
    (λ short. let told = c.in_ok-is_short.ensures.1 short in let never = c.if-not-branch.true in cc)

pub loop-at-preserved : goal.loop-at-preserved
loop-at-preserved c =
    let tables = c.args.catalog.now in
    let list = c.args.list.now in
    let at = c.loop-at.at in
    let next = c.index-list-at.result in
    let less : at < length list = omega (arith, c.loop-at-test.true) in
    let here : get_or list at next ≡ next = sym c.index-list-at.is in
    let more : take (at + 1) list ≡ take at list ++ next ∷ [] = take_more list at next less ∙ ap (λ (n : List TableChanges). take at list ++ n ∷ []) here in
    let both = c.in_ok-both.both in
    let one = one_with c.some_join.ensures.more tables list at next c.loop-at.joined both less more c.loop-at.invariant.one c.in_ok-both.ensures.normal c.in_ok-both.ensures.fits c.in_ok-both.ensures.then in
    one_more_so_far tables list at c.loop-at.joined both less c.loop-at.invariant one (c.in_ok-is_short.ensures.0 c.if-not-branch.false)
