use Rattle.cs_command.proofs.CatalogLemmas.{zip_next, no_catalog_at, all_words, no_catalog}
use Rattle.cs_command.proofs.table.try_catalog.Goals as goal

pub returns-in-None : goal.returns-in-None
returns-in-None c =
    no_catalog_at (λ word. word.now) c.args.words.now _ _ c.loop-word-test.true (rw c.in-None.is at c.in_ok-table.ensures)

pub loop-word-preserved : goal.loop-word-preserved
loop-word-preserved c =
    rw c.in_ok-push-in-Some.ensures.items
    (zip_next (λ word. word.now) c.args.words.now _ _ _ _ c.loop-word-test.true c.loop-word.invariant
    (rw c.in-Some.is at c.in_ok-table.ensures))

pub returns-in-Ok : goal.returns-in-Ok
returns-in-Ok c =
    let all = all_words (λ word. word.now) c.args.words.now _ _ c.loop-word-test.false c.loop-word.invariant in
    (rw c.in-Ok.ensures.ok.0 all, rw c.in-Ok.ensures.ok.0 c.in-Ok.ensures.ok.1)

pub returns-in-Err : goal.returns-in-Err
returns-in-Err c =
    let all = all_words (λ word. word.now) c.args.words.now _ _ c.loop-word-test.false c.loop-word.invariant in
    no_catalog _ _ _ all c.in-Err.ensures.fault
