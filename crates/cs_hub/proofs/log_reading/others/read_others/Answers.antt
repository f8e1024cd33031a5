use Rattle.std.proofs.Common.{List, ◌++◌, ◌∷◌, [], ◌∙◌, ap, arith, length, length-append}
use Rattle.cs_normal.specs.declared.normal.TableChanges.{TableChanges}
use Rattle.cs_store.specs.log.Entry.{entry_changes}
use Rattle.cs_hub.proofs.CatchingLemmas.Plain.{plain_of}
use Rattle.cs_hub.proofs.LogReadingLemmas.Found.{unread}
use Rattle.cs_hub.proofs.LogReadingLemmas.Others.{all_others, counted_more, fit_more, next_stored, one_other, others_before}
use Rattle.cs_hub.proofs.log_reading.others.read_others.Goals as goal

pub returns-in-Err-clause-unread : goal.returns-in-Err-clause-unread
returns-in-Err-clause-unread c = λ entries tables first same are.
    let at = next_stored tables first c.args.catalog.now same c.args.asker c.loop-entry.entry-index c.args.stored.now entries c.loop-entry.changesets.items c.entry-item.result
    (omega (arith, c.loop-entry-test.true)) c.entry-item.is are (c.loop-entry.invariant.read entries tables first same are) in
    unread at.0 c.in-Err.fault (c.in-Err.ensures.only at.0 at.1)

pub returns-then-is_told_alone-clause-read : goal.returns-then-is_told_alone-clause-read
returns-then-is_told_alone-clause-read c = λ entries tables first same are.
    others_before tables first c.args.catalog.now same c.args.asker c.loop-entry.entry-index c.args.stored.now entries c.loop-entry.changesets.items c.entry-item.result
    (omega (arith, c.loop-entry-test.true)) c.entry-item.is are (c.loop-entry.invariant.read entries tables first same are)
    c.in-Ok.read c.in-Ok.ensures.only (c.is_told_alone.ensures.0 c.if-is_told_alone.true)

pub returns-then-is_told_alone-clause-counted : goal.returns-then-is_told_alone-clause-counted
returns-then-is_told_alone-clause-counted c = λ few. let counted = c.loop-entry.invariant.counted few in omega (arith, counted, few)

pub into_changes-requires : goal.into_changes-requires
into_changes-requires c = plain_of c.args.asker c.in-Ok.read (λ alone. let told = c.is_told_alone.ensures.1 alone in let never = c.if-is_told_alone.false in cc)

pub loop-entry-preserved : goal.loop-entry-preserved
loop-entry-preserved c =
    let grown = c.in_ok-push.ensures.items ∙ ap (λ (changes : List TableChanges). c.loop-entry.changesets.items ++ changes ∷ []) c.into_changes.ensures in
    record {
      read = λ entries tables first same are.
          let at = next_stored tables first c.args.catalog.now same c.args.asker c.loop-entry.entry-index c.args.stored.now entries c.loop-entry.changesets.items c.entry-item.result
          (omega (arith, c.loop-entry-test.true)) c.entry-item.is are (c.loop-entry.invariant.read entries tables first same are) in
          one_other c.args.asker c.loop-entry.entry-index entries c.loop-entry.changesets.items c.push.new.self.items c.in-Ok.read at.0 at.2 (c.in-Ok.ensures.only at.0 at.1)
          (λ alone. let told = c.is_told_alone.ensures.1 alone in let never = c.if-is_told_alone.false in cc) (c.loop-entry.invariant.read entries tables first same are) grown;
      fit = fit_more c.args.catalog.now c.loop-entry.changesets.items c.push.new.self.items c.entry-item.result c.in-Ok.read c.in-Ok.ensures.is grown c.loop-entry.invariant.fit;
      few = omega (arith, ap length grown, length-append c.loop-entry.changesets.items (entry_changes c.in-Ok.read ∷ []), c.loop-entry.invariant.few);
      counted = counted_more c.args.catalog.now c.loop-entry.changesets.items c.push.new.self.items c.entry-item.result c.in-Ok.read c.loop-entry.bytes c.saturating_add-bytes.result c.in-Ok.ensures.is grown
          (λ few. omega (arith, c.saturating_add-bytes.ensures, c.most_bytes.ensures, few)) c.loop-entry.invariant.counted;
    }

pub returns-clause-read : goal.returns-clause-read
returns-clause-read c = λ entries tables first same are.
    all_others tables first c.args.asker c.loop-entry.entry-index c.args.stored.now entries c.loop-entry.changesets.items (omega (arith, c.loop-entry-test.false, c.loop-entry.auto.entry-index-end)) are (c.loop-entry.invariant.read entries tables first same are)

pub returns-clause-counted : goal.returns-clause-counted
returns-clause-counted c = λ few. let counted = c.loop-entry.invariant.counted few in omega (arith, counted, few)
