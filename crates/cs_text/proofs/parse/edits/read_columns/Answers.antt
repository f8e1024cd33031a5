use Rattle.std.proofs.Common.{subst}
use Rattle.cs_text.specs.parse.Edits.{PutsColumn, column_in}
use Rattle.cs_text.proofs.ParseLemmas.EditLemmas.{columns_more, columns_none}
use Rattle.cs_text.proofs.parse.edits.read_columns.Goals as goal

pub returns-then-not-branch : goal.returns-then-not-branch
returns-then-not-branch c =
    let mark = c.split_mark-mark.result.0 in
    let word = c.in-Some.word.now in
    let puts = subst (λ b. PutsColumn b (column_in mark word) c.loop-word.key.items c.read_column.new.key.items c.loop-word.fields.items c.read_column.new.fields.items) c.if-not-branch.true c.in_ok-read_column.ensures in
    columns_none _ c.loop-word.marks.now c.split_mark-mark.result.1.now mark c.loop-word.words c.next.new.self word
    c.loop-word.key.items c.loop-word.fields.items c.loop-word.invariant c.in-Some.ensures c.split_mark-mark.ensures puts

pub loop-word-preserved : goal.loop-word-preserved
loop-word-preserved c =
    let mark = c.split_mark-mark.result.0 in
    let word = c.in-Some.word.now in
    let puts = subst (λ b. PutsColumn b (column_in mark word) c.loop-word.key.items c.read_column.new.key.items c.loop-word.fields.items c.read_column.new.fields.items) c.if-not-branch.false c.in_ok-read_column.ensures in
    columns_more _ c.loop-word.marks.now c.split_mark-mark.result.1.now mark c.loop-word.words c.next.new.self word
    c.loop-word.key.items c.read_column.new.key.items c.loop-word.fields.items c.read_column.new.fields.items
    c.loop-word.invariant c.in-Some.ensures c.split_mark-mark.ensures puts
