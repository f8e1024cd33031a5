-- The words so far spell the tables so far.
use Rattle.std.proofs.Common.{map, take}
use Rattle.std.specs.List.{AllZip}
use Rattle.cs_command.specs.TableWord.{SpellsTable}
use Rattle.cs_command.proofs.table.try_catalog.Given as goal

abbrev pub invariant-loop-word : goal.invariant-loop-word
invariant-loop-word l = AllZip SpellsTable (map (λ word. word.now) (take l.word-index l.words)) l.tables.items
