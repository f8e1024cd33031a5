use Rattle.std.proofs.Common.{drop, take}
use Rattle.cs_normal.specs.Steps.FirstTables.{HaveNamesOf, IsFrontOf}
use Rattle.cs_normal.proofs.headers.many_tables.Given as goal

abbrev pub invariant-loop-place : goal.invariant-loop-place
invariant-loop-place l = record {
  front : IsFrontOf l.headers l.tables.items (drop l.place l.headers);
  seen : HaveNamesOf (take l.place l.headers) l.tables.items;
}
