use Rattle.std.proofs.Common.{◌≡◌, ◌++◌, take, drop, fold}
use Rattle.cs_store.specs.Contents.{Bodies}
use Rattle.cs_store.specs.Written.{edit_body}
use Rattle.cs_leaf.specs.Edits.{Rise}
use Rattle.cs_map_store.specs.Leaves.{DontFall}
use Rattle.cs_map_store.proofs.edits.last_of_each.Given as goal

abbrev pub invariant-loop-at : goal.invariant-loop-at
invariant-loop-at l = record {
  order : DontFall (drop l.at l.edits);
  rise : Rise (l.latest ++ take 1 (drop l.at l.edits));
  same : (rows : Bodies) → fold edit_body rows (l.latest ++ drop l.at l.edits) ≡ fold edit_body rows l.edits;
}
