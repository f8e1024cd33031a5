use Rattle.std.proofs.Common.{◌≡◌, length, take}
use Rattle.std.specs.Map.{keys_of}
use Rattle.cs_normalising.specs.Steps.Lent.{entries_at, entries_of}
use Rattle.cs_normal.specs.keyed.Keyed.{beside}
use Rattle.cs_normal.specs.keyed.Prepared.{kept}
use Rattle.cs_normalising.proofs.written_forms.keep.Given as goal

abbrev pub invariant-loop-at : goal.invariant-loop-at
invariant-loop-at l = record {
  keys : l.picked.0 ≡ keys_of (entries_of l.marks l.changes);
  as_many : length l.picked.1 ≡ length l.made;
  entries : beside l.picked.1 l.made ≡ kept (entries_at l.marks l.changes (take l.at l.order));
}
