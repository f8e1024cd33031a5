use Rattle.std.proofs.Common.{map, take}
use Rattle.std.specs.List.{AllZip}
use Rattle.cs_tools.proofs.FileLemmas.{GivenAt}
use Rattle.cs_tools.proofs.files.changesets_at.Given as goal

abbrev pub invariant-loop-path : goal.invariant-loop-path
invariant-loop-path g l =
    AllZip (GivenAt (record { remaining = g.F.Input.Read.remaining; consumable_len = g.F.Input.BufRead.consumable_len; failed = g.F.Input.PieceInput.failed }) g.F.InputFiles l.files)
    (map (λ path. path.now) (take l.path-index l.paths)) l.owned.items
