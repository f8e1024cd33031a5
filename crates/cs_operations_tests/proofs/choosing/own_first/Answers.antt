use Rattle.cs_operations_tests.proofs.choosing.own_first.Goals as goal

pub returns-else-clash : goal.returns-else-clash
returns-else-clash c = λ is. let covered = c.not_found_is_covered.ensures c.args.clash.now is in cc
