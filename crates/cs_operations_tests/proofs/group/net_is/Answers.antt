use Rattle.std.proofs.Common.{[], ◌∷◌}
use Rattle.cs_value.specs.declared.value.Value.TheVariants.{Int}
use Rattle.cs_operations_tests.proofs.group.net_is.Goals as goal

pub net-requires : goal.net-requires
net-requires c = rw c.in_ok-first.ensures (Int c.args.key ∷ [], c.requires.before, c.requires.after)
