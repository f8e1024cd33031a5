use Rattle.std.proofs.Common.{rules}
use Rattle.cs_command.proofs.CatalogLemmas.{refused_next}
use Rattle.cs_command.proofs.table.catalog.Goals as goal

pub returns-in-Ok-None-clause-refused : goal.returns-in-Ok-None-clause-refused
returns-in-Ok-None-clause-refused c =
    refused_next (λ word. word.now) c.args.words.now _ _ (search rules) c.loop-place.invariant (search rules)
