use Rattle.std.proofs.Common.{◌∙◌, ap}
use Rattle.cs_change.specs.Spelling.{changes_spelling}
use Rattle.cs_normal.proofs.KeyedLemmas.Beside.{spelled_values}
use Rattle.cs_normal.proofs.keyed.keyed_changes.KeyedChanges.spelling.Goals as goal

pub returns : goal.returns
returns c = c.spelling.ensures ∙ ap changes_spelling c.parts.ensures.changes ∙ spelled_values c.args.self.now
