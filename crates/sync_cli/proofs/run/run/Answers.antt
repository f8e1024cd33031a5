use Rattle.std.proofs.Common.{inl}
use Rattle.sync_cli.proofs.EndingLemmas.{not_begun, untaken}
use Rattle.sync_cli.proofs.run.run.Goals as goal

pub returns-in-Err-clause-untaken : goal.returns-in-Err-clause-untaken
returns-in-Err-clause-untaken g c = λ faults. untaken _ _ _ _ _ _ c.in-Err.ensures.faults c.end_untaken.ensures.ends

pub returns-in-Err-clause-asked : goal.returns-in-Err-clause-asked
returns-in-Err-clause-asked g c = λ asked none wants. inl (not_begun _ _ _ _ _ _ none c.in-Err.ensures.faults c.end_untaken.ensures.ends)
