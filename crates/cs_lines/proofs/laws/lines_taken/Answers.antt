use Rattle.cs_lines.proofs.LineLemmas.{line_or_end}
use Rattle.cs_lines.proofs.ServedLemmas.{taken_none, taken_more, taken_all}
use Rattle.cs_lines.proofs.laws.lines_taken.Goals as goal

pub returns-clause-none : goal.returns-clause-none
returns-clause-none c = taken_none

pub returns-clause-more : goal.returns-clause-more
returns-clause-more c = taken_more

pub returns-clause-all : goal.returns-clause-all
returns-clause-all c = taken_all

pub returns-clause-next : goal.returns-clause-next
returns-clause-next c = line_or_end
