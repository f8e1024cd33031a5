use Rattle.cs_lines.proofs.EndedLemmas as lemmas
use Rattle.cs_lines.proofs.laws.ended_lines.Goals as goal

pub returns-clause-whole : goal.returns-clause-whole
returns-clause-whole c = lemmas.ended_whole

pub returns-clause-feed : goal.returns-clause-feed
returns-clause-feed c = lemmas.ended_by_feed

pub returns-clause-lines : goal.returns-clause-lines
returns-clause-lines c = lemmas.ended_lines
