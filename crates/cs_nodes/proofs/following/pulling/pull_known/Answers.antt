use Rattle.cs_nodes.proofs.following.pulling.pull_known.Goals as goal

pub returns-in-Ok-clause-stands : goal.returns-in-Ok-clause-stands
returns-in-Ok-clause-stands g c = λ stands. c.take_known.ensures.stands (c.stands_wider.ensures c.args.pass.now.known c.see_all.new.pass.known c.args.replica.now c.see_all.ensures.begins stands)

pub returns-in-Err-clause-stands : goal.returns-in-Err-clause-stands
returns-in-Err-clause-stands g c = λ stands. c.take_known.ensures.stands (c.stands_wider.ensures c.args.pass.now.known c.see_all.new.pass.known c.args.replica.now c.see_all.ensures.begins stands)

pub returns-in-Err-clause-bad : goal.returns-in-Err-clause-bad
returns-in-Err-clause-bad g c = λ stands. c.in-Err.ensures.bad (c.stands_wider.ensures c.args.pass.now.known c.see_all.new.pass.known c.args.replica.now c.see_all.ensures.begins stands)
