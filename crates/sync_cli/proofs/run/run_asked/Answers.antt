use Rattle.std.proofs.Common.{inl}
use Rattle.sync_cli.proofs.run.run_asked.Goals as goal

pub returns-in-Hub-clause-ends : goal.returns-in-Hub-clause-ends
returns-in-Hub-clause-ends g c = rw c.in-Hub.is (inl (c.in_ok-catalog.catalog, c.in_ok-catalog.ensures.ok, c.serve_asked.ensures.ends))

pub returns-in-World-clause-ends : goal.returns-in-World-clause-ends
returns-in-World-clause-ends g c = rw c.in-World.is (inl (c.in_ok-catalog.catalog, c.in_ok-catalog.ensures.ok, c.play_script.ensures.ends))

pub returns-in-Node-clause-ends : goal.returns-in-Node-clause-ends
returns-in-Node-clause-ends g c = rw c.in-Node.is (inl (c.in_ok-catalog.catalog, c.in_ok-catalog.ensures.ok, c.work_file.ensures.ends))

pub returns-in-Follow-clause-ends : goal.returns-in-Follow-clause-ends
returns-in-Follow-clause-ends g c = rw c.in-Follow.is (inl (c.in_ok-catalog.catalog, c.in_ok-catalog.ensures.ok, c.follow_file.ensures.ends))

pub returns-in-Exchange-clause-ends : goal.returns-in-Exchange-clause-ends
returns-in-Exchange-clause-ends g c = rw c.in-Exchange.is (inl (c.in_ok-catalog.catalog, c.in_ok-catalog.ensures.ok, c.exchange_files.ensures.ends))
