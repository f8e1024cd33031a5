use Rattle.cs_store.proofs.Decoding as law
use Rattle.cs_store.proofs.laws.decoding.Goals as goal

pub returns-clause-one : goal.returns-clause-one
returns-clause-one c = law.one_present c.one_body.ensures c.widened_are_tables.ensures

pub returns-clause-tables : goal.returns-clause-tables
returns-clause-tables c = law.present_are_tables c.widened_are_tables.ensures

pub returns-clause-on : goal.returns-clause-on
returns-clause-on c = law.decodes_on

pub returns-clause-refused : goal.returns-clause-refused
returns-clause-refused c = law.refused_on c.one_body.ensures c.widened_are_tables.ensures

pub returns-clause-log : goal.returns-clause-log
returns-clause-log c = law.log_decodes

pub returns-clause-in_order : goal.returns-clause-in_order
returns-clause-in_order c = law.bodies_in_order
