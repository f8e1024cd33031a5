use Rattle.cs_operations_tests.proofs.trying.try_push.Goals as goal

pub try_with-requires-clause-aborts : goal.try_with-requires-clause-aborts
try_with-requires-clause-aborts g c = λ f conflict answer h called. called.called.met
