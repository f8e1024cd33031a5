use Rattle.cs_store.proofs.States as law
use Rattle.cs_store.proofs.laws.states.Goals as goal

pub returns : goal.returns
returns c = record { one = law.holds_one_state; edited = law.edits_lead_to_state }
