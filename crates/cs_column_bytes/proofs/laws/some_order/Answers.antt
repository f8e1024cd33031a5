use Rattle.cs_column_bytes.proofs.Orders as law
use Rattle.cs_column_bytes.proofs.laws.some_order.Goals as goal

pub returns : goal.returns
returns c = law.some_order
