use Rattle.std.proofs.Common.{Some, ap, ◌∙◌}
use Rattle.cs_record.specs.OneSpelling.{one_spelled_row}
use Rattle.cs_apply.proofs.slots.row_of.Goals as goal

pub returns-then-eq : goal.returns-then-eq
returns-then-eq c = λ row fits is. ap Some (one_spelled_row c.new.result row c.new.ensures.0 fits.1 (c.new.ensures.1 ∙ is))
