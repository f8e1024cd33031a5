use Rattle.std.proofs.Common.{◌∙◌, ap, List, ℕ, ◌++◌}
use Rattle.cs_column_bytes.proofs.Groups.{spelled}
use Rattle.cs_column_bytes.proofs.spelling.put_table.Goals as goal

pub returns-clause-ok : goal.returns-clause-ok
returns-clause-ok c =
    λ heads first. spelled heads c.args.table.now c.args.out.now.items c.put_first_header.new.out.items c.extend_from_slice.new.self.items (c.in_ok-put_first_header.ensures.ok heads first) (c.in_ok-extend_from_slice.ensures.items ∙ ap (λ (bytes : List ℕ). c.put_first_header.new.out.items ++ bytes) c.spelling.ensures)
