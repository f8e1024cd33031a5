use Rattle.std.proofs.Common.{refl}
use Rattle.std.specs.Prelude.{string_bytes}
use Rattle.cs_node_lines.proofs.FollowingLemmas.Found.{has_none, has_one}
use Rattle.cs_node_lines.proofs.FollowingLemmas.Shown.{no_row, row_told_of}
use Rattle.cs_node_lines.proofs.following.looking.row_line.Goals as goal

pub returns-in-Some : goal.returns-in-Some
returns-in-Some g c =
    row_told_of g.S.RowStore string_bytes c.args.name.now c.args.key.now c.row_line_of.result _ c.args.replica.now c.row_line_of.new.replica
    (has_one c.args.replica.now.catalog c.args.name.now c.in-Some.table (rw c.catalog.ensures at c.in-Some.ensures.found.0) (rw (c.catalog.ensures, c.as_str.ensures) at c.in-Some.ensures.found.1)) c.read_reply.ensures c.row_line_of.ensures

pub returns-in-None : goal.returns-in-None
returns-in-None g c = no_row g.S.RowStore c.args.name.now _ c.args.key.now c.args.replica.now (has_none c.args.replica.now.catalog c.args.name.now (rw (c.catalog.ensures, c.as_str.ensures) at c.in-None.ensures.found)) refl
