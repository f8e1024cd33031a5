use Rattle.std.proofs.Common.{◌∙◌, ap, true}
use Rattle.std.specs.Prelude.{string_bytes}
use Rattle.cs_node_lines.specs.following.FollowStep.{TellsRows}
use Rattle.cs_node_lines.specs.told.Dump.{rows_text}
use Rattle.cs_node_lines.proofs.FollowingLemmas.Shown.{rows_read}
use Rattle.cs_node_lines.proofs.following.looking.row_lines.Goals as goal

pub returns : goal.returns
returns g c =
    rows_read g.S.RowStore c.args.name.now c.args.table c.in_ok-rows.rows.items c.in_ok-lines_of.field-0 (λ before text. TellsRows true before.view.tables c.args.name.now (string_bytes text)) c.args.replica.now c.rows.new.self
    c.requires.there c.requires.named c.rows.ensures.turned c.in_ok-rows.ensures.listed c.rows.ensures.counts.later
    (λ before are. (c.in_ok-rows.rows.items, are, c.in_ok-lines_of.ensures ∙ ap (rows_text c.args.name.now) c.as_slice.ensures.value))
