use Rattle.std.proofs.Common.{◌≡◌, rules, true}
use Rattle.std.specs.Prelude.{string_bytes}
use Rattle.cs_normal.specs.keyed.Changes.{key_bytes}
use Rattle.cs_node_lines.specs.following.FollowStep.{row_told}
use Rattle.cs_node_lines.proofs.FollowingLemmas.Shown.{row_of, rows_read}
use Rattle.cs_node_lines.proofs.following.looking.row_line_of.Goals as goal

pub returns : goal.returns
returns g c =
    rows_read g.S.RowStore c.args.name.now c.args.table c.in_ok-rows.rows.items c.in_ok-lines_of.field-0 (λ before text. string_bytes text ≡ row_told true before.view.tables c.args.name.now (key_bytes c.args.key.now)) c.args.replica.now c.rows.new.self
    c.requires.there c.requires.named c.rows.ensures.turned c.in_ok-rows.ensures.listed c.rows.ensures.counts.later
    (λ before are. row_of g.S.RowStore c.args.name.now (key_bytes c.args.key.now) c.in_ok-rows.rows.items (string_bytes c.in_ok-lines_of.field-0) before (search rules) are)
