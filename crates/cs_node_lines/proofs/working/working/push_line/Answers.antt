use Rattle.std.proofs.Common.{ap, refl, rules}
use Rattle.std.specs.Prelude.{Ok, Err}
use Rattle.cs_lines.specs.Lines.{hex_line}
use Rattle.cs_node_lines.specs.working.Texts.{pushed_text, refused_text}
use Rattle.cs_node_lines.proofs.WorkingLemmas.Made.{push_made}
use Rattle.cs_node_lines.proofs.working.working.push_line.Goals as goal

pub returns-in_err-spelled-in-Ok : goal.returns-in_err-spelled-in-Ok
returns-in_err-spelled-in-Ok g c = (
  pushed_text (Ok c.in-Ok.request),
  push_made g.S.RowStore (Ok c.in-Ok.request) (pushed_text (Ok c.in-Ok.request)) c.args.replica.now c.make_push.new.self refl c.in-Ok.ensures.turned c.in-Ok.ensures.counts,
  search rules,
)

pub returns-in_ok-spelled-in-Ok : goal.returns-in_ok-spelled-in-Ok
returns-in_ok-spelled-in-Ok g c = (
  hex_line c.in_ok-spelled-in-Ok.field-0.items,
  push_made g.S.RowStore (Ok c.in-Ok.request) (hex_line c.in_ok-spelled-in-Ok.field-0.items) c.args.replica.now c.make_push.new.self
      (ap hex_line c.in_ok-spelled-in-Ok.ensures) c.in-Ok.ensures.turned c.in-Ok.ensures.counts,
  refl,
)

pub returns-in-Err : goal.returns-in-Err
returns-in-Err g c = (
  refused_text c.push_fault_name.result.now,
  push_made g.S.RowStore (Err c.in-Err.fault) (refused_text c.push_fault_name.result.now) c.args.replica.now c.make_push.new.self
      (ap refused_text c.push_fault_name.ensures) c.in-Err.ensures.turned c.in-Err.ensures.counts,
  refl,
)
