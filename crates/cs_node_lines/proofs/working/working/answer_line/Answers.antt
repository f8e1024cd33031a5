use Rattle.std.proofs.Common.{◌≡◌, rules}
use Rattle.std.specs.Prelude.{string_bytes}
use Rattle.cs_node_lines.specs.working.Texts.{heard_text}
use Rattle.cs_node_lines.proofs.WorkingLemmas.Made.{answer_told}
use Rattle.cs_node_lines.proofs.working.working.answer_line.Goals as goal

pub returns-in_err-put_heard : goal.returns-in_err-put_heard
returns-in_err-put_heard g c = (
  heard_text c.answer-told.result c.version.result,
  answer_told g.S.RowStore c.args.bytes.now c.args.wishes.now c.in-Ok.answer c.answer-told.result c.version.result c.args.replica.now c.answer-told.new.self
      c.in-Ok.ensures.found.0 c.in-Ok.ensures.found.1 c.version.ensures (rw c.new-picker.ensures at c.answer-told.ensures.turned) c.answer-told.ensures.counts,
  search rules,
)

pub returns : goal.returns
returns g c =
    let says : heard_text c.answer-told.result c.version.result ≡ string_bytes c.put_heard.new.text = search rules in (
      heard_text c.answer-told.result c.version.result,
      answer_told g.S.RowStore c.args.bytes.now c.args.wishes.now c.in-Ok.answer c.answer-told.result c.version.result c.args.replica.now c.answer-told.new.self
          c.in-Ok.ensures.found.0 c.in-Ok.ensures.found.1 c.version.ensures (rw c.new-picker.ensures at c.answer-told.ensures.turned) c.answer-told.ensures.counts,
      says,
    )
