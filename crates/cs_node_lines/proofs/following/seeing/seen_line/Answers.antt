use Rattle.std.proofs.Common.{◌≡◌, rules}
use Rattle.std.specs.Prelude.{string_bytes}
use Rattle.cs_node_lines.specs.following.Steps.{note_text}
use Rattle.cs_node_lines.proofs.FollowingLemmas.Sees.{seen_told}
use Rattle.cs_node_lines.proofs.following.seeing.seen_line.Goals as goal

pub returns-in_err-put_seen : goal.returns-in_err-put_seen
returns-in_err-put_seen g c = (
  note_text c.tell_noting-told.result.0 c.tell_noting-told.result.1 c.version.result,
  seen_told g.S.RowStore c.args.catalog.now c.args.bytes.now c.args.wishes.now c.in-Ok.answer c.tell_noting-told.result.0 c.tell_noting-told.result.1 c.version.result c.args.replica.now c.tell_noting-told.new.replica
      c.in-Ok.ensures.found.0 c.in-Ok.ensures.found.1 c.version.ensures c.tell_noting-told.ensures.turned c.tell_noting-told.ensures.counts,
  search rules,
)

pub returns : goal.returns
returns g c =
    let says : note_text c.tell_noting-told.result.0 c.tell_noting-told.result.1 c.version.result ≡ string_bytes c.put_seen.new.text = search rules in (
      note_text c.tell_noting-told.result.0 c.tell_noting-told.result.1 c.version.result,
      seen_told g.S.RowStore c.args.catalog.now c.args.bytes.now c.args.wishes.now c.in-Ok.answer c.tell_noting-told.result.0 c.tell_noting-told.result.1 c.version.result c.args.replica.now c.tell_noting-told.new.replica
          c.in-Ok.ensures.found.0 c.in-Ok.ensures.found.1 c.version.ensures c.tell_noting-told.ensures.turned c.tell_noting-told.ensures.counts,
      says,
    )
