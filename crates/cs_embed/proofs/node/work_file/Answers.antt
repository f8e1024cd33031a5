use Rattle.std.proofs.Common.{inr}
use Rattle.cs_embed.proofs.Filed.{if_ok}
use Rattle.cs_embed.proofs.Refused.{if_err, unread_refusal}
use Rattle.cs_embed.proofs.node.work_file.Goals as goal

pub returns-in-Ok-open_file-clause-told : goal.returns-in-Ok-open_file-clause-told
returns-in-Ok-open_file-clause-told c =
    if_ok c.work_store.result (λ made works. (
      c.as_slice.result.now,
      rw c.as_slice.ensures.value c.in-Ok.ensures.read,
      c.in-Ok-open_file.store,
      c.in-Ok-open_file.ensures.holds (works.worked.was_honest works.honest),
      works,
    )) c.work_store.ensures.told

pub returns-in-Ok-open_file-clause-refused : goal.returns-in-Ok-open_file-clause-refused
returns-in-Ok-open_file-clause-refused c = if_err c.work_store.result (λ answer is. inr is) c.work_store.ensures.refused

pub returns-in-Err-clause-refused : goal.returns-in-Err-clause-refused
returns-in-Err-clause-refused c =
    rw c.from.ensures (unread_refusal c.args.catalog.now _ c.args.lines.now _ c.in-Err.fault c.in-Err.ensures.refused)
