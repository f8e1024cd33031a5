use Rattle.std.proofs.Common.{refl}
use Rattle.cs_embed.proofs.Filed.{if_ok, left_alone}
use Rattle.cs_embed.proofs.file.disconnect.Goals as goal

pub returns-in-Ok-clause-left : goal.returns-in-Ok-clause-left
returns-in-Ok-clause-left c =
    if_ok c.unless_failed.result (λ file is. rw is (left_alone c.in-Ok.files c.args.conn (c.in-Ok.ensures.copied refl))) c.unless_failed.ensures
