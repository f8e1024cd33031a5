use Rattle.cs_embed.proofs.Telling.{hub_told}
use Rattle.cs_embed.proofs.hub.serve_file.Goals as goal

pub returns-in-Ok-ended-clause-told : goal.returns-in-Ok-ended-clause-told
returns-in-Ok-ended-clause-told c =
    hub_told _ c.args.catalog.now c.in-Ok.store c.serve_on-ended.result.1 c.args.lines.now _ _ _ c.new-texts.result.items c.serve_on-ended.new.writer.items c.serve_on-ended.result.0 _ c.args.file.now _ c.new-texts.ensures.items c.in-Ok-ended.is c.in-Ok.ensures.holds c.in-Ok-close_file.ensures.clean c.in-Ok-close_file.ensures.holds c.serve_on-ended.ensures.ends
