use Rattle.std.proofs.Common.{Some, ap, sym, ◌∙◌, arith}
use Rattle.cs_map_store.specs.Packed.{no_item}
use Rattle.cs_map_store.proofs.Numbered.{log_has, log_lacks}
use Rattle.cs_map_store.proofs.log.PackedLog.get.Goals as goal

pub returns-in_ok-copy : goal.returns-in_ok-copy
returns-in_ok-copy c = ap Some c.in_ok-copy.ensures ∙ sym (log_has c.args.self.now.items c.args.version no_item (omega arith))

pub returns-else-version-len : goal.returns-else-version-len
returns-else-version-len c = sym (log_lacks c.args.self.now.items c.args.version (omega arith))
