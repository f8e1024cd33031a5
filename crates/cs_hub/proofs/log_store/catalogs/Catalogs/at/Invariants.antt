use Rattle.std.proofs.Common.{drop}
use Rattle.cs_hub.specs.log_store.Later.{tables_behind}
use Rattle.cs_hub.specs.log_store.Versions.{tables_by}
use Rattle.cs_hub.proofs.LogStoreLemmas.Versions.{AreLeft}
use Rattle.cs_hub.proofs.log_store.catalogs.Catalogs.at.Given as goal

-- of those that are left, the tables at hand come next
abbrev pub invariant-loop-later : goal.invariant-loop-later
invariant-loop-later l = AreLeft l.version (tables_by l.fn.self l.version) (tables_behind l.fn.self.opening l.fn.self.widens) l.catalog (drop l.later-index l.later-items)
