use Rattle.std.proofs.Common.{◌≡◌, drop, map}
use Rattle.cs_hub.specs.log_store.Later.{AreLater, tables_behind, widen_of}
use Rattle.cs_hub.proofs.log_store.catalogs.Catalogs.behind.Given as goal

-- behind those that are left of the tables at hand are the tables behind all
abbrev pub invariant-loop-later : goal.invariant-loop-later
invariant-loop-later l = record {
  chain : AreLater l.catalog (drop l.later-index l.later-items);
  last : tables_behind l.catalog (map widen_of (drop l.later-index l.later-items)) ≡ tables_behind l.fn.self.opening l.fn.self.widens;
}
