-- What is printed of a world at its end (format of this project).
use Rattle.std.specs.Prelude.{◌≡◌, ◌+◌, ℕ, List, [], ◌∷◌, ◌++◌, codes, length}
use Rattle.std.specs.Fmt.{decimal}
use Rattle.cs_value.specs.declared.catalog.TableDef.{TableDef}
use Rattle.cs_store.specs.log.Log.{state_of}
use Rattle.cs_text.specs.Text.{line}
use Rattle.cs_node_lines.specs.told.Dump.{AreRowLines, replica_text}
use Rattle.cs_world.specs.World.{Member, World}

-- replicas, of which the first has number r: where each stands, and its rows. A table keeps its place and its name where it gets more
-- columns, so the tables may be those that the hub opened with
abbrev pub AreReplicaLines : List TableDef → ℕ → List Member → List ℕ → Type 0
AreReplicaLines tables r [] text = text ≡ []
AreReplicaLines tables r (member ∷ members) text =
    (rows : List ℕ) × (rest : List ℕ)
    × AreRowLines tables member.view.tables rows × AreReplicaLines tables (r + 1) members rest
    × (text ≡ line (replica_text r member.position) ++ rows ++ rest)

-- the newest version and the hub's rows, and the replicas
abbrev pub IsDump : World → List ℕ → Type 0
IsDump world text =
    (rows : List ℕ) × (replicas : List ℕ)
    × AreRowLines world.tables (state_of world.log) rows × AreReplicaLines world.tables 0 world.members replicas
    × (text ≡ line (codes "hub " ++ decimal (length world.log)) ++ rows ++ replicas)
