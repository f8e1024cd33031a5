use Rattle.std.proofs.Common.{◌≡◌, [], refl}
use Rattle.sqlite_disk.specs.Memory.{memory_bytes}
use Rattle.cs_embed.specs.Watched.{inner_of}
use Rattle.cs_embed.proofs.Filed.{found_alone}
use Rattle.cs_embed.proofs.file.connect.Goals as goal

pub returns-in-Ok-clause-found : goal.returns-in-Ok-clause-found
returns-in-Ok-clause-found c clean =
    let empty : memory_bytes (inner_of c.new-2.result) ≡ [] = rw c.new-2.ensures c.new.ensures.empty in
    let is : memory_bytes (inner_of c.new-3.result) ≡ memory_bytes c.args.db = rw c.new-3.ensures refl in
    found_alone _ c.in-Ok.conn (memory_bytes c.args.db) empty is (c.in-Ok.ensures.found clean)
