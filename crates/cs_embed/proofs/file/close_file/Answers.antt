use Rattle.std.proofs.Common.{subst}
use Rattle.std.specs.Prelude.{IsTrue}
use Rattle.sqlite.specs.Files.{file_state}
use Rattle.sqlite.specs.State.{HasCleanDisk}
use Rattle.sqlite_disk.specs.Memory.{memory_bytes}
use Rattle.cs_embed.specs.Files.{HoldTrees}
use Rattle.cs_embed.specs.Watched.{inner_of}
use Rattle.cs_embed.proofs.Filed.{if_ok, if_ok_all, kept_store}
use Rattle.cs_embed.proofs.file.close_file.Goals as goal

pub returns-clause-clean : goal.returns-clause-clean
returns-clause-clean c = if_ok c.disconnect.result (λ file is. subst (λ conn. HasCleanDisk (file_state conn)) c.close.ensures.same is) c.disconnect.ensures.clean

pub returns-clause-was_open : goal.returns-clause-was_open
returns-clause-was_open c = if_ok c.disconnect.result (λ file is. subst (λ conn. IsTrue (file_state conn).is_open) c.close.ensures.same is) c.disconnect.ensures.was_open

pub returns-clause-left : goal.returns-clause-left
returns-clause-left c =
    if_ok c.disconnect.result (λ file is. subst (λ conn. HoldTrees (memory_bytes (inner_of file)) (file_state conn).committed.trees) c.close.ensures.same is) c.disconnect.ensures.left

pub returns-clause-holds : goal.returns-clause-holds
returns-clause-holds c =
    if_ok_all c.disconnect.result (λ file clean was_open trees. kept_store _ _ (file_state c.close.result) trees (c.close.ensures.shows clean was_open)) c.disconnect.ensures.clean c.disconnect.ensures.was_open c.disconnect.ensures.left
