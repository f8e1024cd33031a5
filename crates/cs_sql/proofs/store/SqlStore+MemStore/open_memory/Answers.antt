use Rattle.sqlite.proofs.Callers.{memory_is_clean}
use Rattle.cs_sql.proofs.Whole.{only_memory}
use Rattle.cs_sql.proofs.store.SqlStore+MemStore.open_memory.Goals as goal

pub returns-in-Ok-clause-made : goal.returns-in-Ok-clause-made
returns-in-Ok-clause-made c = c.in-Ok.ensures.made (memory_is_clean c.in-Ok.store.conn)

pub returns-clause-memory : goal.returns-clause-memory
returns-clause-memory c =
    only_memory c.in_ok-conn.conn c.in-Err.field-0-0 c.in-Err.fault c.in_ok-conn.ensures.empty c.in_ok-conn.ensures.fresh (λ told. c.in-Err.ensures.cause (memory_is_clean c.in-Err.field-0-0) told)
