-- A replica that stands on a log (profile of this project).
use Rattle.std.specs.Prelude.{◌≤◌, List, length}
use Rattle.cs_normal.specs.State.{AreSame}
use Rattle.cs_store.specs.log.Log.{tables_at}
use Rattle.cs_store.specs.declared.log.entry.LogEntry.{LogEntry}
use Rattle.cs_pending.specs.View.{View}
use Rattle.cs_pending.specs.position.Shows.{base}
use Rattle.cs_pending.specs.declared.position.position.Position.{Position}

-- its version is one of the log's. Its rows are the log's tables there, once what is pending and what is under way are taken back
pub record StandsOn (log : List LogEntry) (position : Position) (view : View) : Type 0 where
  pub within : position.version ≤ length log
  pub on_tables : AreSame (tables_at log position.version) (base position.flight view)
