-- What the closures answer.
use Rattle.std.specs.Prelude.{Option, Some, None, length, nat_lt, if◌then◌else◌}
use Rattle.cs_value.specs.Key.{Place}
use Rattle.cs_record.specs.Spelling.{row_bytes}
use Rattle.cs_change.specs.Action.{Action, Updates}
use Rattle.cs_conflict.specs.declared.kind.Kind.{Kind}
use Rattle.cs_conflict.specs.declared.kind.Kind.TheVariants.{NotFound}
use Rattle.cs_conflict.specs.declared.conflict.Resolution.{Resolution}
use Rattle.cs_conflict.specs.declared.conflict.Resolution.TheVariants.{Omit, Replace, Abort}

-- the remote change is made wherever there is a row
abbrev pub by_kind : Kind → Resolution
by_kind NotFound = Omit
by_kind _ = Replace

-- a row of more than 1,000 bytes stops it
abbrev pub by_row : Place → Resolution
by_row None = Omit
by_row (Some row) = if nat_lt 1000 (length (row_bytes row)) then Abort else Replace

-- where the local change put or took the row, it stays
abbrev pub over : Option Action → Kind → Resolution
over (Some (Updates old new)) NotFound = Abort
over (Some (Updates old new)) kind = Replace
over local kind = Omit
