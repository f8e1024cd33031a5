-- A request that is judged by a hub, which stays as it is. (Profile of this project.)
use Rattle.std.specs.Prelude.{◌≡◌, ◌+◌, ◌<◌, ◌≤◌, ℕ, List, ◌∷◌, [], ◌++◌}
use Rattle.cs_value.specs.declared.catalog.TableDef.{TableDef}
use Rattle.cs_store.specs.declared.log.entry.LogEntry.{LogEntry}
use Rattle.cs_store.specs.Contents.{Contents}
use Rattle.cs_store.specs.declared.store.RowStore.{Ghosts}
use Rattle.cs_hub.specs.appending.Appended.{AppendsEntry}
use Rattle.cs_hub.specs.judgement.Judged.{hub_of}
use Rattle.cs_hub.specs.log_store.Versions.{Versions}
use Rattle.cs_hub.specs.Follows.{FitsBehind}
use Rattle.cs_hub.specs.Holding.{Holding, Shows}
use Rattle.cs_hub.specs.Serves.{Serves, ServesIf}
use Rattle.cs_wire.specs.Answers.{answer_spelling}
use Rattle.cs_wire.specs.declared.answer.Answer.TheVariants.{Short}
use Rattle.cs_wire.specs.declared.short_answer.ShortAnswer.TheVariants.{Accepted}
use Rattle.cs_hub.specs.declared.judged.Judged.{Judged}
use Rattle.cs_hub.specs.declared.judged.Judged.TheVariants.{Reply, Append}

-- what a hub with this log is to answer a request: these bytes, or that reply once an entry is appended. The entry fits behind the
-- log
abbrev pub IsJudged : Type 0 → ℕ → List TableDef → List LogEntry → List ℕ → Judged → Type 0
IsJudged device_failed limit opening log request (Reply answer) =
    ServesIf device_failed limit (hub_of opening log) request answer.items (hub_of opening log)
IsJudged device_failed limit opening log request (Append entry batch reply) =
    FitsBehind opening log entry × Serves limit (hub_of opening log) request reply.items (hub_of opening (log ++ entry ∷ []))

-- where an entry is to be appended behind so many, there is room for it
abbrev pub HasRoom : ℕ → ℕ → Judged → Type 0
HasRoom count limit (Reply answer) = Unit {0}
HasRoom count limit (Append entry batch reply) = count < limit

-- its reply tells that the push is accepted as the next version
abbrev pub AcceptsNext : ℕ → Judged → Type 0
AcceptsNext count (Reply answer) = Unit {0}
AcceptsNext count (Append entry batch reply) =
    reply.items ≡ answer_spelling (Short (Accepted entry.origin entry.number (count + 1)))

-- and a commit of its batch to these contents appends it
abbrev pub AppendsJudged : Versions → Contents → Judged → Type 0
AppendsJudged versions contents (Reply answer) = Unit {0}
AppendsJudged versions contents (Append entry batch reply) = AppendsEntry versions entry contents batch

-- the hub's store was only read, whatever was told, and the hub is as it was
pub record ReadsHub {S : Type 0} (g : Ghosts S) (old new : Holding S) : Type 0 where
  pub catalog : new.catalog ≡ old.catalog
  pub newest : new.newest ≡ old.newest
  pub widens : new.widens ≡ old.widens
  pub was_honest : g.honest new.store → g.honest old.store
  pub same : g.honest new.store → g.contents new.store ≡ g.contents old.store
  -- a stop now leaves nothing that it could not leave before
  pub crash : g.honest new.store → (left : Contents) → g.may_leave new.store left → g.may_leave old.store left
  pub later : g.failed old.store ≤ g.failed new.store
  -- nothing that can be read is told to be no such thing
  pub as_read : g.honest new.store → (log : List LogEntry) → Shows g.contents old log → g.misreads new.store ≡ g.misreads old.store
