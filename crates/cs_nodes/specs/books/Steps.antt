-- What single steps of a book come to: no definition that a public clause cites.
use Rattle.std.specs.Prelude.{◌≡◌, ◌≢◌, ◌⊎◌, ℕ, List, [], ◌∷◌, ◌++◌, Result, Ok, Err}
use Rattle.cs_value.specs.declared.catalog.TableDef.{TableDef}
use Rattle.cs_store.specs.declared.log.entry.LogEntry.{LogEntry}
use Rattle.cs_hub.specs.judgement.Judged.{hub_of}
use Rattle.cs_hub.specs.Serves.{Serves}
use Rattle.cs_hub.specs.declared.follow_fault.FollowFault.{FollowFault}
use Rattle.cs_hub.specs.declared.follow_fault.FollowFault.TheVariants.{Undefined}
use Rattle.cs_nodes.specs.books.Answers.{IsStuckAt, device_answer, stuck_answer}

-- it has taken all that fits, and no store failed in this
abbrev pub IsFinished : Result (Unit {0}) FollowFault → Type 0
IsFinished (Ok done) = Unit {0}
IsFinished (Err Undefined) = Unit {0}
IsFinished (Err fault) = ⊥

-- it doesn't go on, and that is told
abbrev pub Halts : Type 0 → List TableDef → List LogEntry → ℕ → List ℕ → Type 0
Halts device_failed tables known taken answer =
    (IsStuckAt tables known taken × (answer ≡ stuck_answer)) ⊎ (device_failed × (answer ≡ device_answer))

-- a request that a hub would have answered by appending, of which another entry came first
pub record CameLater (limit : ℕ) (tables : List TableDef) (known : List LogEntry) (request : List ℕ) : Type 0 where
  pub before : List LogEntry
  pub entry : LogEntry
  pub held : LogEntry
  pub reply : List ℕ
  pub judged : Serves limit (hub_of tables before) request reply (hub_of tables (before ++ entry ∷ []))
  pub learned : known ≡ before ++ held ∷ []
  pub another : held ≢ entry
