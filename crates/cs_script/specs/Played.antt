-- What is printed of events (format of this project).
use Rattle.std.specs.Prelude.{◌≡◌, ℕ, List, [], ◌∷◌, ◌++◌, Option, Some, None, codes, slice_get}
use Rattle.std.specs.Fmt.{decimal}
use Rattle.cs_text.specs.Text.{line}
use Rattle.cs_node_lines.specs.told.Told.{edit_fault_text, fault_text, open_fault_text, push_fault_text, told_text}
use Rattle.cs_world.specs.Steps.{Step, receiver}
use Rattle.cs_world.specs.World.{Member, World}
use Rattle.cs_world.specs.declared.event.Event.{Event}
use Rattle.cs_world.specs.declared.event.Event.TheVariants.{AskCatch, AskPull, AskWiden, Deliver, MakePush, OnEdit, Resend, Restart}
use Rattle.cs_world.specs.declared.outcome.Outcome.{Outcome}
use Rattle.cs_world.specs.declared.outcome.Outcome.TheVariants.{Done, Heard, Memory, NoMessage, NoReplica, NotEdited, NotHeard, NotPushed, NotReloaded, Sent}

-- what an event came to; a replica that was told something is at this version then
abbrev pub outcome_text : Outcome → ℕ → List ℕ
outcome_text Done version = codes "ok"
outcome_text (Sent number) version = codes "sent " ++ decimal number
outcome_text (Heard told) version = told_text told version
outcome_text NoReplica version = codes "refused NoReplica"
outcome_text NoMessage version = codes "refused NoMessage"
outcome_text (NotEdited fault) version = codes "refused " ++ edit_fault_text fault
outcome_text (NotPushed fault) version = codes "refused " ++ push_fault_text fault
outcome_text (NotHeard fault) version = fault_text fault
outcome_text (NotReloaded fault) version = codes "refused " ++ open_fault_text fault
outcome_text Memory version = codes "refused Memory"

-- the version of a replica, 0 where there is none
abbrev pub version_of : Option Member → ℕ
version_of (Some member) = member.position.version
version_of None = 0

abbrev pub version_at : World → Option ℕ → ℕ
version_at world (Some r) = version_of (slice_get world.members r)
version_at world None = 0

-- the version of the replica that an event told something
abbrev pub version_told : World → Event → ℕ
version_told world (Deliver k wishes) = version_at world (receiver (slice_get world.messages k))
version_told world (OnEdit r edit) = 0
version_told world (MakePush r) = 0
version_told world (Resend r) = 0
version_told world (AskPull r limit) = 0
version_told world (AskCatch r limit) = 0
version_told world (AskWiden wider) = 0
version_told world (Restart r) = 0

-- the events were made, one after another, and each is told on a line of its own
abbrev pub Plays : ℕ → World → List Event → List ℕ → World → Type 0
Plays limit old [] text new = (new ≡ old) × (text ≡ [])
Plays limit old (event ∷ events) text new =
    (outcome : Outcome) × (between : World) × (rest : List ℕ)
    × Step limit old event outcome between
    × Plays limit between events rest new
    × (text ≡ line (outcome_text outcome (version_told between event)) ++ rest)
