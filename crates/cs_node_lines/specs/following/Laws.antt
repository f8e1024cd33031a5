-- The laws of requests that are answered as they come: lines make one list of requests, and each request has one text, and leaves
-- one replica.
use Rattle.std.specs.Prelude.{◌≡◌, ◌⊎◌, ℕ, List, Option, Result}
use Rattle.std.specs.List.{AllByRecursion}
use Rattle.cs_conflict.specs.declared.clash.Clash.{Clash}
use Rattle.cs_conflict.specs.declared.wish.Wish.{Wish}
use Rattle.cs_exchange.specs.declared.pulling.fault.AnswerFault.{AnswerFault}
use Rattle.cs_replica.specs.Step.{Hears, Member}
use Rattle.cs_replica.specs.Same.{IsSameMember, IsShown}
use Rattle.cs_replica.specs.declared.told.Told.{Told}
use Rattle.cs_value.specs.Catalog.{AreTables}
use Rattle.cs_value.specs.declared.catalog.TableDef.{TableDef}
use Rattle.cs_wire.specs.declared.answer.Answer.{Answer}
use Rattle.cs_node_lines.specs.following.FollowStep.{FollowStep}
use Rattle.cs_node_lines.specs.following.Requests.{AreRequests}
use Rattle.cs_node_lines.specs.following.Seen.{HearsSeeing, lacking_text}
use Rattle.cs_node_lines.specs.working.Laws.{SaysRefused}
use Rattle.cs_node_lines.specs.working.LineStep.{InTurn}

-- lines make requests, and one list of them
abbrev pub OneListOfRequests : Type 0
OneListOfRequests =
    (lines : List (List ℕ)) (some other : List (List (List ℕ))) (part rest : List (List ℕ))
    → AreRequests lines some part
    → AreRequests lines other rest
    → (some ≡ other) × (part ≡ rest)

abbrev pub SomeListOfRequests : Type 0
SomeListOfRequests = (lines : List (List ℕ)) → (requests : List (List (List ℕ))) × (part : List (List ℕ)) × AreRequests lines requests part

-- what is heard of an answer, with the clash that is seen, is heard by those wishes
abbrev pub SeenIsHeard : Type 0
SeenIsHeard =
    (before after : Member) (answer : Answer) (wishes : List Wish) (result : Result Told AnswerFault) (seen : Option Clash)
    → HearsSeeing before answer wishes result seen after
    → Hears before answer wishes result after

-- the text says nothing of its request, or nothing of the clash at which a wish stopped, for which memory was refused
abbrev pub SaysNothing : List ℕ → Type 0
SaysNothing text = SaysRefused text ⊎ ((count : ℕ) × (version : ℕ) × (text ≡ lacking_text count version))

-- a request has one text at the same replica, and leaves the same replica: but where its text says nothing of it
abbrev pub OneFollowStep : Type 0
OneFollowStep =
    (tables : List TableDef) (asked : List (List ℕ)) (some other : List ℕ) (had has its_had its_has : ℕ) (before its one last : Member)
    → AreTables before.tables
    → IsShown before
    → IsShown its
    → IsSameMember before its
    → (SaysNothing some → ⊥)
    → (SaysNothing other → ⊥)
    → FollowStep tables had has before asked some one
    → FollowStep tables its_had its_has its asked other last
    → (some ≡ other) × IsSameMember one last

-- so do requests one behind another, where no text says nothing
abbrev pub OneFollowRun : Type 0
OneFollowRun =
    (tables : List TableDef) (requests : List (List (List ℕ))) (some other : List (List ℕ)) (had has its_had its_has : ℕ) (before its one last : Member)
    → AreTables before.tables
    → IsShown before
    → IsShown its
    → IsSameMember before its
    → AllByRecursion (λ (text : List ℕ). SaysNothing text → ⊥) some
    → AllByRecursion (λ (text : List ℕ). SaysNothing text → ⊥) other
    → InTurn (FollowStep tables) had has before requests some one
    → InTurn (FollowStep tables) its_had its_has its requests other last
    → (some ≡ other) × IsSameMember one last
