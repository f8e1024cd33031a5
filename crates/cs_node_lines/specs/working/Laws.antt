-- The laws of lines: each has one text, and leaves one replica.
use Rattle.std.specs.Prelude.{◌≡◌, ◌⊎◌, ℕ, List, Err, codes}
use Rattle.std.specs.List.{AllByRecursion}
use Rattle.cs_node_lines.specs.declared.asks.ask.Ask.{Ask}
use Rattle.cs_replica.specs.Step.{Member}
use Rattle.cs_replica.specs.Same.{IsSameMember, IsShown}
use Rattle.cs_exchange.specs.declared.pulling.fault.AnswerFault.{AnswerFault}
use Rattle.cs_replica.specs.Laws.{IsOfAnswer}
use Rattle.cs_text.specs.Text.{line}
use Rattle.cs_node_lines.specs.told.Told.{fault_text}
use Rattle.cs_value.specs.Catalog.{AreTables}
use Rattle.cs_node_lines.specs.working.LineStep.{InTurn, LineStep, SaysMemory}
use Rattle.cs_node_lines.specs.working.Texts.{refused_text}

-- the text says nothing of its line: that memory was refused or a device failed, of an answer behind so many entries
abbrev pub SaysRefused : List ℕ → Type 0
SaysRefused text =
    SaysMemory text
    ⊎ ((text ≡ refused_text (codes "Device"))
    ⊎ ((fault : AnswerFault) × (IsOfAnswer (Err fault) → ⊥) × (text ≡ line (fault_text fault))))

-- a line has one text at the same replica, and leaves the same replica: but where its text says nothing of it
abbrev pub OneLineStep : Type 0
OneLineStep =
    (ask : Ask) (some other : List ℕ) (had has its_had its_has : ℕ) (before its one last : Member)
    → AreTables before.tables
    → IsShown before
    → IsShown its
    → IsSameMember before its
    → (SaysRefused some → ⊥)
    → (SaysRefused other → ⊥)
    → LineStep had has before ask some one
    → LineStep its_had its_has its ask other last
    → (some ≡ other) × IsSameMember one last

-- so do lines one behind another, where no text says nothing
abbrev pub OneLineRun : Type 0
OneLineRun =
    (asks : List Ask) (some other : List (List ℕ)) (had has its_had its_has : ℕ) (before its one last : Member)
    → AreTables before.tables
    → IsShown before
    → IsShown its
    → IsSameMember before its
    → AllByRecursion (λ (text : List ℕ). SaysRefused text → ⊥) some
    → AllByRecursion (λ (text : List ℕ). SaysRefused text → ⊥) other
    → InTurn LineStep had has before asks some one
    → InTurn LineStep its_had its_has its asks other last
    → (some ≡ other) × IsSameMember one last
