-- Clashes that are answered by a list of wishes and seen where one stops (profile of this project).
use Rattle.std.specs.Prelude.{◌≡◌, ◌⊎◌, ◌++◌, ℕ, List, Option, Some, None, Result, Ok, Err, codes}
use Rattle.cs_conflict.specs.declared.clash.Clash.{Clash}
use Rattle.cs_conflict.specs.declared.wish.Wish.{Wish}
use Rattle.cs_conflict.specs.declared.wish.Wish.TheVariants.{Keep, Stop, Take}
use Rattle.cs_conflict.specs.wish_list.Wished.{IsWished}
use Rattle.cs_exchange.specs.declared.pulling.fault.AnswerFault.{AnswerFault}
use Rattle.cs_pending.specs.position.Shows.{ShowsAt}
use Rattle.cs_replica.specs.Answered.{Answers, SaysDevice}
use Rattle.cs_replica.specs.declared.told.Told.{Told}
use Rattle.cs_replica.specs.declared.told.Told.TheVariants.{Confirmed, Ignored, Refused, Stale, Stopped, Taken}
use Rattle.cs_replica.specs.Step.{Member}
use Rattle.cs_store.specs.Calls.{MoreFailures}
use Rattle.cs_store.specs.Contents.{Contents}
use Rattle.cs_text.specs.Text.{line}
use Rattle.cs_value.specs.declared.catalog.TableDef.{TableDef}
use Rattle.cs_wire.specs.Answers.{FitsAnswer, answer_spelling}
use Rattle.cs_wire.specs.declared.answer.Answer.{Answer}
use Rattle.cs_node_lines.specs.told.Clash.{clash_text}
use Rattle.cs_node_lines.specs.told.Told.{told_text}
use Rattle.cs_node_lines.specs.working.LineStep.{TakesNone}
use Rattle.cs_node_lines.specs.working.Texts.{heard_text}

-- the wishes that are left, and the clash at which one stopped, if one did
pub record Seeing : Type 0 where
  pub wishes : List Wish
  pub seen : Option Clash

-- what is seen behind a wish at a clash
abbrev pub seen_by : Wish → Clash → Option Clash → Option Clash
seen_by Keep clash seen = seen
seen_by Take clash seen = seen
seen_by Stop clash seen = Some clash

-- the answer to a clash is the next wish, made lawful, and a clash at which it stops is seen
pub record IsSeen (before : Seeing) (clash : Clash) (wish : Wish) (after : Seeing) : Type 0 where
  pub wished : IsWished before.wishes clash wish after.wishes
  pub shown : after.seen ≡ seen_by wish clash before.seen

-- a replica's answer of the hub, by these wishes: what it makes of the replica, what is told of that, and the clash that is seen
pub record HearsSeeing (before : Member) (answer : Answer) (wishes : List Wish) (result : Result Told AnswerFault) (seen : Option Clash) (after : Member) : Type 0 where
  pub left : Contents
  pub unused : List Wish
  pub answers : Answers IsSeen before.tables answer result before.position before.view (record { wishes = wishes; seen = None }) after.tables after.position left (record { wishes = unused; seen = seen })
  pub shows : ShowsAt after.tables left after.position after.view

-- what became of an answer; where a wish stopped, also at what
abbrev pub seen_text : List TableDef → Result Told AnswerFault → Option Clash → ℕ → List ℕ
seen_text tables (Ok (Confirmed newest)) seen version = heard_text (Ok (Confirmed newest)) version
seen_text tables (Ok Ignored) seen version = heard_text (Ok Ignored) version
seen_text tables (Ok (Stale newest)) seen version = heard_text (Ok (Stale newest)) version
seen_text tables (Ok (Refused code)) seen version = heard_text (Ok (Refused code)) version
seen_text tables (Ok (Taken count)) seen version = heard_text (Ok (Taken count)) version
seen_text tables (Ok (Stopped count)) (Some clash) version = line (told_text (Stopped count) version ++ codes " " ++ clash_text tables clash)
seen_text tables (Ok (Stopped count)) None version = heard_text (Ok (Stopped count)) version
seen_text tables (Err fault) seen version = heard_text (Err fault) version

-- a wish stopped, and memory was refused for the text of the clash
abbrev pub lacking_text : ℕ → ℕ → List ℕ
lacking_text count version = line (told_text (Stopped count) version ++ codes " clash Memory")

-- the text of what became of an answer, but where memory was refused for a clash's
abbrev pub IsSeenText : List TableDef → Result Told AnswerFault → Option Clash → ℕ → List ℕ → Type 0
IsSeenText tables result seen version text =
    (text ≡ seen_text tables result seen version)
    ⊎ ((count : ℕ) × (result ≡ Ok (Stopped count)) × (text ≡ lacking_text count version))

-- an answer is taken, and what became of it is printed, with what a wish stopped at; or nothing was told
abbrev pub SeesAnswer : List TableDef → ℕ → ℕ → Member → List ℕ → List Wish → List ℕ → Member → Type 0
SeesAnswer tables had has before bytes wishes text after =
    ((answer : Answer) × (result : Result Told AnswerFault) × (seen : Option Clash) × FitsAnswer answer × (bytes ≡ answer_spelling answer)
    × HearsSeeing before answer wishes result seen after × (SaysDevice result → MoreFailures had has)
    × IsSeenText tables result seen after.position.version text)
    ⊎ TakesNone before bytes text after
