-- Several edits that are one request and one commit (profile of this project).
use Rattle.std.specs.Prelude.{◌≡◌, ◌==◌, ◌+◌, if◌then◌else◌, ℕ, List, [], ◌∷◌, ◌++◌, Option, Some, None, Result, Ok, Err, codes, length}
use Rattle.std.specs.Fmt.{decimal}
use Rattle.cs_pending.specs.declared.fault.EditsFault.{EditsFault}
use Rattle.cs_pending.specs.declared.fault.EditsFault.TheVariants.{Device, Memory, Refused}
use Rattle.cs_replica.specs.Step.{AreEditedTo, Member}
use Rattle.cs_store.specs.Calls.{MoreFailures}
use Rattle.cs_value.specs.declared.catalog.TableDef.{TableDef}
use Rattle.cs_value.specs.declared.edit.Edit.{Edit}
use Rattle.cs_node_lines.specs.asks.Asked.{ask_in}
use Rattle.cs_node_lines.specs.declared.asks.ask.Ask.{Ask}
use Rattle.cs_node_lines.specs.declared.asks.ask.Ask.TheVariants as ask
use Rattle.cs_node_lines.specs.told.Told.{edit_fault_text}
use Rattle.cs_node_lines.specs.working.Texts.{ok_text, refused_text, unread_text}

-- the edit that is asked for, where it is one
abbrev pub edit_asked : Option Ask → Option Edit
edit_asked None = None
edit_asked (Some (ask.OnEdit edit)) = Some edit
edit_asked (Some ask.Push) = None
edit_asked (Some ask.Resend) = None
edit_asked (Some (ask.Pull limit)) = None
edit_asked (Some (ask.Catch limit)) = None
edit_asked (Some (ask.Answer bytes wishes)) = None
edit_asked (Some ask.Dump) = None

abbrev pub in_front : Option Edit → Option (List Edit) → Option (List Edit)
in_front (Some edit) (Some edits) = Some (edit ∷ edits)
in_front (Some edit) None = None
in_front None edits = None

-- the edits of lines, where each is the line of one
abbrev pub edits_in : List TableDef → List (List ℕ) → Option (List Edit)
edits_in tables [] = Some []
edits_in tables (line ∷ lines) = in_front (edit_asked (ask_in tables line)) (edits_in tables lines)

-- the same where they are so many
abbrev pub all_edits_in : List TableDef → ℕ → List (List ℕ) → Option (List Edit)
all_edits_in tables count lines = if length lines == count then edits_in tables lines else None

-- what is printed of them; of the first that is refused its number, from 1 on
abbrev pub all_edited_text : Result (Unit {0}) EditsFault → List ℕ
all_edited_text (Ok done) = ok_text
all_edited_text (Err Memory) = refused_text (codes "Memory")
all_edited_text (Err Device) = refused_text (codes "Device")
all_edited_text (Err (Refused at fault)) = refused_text (decimal (at + 1) ++ codes " " ++ edit_fault_text fault)

-- all are made, or none, and this is printed
abbrev pub EditsStep : ℕ → ℕ → Member → List Edit → List ℕ → Member → Type 0
EditsStep had has before edits text after =
    (result : Result (Unit {0}) EditsFault) × AreEditedTo edits result before after
    × (result ≡ Err Device → MoreFailures had has) × (text ≡ all_edited_text result)

-- so it is with what can be read; else nothing is done
abbrev pub ReadEditsStep : ℕ → ℕ → Member → Option (List Edit) → List ℕ → Member → Type 0
ReadEditsStep had has before (Some edits) text after = EditsStep had has before edits text after
ReadEditsStep had has before None text after = (after ≡ before) × (text ≡ unread_text)
