-- What a request makes of a replica that answers each as it comes, and what is printed of it (profile of this project).
use Rattle.std.specs.Prelude.{◌≡◌, ◌⊎◌, ℕ, Bool, true, false, List, [], ◌∷◌, Option, Some, None, codes}
use Rattle.std.specs.List.{list_any}
use Rattle.std.specs.Str.{bytes_eq}
use Rattle.cs_normal.specs.Normal.{groups_of}
use Rattle.cs_normal.specs.State.{State}
use Rattle.cs_normal.specs.keyed.Changes.{key_bytes}
use Rattle.cs_pending.specs.declared.outgoing.gathering.Outgoing.{Outgoing}
use Rattle.cs_pending.specs.declared.outgoing.gathering.Outgoing.TheVariants.{Changes, Nothing, TooLarge}
use Rattle.cs_pending.specs.outgoing.Outgoing.{IsOutgoing}
use Rattle.cs_pending.specs.rows.Rows.{AreRowsOf}
use Rattle.cs_replica.specs.Step.{Member}
use Rattle.cs_text.specs.Text.{changeset_text, line, tables_text}
use Rattle.cs_value.specs.Key.{Place}
use Rattle.cs_value.specs.declared.catalog.TableDef.{TableDef}
use Rattle.cs_value.specs.declared.value.Value.{Value}
use Rattle.cs_node_lines.specs.asks.Asked.{ask_in}
use Rattle.cs_node_lines.specs.asks.Looked.{look_in}
use Rattle.cs_node_lines.specs.asks.Several.{several_in}
use Rattle.cs_node_lines.specs.declared.asks.ask.Ask.{Ask}
use Rattle.cs_node_lines.specs.declared.asks.ask.Ask.TheVariants.{Answer, Catch, Dump, OnEdit, Pull, Push, Resend}
use Rattle.cs_node_lines.specs.declared.asks.look.Look.{Look}
use Rattle.cs_node_lines.specs.declared.asks.look.Look.TheVariants as look
use Rattle.cs_node_lines.specs.following.Seen.{SeesAnswer}
use Rattle.cs_node_lines.specs.following.Several.{ReadEditsStep, all_edits_in}
use Rattle.cs_node_lines.specs.told.Dump.{replica_text, rows_text}
use Rattle.cs_node_lines.specs.working.LineStep.{LineStep, ReadsNone, SaysMemory}
use Rattle.cs_node_lines.specs.working.Texts.{refused_text, unread_text}

-- ---- what is shown

-- a table has this name
abbrev pub has_table : List TableDef → List ℕ → Bool
has_table tables name = list_any (λ table. bytes_eq table.name name) tables

-- the rows of the table with this name, if there is one
abbrev pub TellsRows : Bool → State → List ℕ → List ℕ → Type 0
TellsRows true state name text = (rows : List (List ℕ × List Value)) × AreRowsOf (state name) rows × (text ≡ rows_text name rows)
TellsRows false state name text = text ≡ refused_text (codes "NoTable")

-- a row behind the bytes of its key, if there is one
abbrev pub behind_key : List ℕ → Place → List (List ℕ × List Value)
behind_key key None = []
behind_key key (Some row) = (key, row) ∷ []

-- the row with this key, where the table has one
abbrev pub row_told : Bool → State → List ℕ → List ℕ → List ℕ
row_told true state name key = rows_text name (behind_key key (state name key))
row_told false state name key = refused_text (codes "NoTable")

-- what is pending, as a changeset
abbrev pub outgoing_text : Outgoing → List ℕ
outgoing_text Nothing = []
outgoing_text TooLarge = refused_text (codes "TooLarge")
outgoing_text (Changes changes) = changeset_text (groups_of changes)

-- one case a line that only looks
abbrev pub Shown : Member → Look → List ℕ → Type 0
Shown member look.Place text = text ≡ line (replica_text member.position.id member.position)
Shown member look.Tables text = text ≡ tables_text member.tables
Shown member (look.Rows name) text = TellsRows (has_table member.tables name) member.view.tables name text
Shown member (look.Row name key) text = text ≡ row_told (has_table member.tables name) member.view.tables name (key_bytes key)
Shown member look.Pending text = (outgoing : Outgoing) × IsOutgoing member.tables member.view.pending outgoing × (text ≡ outgoing_text outgoing)

abbrev pub LookStep : ℕ → ℕ → Member → Look → List ℕ → Member → Type 0
LookStep had has before asked text after = (after ≡ before) × (Shown before asked text ⊎ ReadsNone had has text)

-- ---- what is done

-- a line of a node, where an answer tells also at what a wish stopped. `tables` are those that were handed: their names are told, and
-- their key columns are known. The replica's own may have more columns, none of them in the key
abbrev pub AskStep : List TableDef → ℕ → ℕ → Member → Ask → List ℕ → Member → Type 0
AskStep tables had has before (OnEdit edit) text after = LineStep had has before (OnEdit edit) text after
AskStep tables had has before Push text after = LineStep had has before Push text after
AskStep tables had has before Resend text after = LineStep had has before Resend text after
AskStep tables had has before (Pull limit) text after = LineStep had has before (Pull limit) text after
AskStep tables had has before (Catch limit) text after = LineStep had has before (Catch limit) text after
AskStep tables had has before (Answer bytes wishes) text after = SeesAnswer tables had has before bytes wishes text after
AskStep tables had has before Dump text after = LineStep had has before Dump text after

-- what a line asks is done, or shown; or it can't be read, and nothing is done
abbrev pub ReadStep : List TableDef → ℕ → ℕ → Member → Option Ask → Option Look → List ℕ → Member → Type 0
ReadStep tables had has before (Some ask) look text after = AskStep tables had has before ask text after
ReadStep tables had has before None (Some look) text after = LookStep had has before look text after
ReadStep tables had has before None None text after = (after ≡ before) × (text ≡ unread_text)

-- what a request makes of a replica by its first line, and the lines behind that, where it says how many come
abbrev pub RequestStep : List TableDef → ℕ → ℕ → Member → Option ℕ → List ℕ → List (List ℕ) → List ℕ → Member → Type 0
RequestStep tables had has before None first more text after = ReadStep tables had has before (ask_in tables first) (look_in first) text after
RequestStep tables had has before (Some count) first more text after = ReadEditsStep had has before (all_edits_in tables count more) text after

-- what a request, in lines without their line feeds, makes of a replica, and its text; or memory was refused, and nothing is done
abbrev pub FollowStep : List TableDef → ℕ → ℕ → Member → List (List ℕ) → List ℕ → Member → Type 0
FollowStep tables had has before [] text after = ⊥
FollowStep tables had has before (first ∷ more) text after =
    RequestStep tables had has before (several_in first) first more text after ⊎ ((after ≡ before) × SaysMemory text)
