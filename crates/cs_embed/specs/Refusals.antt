-- Why nothing is handed over: what is told first of a call, and beside it what holds.
use Rattle.std.specs.Prelude.{◌≡◌, ◌≢◌, ℕ, ◌⊎◌, ◌-◌, ◌^◌, List, None, Some}
use Rattle.cs_node_lines.specs.asks.Reading.{IsReadFault}
use Rattle.cs_node_lines.specs.declared.asks.fault.ReadFault.TheVariants.{Line}
use Rattle.cs_value.specs.declared.catalog.TableDef.{TableDef}
use Rattle.cs_embed.specs.Answers.{bad_id, damaged, device, mismatch, no_memory, no_tables, unread}
use Rattle.cs_embed.specs.Tables.{DeclareNone, DeclareTables}
use Rattle.cs_embed.specs.declared.answer.Answer.{Answer}

-- a file is refused by one of these numbers
abbrev pub IsFileRefusal : Answer → Type 0
IsFileRefusal owed = (owed ≡ no_memory) ⊎ ((owed ≡ damaged) ⊎ ((owed ≡ device) ⊎ (owed ≡ mismatch)))

-- the line of this number, from 1 on, is the first of these that can't be read
abbrev pub IsUnread : List TableDef → List ℕ → ℕ → Type 0
IsUnread tables lines number = IsReadFault tables ⊥ (Some lines) None (Line number)

-- and lines over it by one of them, or for the first line that can't be read
abbrev pub IsLineRefusal : List TableDef → List ℕ → Answer → Type 0
IsLineRefusal tables lines owed = ((number : ℕ) × (owed ≡ unread number) × IsUnread tables lines number) ⊎ IsFileRefusal owed

-- the tables are judged before the file
abbrev pub IsHubRefusal : List ℕ → Answer → Type 0
IsHubRefusal declared owed =
    ((owed ≡ no_memory) ⊎ ((owed ≡ no_tables) × DeclareNone declared))
    ⊎ ((tables : List TableDef) × DeclareTables declared tables × IsFileRefusal owed)

-- the id is judged before the tables, and they before the lines
abbrev pub IsNodeRefusal : List ℕ → ℕ → List ℕ → Answer → Type 0
IsNodeRefusal declared id lines owed =
    ((id ≡ 2 ^ 32 - 1) × (owed ≡ bad_id))
    ⊎ ((id ≢ 2 ^ 32 - 1) × (((owed ≡ no_memory) ⊎ ((owed ≡ no_tables) × DeclareNone declared))
    ⊎ ((tables : List TableDef) × DeclareTables declared tables × IsLineRefusal tables lines owed)))
