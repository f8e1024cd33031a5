-- What is told of lines that are worked over the store in the bytes that are handed in, and what those hold that are handed over.
use Rattle.std.specs.Prelude.{◌≡◌, ℕ, List, Some, flat_map}
use Rattle.cs_lines.specs.Lines.{hex_line}
use Rattle.cs_lines.specs.Served.{AreAllLines}
use Rattle.cs_node_lines.specs.asks.Reading.{AreAllAsks}
use Rattle.cs_node_lines.specs.declared.asks.ask.Ask.{Ask}
use Rattle.cs_node_lines.specs.hub.Endings.{AnsweredOver}
use Rattle.cs_node_lines.specs.working.Endings.{Worked, printed}
use Rattle.cs_node_lines.specs.working.LineStep.{LineStep}
use Rattle.cs_store.specs.declared.store.RowStore.{Ghosts}
use Rattle.cs_value.specs.declared.catalog.TableDef.{TableDef}
use Rattle.cs_embed.specs.Files.{KeepStore, OpenTo}
use Rattle.cs_embed.specs.Tables.{DeclareTables}

module _ {S : Type 0} (g : Ghosts S) (tables : List TableDef) where
  -- the store was opened as the replica with this id. All that was asked was worked on it, with these texts. It was honest to its
  -- last, and that is in the bytes that are left
  pub record WorksAsks (id : ℕ) (asks : List Ask) (store : S) (texts left : List ℕ) : Type 0 where
    pub last : S
    pub honest : g.honest last
    pub each : List (List ℕ)
    pub worked : Worked g tables id LineStep store last asks each
    pub texts_are : texts ≡ printed each
    pub left_is : KeepStore left (g.contents last)

  -- so it was with all lines, of which each could be read, and with the store in the file
  abbrev pub TellsNode : ℕ → List ℕ → List ℕ → List ℕ → List ℕ → Type 0
  TellsNode id file lines texts left =
      (asks : List Ask) × AreAllAsks tables (Some lines) asks
      × (store : S) × OpenTo file (g.contents store) × WorksAsks id asks store texts left

  -- the store in the file was opened as a hub, and all lines were answered by it, with these texts. It was honest to its last,
  -- and that is in the bytes that are left
  pub record TellsHub (file lines texts left : List ℕ) : Type 0 where
    pub store : S
    pub last : S
    pub opened : OpenTo file (g.contents store)
    pub honest : g.honest last
    pub requests : List (List ℕ)
    pub answers : List (List ℕ)
    pub read : AreAllLines (Some lines) requests
    pub answered : AnsweredOver g tables store last requests answers
    pub texts_are : texts ≡ flat_map hex_line answers
    pub left_is : KeepStore left (g.contents last)

module _ {S : Type 0} (g : Ghosts S) (declared : List ℕ) where
  -- the bytes declare tables, and lines of a replica of them were worked so over a file
  abbrev pub LeavesNode : ℕ → List ℕ → List ℕ → List ℕ → List ℕ → Type 0
  LeavesNode id file lines texts left = (tables : List TableDef) × DeclareTables declared tables × TellsNode g tables id file lines texts left

  -- the same of a hub
  abbrev pub LeavesHub : List ℕ → List ℕ → List ℕ → List ℕ → Type 0
  LeavesHub file lines texts left = (tables : List TableDef) × DeclareTables declared tables × TellsHub g tables file lines texts left
