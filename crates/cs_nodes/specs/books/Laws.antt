-- The laws of what books answer.
use Rattle.std.specs.Prelude.{◌≡◌, ℕ, List}
use Rattle.cs_value.specs.Catalog.{AreTables}
use Rattle.cs_value.specs.declared.catalog.TableDef.{TableDef}
use Rattle.cs_store.specs.declared.log.entry.LogEntry.{LogEntry}
use Rattle.cs_nodes.specs.books.Answers.{AnswersKnown}

-- on one list of entries a request has one answer, however far the books that give it have come
abbrev pub OneKnownAnswer : Type 0
OneKnownAnswer =
    (limit : ℕ) (tables : List TableDef) (known : List LogEntry) (taken others : ℕ) (request answer other : List ℕ)
    → AreTables tables
    → AnswersKnown limit tables known taken request answer
    → AnswersKnown limit tables known others request other
    → answer ≡ other
