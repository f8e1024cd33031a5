-- On the way from a line to a run: no definition that a public clause cites.
use Rattle.std.specs.Prelude.{◌≡◌, ◌≤◌, ⊤, ℕ, List, [], ◌∷◌, ◌++◌, Option, Result, Ok, Err, slice_get, Some}
use Rattle.std.specs.declared.alloc.AllocError.{AllocError}
use Rattle.std.specs.Io.KnownBytes.{Appends, Keeps}
use Rattle.cs_lines.specs.Writing.{AppendsFront}
use Rattle.cs_replica.specs.Step.{Member, Turns}
use Rattle.cs_replica.specs.Holding.{Holding}
use Rattle.cs_normal.specs.State.{State}
use Rattle.cs_pending.specs.rows.Rows.{AreRowsOf}
use Rattle.cs_store.specs.declared.store.RowStore.{Ghosts}
use Rattle.cs_node_lines.specs.told.Dump.{rows_text}
use Rattle.cs_value.specs.declared.catalog.TableDef.{TableDef}
use Rattle.cs_value.specs.declared.value.Value.{Value}
use Rattle.cs_node_lines.specs.working.Endings.{BreaksOff, printed}
use Rattle.cs_node_lines.specs.working.LineStep.{InTurn}
use Rattle.cs_node_lines.specs.working.Replies.{reply_text}
use Rattle.cs_node_lines.specs.declared.working.fault.NodeFault.{NodeFault}
use Rattle.cs_node_lines.specs.declared.working.fault.NodeFault.TheVariants.{Line, Memory, Open, Read, Write}
use Rattle.cs_node_lines.specs.declared.working.reply.Reply.{Reply}

-- the step was made between the store's counts of failures, which didn't fall
pub record Counted {S : Type 0} (g : Ghosts S) (step : ℕ → ℕ → Member → Member → Type 0) (old new : Holding S) : Type 0 where
  pub later : g.failed old.store ≤ g.failed new.store
  pub turns : Turns g (step (g.failed old.store) (g.failed new.store)) old new

-- the reply has the text
abbrev pub Says : Result Reply AllocError → List ℕ → Type 0
Says (Ok reply) text = text ≡ reply_text reply
Says (Err refused) text = Unit {0}

-- the text is printed, or a front of it where the writer failed, or nothing
abbrev pub Prints : Result ⊤ NodeFault → Type 0 → Option (List ℕ) → Option (List ℕ) → List ℕ → Type 0
Prints (Ok done) write_failed old new text = Appends old new text
Prints (Err Memory) write_failed old new text = Keeps old new
Prints (Err Write) write_failed old new text = AppendsFront old new text × write_failed
Prints (Err Read) write_failed old new text = ⊥
Prints (Err (Line number)) write_failed old new text = ⊥
Prints (Err (Open fault)) write_failed old new text = ⊥

-- the lines of the rows of the table with this number stand behind a text
abbrev pub PutsTable : List TableDef → ℕ → State → List ℕ → List ℕ → Type 0
PutsTable tables table state old new =
    (def : TableDef) × (rows : List (List ℕ × List Value)) × (slice_get tables table ≡ Some def)
    × AreRowsOf (state def.name) rows × (new ≡ old ++ rows_text def.name rows)

-- `step` is what is made of a replica by what is asked
module _ {S A : Type 0} (g : Ghosts S) (step : ℕ → ℕ → Member → A → List ℕ → Member → Type 0) where
  -- the step was made with this text
  abbrev pub Stepped : A → List ℕ → Holding S → Holding S → Type 0
  Stepped asked text old new = Counted g (λ had has before after. step had has before asked text after) old new

  -- so were steps one behind another
  abbrev pub AllStepped : List A → List (List ℕ) → Holding S → Holding S → Type 0
  AllStepped asked texts old new = Counted g (λ had has before after. InTurn step had has before asked texts after) old new

  -- the step was made, and this is its reply
  abbrev pub Makes : A → Result Reply AllocError → Holding S → Holding S → Type 0
  Makes asked result old new = (text : List ℕ) × Stepped asked text old new × Says result text

  -- and its text was printed
  abbrev pub Tells : A → Result ⊤ NodeFault → Type 0 → Option (List ℕ) → Option (List ℕ) → Holding S → Holding S → Type 0
  Tells asked result write_failed before after old new =
      (text : List ℕ) × Stepped asked text old new × Prints result write_failed before after text

  -- so it was with all steps, or up to one
  abbrev pub TellsAll : List A → Result ⊤ NodeFault → Type 0 → Option (List ℕ) → Option (List ℕ) → Holding S → Holding S → Type 0
  TellsAll all (Ok done) write_failed before after old new =
      (texts : List (List ℕ)) × AllStepped all texts old new × Appends before after (printed texts)
  TellsAll all (Err fault) write_failed before after old new =
      (done : List A) × (asked : A) × (later : List A) × (texts : List (List ℕ)) × (text : List ℕ)
      × (all ≡ done ++ asked ∷ later) × AllStepped (done ++ asked ∷ []) (texts ++ text ∷ []) old new
      × BreaksOff fault write_failed before after (printed texts) text
