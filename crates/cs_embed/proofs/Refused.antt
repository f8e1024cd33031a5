-- What is told of a fault is one of the numbers that refuse.
use Rattle.std.proofs.Common.{◌≡◌, ℕ, List, inl, inr, Ok, Err, refl, subst, sym}
use Rattle.std.specs.Prelude.{⊤, Option, Some, Result, IfErr}
use Rattle.cs_node_lines.specs.asks.Reading.{IsReadFault}
use Rattle.cs_node_lines.specs.declared.asks.ask.Ask.{Ask}
use Rattle.cs_node_lines.specs.declared.asks.fault.ReadFault.{ReadFault}
use Rattle.cs_node_lines.specs.declared.asks.fault.ReadFault.TheVariants as reading
use Rattle.cs_node_lines.specs.declared.working.fault.NodeFault.{NodeFault}
use Rattle.cs_node_lines.specs.declared.working.fault.NodeFault.TheVariants as node
use Rattle.cs_node_lines.specs.working.Endings as ending
use Rattle.cs_opening.specs.declared.fault.OpenFault.{OpenFault}
use Rattle.cs_opening.specs.declared.fault.OpenFault.TheVariants as opening
use Rattle.cs_store.specs.declared.store.RowStore.{Ghosts}
use Rattle.cs_value.specs.declared.catalog.TableDef.{TableDef}
use Rattle.cs_embed.specs.Faults.{of_node, of_reading}
use Rattle.cs_embed.specs.Refusals.{IsFileRefusal, IsLineRefusal}

-- lines that can't be read
pub unread_refusal : (tables : List TableDef) (failed : Type 0) (lines : List ℕ) (left : Option (List ℕ)) (fault : ReadFault) → IsReadFault tables failed (Some lines) left fault
    → IsLineRefusal tables lines (of_reading fault)
unread_refusal tables failed lines left reading.Memory is = inr (inl refl)
unread_refusal tables failed lines left reading.Read is = inr (inl refl)
unread_refusal tables failed lines left (reading.Line number) is = inl (number, refl, is)

-- a replica that isn't opened
unopened : (why : OpenFault) → IsFileRefusal (of_node (ending.of_opening why))
unopened opening.Memory = inl refl
unopened opening.Damaged = inr (inl refl)
unopened opening.Device = inr (inr (inl refl))
unopened opening.Mismatch = inr (inr (inr refl))

-- a line of which the text isn't whole
broken : (fault : NodeFault) (failed : Type 0) (old new : Option (List ℕ)) (before text : List ℕ) → ending.BreaksOff fault failed old new before text → IsFileRefusal (of_node fault)
broken node.Memory failed old new before text is = inl refl
broken node.Write failed old new before text is = inl refl
broken node.Read failed old new before text is = absurd is
broken (node.Line number) failed old new before text is = absurd is
broken (node.Open fault) failed old new before text is = absurd is

unworked : {S : Type 0} (g : Ghosts S) (tables : List TableDef) (id : ℕ) (asks : List Ask) (store last : S) (failed : Type 0) (old new : Option (List ℕ)) (fault : NodeFault)
    → ending.EndsWorking g tables id asks store last failed old new (Err fault) → IsFileRefusal (of_node fault)
unworked g tables id asks store last failed old new fault (inl shut) =
    subst (λ (f : NodeFault). IsFileRefusal (of_node f)) (sym shut.1) (unopened shut.0)
unworked g tables id asks store last failed old new fault (inr up) = broken fault failed old new _ _ up.7

-- lines that were read, and not all worked
pub work_refusal : {S : Type 0} (g : Ghosts S) (tables : List TableDef) (id : ℕ) (asks : List Ask) (store last : S) (failed : Type 0) (old new : Option (List ℕ)) (result : Result ⊤ NodeFault) (fault : NodeFault)
    → result ≡ Err fault → ending.EndsWorking g tables id asks store last failed old new result → IsFileRefusal (of_node fault)
work_refusal g tables id asks store last failed old new result fault is ends =
    unworked g tables id asks store last failed old new fault (subst (λ (r : Result ⊤ NodeFault). ending.EndsWorking g tables id asks store last failed old new r) is ends)

-- what follows of each fault follows of a result
pub if_err : {T E : Type 0} {P Q : E → Type 0} (result : Result T E) → ((fault : E) → P fault → Q fault) → IfErr result P → IfErr result Q
if_err (Ok value) follows is = is
if_err (Err fault) follows is = follows fault is
