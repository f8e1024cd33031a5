-- What has been read of an input, line by line.
use Rattle.std.proofs.Common.{◌≡◌, ℕ, suc, ◌+◌, List, [], ◌∷◌, ◌++◌, length, sym, refl, ap, ◌∙◌, inl, inr}
use Rattle.std.specs.Prelude.{Option, Some}
use Rattle.std.specs.Io.KnownBytes.{IsAtEnd}
use Rattle.cs_lines.specs.Facts.{first_taken, stays}
use Rattle.cs_lines.specs.Laws.{AllTaken, NoneTaken, OneMoreTaken}
use Rattle.cs_lines.specs.declared.serve.TheConstants.{ASKS}
use Rattle.cs_value.specs.declared.catalog.TableDef.{TableDef}
use Rattle.cs_node_lines.specs.asks.Asked.{ask_in}
use Rattle.cs_node_lines.specs.asks.Reading.{AreAllAsks, AreAsked, AreRead, IsNotTaken, IsReadFault, TakesAsk}
use Rattle.cs_node_lines.specs.declared.asks.ask.Ask.{Ask}
use Rattle.cs_node_lines.specs.declared.asks.fault.ReadFault.{ReadFault}
use Rattle.cs_node_lines.specs.declared.asks.fault.ReadFault.TheVariants.{Line, Memory, Read}

asked_behind : (tables : List TableDef) (lines : List (List ℕ)) (asks : List Ask) (line : List ℕ) (ask : Ask) → AreAsked tables lines asks → ask_in tables line ≡ Some ask
    → AreAsked tables (lines ++ line ∷ []) (asks ++ ask ∷ [])
asked_behind tables [] [] line ask all now = (now, tt)
asked_behind tables [] (a ∷ asks) line ask all now = absurd all
asked_behind tables (l ∷ lines) [] line ask all now = absurd all
asked_behind tables (l ∷ lines) (a ∷ asks) line ask all now = (all.0, asked_behind tables lines asks line ask all.1 now)

asked_count : (tables : List TableDef) (lines : List (List ℕ)) (asks : List Ask) → AreAsked tables lines asks → length lines ≡ length asks
asked_count tables [] [] all = refl
asked_count tables [] (a ∷ asks) all = absurd all
asked_count tables (l ∷ lines) [] all = absurd all
asked_count tables (l ∷ lines) (a ∷ asks) all = ap suc (asked_count tables lines asks all.1)

pub read_none : NoneTaken → (tables : List TableDef) (input : Option (List ℕ)) (asks : List Ask) → asks ≡ [] → AreRead tables input input asks
read_none none tables input asks is = rw is ([], none input, tt)

pub read_more : OneMoreTaken → (tables : List TableDef) (input left after : Option (List ℕ)) (asks now : List Ask) (ask : Ask)
    → now ≡ asks ++ ask ∷ [] → AreRead tables input left asks → TakesAsk tables (Some ask) left after → AreRead tables input after now
read_more more tables input left after asks now ask is so_far took =
    rw is (
      so_far.0 ++ took.0 ∷ [],
      more input left after so_far.0 took.0 so_far.1 took.1,
      asked_behind tables so_far.0 asks took.0 ask so_far.2 took.2,
    )

pub read_all : AllTaken → (tables : List TableDef) (input left : Option (List ℕ)) (asks : List Ask) → AreRead tables input left asks → IsAtEnd left
    → AreAllAsks tables input asks
read_all all tables input left asks so_far end = (so_far.0, all input left so_far.0 so_far.1 end, so_far.2)

pub read_stopped : OneMoreTaken → (tables : List TableDef) (failed : Type 0) (input left after : Option (List ℕ)) (asks : List Ask) (number : ℕ) (fault : ReadFault)
    → AreRead tables input left asks → number ≡ length asks + 1 → IsNotTaken tables number failed left after fault → IsReadFault tables failed input after fault
read_stopped more tables failed input left after asks number Memory so_far count stopped = tt
read_stopped more tables failed input left after asks number Read so_far count stopped =
    (so_far.0, asks, (left, so_far.1, stopped.1), so_far.2, inl stopped.0)
read_stopped more tables failed input left after asks number (Line told) so_far count stopped = (
  so_far.0,
  asks,
  stopped.1.0,
  first_taken input after (so_far.0 ++ stopped.1.0 ∷ []) (more input left after so_far.0 stopped.1.0 so_far.1 stopped.1.1),
  so_far.2,
  stopped.1.2,
  stopped.0 ∙ count ∙ ap (λ n. n + 1) (sym (asked_count tables so_far.0 asks so_far.2)),
)

pub read_without_end : (tables : List TableDef) (failed : Type 0) (input left : Option (List ℕ)) (asks : List Ask) → AreRead tables input left asks → length asks ≡ ASKS
    → IsReadFault tables failed input left Read
read_without_end tables failed input left asks so_far many =
    (so_far.0, asks, (left, so_far.1, stays left), so_far.2, inr (asked_count tables so_far.0 asks so_far.2 ∙ many))
