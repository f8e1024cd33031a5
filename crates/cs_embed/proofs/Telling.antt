-- What was told of lines, where all of them were worked.
use Rattle.std.proofs.Common.{◌≡◌, ℕ, List, [], ◌++◌, Ok, subst}
use Rattle.std.specs.Prelude.{⊤, Option, Some, Result, flat_map}
use Rattle.cs_lines.specs.Lines.{hex_line}
use Rattle.cs_node_lines.specs.declared.asks.ask.Ask.{Ask}
use Rattle.cs_node_lines.specs.declared.hub.fault.ServingFault.{ServingFault}
use Rattle.cs_node_lines.specs.declared.working.fault.NodeFault.{NodeFault}
use Rattle.cs_node_lines.specs.hub.Endings.{EndsAnswered, EndsServingOn}
use Rattle.cs_node_lines.specs.working.Endings.{EndsWorking, printed}
use Rattle.cs_store.specs.declared.store.RowStore.{Ghosts}
use Rattle.cs_value.specs.declared.catalog.TableDef.{TableDef}
use Rattle.cs_embed.specs.Files.{KeepStore, OpenTo}
use Rattle.cs_embed.specs.Told.{TellsHub, WorksAsks}

pub asks_told : {S : Type 0} (g : Ghosts S) (tables : List TableDef) (id : ℕ) (asks : List Ask) (store last : S) (failed : Type 0) (before texts : List ℕ) (result : Result ⊤ NodeFault) (done : ⊤)
    → (left : List ℕ) → before ≡ [] → result ≡ Ok done → g.honest last → KeepStore left (g.contents last) → EndsWorking g tables id asks store last failed (Some before) (Some texts) result
    → WorksAsks g tables id asks store texts left
asks_told g tables id asks store last failed before texts result done left empty is honest left_is ends =
    let so : EndsWorking g tables id asks store last failed (Some before) (Some texts) (Ok done) = subst (λ (r : Result ⊤ NodeFault). EndsWorking g tables id asks store last failed (Some before) (Some texts) r) is ends in
    record { last = last; honest = honest; each = so.0; worked = so.1; texts_are = subst (λ (bytes : List ℕ). texts ≡ bytes ++ printed so.0) empty so.2; left_is = left_is }

pub hub_told : {S : Type 0} (g : Ghosts S) (tables : List TableDef) (store last : S) (lines : List ℕ) (left : Option (List ℕ)) (read_failed failed : Type 0) (before texts : List ℕ) (result : Result ⊤ ServingFault) (done : ⊤) (file bytes : List ℕ)
    → before ≡ [] → result ≡ Ok done → (g.honest store → OpenTo file (g.contents store)) → g.honest last → KeepStore bytes (g.contents last) → EndsServingOn g tables store last (Some lines) left read_failed failed (Some before) (Some texts) result
    → TellsHub g tables file lines texts bytes
hub_told g tables store last lines left read_failed failed before texts result done file bytes empty is opened honest left_is ends =
    let so : EndsAnswered g tables store last (Some lines) (Some before) (Some texts) = subst (λ (r : Result ⊤ ServingFault). EndsServingOn g tables store last (Some lines) left read_failed failed (Some before) (Some texts) r) is ends in
    record {
      store = store;
      last = last;
      opened = opened (so.3.was_honest honest);
      honest = honest;
      requests = so.0;
      answers = so.1;
      read = so.2;
      answered = so.3;
      texts_are = subst (λ (bytes : List ℕ). texts ≡ bytes ++ flat_map hex_line so.1) empty so.4;
      left_is = left_is;
    }
