-- The events of a script, line by line.
use Rattle.std.proofs.Common.{◌≡◌, ℕ, ◌+◌, List, [], ◌∷◌, ◌++◌, length, sym, refl, ap, ◌∙◌, inl, inr, arith}
use Rattle.std.specs.Prelude.{Option, Some, None}
use Rattle.cs_lines.specs.Facts.{first_taken, stays, zip_push}
use Rattle.cs_lines.specs.Laws.{AllTaken, NoneTaken, OneMoreTaken}
use Rattle.cs_lines.specs.Reading.{AreTaken}
use Rattle.cs_lines.specs.declared.serve.TheConstants.{ASKS}
use Rattle.cs_value.specs.declared.catalog.TableDef.{TableDef}
use Rattle.cs_world.specs.declared.event.Event.{Event}
use Rattle.cs_script.specs.Events.{event_in}
use Rattle.cs_script.specs.Scripts.{IsNoScript, IsScript, NameEvents}
use Rattle.cs_script.specs.Turns.{IsNoEvent, TakesEvent}
use Rattle.cs_script.specs.declared.fault.ScriptFault.{ScriptFault}
use Rattle.cs_script.specs.declared.fault.ScriptFault.TheVariants as fault

-- the lines that were taken name these events
pub record AreNamed (tables : List TableDef) (input left : Option (List ℕ)) (asked : ℕ) (events : List Event) : Type 0 where
  pub lines : List (List ℕ)
  pub taken : AreTaken input left lines
  pub named : NameEvents tables lines events
  pub count : length lines ≡ asked

length_more : (lines : List (List ℕ)) (line : List ℕ) → length (lines ++ line ∷ []) ≡ length lines + 1
length_more [] line = refl
length_more (first ∷ lines) line = omega (arith, length_more lines line)

pub named_none : NoneTaken → (tables : List TableDef) (input : Option (List ℕ)) (events : List Event) → events ≡ [] → AreNamed tables input input 0 events
named_none none tables input events is = rw is (record { lines = []; taken = none input; named = tt; count = refl })

pub named_more : OneMoreTaken → (tables : List TableDef) (input left after : Option (List ℕ)) (asked : ℕ) (events now : List Event) (event : Event)
    → now ≡ events ++ event ∷ [] → AreNamed tables input left asked events → TakesEvent tables (Some event) left after
    → AreNamed tables input after (asked + 1) now
named_more more tables input left after asked events now event is so_far took =
    let line = took.0 in
    rw is (record {
      lines = so_far.lines ++ line ∷ [];
      taken = more input left after so_far.lines line so_far.taken took.1;
      named = zip_push (λ words made. event_in tables words ≡ Some made) so_far.lines events line event so_far.named took.2;
      count = length_more so_far.lines line ∙ ap (λ n. n + 1) so_far.count;
    })

pub all_named : AllTaken → (tables : List TableDef) (input left after : Option (List ℕ)) (asked : ℕ) (events : List Event)
    → AreNamed tables input left asked events → TakesEvent tables None left after → IsScript tables input events
all_named all tables input left after asked events so_far ended =
    (so_far.lines, all input left so_far.lines so_far.taken ended.0, so_far.named)

pub not_named : OneMoreTaken → (tables : List TableDef) (failed : Type 0) (input left after : Option (List ℕ)) (asked : ℕ) (events : List Event) (told : ScriptFault)
    → AreNamed tables input left asked events → IsNoEvent tables failed asked left after told → IsNoScript tables failed input after told
not_named more tables failed input left after asked events fault.Memory so_far why = tt
not_named more tables failed input left after asked events fault.Read so_far why =
    (so_far.lines, events, (left, so_far.taken, why.1), so_far.named, inl why.0)
not_named more tables failed input left after asked events fault.Write so_far why = why
not_named more tables failed input left after asked events (fault.Line number) so_far why = (
  so_far.lines,
  events,
  why.0,
  first_taken input after (so_far.lines ++ why.0 ∷ []) (more input left after so_far.lines why.0 so_far.taken why.1),
  so_far.named,
  why.2,
  why.3 ∙ ap (λ n. n + 1) (sym so_far.count),
)

pub without_end : (tables : List TableDef) (failed : Type 0) (input left : Option (List ℕ)) (asked : ℕ) (events : List Event)
    → AreNamed tables input left asked events → asked ≡ ASKS → IsNoScript tables failed input left fault.Read
without_end tables failed input left asked events so_far many =
    (so_far.lines, events, (left, so_far.taken, stays left), so_far.named, inr (so_far.count ∙ many))
