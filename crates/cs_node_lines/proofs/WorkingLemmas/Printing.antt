-- What was printed so far, and what is printed next.
use Rattle.std.proofs.Common.{◌≡◌, ℕ, List, [], ◌∷◌, ◌++◌, sym, ap, ◌∙◌, append_assoc, append-nil}
use Rattle.std.specs.Prelude.{Option, OnErr, Result, Ok, Err}
use Rattle.std.specs.Io.KnownBytes.{Appends}
use Rattle.std.proofs.KnownBytes.{Appends-kept, Appends-trans}
use Rattle.cs_lines.specs.Writing.{AppendsFront}
use Rattle.cs_node_lines.specs.working.Endings.{BreaksOff, printed}
use Rattle.cs_node_lines.specs.working.Steps.{Prints}
use Rattle.cs_node_lines.specs.declared.working.fault.NodeFault.{NodeFault}
use Rattle.cs_node_lines.specs.declared.working.fault.NodeFault.TheVariants.{Line, Memory, Open, Read, Write}

-- what holds whatever the result is
pub on_err : {T E P : Type 0} (result : Result T E) → P → OnErr result P
on_err (Ok x) holds = tt
on_err (Err e) holds = holds

pub front_of_all : (a b : Option (List ℕ)) (all : List ℕ) → Appends a b all → AppendsFront a b all
front_of_all a b all wrote = (all, [], sym (append-nil all), wrote)

-- behind what was written, a front of the next piece
pub front_behind : (a b c : Option (List ℕ)) (all done piece rest : List ℕ) → all ≡ done ++ (piece ++ rest)
    → Appends a b done → AppendsFront b c piece → AppendsFront a c all
front_behind a b c all done piece rest is before now = (
  done ++ now.0,
  now.1 ++ rest,
  is ∙ ap (λ l. done ++ (l ++ rest)) now.2 ∙ ap (λ l. done ++ l) (append_assoc now.0 now.1 rest) ∙ sym (append_assoc done now.0 (now.1 ++ rest)),
  Appends-trans a b c done now.0 before now.3,
)

-- the front of a text whose first part it is
pub front_of_first : (a b : Option (List ℕ)) (all piece rest : List ℕ) → all ≡ piece ++ rest → AppendsFront a b piece → AppendsFront a b all
front_of_first a b all piece rest is now = (now.0, now.1 ++ rest, is ∙ ap (λ l. l ++ rest) now.2 ∙ append_assoc now.0 now.1 rest, now.3)

-- behind what was written, a front of the last piece
pub front_last : {T E : Type 0} (result : Result T E) (a b c : Option (List ℕ)) (all done piece : List ℕ) → all ≡ done ++ piece
    → Appends a b done → OnErr result (AppendsFront b c piece) → OnErr result (AppendsFront a c all)
front_last (Ok x) a b c all done piece is before now = tt
front_last (Err e) a b c all done piece is before now =
    front_behind a b c all done piece [] (is ∙ ap (λ l. done ++ l) (sym (append-nil piece))) before now

-- one text more
pub printed_more : (texts : List (List ℕ)) (text : List ℕ) → printed (texts ++ text ∷ []) ≡ printed texts ++ text
printed_more [] text = append-nil text
printed_more (first ∷ texts) text = ap (λ l. first ++ l) (printed_more texts text) ∙ sym (append_assoc first (printed texts) text)

pub prints_more : (a b c : Option (List ℕ)) (texts : List (List ℕ)) (text : List ℕ) → Appends a b (printed texts) → Appends b c text
    → Appends a c (printed (texts ++ text ∷ []))
prints_more a b c texts text before now = rw (printed_more texts text) (Appends-trans a b c (printed texts) text before now)

-- where the text isn't printed whole
pub breaks_off : (fault : NodeFault) (failed : Type 0) (a b c : Option (List ℕ)) (before text : List ℕ) → Appends a b before
    → Prints (Err fault) failed b c text → BreaksOff fault failed a c before text
breaks_off Memory failed a b c before text wrote kept = Appends-kept a b c before wrote kept
breaks_off Read failed a b c before text wrote prints = absurd prints
breaks_off Write failed a b c before text wrote prints =
    (prints.0.0, prints.0.1, prints.0.2, Appends-trans a b c before prints.0.0 wrote prints.0.3, prints.1)
breaks_off (Line number) failed a b c before text wrote prints = absurd prints
breaks_off (Open fault) failed a b c before text wrote prints = absurd prints
