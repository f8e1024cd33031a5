-- What is gathered of the lines of several edits, and what is made of it.
use Rattle.std.proofs.Common.{◌≡◌, ◌∙◌, ◌+◌, ℕ, List, [], ◌∷◌, ◌++◌, Ok, length, length-append, refl, sym, ap}
use Rattle.std.specs.Prelude.{Option, Some, None}
use Rattle.cs_lines.specs.Laws.{OneMoreTaken}
use Rattle.cs_lines.specs.Reading.{AreTaken}
use Rattle.cs_value.specs.declared.catalog.TableDef.{TableDef}
use Rattle.cs_value.specs.declared.edit.Edit.{Edit}
use Rattle.cs_node_lines.specs.asks.Asked.{ask_in}
use Rattle.cs_node_lines.specs.declared.following.several.Gathered.{Gathered}
use Rattle.cs_node_lines.specs.following.Steps.{GathersNext, IsGathered}
use Rattle.cs_node_lines.specs.following.Several.{edit_asked, edits_in, in_front}

push_front : (first : Option Edit) (rest now : Option (List Edit)) (edits : List Edit) (edit : Edit) → in_front first rest ≡ Some edits
    → ((behind : List Edit) → rest ≡ Some behind → now ≡ Some (behind ++ edit ∷ [])) → in_front first now ≡ Some (edits ++ edit ∷ [])
push_front None rest now edits edit is more = absurd (cc)
push_front (Some first) None now edits edit is more = absurd (cc)
push_front (Some first) (Some behind) now edits edit is more =
    let all : first ∷ behind ≡ edits = cc in
    rw (more behind refl) (ap (λ (l : List Edit). Some (l ++ edit ∷ [])) all)

none_front : (first : Option Edit) (rest now : Option (List Edit)) → in_front first rest ≡ None → (rest ≡ None → now ≡ None) → in_front first now ≡ None
none_front None rest now is more = refl
none_front (Some first) None now is more = rw (more refl) refl
none_front (Some first) (Some behind) now is more = absurd (cc)

module _ (tables : List TableDef) where
  -- a line of an edit behind lines of edits
  pub edits_push : (lines : List (List ℕ)) (line : List ℕ) (edits : List Edit) (edit : Edit) → edits_in tables lines ≡ Some edits → Some edit ≡ edit_asked (ask_in tables line)
      → edits_in tables (lines ++ line ∷ []) ≡ Some (edits ++ edit ∷ [])
  edits_push [] line edits edit is asks =
      let none : edits ≡ [] = (let e = sym is in cc) in
      rw (← asks) (ap (λ (l : List Edit). Some (l ++ edit ∷ [])) (sym none))
  edits_push (first ∷ lines) line edits edit is asks =
      push_front (edit_asked (ask_in tables first)) (edits_in tables lines) (edits_in tables (lines ++ line ∷ [])) edits edit is
      (λ behind so. edits_push lines line behind edit so asks)

  -- one line that is no edit's
  pub edits_stop : (lines : List (List ℕ)) (line : List ℕ) → None ≡ edit_asked (ask_in tables line) → edits_in tables (lines ++ line ∷ []) ≡ None
  edits_stop [] line asks = rw (← asks) refl
  edits_stop (first ∷ lines) line asks = stopped (edit_asked (ask_in tables first)) (edits_in tables (lines ++ line ∷ [])) (edits_stop lines line asks)
    where
      stopped : (x : Option Edit) (rest : Option (List Edit)) → rest ≡ None → in_front x rest ≡ None
      stopped None rest is = refl
      stopped (Some e) rest is = rw is refl

  pub edits_none : (lines : List (List ℕ)) (line : List ℕ) → edits_in tables lines ≡ None → edits_in tables (lines ++ line ∷ []) ≡ None
  edits_none [] line is = absurd (cc)
  edits_none (first ∷ lines) line is =
      none_front (edit_asked (ask_in tables first)) (edits_in tables lines) (edits_in tables (lines ++ line ∷ [])) is (λ so. edits_none lines line so)

-- ---- line by line

-- this is gathered of so many lines
abbrev pub IsGathering : List TableDef → ℕ → Gathered → Option (List ℕ) → Option (List ℕ) → Type 0
IsGathering tables count gathered input left =
    (lines : List (List ℕ)) × AreTaken input left lines × (length lines ≡ count) × IsGathered tables gathered lines

module _ (tables : List TableDef) where
  pub gathering_on : OneMoreTaken → (count : ℕ) (gathered next : Gathered) (read_failed : Type 0) (input left rest : Option (List ℕ)) → IsGathering tables count gathered input left
      → GathersNext tables gathered (Ok (Some next)) read_failed left rest → IsGathering tables (count + 1) next input rest
  gathering_on more count gathered next read_failed input left rest (lines, taken, long, is) (line, took, leads) =
      (lines ++ line ∷ [], more input left rest lines line taken took, length-append lines (line ∷ []) ∙ ap (λ n. n + 1) long, leads lines is)
