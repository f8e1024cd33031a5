-- How edits of lists of entries go together.
use Rattle.std.specs.Prelude.{◌≡◌, List, ◌++◌, T, fold}
use Rattle.std.specs.FinMap.{from_sorted, is_sorted}
use Rattle.cs_store.specs.edits.Edits.{BodyEdit}
use Rattle.cs_store.specs.Contents.{Bodies, place_cmp}
use Rattle.cs_store.specs.Written.{edit_body}
use Rattle.cs_leaf.specs.Entries.{Entry}
use Rattle.cs_leaf.specs.Edits.{AreEditsAbove, AreEditsBelow, edited}

-- edits whose places are above some entries keep them
abbrev pub EditsBehindKeep : Type 0
EditsBehindKeep = (edits : List BodyEdit) (front back : List Entry) → AreEditsAbove front edits → fold edited (front ++ back) edits ≡ front ++ fold edited back edits

-- edits whose places are below some entries keep them
abbrev pub EditsBeforeKeep : Type 0
EditsBeforeKeep = (edits : List BodyEdit) (front back : List Entry) → AreEditsBelow edits back → fold edited (front ++ back) edits ≡ fold edited front edits ++ back

-- entries stay in order
abbrev pub EditsKeepOrder : Type 0
EditsKeepOrder = (edits : List BodyEdit) (es : List Entry) → T (is_sorted place_cmp es) → T (is_sorted place_cmp (fold edited es edits))

-- edits of entries in order are edits of the map that they are
abbrev pub EditsAreOfMaps : Type 0
EditsAreOfMaps = (edits : List BodyEdit) (es : List Entry) → T (is_sorted place_cmp es) → ◌≡◌ {A = Bodies} (from_sorted (fold edited es edits)) (fold edit_body (from_sorted es) edits)
