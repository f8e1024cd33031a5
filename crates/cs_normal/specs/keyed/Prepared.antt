-- Changes behind the bytes of their keys, on the way to the normal form.
use Rattle.std.specs.Prelude.{◌≡◌, ℕ, Bool, true, ◌&&◌, List, [], ◌∷◌, Option, Some, None, if◌then◌else◌}
use Rattle.std.specs.List.{All}
use Rattle.cs_change.specs.declared.change.Change.{Change}
use Rattle.cs_normal.specs.keyed.Changes.{Changes}
use Rattle.cs_normal.specs.keyed.NormalForm.{change_bytes, has_key, normal_form}

-- the bytes of keys, each with a change or none
abbrev pub Entries : Type 0
Entries = List (List ℕ × Option Change)

-- the changes before the first one without a key, behind the bytes of their keys
unfoldable pub prepared : List Bool → List Change → Entries
prepared marks [] = []
prepared marks (c ∷ changes) =
    if has_key marks c then (change_bytes marks c, normal_form marks c) ∷ prepared marks changes else []

-- each change has a key
unfoldable pub all_keyed : List Bool → List Change → Bool
all_keyed marks [] = true
all_keyed marks (c ∷ changes) = has_key marks c && all_keyed marks changes

-- the changes that are left
unfoldable pub kept : Entries → Changes
kept [] = []
kept ((key, None) ∷ entries) = kept entries
kept ((key, Some change) ∷ entries) = (key, change) ∷ kept entries

-- the normal form of the change is the change
abbrev pub IsForm : List Bool → Change → Type 0
IsForm marks change = normal_form marks change ≡ Some change

abbrev pub AreForms : List Bool → List Change → Type 0
AreForms marks changes = All (IsForm marks) changes
