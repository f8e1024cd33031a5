-- The line behind which several edits come (profile of this project).
use Rattle.std.specs.Prelude.{ℕ, if◌then◌else◌, List, [], ◌∷◌, Option, None, codes}
use Rattle.std.specs.Str.{bytes_eq}
use Rattle.cs_text.specs.parse.Words.{words_in}
use Rattle.cs_node_lines.specs.asks.Asked.{limit_in}

abbrev pub several_by : List ℕ → List (List ℕ) → Option ℕ
several_by verb words = if bytes_eq verb (codes "edits") then limit_in words else None

abbrev pub words_several : List (List ℕ) → Option ℕ
words_several [] = None
words_several (verb ∷ words) = several_by verb words

-- how many edits come behind a line as one request: N, where it is `edits N`
abbrev pub several_in : List ℕ → Option ℕ
several_in line = words_several (words_in line)
