-- The lines by which a replica is worked (profile of this project).
use Rattle.std.specs.Prelude.{ℕ, if◌then◌else◌, List, [], ◌∷◌, Option, Some, None, Result, Ok, Err, option_map, codes}
use Rattle.std.specs.Str.{bytes_eq}
use Rattle.hex.specs.Hex.{decode_of}
use Rattle.hex.specs.declared.error.FromHexError.{FromHexError}
use Rattle.cs_value.specs.declared.catalog.TableDef.{TableDef}
use Rattle.cs_conflict.specs.declared.wish.Wish.{Wish}
use Rattle.cs_text.specs.parse.Edits.{edit_in}
use Rattle.cs_text.specs.parse.Numbers.{small_in}
use Rattle.cs_text.specs.parse.Wishes.{wishes_in}
use Rattle.cs_text.specs.parse.Words.{words_in}
use Rattle.cs_node_lines.specs.declared.asks.ask.Ask.{Ask}
use Rattle.cs_node_lines.specs.declared.asks.ask.Ask.TheVariants.{Answer, Catch, Dump, Pull, Push, OnEdit, Resend}

-- what no word may follow
abbrev pub alone : {A : Type 0} → A → List (List ℕ) → Option A
alone asked [] = Some asked
alone asked (word ∷ words) = None

-- LIMIT, behind `pull` or `catch`
abbrev pub limit_in : List (List ℕ) → Option ℕ
limit_in [] = None
limit_in (limit ∷ []) = small_in limit
limit_in (limit ∷ word ∷ words) = None

-- the bytes of a hex word
abbrev pub decoded : Result (List ℕ) FromHexError → Option (List ℕ)
decoded (Ok bytes) = Some bytes
decoded (Err fault) = None

-- the bytes that hex digits of either case spell, two each; the empty word spells none
abbrev pub hex_in : List ℕ → Option (List ℕ)
hex_in [] = None
hex_in (digit ∷ digits) = decoded (decode_of (digit ∷ digits))

-- an answer and wishes, where both are there
abbrev pub told_with : Option (List ℕ) → Option (List Wish) → Option Ask
told_with (Some bytes) (Some wishes) = Some (Answer bytes wishes)
told_with (Some bytes) None = None
told_with None wishes = None

-- `answer HEX WISHES`, behind its verb
abbrev pub answer_in : List (List ℕ) → Option Ask
answer_in [] = None
answer_in (hex ∷ []) = None
answer_in (hex ∷ wishes ∷ []) = told_with (hex_in hex) (wishes_in wishes)
answer_in (hex ∷ wishes ∷ word ∷ words) = None

-- what a verb and the words behind it ask
abbrev pub verb_in : List TableDef → List ℕ → List (List ℕ) → Option Ask
verb_in tables verb words =
    if bytes_eq verb (codes "edit") then option_map OnEdit (edit_in tables words)
    else if bytes_eq verb (codes "push") then alone Push words
    else if bytes_eq verb (codes "resend") then alone Resend words
    else if bytes_eq verb (codes "pull") then option_map Pull (limit_in words)
    else if bytes_eq verb (codes "catch") then option_map Catch (limit_in words)
    else if bytes_eq verb (codes "answer") then answer_in words
    else if bytes_eq verb (codes "dump") then alone Dump words
    else None

abbrev pub words_ask : List TableDef → List (List ℕ) → Option Ask
words_ask tables [] = None
words_ask tables (verb ∷ words) = verb_in tables verb words

-- what a line asks: an edit, `push`, `resend`, `pull LIMIT`, `catch LIMIT`, `answer HEX WISHES` or `dump`; none where it can't be
-- read
abbrev pub ask_in : List TableDef → List ℕ → Option Ask
ask_in tables line = words_ask tables (words_in line)
