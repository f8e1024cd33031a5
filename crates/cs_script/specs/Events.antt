-- The lines of a script (format of this project).
use Rattle.std.specs.Prelude.{◌^◌, ℕ, if◌then◌else◌, List, [], ◌∷◌, Option, Some, None, length, nat_lt, option_map, codes}
use Rattle.std.specs.Str.{bytes_eq}
use Rattle.cs_value.specs.declared.catalog.TableDef.{TableDef}
use Rattle.cs_text.specs.parse.Edits.{edit_in}
use Rattle.cs_text.specs.parse.Numbers.{small_in, unsigned_in}
use Rattle.cs_text.specs.parse.Texts.{text_in}
use Rattle.cs_text.specs.parse.Wishes.{wishes_in}
use Rattle.cs_text.specs.parse.Words.{words_in}
use Rattle.cs_world.specs.declared.event.Event.{Event}
use Rattle.cs_world.specs.declared.event.Event.TheVariants.{AskCatch, AskPull, AskWiden, Deliver, MakePush, OnEdit, Resend, Restart}

-- what was found, where no word is left
abbrev pub alone : {A : Type 0} → Option A → List (List ℕ) → Option A
alone found [] = found
alone found (word ∷ words) = None

-- what the last word spells, where one word is left
abbrev pub last_in : {A : Type 0} → (List ℕ → Option A) → List (List ℕ) → Option A
last_in spelled [] = None
last_in spelled (word ∷ words) = alone (spelled word) words

-- of two things that were found
abbrev pub both_in : {A B C : Type 0} → (A → B → C) → Option A → Option B → Option C
both_in make (Some one) (Some other) = Some (make one other)
both_in make (Some one) None = None
both_in make None other = None

-- the event of a replica that a verb, its number, and the words behind that name
abbrev pub replica_event : List ℕ → List ℕ → List (List ℕ) → Option Event
replica_event verb number words =
    if bytes_eq verb (codes "push") then option_map (λ r. MakePush r) (alone (small_in number) words)
    else if bytes_eq verb (codes "resend") then option_map (λ r. Resend r) (alone (small_in number) words)
    else if bytes_eq verb (codes "pull") then both_in (λ r limit. AskPull r limit) (small_in number) (last_in small_in words)
    else if bytes_eq verb (codes "catch") then both_in (λ r limit. AskCatch r limit) (small_in number) (last_in small_in words)
    else if bytes_eq verb (codes "restart") then option_map (λ r. Restart r) (alone (small_in number) words)
    else None

-- a table's name, where a request can hold it
abbrev pub short_in : Option (List ℕ) → Option (List ℕ)
short_in (Some name) = if nat_lt (length name) (2 ^ 32) then Some name else None
short_in None = None

-- a wider table, by its number and base, its name and width
abbrev pub wider_of : ℕ × ℕ → List ℕ × ℕ → Event
wider_of first rest = AskWiden (record { number = first.0; base = first.1; table = rest.0; width = rest.1 })

-- the number is behind the verb, and the words behind that are BASE TABLE WIDTH
abbrev pub wider_in : Option ℕ → List (List ℕ) → Option Event
wider_in number [] = None
wider_in number (base ∷ []) = None
wider_in number (base ∷ table ∷ words) =
    both_in wider_of (both_in (λ n b. (n, b)) number (unsigned_in base)) (both_in (λ t w. (t, w)) (short_in (text_in table)) (last_in small_in words))

-- the event that a verb, the number behind it, and the words behind that name
abbrev pub event_of : List TableDef → List ℕ → List ℕ → List (List ℕ) → Option Event
event_of tables verb number words =
    if bytes_eq verb (codes "edit") then both_in (λ r edit. OnEdit r edit) (small_in number) (edit_in tables words)
    else if bytes_eq verb (codes "deliver") then both_in (λ k wishes. Deliver k wishes) (unsigned_in number) (last_in wishes_in words)
    else if bytes_eq verb (codes "widen") then wider_in (unsigned_in number) words
    else replica_event verb number words

-- the event that words name: `edit R EDIT`, `push R`, `resend R`, `pull R LIMIT`, `catch R LIMIT`, `deliver K WISHES`,
-- `widen NUMBER BASE TABLE WIDTH` or `restart R`
abbrev pub event_by : List TableDef → List (List ℕ) → Option Event
event_by tables [] = None
event_by tables (verb ∷ []) = None
event_by tables (verb ∷ number ∷ words) = event_of tables verb number words

-- the event that a line names
abbrev pub event_in : List TableDef → List ℕ → Option Event
event_in tables line = event_by tables (words_in line)
