-- On the way from a request to its text: no definition that a public clause cites.
use Rattle.std.specs.Prelude.{◌≡◌, ◌⊎◌, ◌<◌, ⊤, ℕ, Bool, true, false, List, [], ◌∷◌, ◌++◌, Option, Some, None, Result, Ok, Err, codes, length, option_map, string_bytes}
use Rattle.std.specs.Io.KnownBytes.{Appends, IsAtEnd, Keeps}
use Rattle.std.specs.List.{AllByRecursion}
use Rattle.cs_conflict.specs.declared.clash.Clash.{Clash}
use Rattle.cs_conflict.specs.declared.wish.Wish.{Wish}
use Rattle.cs_conflict.specs.declared.wish.Wish.TheVariants.{Keep, Stop, Take}
use Rattle.cs_conflict.specs.wish_list.Wished.{IsWished}
use Rattle.cs_exchange.specs.declared.pulling.fault.AnswerFault.{AnswerFault}
use Rattle.cs_lines.specs.Reading.{AreAllBefore, AreTaken, StaysInLine, TakesLine}
use Rattle.cs_lines.specs.Served.{AreAllLines, AreFirstLines}
use Rattle.cs_lines.specs.declared.serve.TheConstants.{ASKS}
use Rattle.cs_replica.specs.Holding.{Holding}
use Rattle.cs_replica.specs.declared.told.Told.{Told}
use Rattle.cs_replica.specs.declared.told.Told.TheVariants.{Confirmed, Ignored, Refused, Stale, Stopped, Taken}
use Rattle.cs_replica.specs.Step.{Member}
use Rattle.cs_store.specs.Calls.{MoreFailures}
use Rattle.cs_store.specs.declared.fault.StoreFault.{StoreFault}
use Rattle.cs_store.specs.declared.fault.StoreFault.TheVariants as stored
use Rattle.cs_store.specs.declared.store.RowStore.{Ghosts}
use Rattle.cs_text.specs.Text.{line}
use Rattle.cs_value.specs.declared.catalog.TableDef.{TableDef}
use Rattle.cs_wire.specs.declared.answer.Answer.{Answer}
use Rattle.cs_node_lines.specs.asks.Asked.{ask_in}
use Rattle.cs_node_lines.specs.asks.Looked.{look_in}
use Rattle.cs_node_lines.specs.declared.following.next.Next.{Next}
use Rattle.cs_node_lines.specs.declared.following.next.Next.TheVariants.{Cut, Ended, Replied}
use Rattle.cs_node_lines.specs.declared.following.note.Note.{Note}
use Rattle.cs_node_lines.specs.declared.following.note.Note.TheVariants.{Lacking, Nothing, Text}
use Rattle.cs_node_lines.specs.declared.following.several.Gathered.{Gathered}
use Rattle.cs_node_lines.specs.declared.following.several.Gathered.TheVariants.{Edits, Lacking as NoMemory, Unread}
use Rattle.cs_node_lines.specs.declared.working.fault.NodeFault.{NodeFault}
use Rattle.cs_node_lines.specs.declared.working.fault.NodeFault.TheVariants.{Line, Memory, Open, Read, Write}
use Rattle.cs_node_lines.specs.following.Endings.{replied}
use Rattle.cs_node_lines.specs.following.FollowStep.{FollowStep, ReadStep}
use Rattle.cs_node_lines.specs.following.Requests.{AreRequests, IsBegun, IsUnfinished, IsPart, IsWhole, joined, with_part}
use Rattle.cs_node_lines.specs.following.Seen.{HearsSeeing, lacking_text}
use Rattle.cs_node_lines.specs.following.Several.{ReadEditsStep, edits_in}
use Rattle.cs_node_lines.specs.working.Endings.{BreaksOff}
use Rattle.cs_node_lines.specs.working.LineStep.{SaysMemory}
use Rattle.cs_node_lines.specs.working.Replies.{reply_text}
use Rattle.cs_node_lines.specs.working.Steps.{AllStepped, Counted, Prints, Stepped}
use Rattle.cs_node_lines.specs.working.Texts.{heard_text, unread_text}
use Rattle.cs_node_lines.specs.told.Clash.{clash_text}
use Rattle.cs_node_lines.specs.told.Told.{told_text}

-- the note is this text, or none; where memory was refused it may be any
abbrev pub IsNote : Note → Option (List ℕ) → Type 0
IsNote Nothing (Some text) = ⊥
IsNote Nothing None = Unit {0}
IsNote (Text noted) (Some text) = string_bytes noted ≡ text
IsNote (Text noted) None = ⊥
IsNote Lacking text = Unit {0}

-- the note is of this clash, or of none
abbrev pub IsNoteOf : List TableDef → Note → Option Clash → Type 0
IsNoteOf tables note seen = IsNote note (option_map (clash_text tables) seen)

-- what is printed of an answer of which this is noted
abbrev pub note_text : Result Told AnswerFault → Note → ℕ → List ℕ
note_text (Ok (Confirmed newest)) note version = heard_text (Ok (Confirmed newest)) version
note_text (Ok Ignored) note version = heard_text (Ok Ignored) version
note_text (Ok (Stale newest)) note version = heard_text (Ok (Stale newest)) version
note_text (Ok (Refused code)) note version = heard_text (Ok (Refused code)) version
note_text (Ok (Taken count)) note version = heard_text (Ok (Taken count)) version
note_text (Ok (Stopped count)) Nothing version = heard_text (Ok (Stopped count)) version
note_text (Ok (Stopped count)) (Text clash) version = line (told_text (Stopped count) version ++ codes " " ++ string_bytes clash)
note_text (Ok (Stopped count)) Lacking version = lacking_text count version
note_text (Err fault) note version = heard_text (Err fault) version

-- what a wish at a clash leaves of the note
abbrev pub Notes : Wish → List ℕ → Note → Note → Type 0
Notes Keep text before after = after ≡ before
Notes Take text before after = after ≡ before
Notes Stop text before after = IsNote after (Some text)

-- the tables, the wishes that are left, and what is noted
pub record Noted : Type 0 where
  pub tables : List TableDef
  pub wishes : List Wish
  pub note : Note

-- the answer to a clash is the next wish, made lawful, and a clash at which it stops is noted
pub record IsNoted (before : Noted) (clash : Clash) (wish : Wish) (after : Noted) : Type 0 where
  pub wished : IsWished before.wishes clash wish after.wishes
  pub tables : after.tables ≡ before.tables
  pub noted : Notes wish (clash_text before.tables clash) before.note after.note

-- where a wish stopped, the clash that is seen was noted
abbrev pub NotesStop : List TableDef → Result Told AnswerFault → Note → Option Clash → Type 0
NotesStop tables result note seen = (count : ℕ) → result ≡ Ok (Stopped count) → IsNoteOf tables note seen

-- the answer was heard so
abbrev pub HearsNoting : List TableDef → Member → Answer → List Wish → Result Told AnswerFault → Note → Member → Type 0
HearsNoting tables before answer wishes result note after =
    (seen : Option Clash) × HearsSeeing before answer wishes result seen after × NotesStop tables result note seen

-- ---- what is shown

-- what was read is this of the replica, which stays; or the reading failed, for a failed device only where the count of failures
-- rose
abbrev pub ReadsOf : {T : Type 0} → ℕ → ℕ → (T → Type 0) → Result T StoreFault → Type 0
ReadsOf had has said (Ok read) = said read
ReadsOf had has said (Err fault) = fault ≡ stored.Device → MoreFailures had has

abbrev pub Shows : {S T : Type 0} → Ghosts S → (Member → T → Type 0) → Result T StoreFault → Holding S → Holding S → Type 0
Shows g said result old new = Counted g (λ had has before after. (after ≡ before) × ReadsOf had has (said before) result) old new

-- ---- a line alone, and several edits

-- what a line alone makes of a replica, whatever comes behind it
abbrev pub AloneStep : List TableDef → ℕ → ℕ → Member → List ℕ → List ℕ → Member → Type 0
AloneStep tables had has before asked text after =
    ReadStep tables had has before (ask_in tables asked) (look_in asked) text after ⊎ ((after ≡ before) × SaysMemory text)

-- what lines of several edits make of it
abbrev pub AllStep : List TableDef → ℕ → ℕ → Member → List (List ℕ) → List ℕ → Member → Type 0
AllStep tables had has before lines text after =
    ReadEditsStep had has before (edits_in tables lines) text after ⊎ ((after ≡ before) × SaysMemory text)

-- this is gathered of the lines of several edits
abbrev pub IsGathered : List TableDef → Gathered → List (List ℕ) → Type 0
IsGathered tables (Edits edits) lines = edits_in tables lines ≡ Some edits.items
IsGathered tables Unread lines = edits_in tables lines ≡ None
IsGathered tables NoMemory lines = Unit {0}

-- this is gathered with the next line; or the input is at its end; or the reader failed
abbrev pub GathersNext : List TableDef → Gathered → Result (Option Gathered) NodeFault → Type 0 → Option (List ℕ) → Option (List ℕ) → Type 0
GathersNext tables before (Ok (Some after)) read_failed input left =
    (line : List ℕ) × TakesLine [] input left line
    × ((lines : List (List ℕ)) → IsGathered tables before lines → IsGathered tables after (lines ++ line ∷ []))
GathersNext tables before (Ok None) read_failed input left = IsAtEnd input
GathersNext tables before (Err fault) read_failed input left = (fault ≡ Read) × StaysInLine input left × read_failed

-- this is gathered of the next lines, so many; or the input ends within them; or the reader failed
abbrev pub Gathers : List TableDef → ℕ → Result (Option Gathered) NodeFault → Type 0 → Option (List ℕ) → Option (List ℕ) → Type 0
Gathers tables count (Ok (Some gathered)) read_failed input left =
    (lines : List (List ℕ)) × AreTaken input left lines × (length lines ≡ count) × IsGathered tables gathered lines
Gathers tables count (Ok None) read_failed input left = (lines : List (List ℕ)) × AreAllLines input lines × (length lines < count)
Gathers tables count (Err fault) read_failed input left =
    (fault ≡ Read) × ((lines : List (List ℕ)) × AreAllBefore input left lines × (length lines < count) × read_failed)

-- ---- requests of an input

module _ {S : Type 0} (g : Ghosts S) (tables : List TableDef) where
  -- the lines of a request were taken, whole or not, and its step made with this text
  abbrev pub TakesStep : Option (List ℕ) → Option (List ℕ) → Holding S → Holding S → List (List ℕ) → List ℕ → Type 0
  TakesStep input left old new asked text = AreTaken input left asked × Stepped g (FollowStep tables) asked text old new

  -- the input ended within a request, which can't be read
  abbrev pub TakesPart : Option (List ℕ) → Holding S → Holding S → List (List ℕ) → Type 0
  TakesPart input old new asked = AreAllLines input asked × IsUnfinished asked × Stepped g (FollowStep tables) asked unread_text old new

  -- there was no line to take: the input is at its end, or its reader failed, maybe within a request; the replica stays
  abbrev pub TakesNoLine : Option (List ℕ) → Option (List ℕ) → Holding S → Holding S → Type 0
  TakesNoLine input left old new = IsAtEnd input × Keeps input left × (new ≡ old)

  abbrev pub BreaksReading : Type 0 → Option (List ℕ) → Option (List ℕ) → Holding S → Holding S → Type 0
  BreaksReading read_failed input left old new =
      read_failed × ((part : List (List ℕ)) × AreAllBefore input left part × IsPart part) × (new ≡ old)

  -- and this is what is printed of the request
  abbrev pub Replies : Result Next NodeFault → Type 0 → Option (List ℕ) → Option (List ℕ) → Holding S → Holding S → Type 0
  Replies (Ok (Replied reply)) read_failed input left old new =
      (asked : List (List ℕ)) × IsWhole asked × TakesStep input left old new asked (reply_text reply)
  Replies (Ok Cut) read_failed input left old new = (asked : List (List ℕ)) × TakesPart input old new asked
  Replies (Ok Ended) read_failed input left old new = TakesNoLine input left old new
  Replies (Err Memory) read_failed input left old new =
      (asked : List (List ℕ)) × (text : List ℕ) × IsBegun asked × TakesStep input left old new asked text
  Replies (Err Read) read_failed input left old new = BreaksReading read_failed input left old new
  Replies (Err Write) read_failed input left old new = ⊥
  Replies (Err (Line number)) read_failed input left old new = ⊥
  Replies (Err (Open fault)) read_failed input left old new = ⊥

  -- and it was printed, with an empty line
  abbrev pub FollowsNext : Result Bool NodeFault → Type 0 → Type 0 → Option (List ℕ) → Option (List ℕ) → Option (List ℕ) → Option (List ℕ) → Holding S → Holding S → Type 0
  FollowsNext (Ok true) read_failed write_failed input left before after old new =
      (asked : List (List ℕ)) × (text : List ℕ) × IsWhole asked × TakesStep input left old new asked text × Appends before after (line text)
  FollowsNext (Ok false) read_failed write_failed input left before after old new =
      (TakesNoLine input left old new × Keeps before after)
      ⊎ ((asked : List (List ℕ)) × TakesPart input old new asked × Appends before after (line unread_text))
  FollowsNext (Err fault) read_failed write_failed input left before after old new =
      ((fault ≡ Read) × BreaksReading read_failed input left old new × Keeps before after)
      ⊎ ((asked : List (List ℕ)) × (text : List ℕ) × IsBegun asked × AreFirstLines input asked × Stepped g (FollowStep tables) asked text old new
      × Prints (Err fault) write_failed before after (line text))

  -- so it was with all requests, or up to one
  abbrev pub FollowsAll : Result ⊤ NodeFault → Type 0 → Type 0 → Option (List ℕ) → Option (List ℕ) → Option (List ℕ) → Option (List ℕ) → Holding S → Holding S → Type 0
  FollowsAll (Ok done) read_failed write_failed input left before after old new =
      (lines : List (List ℕ)) × (requests : List (List (List ℕ))) × (part : List (List ℕ)) × (texts : List (List ℕ))
      × AreAllLines input lines × AreRequests lines requests part
      × AllStepped g (FollowStep tables) (with_part requests part) texts old new × Appends before after (replied texts)
  FollowsAll (Err fault) read_failed write_failed input left before after old new =
      ((fault ≡ Read)
      × ((lines : List (List ℕ)) × (requests : List (List (List ℕ))) × (part : List (List ℕ)) × (texts : List (List ℕ))
      × AreAllBefore input left lines × AreRequests lines requests part
      × AllStepped g (FollowStep tables) requests texts old new × Appends before after (replied texts) × (read_failed ⊎ (length requests ≡ ASKS))))
      ⊎ ((done : List (List (List ℕ))) × (asked : List (List ℕ)) × (texts : List (List ℕ)) × (text : List ℕ)
      × AreFirstLines input (joined (done ++ asked ∷ [])) × AllByRecursion IsWhole done × IsBegun asked
      × AllStepped g (FollowStep tables) (done ++ asked ∷ []) (texts ++ text ∷ []) old new
      × BreaksOff fault write_failed before after (replied texts) (line text))
