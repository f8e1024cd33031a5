-- How a replica ends that answers each request as it comes (profile of this project): which were worked, what is printed, and
-- what ended it.
use Rattle.std.specs.Prelude.{◌≡◌, ◌⊎◌, ⊤, ℕ, List, [], ◌∷◌, ◌++◌, Option, Result, Ok, Err, length, map}
use Rattle.std.specs.Io.KnownBytes.{Appends, Keeps}
use Rattle.std.specs.List.{AllByRecursion}
use Rattle.cs_lines.specs.Reading.{AreAllBefore}
use Rattle.cs_lines.specs.Served.{AreAllLines, AreFirstLines}
use Rattle.cs_lines.specs.declared.serve.TheConstants.{ASKS}
use Rattle.cs_opening.specs.declared.fault.OpenFault.{OpenFault}
use Rattle.cs_store.specs.declared.store.RowStore.{Ghosts}
use Rattle.cs_text.specs.Text.{line}
use Rattle.cs_value.specs.declared.catalog.TableDef.{TableDef}
use Rattle.cs_node_lines.specs.following.FollowStep.{FollowStep}
use Rattle.cs_node_lines.specs.following.Requests.{AreRequests, IsBegun, IsWhole, joined, with_part}
use Rattle.cs_node_lines.specs.working.Endings.{BreaksOff, NotOpened, Worked, of_opening, printed}
use Rattle.cs_node_lines.specs.declared.working.fault.NodeFault.{NodeFault}
use Rattle.cs_node_lines.specs.declared.working.fault.NodeFault.TheVariants.{Read}

-- texts, one behind another, an empty line behind each
abbrev pub replied : List (List ℕ) → List ℕ
replied texts = printed (map line texts)

module _ {S : Type 0} (g : Ghosts S) (tables : List TableDef) (id : ℕ) where
  -- the requests were worked, one behind another, and have these texts
  abbrev pub Followed : S → S → List (List (List ℕ)) → List (List ℕ) → Type 0
  Followed store last requests texts = Worked g tables id (FollowStep tables) store last requests texts

  -- a read failed, or requests came without end: all before were worked, and their texts are printed; nothing was done of a part
  -- behind them
  abbrev pub FollowedBefore : S → S → Option (List ℕ) → Option (List ℕ) → Type 0 → Option (List ℕ) → Option (List ℕ) → Type 0
  FollowedBefore store last input left read_failed old new =
      (lines : List (List ℕ)) × (requests : List (List (List ℕ))) × (part : List (List ℕ)) × (texts : List (List ℕ))
      × AreAllBefore input left lines × AreRequests lines requests part
      × Followed store last requests texts × Appends old new (replied texts) × (read_failed ⊎ (length requests ≡ ASKS))

  -- some requests were worked, and the text of the last of them isn't printed whole: memory was refused for it, or for the line,
  -- or the writer failed
  abbrev pub FollowedUpTo : S → S → Option (List ℕ) → NodeFault → Type 0 → Option (List ℕ) → Option (List ℕ) → Type 0
  FollowedUpTo store last input fault write_failed old new =
      (done : List (List (List ℕ))) × (asked : List (List ℕ)) × (texts : List (List ℕ)) × (text : List ℕ)
      × AreFirstLines input (joined (done ++ asked ∷ [])) × AllByRecursion IsWhole done × IsBegun asked
      × Followed store last (done ++ asked ∷ []) (texts ++ text ∷ [])
      × BreaksOff fault write_failed old new (replied texts) (line text)

  -- all requests were worked, also a part at the end, and their texts are printed. Or the replica isn't opened, and nothing is read or
  -- printed. Or it ended at a request
  abbrev pub EndsFollowing : S → S → Option (List ℕ) → Option (List ℕ) → Type 0 → Type 0 → Option (List ℕ) → Option (List ℕ) → Result ⊤ NodeFault → Type 0
  EndsFollowing store last input left read_failed write_failed old new (Ok done) =
      (lines : List (List ℕ)) × (requests : List (List (List ℕ))) × (part : List (List ℕ)) × (texts : List (List ℕ))
      × AreAllLines input lines × AreRequests lines requests part
      × Followed store last (with_part requests part) texts × Appends old new (replied texts)
  EndsFollowing store last input left read_failed write_failed old new (Err fault) =
      ((why : OpenFault) × (fault ≡ of_opening why) × NotOpened g tables id store last why × (left ≡ input) × Keeps old new)
      ⊎ (((fault ≡ Read) × FollowedBefore store last input left read_failed old new)
      ⊎ FollowedUpTo store last input fault write_failed old new)
