-- What has been read of an input, line by line.
use Rattle.std.proofs.Common.{◌≡◌, ℕ, zero, suc, ◌+◌, ◌<◌, List, [], ◌∷◌, ◌++◌, length, take, get_or, sym, refl, ap, subst, ◌∙◌, inl, inr, arith}
use Rattle.std.specs.Prelude.{◌⊎◌, Option, Some, None, Ok, Err, Result, IfOk}
use Rattle.std.specs.Global.{Vec}
use Rattle.std.specs.List.{AllZip, AllByRecursion}
use Rattle.std.specs.Io.KnownBytes.{IsAtEnd, Keeps}
use Rattle.std.proofs.lemmas.List.{take_more}
use Rattle.hex.specs.Hex.{decode_pairs}
use Rattle.cs_blob.specs.Spelling.{FitsBlob, blob_spelling}
use Rattle.cs_blob.specs.declared.blob.BlobGroup.{BlobGroup}
use Rattle.cs_change.specs.Spelling.{FitsChangeset, changeset_spelling}
use Rattle.cs_change.specs.declared.group.Group.{Group}
use Rattle.cs_group.specs.Combined.{IsCombined}
use Rattle.cs_normal.specs.declared.normal.TableChanges.{TableChanges}
use Rattle.cs_lines.specs.Facts.{first_taken, stays, zip_push}
use Rattle.cs_lines.specs.Lines.{hex_line}
use Rattle.cs_lines.specs.Laws.{NoneTaken, OneMoreTaken}
use Rattle.cs_lines.specs.Served.{AreAllLines, AreFirstLines}
use Rattle.cs_lines.specs.Reading.{TakesLine, StaysInLine}
use Rattle.cs_lines.specs.declared.serve.TheConstants.{ASKS}
use Rattle.cs_changeset.specs.Reading.{IsChangesetFault, ReadsWhole}
use Rattle.cs_changeset.specs.declared.fault.CodecFault.{CodecFault}
use Rattle.cs_changeset.specs.declared.fault.CodecFault.TheVariants.{At}
use Rattle.cs_changeset.specs.declared.fault.CodecFault.TheVariants as codec
use Rattle.cs_changeset.specs.declared.fault.Fault.{Fault}
use Rattle.cs_tools.specs.CombinedLines.{HasBadLine, SpellChangesets}
use Rattle.cs_tools.specs.Faults.{AreBadBytes, IsBadLine, of_codec}
use Rattle.cs_tools.specs.LinesRead.{AreHexOf, AreRead, AreReadUpTo, HasBadInput, IsNotTaken, SpellAll, TakesBytes, TakesNextBytes}
use Rattle.cs_tools.specs.RebasedLine.{heads_of_both, IsRebased, Rebases, RebasesLines}
use Rattle.cs_tools.specs.ShownLine.{RefusesToShow, ShowsBytes, ShowsFirst}
use Rattle.cs_tools.specs.SpelledLine.{IsHexOf, Spells}
use Rattle.cs_tools.specs.WrittenForm.{SpellsIn}
use Rattle.cs_tools.specs.declared.tool.Form.{Form}
use Rattle.cs_tools.specs.declared.fault.ToolFault.{ToolFault}
use Rattle.cs_tools.specs.declared.fault.ToolFault.TheVariants.{Memory, Read}

pub fit_push : (changesets : List (List Group)) (groups : List Group) → AllByRecursion FitsChangeset changesets → FitsChangeset groups → AllByRecursion FitsChangeset (changesets ++ groups ∷ [])
fit_push [] groups all now = (now, tt)
fit_push (first ∷ changesets) groups all now = (all.0, fit_push changesets groups all.1 now)

pub read_none : NoneTaken → (input : Option (List ℕ)) (inputs : List (Vec ℕ)) → inputs ≡ [] → AreRead input input inputs
read_none none input inputs is = rw is ([], none input, tt)

pub read_more : OneMoreTaken → (input left after : Option (List ℕ)) (inputs now : List (Vec ℕ)) (bytes : Vec ℕ)
    → now ≡ inputs ++ bytes ∷ [] → AreRead input left inputs → TakesBytes (Some bytes) left after
    → AreRead input after now
read_more more input left after inputs now bytes is so_far took =
    let lines = so_far.0 in
    let line = took.0 in
    rw is (
      lines ++ line ∷ [],
      more input left after lines line so_far.1 took.1,
      zip_push (λ line (held : Vec ℕ). IsHexOf line held.items) lines inputs line bytes so_far.2 took.2,
    )

pub read_in_memory : (failed : Type 0) (input left after : Option (List ℕ)) (inputs now : List (Vec ℕ)) → now ≡ inputs → AreRead input left inputs
    → AreReadUpTo failed input after now (Some Memory)
read_in_memory failed input left after inputs now is so_far =
    rw is (so_far.0, so_far.2, (first_taken input left so_far.0 so_far.1, inl (inl refl)))

pub read_stopped : OneMoreTaken → (failed : Type 0) (input left after : Option (List ℕ)) (inputs : List (Vec ℕ)) (told : ToolFault)
    → AreRead input left inputs → IsNotTaken (TakesLine [] left after) (failed × StaysInLine left after) told
    → AreReadUpTo failed input after inputs (Some told)
read_stopped more failed input left after inputs told so_far (inl (inl memory)) =
    (so_far.0, so_far.2, (first_taken input left so_far.0 so_far.1, inl (inl memory)))
read_stopped more failed input left after inputs told so_far (inl (inr read)) =
    (so_far.0, so_far.2, (first_taken input left so_far.0 so_far.1, inl (inr (read.0, ((left, so_far.1, read.1.1), inl read.1.0)))))
read_stopped more failed input left after inputs told so_far (inr bad) =
    let further = first_taken input after (so_far.0 ++ bad.0 ∷ []) (more input left after so_far.0 bad.0 so_far.1 bad.1) in
    (so_far.0, so_far.2, (first_taken input left so_far.0 so_far.1, inr (bad.0, further, bad.2, bad.3)))

zip_length : {A B : Type 0} (R : A → B → Type 0) (xs : List A) (ys : List B) → AllZip R xs ys → length xs ≡ length ys
zip_length R [] [] all = refl
zip_length R [] (b ∷ ys) all = absurd all
zip_length R (a ∷ xs) [] all = absurd all
zip_length R (a ∷ xs) (b ∷ ys) all = ap suc (zip_length R xs ys all.1)

pub read_without_end : (failed : Type 0) (input left : Option (List ℕ)) (inputs : List (Vec ℕ)) → AreRead input left inputs
    → length inputs ≡ ASKS → AreReadUpTo failed input left inputs (Some Read)
read_without_end failed input left inputs so_far many =
    let all : length so_far.0 ≡ ASKS = zip_length (λ line (held : Vec ℕ). IsHexOf line held.items) so_far.0 inputs so_far.2 ∙ many in
    (so_far.0, so_far.2, (first_taken input left so_far.0 so_far.1, inl (inr (refl, ((left, so_far.1, stays left), inr all)))))

-- the changesets fit, and are those of the first inputs
pub record AreFirst (inputs : List (Vec ℕ)) (at : ℕ) (changesets : List (List Group)) : Type 0 where
  pub fit : AllByRecursion FitsChangeset changesets
  pub spelled : SpellAll (take at inputs) changesets

pub first_more : (inputs : List (Vec ℕ)) (at : ℕ) (bytes : Vec ℕ) (changesets now : List (List Group)) (groups : List Group)
    → at < length inputs → bytes ≡ get_or inputs at bytes → now ≡ changesets ++ groups ∷ []
    → AreFirst inputs at changesets → Spells FitsChangeset changeset_spelling bytes.items groups → AreFirst inputs (at + 1) now
first_more inputs at bytes changesets now groups less here is so_far spells =
    let wider : take (at + 1) inputs ≡ take at inputs ++ bytes ∷ [] = take_more inputs at bytes less ∙ ap (λ (b : Vec ℕ). take at inputs ++ b ∷ []) (sym here) in
    let zipped : SpellAll (take at inputs ++ bytes ∷ []) (changesets ++ groups ∷ []) = zip_push (λ (held : Vec ℕ) groups. Spells FitsChangeset changeset_spelling held.items groups) (take at inputs) changesets bytes groups so_far.spelled spells in
    record {
      fit = rw is (fit_push changesets groups so_far.fit spells.0);
      spelled = rw is (subst (λ (xs : List (Vec ℕ)). SpellAll xs (changesets ++ groups ∷ [])) (sym wider) zipped);
    }

-- what lines in hex spell
pub spelled_lines : (lines : List (List ℕ)) (inputs : List (Vec ℕ)) (changesets : List (List Group)) → AreHexOf lines inputs
    → SpellAll inputs changesets → SpellChangesets lines changesets
spelled_lines [] [] [] hex spell = tt
spelled_lines [] [] (groups ∷ changesets) hex spell = absurd spell
spelled_lines [] (bytes ∷ inputs) changesets hex spell = absurd hex
spelled_lines (line ∷ lines) [] changesets hex spell = absurd hex
spelled_lines (line ∷ lines) (bytes ∷ inputs) [] hex spell = absurd spell
spelled_lines (line ∷ lines) (bytes ∷ inputs) (groups ∷ changesets) hex spell =
    ((spell.0.0, hex.0 ∙ ap (λ held. Ok held) spell.0.1), spelled_lines lines inputs changesets hex.1 spell.1)

-- ---- lines that are refused

-- what reading bytes told, as a tool tells it
pub told_of_codec : {A : Type 0} (spelling : A → List ℕ) (Fits : A → Type 0) (IsFault : Fault → ℕ → List ℕ → Type 0) (bytes : List ℕ) (fault : CodecFault)
    → ReadsWhole spelling Fits IsFault bytes (Err fault) → (of_codec fault ≡ Memory) ⊎ AreBadBytes IsFault bytes (of_codec fault)
told_of_codec spelling Fits IsFault bytes codec.Memory is = inl refl
told_of_codec spelling Fits IsFault bytes (At fault offset) is = inr (fault, offset, is, refl)

-- the first inputs spell changesets, and the next one doesn't
pub bad_later : (at : ℕ) (inputs : List (Vec ℕ)) (changesets : List (List Group)) (bytes : Vec ℕ) (told : ToolFault)
    → SpellAll (take at inputs) changesets → at < length inputs → bytes ≡ get_or inputs at bytes
    → AreBadBytes IsChangesetFault bytes.items told → HasBadInput told inputs
bad_later at [] changesets bytes told spell less here bad = absurd (omega (arith, less))
bad_later zero (first ∷ inputs) changesets bytes told spell less here bad =
    inl (subst (λ (b : Vec ℕ). AreBadBytes IsChangesetFault b.items told) here bad)
bad_later (suc at) (first ∷ inputs) [] bytes told spell less here bad = absurd spell
bad_later (suc at) (first ∷ inputs) (groups ∷ changesets) bytes told spell less here bad =
    inr (groups, spell.0, bad_later at inputs changesets bytes told spell.1 (omega (arith, less)) here bad)

-- so it is with the lines that they are
pub bad_lines : (lines : List (List ℕ)) (inputs : List (Vec ℕ)) (told : ToolFault) → AreHexOf lines inputs → HasBadInput told inputs
    → HasBadLine told lines
bad_lines lines [] told hex bad = absurd bad
bad_lines [] (bytes ∷ inputs) told hex bad = absurd hex
bad_lines (line ∷ lines) (bytes ∷ inputs) told hex (inl bad) = inl (inr (bytes.items, hex.0, bad))
bad_lines (line ∷ lines) (bytes ∷ inputs) told hex (inr later) =
    inr (later.0, (later.1.0, hex.0 ∙ ap (λ held. Ok held) later.1.1), bad_lines lines inputs told hex.1 later.2)

-- lines behind them change nothing
pub bad_more : (lines rest : List (List ℕ)) (told : ToolFault) → HasBadLine told lines → HasBadLine told (lines ++ rest)
bad_more [] rest told bad = absurd bad
bad_more (line ∷ lines) rest told (inl bad) = inl bad
bad_more (line ∷ lines) rest told (inr later) = inr (later.0, later.1, bad_more lines rest told later.2)

-- a bad line behind lines that spell changesets
pub bad_last : (lines : List (List ℕ)) (changesets : List (List Group)) (line : List ℕ) (told : ToolFault)
    → SpellChangesets lines changesets → IsBadLine IsChangesetFault line told → HasBadLine told (lines ++ line ∷ [])
bad_last [] changesets line told spell bad = inl bad
bad_last (first ∷ lines) [] line told spell bad = absurd spell
bad_last (first ∷ lines) (groups ∷ changesets) line told spell bad =
    inr (groups, spell.0, bad_last lines changesets line told spell.1 bad)

-- first lines are those of all
pub all_behind : (input : Option (List ℕ)) (lines : List (List ℕ)) → AreFirstLines input lines
    → (rest : List (List ℕ)) × AreAllLines input (lines ++ rest)
all_behind None lines first = ([], tt)
all_behind (Some input) lines first = (first.0, sym first.1)

-- ---- one line

-- no line counts as the empty one
pub taken_none : (old new : Option (List ℕ)) (bytes : List ℕ) → bytes ≡ [] → IsAtEnd old → Keeps old new
    → TakesNextBytes bytes old new
unfolding decode_pairs
taken_none old new bytes is end kept = rw is ([], inr (end, kept, refl), refl)

-- the text of the bytes of the first line is that of what it spells
pub shows_first : {A : Type 0} (Fits : A → Type 0) (spelling text_of : A → List ℕ) (old new : Option (List ℕ)) (bytes text : List ℕ)
    → TakesNextBytes bytes old new → ShowsBytes Fits spelling text_of bytes text → ShowsFirst Fits spelling text_of old new text
shows_first Fits spelling text_of old new bytes text took shown =
    (took.0, shown.0, took.1, (shown.1.0, took.2 ∙ ap (λ held. Ok held) shown.1.1), shown.2)

-- so is the refusal of those bytes that of the line
pub refuses_first : (IsFault : Fault → ℕ → List ℕ → Type 0) (failed : Type 0) (old new : Option (List ℕ)) (bytes : List ℕ) (told : ToolFault)
    → TakesNextBytes bytes old new → (told ≡ Memory) ⊎ AreBadBytes IsFault bytes told → RefusesToShow IsFault failed old new told
refuses_first IsFault failed old new bytes told took (inl memory) = inl (inl memory)
refuses_first IsFault failed old new bytes told took (inr bad) = inr (took.0, took.1, inr (bytes, took.2, bad))

-- the two lines of a rebase, from their bytes
pub rebases_two : {E : Type 0} (form : Form) (old between new : Option (List ℕ)) (changeset conflicts : List ℕ) (groups : List Group)
    (blob : List BlobGroup) (local made : List TableChanges) (came : Result (Vec ℕ) E)
    → TakesNextBytes changeset old between
    → Spells FitsChangeset changeset_spelling changeset groups × IsCombined (groups ∷ []) local
    → TakesNextBytes conflicts between new
    → Spells FitsBlob blob_spelling conflicts blob × IsRebased blob local made
    → IfOk came (λ spelled. SpellsIn form (heads_of_both groups blob) made spelled.items)
    → IfOk came (λ spelled. Rebases form old new spelled.items)
rebases_two form old between new changeset conflicts groups blob local made (Err e) took formed then_took over spells = tt
rebases_two form old between new changeset conflicts groups blob local made (Ok spelled) took formed then_took over spells = record {
  groups = groups;
  local = local;
  blob = blob;
  made = made;
  lines = record {
    first = took.0;
    second = then_took.0;
    between = between;
    takes_first = took.1;
    changeset = (formed.0.0, took.2 ∙ ap (λ held. Ok held) formed.0.1);
    takes_second = then_took.1;
    conflicts = (over.0.0, then_took.2 ∙ ap (λ held. Ok held) over.0.1);
  };
  normal = formed.1;
  rebased = over.1;
  spelled = spells;
}

-- what is rebased is a line of it
pub rebases_lines : {E : Type 0} (form : Form) (old new : Option (List ℕ)) (came : Result (Vec ℕ) E)
    → IfOk came (λ bytes. Rebases form old new bytes.items) → IfOk came (λ bytes. RebasesLines form old new (hex_line bytes.items))
rebases_lines form old new (Ok bytes) is = (bytes.items, is, refl)
rebases_lines form old new (Err e) is = is
