-- An input has one text that `combine` owes, and one that `show` does.
use Rattle.std.proofs.Common.{◌≡◌, ℕ, inl, inr, List, [], ◌∷◌, ◌++◌, length, arith, length-append, sym, ap, ap₂, ◌∙◌, refl, subst}
use Rattle.std.specs.Prelude.{Option, Some, None, Ok, flat_map}
use Rattle.std.specs.Io.KnownBytes.{Keeps}
use Rattle.std.proofs.lemmas.List.{append_cancel_left}
use Rattle.cs_blob.specs.declared.blob.BlobGroup.{BlobGroup}
use Rattle.cs_blob.specs.Laws.{OneBlob}
use Rattle.cs_blob.specs.Spelling.{FitsBlob, blob_spelling}
use Rattle.cs_change.specs.Spelling.{FitsChangeset, changeset_spelling}
use Rattle.cs_change.specs.declared.group.Group.{Group}
use Rattle.cs_changeset.specs.Laws.{OneChangeset}
use Rattle.cs_group.specs.Combined.{IsCombined, OneCombined}
use Rattle.cs_lines.specs.Lines.{hex_line, lines_of}
use Rattle.cs_lines.specs.Reading.{IsCut}
use Rattle.cs_normal.specs.Normal.{normal_spelling}
use Rattle.cs_normal.specs.declared.normal.TableChanges.{TableChanges}
use Rattle.cs_rebaser.specs.Rebased.{rebased}
use Rattle.cs_column_bytes.specs.KeyPlaces.{Head, HasTwoOrders, heads_of, sqlite_spelling}
use Rattle.cs_column_bytes.specs.Laws.{OneOrderOrTwo}
use Rattle.cs_text.specs.Text.{blob_text, changeset_text}
use Rattle.cs_tools.specs.CombinedLines.{SpellChangesets, SpellsCombined}
use Rattle.cs_tools.specs.Laws.{NothingCombinedOfTwoOrders, NothingRebasedOfTwoOrders, OneCombinedText, OneRebasedText, OneShownBlob, OneShownChangeset}
use Rattle.cs_tools.specs.ShownLine.{ShowsFirst}
use Rattle.cs_tools.specs.RebasedLine.{heads_of_both, IsRebased, Rebases, TakesBoth}
use Rattle.cs_tools.specs.SpelledLine.{SpellsBlob, SpellsChangeset, SpellsInHex, TakesNext}
use Rattle.cs_tools.specs.WrittenForm.{SpellsIn}
use Rattle.cs_tools.specs.declared.tool.Form.{Form}
use Rattle.cs_tools.specs.declared.tool.Form.TheVariants.{Normal, Sqlite}

-- bytes spell one thing
abbrev pub OneSpelled : {A : Type 0} → (A → Type 0) → (A → List ℕ) → Type 0
OneSpelled {A} Fits spelling = (a b : A) → Fits a → Fits b → spelling a ≡ spelling b → a ≡ b

pub one_in_hex : {A : Type 0} (Fits : A → Type 0) (spelling : A → List ℕ) → OneSpelled Fits spelling → (line : List ℕ) (some other : A)
    → SpellsInHex Fits spelling line some → SpellsInHex Fits spelling line other → some ≡ other
one_in_hex Fits spelling once line some other first second =
    let bytes : Ok (spelling some) ≡ Ok (spelling other) = sym first.1 ∙ second.1 in
    let same : spelling some ≡ spelling other = cc in
    once some other first.0 second.0 same

pub one_list : OneChangeset → (lines : List (List ℕ)) (ones others : List (List Group)) → SpellChangesets lines ones
    → SpellChangesets lines others → ones ≡ others
one_list once [] [] [] first second = refl
one_list once [] [] (b ∷ others) first second = absurd second
one_list once [] (a ∷ ones) others first second = absurd first
one_list once (line ∷ lines) [] others first second = absurd first
one_list once (line ∷ lines) (a ∷ ones) [] first second = absurd second
one_list once (line ∷ lines) (a ∷ ones) (b ∷ others) first second =
    ap₂ (λ x xs. x ∷ xs) (one_in_hex FitsChangeset changeset_spelling once line a b first.0 second.0) (one_list once lines ones others first.1 second.1)

-- in a form, by the same headers, a changeset has one spelling
pub one_in_form : (form : Form) (heads same : List Head) (tables others : List TableChanges) (bytes other : List ℕ) → heads ≡ same
    → tables ≡ others → SpellsIn form heads tables bytes → SpellsIn form same others other → bytes ≡ other
one_in_form Normal heads same tables others bytes other headed is first second = first ∙ ap normal_spelling is ∙ sym second
one_in_form Sqlite heads same tables others bytes other headed is first second =
    first.1 ∙ ap₂ sqlite_spelling headed is ∙ sym second.1

one_spelled : OneCombined → OneChangeset → (form : Form) (lines : List (List ℕ)) (bytes others : List ℕ)
    → SpellsCombined form lines bytes → SpellsCombined form lines others → bytes ≡ others
one_spelled combined once form lines bytes others first second =
    let same = one_list once lines first.changesets second.changesets first.read second.read in
    let both = combined first.changesets first.both second.both first.combined
    (subst (λ (l : List (List Group)). IsCombined l second.both) (sym same) second.combined) in
    one_in_form form _ _ first.both second.both bytes others (ap (flat_map heads_of) same) both first.spelled second.spelled

pub one_combined_text : OneCombined → OneChangeset → OneCombinedText
one_combined_text combined once form input text other first second =
    let lines : first.0 ≡ second.0 = first.2 ∙ sym second.2 in
    let bytes = one_spelled combined once form first.0 first.1 second.1 first.3
    (subst (λ (l : List (List ℕ)). SpellsCombined form l second.1) (sym lines) second.3) in
    first.4 ∙ ap hex_line bytes ∙ sym second.4

nothing_taken : (input : List ℕ) (line : List ℕ) (lines : List (List ℕ)) → input ≡ [] → lines_of input ≡ line ∷ lines → ⊥
nothing_taken [] line lines none some = cc
nothing_taken (x ∷ input) line lines none some = cc

-- behind one line stands one rest
same_rest : (bytes line rest other : List ℕ) → IsCut bytes line rest → IsCut bytes line other → rest ≡ other
same_rest bytes line rest other (inl first) (inl second) =
    let both : 10 ∷ rest ≡ 10 ∷ other = append_cancel_left line (10 ∷ rest) (10 ∷ other) (sym first ∙ second) in cc
same_rest bytes line rest other (inl first) (inr second) =
    let longer : length line ≡ length (line ++ 10 ∷ rest) = ap length (sym second.0 ∙ first) in
    absurd (omega (arith, length-append line (10 ∷ rest), longer))
same_rest bytes line rest other (inr first) (inl second) =
    let longer : length line ≡ length (line ++ 10 ∷ other) = ap length (sym first.0 ∙ second) in
    absurd (omega (arith, length-append line (10 ∷ other), longer))
same_rest bytes line rest other (inr first) (inr second) = first.1 ∙ sym second.1

kept_is : (input : List ℕ) (left : Option (List ℕ)) → Keeps (Some input) left → left ≡ Some input
kept_is input None kept = absurd kept
kept_is input (Some bytes) kept = ap Some kept

-- there is one next line, and one rest
pub one_next : (input line other : List ℕ) (left next : Option (List ℕ)) → TakesNext (Some input) left line
    → TakesNext (Some input) next other → (line ≡ other) × (left ≡ next)
one_next input line other left next (inl first) (inl second) =
    let both : line ∷ lines_of first.0 ≡ other ∷ lines_of second.0 = sym first.2 ∙ second.2 in
    let same : line ≡ other = cc in
    let rest = same_rest input line first.0 second.0 first.3
    (subst (λ (l : List ℕ). IsCut input l second.0) (sym same) second.3) in
    (same, first.1 ∙ ap Some rest ∙ sym second.1)
one_next input line other left next (inl first) (inr second) =
    absurd (nothing_taken input line (lines_of first.0) second.0 first.2)
one_next input line other left next (inr first) (inl second) =
    absurd (nothing_taken input other (lines_of second.0) first.0 second.2)
one_next input line other left next (inr first) (inr second) =
    (first.2 ∙ sym second.2, kept_is input left first.1 ∙ sym (kept_is input next second.1))

-- what the first line spells is one thing, of which there is one text
one_shown : {A : Type 0} (Fits : A → Type 0) (spelling text_of : A → List ℕ) → OneSpelled Fits spelling
    → (input text other : List ℕ) (left next : Option (List ℕ)) → ShowsFirst Fits spelling text_of (Some input) left text
    → ShowsFirst Fits spelling text_of (Some input) next other → (text ≡ other) × (left ≡ next)
one_shown Fits spelling text_of once input text other left next first second =
    let taken = one_next input first.0 second.0 left next first.2 second.2 in
    let same = one_in_hex Fits spelling once first.0 first.1 second.1 first.3
    (subst (λ (l : List ℕ). SpellsInHex Fits spelling l second.1) (sym taken.0) second.3) in
    (first.4 ∙ ap text_of same ∙ sym second.4, taken.1)

pub one_shown_changeset : OneChangeset → OneShownChangeset
one_shown_changeset once = one_shown FitsChangeset changeset_spelling changeset_text once

pub one_shown_blob : OneBlob → OneShownBlob
one_shown_blob once = one_shown FitsBlob blob_spelling blob_text once

-- what is left behind a line is known
pub known_rest : (input line : List ℕ) (left : Option (List ℕ)) → TakesNext (Some input) left line → (rest : List ℕ) × (left ≡ Some rest)
known_rest input line left (inl took) = (took.0, took.1)
known_rest input line left (inr none) = (input, kept_is input left none.1)

one_rebased : (some other : List BlobGroup) (local same made too : List TableChanges) → some ≡ other → local ≡ same
    → IsRebased some local made → IsRebased other same too → made ≡ too
one_rebased some other local same made too blobs locals first second = first.2 ∙ ap₂ rebased blobs locals ∙ sym second.2

-- two lines spell one changeset and one blob, and leave one rest
pub one_pair : OneChangeset → OneBlob → (input : List ℕ) (left next : Option (List ℕ)) (groups same : List Group) (blob other : List BlobGroup)
    → TakesBoth (Some input) left groups blob → TakesBoth (Some input) next same other
    → (groups ≡ same) × (blob ≡ other) × (left ≡ next)
one_pair changesets blobs input left next groups same blob other first second =
    let taken = one_next input first.first second.first first.between second.between first.takes_first second.takes_first in
    let read = one_in_hex FitsChangeset changeset_spelling changesets first.first groups same first.changeset
    (subst (λ (l : List ℕ). SpellsChangeset l same) (sym taken.0) second.changeset) in
    let rest = known_rest input first.first first.between first.takes_first in
    let here : TakesNext (Some rest.0) left first.second = subst (λ (b : Option (List ℕ)). TakesNext b left first.second) rest.1 first.takes_second in
    let there : TakesNext (Some rest.0) next second.second =
    subst (λ (b : Option (List ℕ)). TakesNext b next second.second) (sym taken.1 ∙ rest.1) second.takes_second in
    let behind = one_next rest.0 first.second second.second left next here there in
    let conflicts = one_in_hex FitsBlob blob_spelling blobs first.second blob other first.conflicts
    (subst (λ (l : List ℕ). SpellsBlob l other) (sym behind.0) second.conflicts) in
    (read, conflicts, behind.1)

one_rebasing : OneCombined → OneChangeset → OneBlob → (form : Form) (input bytes others : List ℕ) (left next : Option (List ℕ))
    → Rebases form (Some input) left bytes → Rebases form (Some input) next others → (bytes ≡ others) × (left ≡ next)
one_rebasing combined changesets blobs form input bytes others left next first second =
    let pair = one_pair changesets blobs input left next first.groups second.groups first.blob second.blob first.lines second.lines in
    let local = combined (first.groups ∷ []) first.local second.local first.normal
    (subst (λ (g : List Group). IsCombined (g ∷ []) second.local) (sym pair.0) second.normal) in
    let made = one_rebased first.blob second.blob first.local second.local first.made second.made pair.1 local first.rebased second.rebased in
    (one_in_form form _ _ first.made second.made bytes others (ap₂ heads_of_both pair.0 pair.1) made first.spelled second.spelled, pair.2)

pub one_rebased_text : OneCombined → OneChangeset → OneBlob → OneRebasedText
one_rebased_text combined changesets blobs form input text other left next first second =
    let once = one_rebasing combined changesets blobs form input first.0 second.0 left next first.1 second.1 in
    (first.2 ∙ ap hex_line once.0 ∙ sym second.2, once.1)

-- ---- two orders of a key's columns

pub nothing_combined : OneOrderOrTwo → OneChangeset → NothingCombinedOfTwoOrders
nothing_combined one_or_two once input text lines changesets all read two owed =
    let same : owed.0 ≡ lines = owed.2 ∙ sym all in
    let came = owed.3 in
    let is = one_list once lines came.changesets changesets
    (subst (λ (l : List (List ℕ)). SpellChangesets l came.changesets) same came.read) read in
    one_or_two (flat_map heads_of came.changesets) came.spelled.0
    (subst (λ (c : List (List Group)). HasTwoOrders (flat_map heads_of c)) (sym is) two)

pub nothing_rebased : OneOrderOrTwo → OneChangeset → OneBlob → NothingRebasedOfTwoOrders
nothing_rebased one_or_two changesets blobs input text left next groups blob lines two owed =
    let came = owed.1 in
    let pair = one_pair changesets blobs input left next groups came.groups blob came.blob lines came.lines in
    one_or_two (heads_of_both came.groups came.blob) came.spelled.0
    (subst HasTwoOrders (ap₂ heads_of_both pair.0 pair.1) two)
