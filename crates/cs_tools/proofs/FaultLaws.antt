-- An input has one fault for a tool, and none where a text is owed.
use Rattle.std.proofs.Common.{◌≡◌, ℕ, List, [], ◌∷◌, inl, inr, sym, ap, ap₂, ◌∙◌, subst}
use Rattle.std.specs.Prelude.{◌⊎◌, ⊤, Option, Some, Ok, Err, flat_map}
use Rattle.cs_blob.specs.Laws.{BlobLaws}
use Rattle.cs_blob.specs.Reading.{IsBlobFault}
use Rattle.cs_blob.specs.Spelling.{FitsBlob, blob_spelling}
use Rattle.cs_blob.specs.declared.blob.BlobGroup.{BlobGroup}
use Rattle.cs_change.specs.Spelling.{FitsChangeset, changeset_spelling}
use Rattle.cs_change.specs.declared.group.Group.{Group}
use Rattle.cs_changeset.specs.Laws.{ChangesetLaws}
use Rattle.cs_changeset.specs.Reading.{IsChangesetFault}
use Rattle.cs_changeset.specs.declared.fault.Fault.{Fault}
use Rattle.cs_changeset.specs.declared.fault.CodecFault.TheVariants.{At}
use Rattle.cs_group.specs.Combined.{IsCombined, NoFaultWhereCombined, OneCombined, OneCombineFault}
use Rattle.cs_normal.specs.declared.normal.TableChanges.{TableChanges}
use Rattle.cs_rebaser.specs.RebasedLaws.{NoWrongShape}
use Rattle.cs_column_bytes.specs.KeyPlaces.{Head, heads_of}
use Rattle.cs_column_bytes.specs.Laws.{OneOrderOrTwo}
use Rattle.cs_tools.specs.CombinedLines.{AreNotCombined, HasBadLine, HasFaultToCombine, RefusesToCombine, SpellChangesets, SpellsCombined}
use Rattle.cs_tools.specs.Endings.{Owes}
use Rattle.cs_tools.specs.Faults.{AreBadBytes, IsBadLine, IsBadNext, IsFailure, IsNoHex, IsOfNoLine}
use Rattle.cs_tools.specs.Laws.{NoFaultWhereOwed, OneFault}
use Rattle.cs_tools.specs.RebasedLine.{heads_of_both, HasFaultToRebase, IsRebased, Rebases, RefusesToRebase, TakesChangeset}
use Rattle.cs_tools.specs.ShownLine.{RefusesToShow}
use Rattle.cs_tools.specs.SpelledLine.{IsHexOf, SpellsBlob, SpellsInHex, TakesNext}
use Rattle.cs_tools.specs.WrittenForm.{IsNotWritten, SpellsIn}
use Rattle.cs_tools.specs.declared.fault.ToolFault.{ToolFault}
use Rattle.cs_tools.specs.declared.fault.ToolFault.TheVariants as told
use Rattle.cs_tools.specs.declared.tool.Form.{Form}
use Rattle.cs_tools.specs.declared.tool.Form.TheVariants.{Normal, Sqlite}
use Rattle.cs_tools.specs.declared.tool.Tool.TheVariants.{Combine, Rebase, ShowBlob, ShowChangeset}
use Rattle.cs_tools.proofs.TextLaws.{known_rest, one_in_hex, one_list, one_next}

-- the laws below
pub record Below : Type 0 where
  pub changesets : ChangesetLaws
  pub blobs : BlobLaws
  pub combined : OneCombined
  pub none : NoFaultWhereCombined
  pub one : OneCombineFault
  pub shapes : NoWrongShape
  pub orders : OneOrderOrTwo

-- ---- one line

-- bytes have one fault
abbrev pub HasOneFault : (Fault → ℕ → List ℕ → Type 0) → Type 0
HasOneFault IsFault = (f g : Fault) (o p : ℕ) (bytes : List ℕ) → IsFault f o bytes → IsFault g p bytes → (f ≡ g) × (o ≡ p)

-- and none where they spell something
abbrev pub HasNoFault : {A : Type 0} → (A → Type 0) → (A → List ℕ) → (Fault → ℕ → List ℕ → Type 0) → Type 0
HasNoFault {A} Fits spelling IsFault = (thing : A) (fault : Fault) (offset : ℕ) → Fits thing → IsFault fault offset (spelling thing) → ⊥

same_bytes : (line bytes other : List ℕ) → IsHexOf line bytes → IsHexOf line other → bytes ≡ other
same_bytes line bytes other first second =
    let both : Ok bytes ≡ Ok other = sym first ∙ second in cc

hex_or_none : (line bytes : List ℕ) → IsNoHex line → IsHexOf line bytes → ⊥
hex_or_none line bytes none hex =
    let both : Err none.0 ≡ Ok bytes = sym none.1 ∙ hex in cc

one_bad_bytes : (IsFault : Fault → ℕ → List ℕ → Type 0) → HasOneFault IsFault → (bytes : List ℕ) (some other : ToolFault)
    → AreBadBytes IsFault bytes some → AreBadBytes IsFault bytes other → some ≡ other
one_bad_bytes IsFault once bytes some other (f, o, is, first) (g, p, is', second) =
    let same = once f g o p bytes is is' in
    first ∙ ap₂ (λ fault offset. told.Codec (At fault offset)) same.0 same.1 ∙ sym second

one_bad_line : (IsFault : Fault → ℕ → List ℕ → Type 0) → HasOneFault IsFault → (line : List ℕ) (some other : ToolFault)
    → IsBadLine IsFault line some → IsBadLine IsFault line other → some ≡ other
one_bad_line IsFault once line some other (inl first) (inl second) = first.1 ∙ sym second.1
one_bad_line IsFault once line some other (inl first) (inr second) = absurd (hex_or_none line second.0 first.0 second.1)
one_bad_line IsFault once line some other (inr first) (inl second) = absurd (hex_or_none line first.0 second.0 first.1)
one_bad_line IsFault once line some other (inr first) (inr second) =
    let same = same_bytes line second.0 first.0 second.1 first.1 in
    one_bad_bytes IsFault once first.0 some other first.2 (subst (λ (b : List ℕ). AreBadBytes IsFault b other) same second.2)

spelled_not_bad : {A : Type 0} (Fits : A → Type 0) (spelling : A → List ℕ) (IsFault : Fault → ℕ → List ℕ → Type 0)
    → HasNoFault Fits spelling IsFault → (line : List ℕ) (thing : A) (why : ToolFault) → SpellsInHex Fits spelling line thing
    → IsBadLine IsFault line why → ⊥
spelled_not_bad Fits spelling IsFault right line thing why spells (inl bad) = hex_or_none line (spelling thing) bad.0 spells.1
spelled_not_bad Fits spelling IsFault right line thing why spells (inr bad) =
    let same = same_bytes line bad.0 (spelling thing) bad.1 spells.1 in
    right thing bad.2.0 bad.2.1 spells.0 (subst (λ (b : List ℕ). IsFault bad.2.0 bad.2.1 b) same bad.2.2)

-- ---- what lines spell together

pub not_combined_too : Below → (changesets : List (List Group)) (both : List TableChanges) (why : ToolFault) → IsCombined changesets both
    → AreNotCombined changesets why → ⊥
not_combined_too laws changesets both why combined not = not.2 (laws.none changesets both not.0 combined not.1)

pub one_not_combined : Below → (changesets : List (List Group)) (some other : ToolFault) → AreNotCombined changesets some
    → AreNotCombined changesets other → some ≡ other
one_not_combined laws changesets some other first second =
    first.3 ∙ ap told.Combine (laws.one changesets first.0 second.0 first.1 second.1 first.2 second.2) ∙ sym second.3

not_written_too : Below → (form : Form) (heads : List Head) (tables : List TableChanges) (bytes : List ℕ) (why : ToolFault)
    → SpellsIn form heads tables bytes → IsNotWritten form heads why → ⊥
not_written_too laws Normal heads tables bytes why spells not =
    let same = not.0 in cc
not_written_too laws Sqlite heads tables bytes why spells not = laws.orders heads spells.0 not.1

-- ---- all lines

one_bad_of_lines : Below → (lines : List (List ℕ)) (some other : ToolFault) → HasBadLine some lines → HasBadLine other lines → some ≡ other
one_bad_of_lines laws [] some other first second = absurd first
one_bad_of_lines laws (line ∷ lines) some other (inl first) (inl second) =
    one_bad_line IsChangesetFault laws.changesets.fault line some other first second
one_bad_of_lines laws (line ∷ lines) some other (inl first) (inr second) =
    absurd (spelled_not_bad FitsChangeset changeset_spelling IsChangesetFault laws.changesets.right line second.0 some second.1 first)
one_bad_of_lines laws (line ∷ lines) some other (inr first) (inl second) =
    absurd (spelled_not_bad FitsChangeset changeset_spelling IsChangesetFault laws.changesets.right line first.0 other first.1 second)
one_bad_of_lines laws (line ∷ lines) some other (inr first) (inr second) = one_bad_of_lines laws lines some other first.2 second.2

none_bad : Below → (lines : List (List ℕ)) (changesets : List (List Group)) (why : ToolFault) → SpellChangesets lines changesets
    → HasBadLine why lines → ⊥
none_bad laws [] changesets why spell bad = bad
none_bad laws (line ∷ lines) [] why spell bad = spell
none_bad laws (line ∷ lines) (groups ∷ changesets) why spell (inl bad) =
    spelled_not_bad FitsChangeset changeset_spelling IsChangesetFault laws.changesets.right line groups why spell.0 bad
none_bad laws (line ∷ lines) (groups ∷ changesets) why spell (inr bad) = none_bad laws lines changesets why spell.1 bad.2

-- what the lines spell is what they spell
same_changesets : Below → (lines : List (List ℕ)) (P : List (List Group) → Type 0) (some other : List (List Group))
    → SpellChangesets lines some → SpellChangesets lines other → P other → P some
same_changesets laws lines P some other first second holds =
    subst P (one_list laws.changesets.one lines other some second first) holds

none_to_combine : Below → (form : Form) (lines : List (List ℕ)) (bytes : List ℕ) (why : ToolFault) → SpellsCombined form lines bytes
    → HasFaultToCombine form lines why → ⊥
none_to_combine laws form lines bytes why owed (inl bad) = none_bad laws lines owed.changesets why owed.read bad
none_to_combine laws form lines bytes why owed (inr (inl (changesets, spell, not))) =
    not_combined_too laws owed.changesets owed.both why owed.combined
    (same_changesets laws lines (λ c. AreNotCombined c why) owed.changesets changesets owed.read spell not)
none_to_combine laws form lines bytes why owed (inr (inr (changesets, both, spell, combined, not))) =
    not_written_too laws form _ owed.both bytes why owed.spelled
    (same_changesets laws lines (λ c. IsNotWritten form (flat_map heads_of c) why) owed.changesets changesets owed.read spell not)

one_to_combine : Below → (form : Form) (lines : List (List ℕ)) (some other : ToolFault) → HasFaultToCombine form lines some
    → HasFaultToCombine form lines other → some ≡ other
one_to_combine laws form lines some other (inl first) (inl second) = one_bad_of_lines laws lines some other first second
one_to_combine laws form lines some other (inl first) (inr (inl second)) =
    absurd (none_bad laws lines second.0 some second.1 first)
one_to_combine laws form lines some other (inl first) (inr (inr second)) =
    absurd (none_bad laws lines second.0 some second.2 first)
one_to_combine laws form lines some other (inr (inl first)) (inl second) =
    absurd (none_bad laws lines first.0 other first.1 second)
one_to_combine laws form lines some other (inr (inl first)) (inr (inl second)) =
    one_not_combined laws first.0 some other first.2
    (same_changesets laws lines (λ c. AreNotCombined c other) first.0 second.0 first.1 second.1 second.2)
one_to_combine laws form lines some other (inr (inl first)) (inr (inr second)) =
    absurd (not_combined_too laws second.0 second.1 some second.3
    (same_changesets laws lines (λ c. AreNotCombined c some) second.0 first.0 second.2 first.1 first.2))
one_to_combine laws form lines some other (inr (inr first)) (inl second) =
    absurd (none_bad laws lines first.0 other first.2 second)
one_to_combine laws form lines some other (inr (inr first)) (inr (inl second)) =
    absurd (not_combined_too laws first.0 first.1 other first.3
    (same_changesets laws lines (λ c. AreNotCombined c other) first.0 second.0 first.2 second.1 second.2))
one_to_combine laws form lines some other (inr (inr first)) (inr (inr second)) = first.4.2 ∙ sym second.4.2

-- ---- the next line

one_bad_next : (IsFault : Fault → ℕ → List ℕ → Type 0) → HasOneFault IsFault → (input : List ℕ) (left next : Option (List ℕ))
    (some other : ToolFault) → IsBadNext IsFault (Some input) left some → IsBadNext IsFault (Some input) next other → some ≡ other
one_bad_next IsFault once input left next some other first second =
    let taken = one_next input second.0 first.0 next left second.1 first.1 in
    one_bad_line IsFault once first.0 some other first.2 (subst (λ (l : List ℕ). IsBadLine IsFault l other) taken.0 second.2)

not_bad_next : {A : Type 0} (Fits : A → Type 0) (spelling : A → List ℕ) (IsFault : Fault → ℕ → List ℕ → Type 0)
    → HasNoFault Fits spelling IsFault → (input line : List ℕ) (left next : Option (List ℕ)) (thing : A) (why : ToolFault)
    → TakesNext (Some input) left line → SpellsInHex Fits spelling line thing → IsBadNext IsFault (Some input) next why → ⊥
not_bad_next Fits spelling IsFault right input line left next thing why takes spells bad =
    let taken = one_next input bad.0 line next left bad.1 takes in
    spelled_not_bad Fits spelling IsFault right line thing why spells (subst (λ (l : List ℕ). IsBadLine IsFault l why) taken.0 bad.2)

-- ---- two lines

one_to_rebase : Below → (form : Form) (groups : List Group) (local : List TableChanges) (blob : List BlobGroup) (some other : ToolFault)
    → HasFaultToRebase form groups local blob some → HasFaultToRebase form groups local blob other → some ≡ other
one_to_rebase laws form groups local blob some other (inl (inl first)) (inl (inl second)) = first.1 ∙ sym second.1
one_to_rebase laws form groups local blob some other (inl (inl first)) (inl (inr second)) = absurd (first.0 second.0)
one_to_rebase laws form groups local blob some other (inl (inl first)) (inr second) = absurd (first.0 second.1.0)
one_to_rebase laws form groups local blob some other (inl (inr first)) (inl (inl second)) = absurd (second.0 first.0)
one_to_rebase laws form groups local blob some other (inl (inr first)) (inl (inr second)) = first.2 ∙ sym second.2
one_to_rebase laws form groups local blob some other (inl (inr first)) (inr second) = absurd (laws.shapes blob local second.1.1 first.1)
one_to_rebase laws form groups local blob some other (inr first) (inl (inl second)) = absurd (second.0 first.1.0)
one_to_rebase laws form groups local blob some other (inr first) (inl (inr second)) = absurd (laws.shapes blob local first.1.1 second.1)
one_to_rebase laws form groups local blob some other (inr first) (inr second) = first.2.2 ∙ sym second.2.2

none_to_rebase : Below → (form : Form) (groups : List Group) (local made : List TableChanges) (blob : List BlobGroup) (bytes : List ℕ)
    (why : ToolFault) → IsRebased blob local made → SpellsIn form (heads_of_both groups blob) made bytes
    → HasFaultToRebase form groups local blob why → ⊥
none_to_rebase laws form groups local made blob bytes why is spells (inl (inl twice)) = twice.0 is.0
none_to_rebase laws form groups local made blob bytes why is spells (inl (inr wrong)) = laws.shapes blob local is.1 wrong.1
none_to_rebase laws form groups local made blob bytes why is spells (inr not) =
    not_written_too laws form (heads_of_both groups blob) made bytes why spells not.2

-- what is wrong with the second line, or with its blob beside the first
abbrev FaultOfSecond : Form → Option (List ℕ) → Option (List ℕ) → List Group → List TableChanges → ToolFault → Type 0
FaultOfSecond form between new groups local why =
    IsBadNext IsBlobFault between new why
    ⊎ ((second : List ℕ) × (blob : List BlobGroup) × TakesNext between new second × SpellsBlob second blob
    × HasFaultToRebase form groups local blob why)

-- what is wrong where the first line spells a changeset
abbrev FaultBehind : Form → Option (List ℕ) → Option (List ℕ) → List Group → ToolFault → Type 0
FaultBehind form between new groups why =
    AreNotCombined (groups ∷ []) why
    ⊎ ((local : List TableChanges) × IsCombined (groups ∷ []) local × FaultOfSecond form between new groups local why)

-- the same in the order in which the lines are judged
abbrev FaultOfFirst : Form → Option (List ℕ) → Option (List ℕ) → ToolFault → Type 0
FaultOfFirst form old new why =
    IsBadNext IsChangesetFault old new why
    ⊎ ((between : Option (List ℕ)) × (groups : List Group) × TakesChangeset old between groups × FaultBehind form between new groups why)

of_no_line : (failed : Type 0) (why : ToolFault) → IsFailure failed why → IsOfNoLine why
of_no_line failed why (inl memory) = inl memory
of_no_line failed why (inr read) = inr read.0

in_order : (form : Form) (failed : Type 0) (old new : Option (List ℕ)) (why : ToolFault) → RefusesToRebase form failed old new why
    → IsOfNoLine why ⊎ FaultOfFirst form old new why
in_order form failed old new why (inl failure) = inl (of_no_line _ why failure)
in_order form failed old new why (inr (inl bad)) = inr (inl bad)
in_order form failed old new why (inr (inr (inl (groups, takes, not)))) = inr (inr (new, groups, takes, inl not))
in_order form failed old new why (inr (inr (inr (inl (between, groups, local, takes, combined, bad))))) =
    inr (inr (between, groups, takes, inr (local, combined, inl bad)))
in_order form failed old new why (inr (inr (inr (inr (groups, local, blob, both, combined, has))))) =
    inr (inr (
      both.between,
      groups,
      (both.first, both.takes_first, both.changeset),
      inr (local, combined, inr (both.second, blob, both.takes_second, both.conflicts, has)),
    ))

one_of_second : Below → (form : Form) (input : List ℕ) (left next : Option (List ℕ)) (groups : List Group) (local : List TableChanges)
    (some other : ToolFault) → FaultOfSecond form (Some input) left groups local some
    → FaultOfSecond form (Some input) next groups local other → some ≡ other
one_of_second laws form input left next groups local some other (inl first) (inl second) =
    one_bad_next IsBlobFault laws.blobs.fault input left next some other first second
one_of_second laws form input left next groups local some other (inl first) (inr (line, blob, takes, spells, has)) =
    absurd (not_bad_next FitsBlob blob_spelling IsBlobFault laws.blobs.right input line next left blob some takes spells first)
one_of_second laws form input left next groups local some other (inr (line, blob, takes, spells, has)) (inl second) =
    absurd (not_bad_next FitsBlob blob_spelling IsBlobFault laws.blobs.right input line left next blob other takes spells second)
one_of_second laws form input left next groups local some other (inr (line, blob, takes, spells, has)) (inr (line', blob', takes', spells', has')) =
    let taken = one_next input line' line next left takes' takes in
    let same = one_in_hex FitsBlob blob_spelling laws.blobs.one line blob' blob
    (subst (λ (l : List ℕ). SpellsBlob l blob') taken.0 spells') spells in
    one_to_rebase laws form groups local blob some other has
    (subst (λ (b : List BlobGroup). HasFaultToRebase form groups local b other) same has')

one_behind : Below → (form : Form) (input : List ℕ) (left next : Option (List ℕ)) (groups : List Group) (some other : ToolFault)
    → FaultBehind form (Some input) left groups some → FaultBehind form (Some input) next groups other → some ≡ other
one_behind laws form input left next groups some other (inl first) (inl second) =
    one_not_combined laws (groups ∷ []) some other first second
one_behind laws form input left next groups some other (inl first) (inr (local, combined, rest)) =
    absurd (not_combined_too laws (groups ∷ []) local some combined first)
one_behind laws form input left next groups some other (inr (local, combined, rest)) (inl second) =
    absurd (not_combined_too laws (groups ∷ []) local other combined second)
one_behind laws form input left next groups some other (inr (local, combined, rest)) (inr (local', combined', rest')) =
    let same = laws.combined (groups ∷ []) local' local combined' combined in
    one_of_second laws form input left next groups local some other rest
    (subst (λ (l : List TableChanges). FaultOfSecond form (Some input) next groups l other) same rest')

one_of_first : Below → (form : Form) (input : List ℕ) (left next : Option (List ℕ)) (some other : ToolFault)
    → FaultOfFirst form (Some input) left some → FaultOfFirst form (Some input) next other → some ≡ other
one_of_first laws form input left next some other (inl first) (inl second) =
    one_bad_next IsChangesetFault laws.changesets.fault input left next some other first second
one_of_first laws form input left next some other (inl first) (inr (between, groups, (line, takes, spells), rest)) =
    absurd (not_bad_next FitsChangeset changeset_spelling IsChangesetFault laws.changesets.right input line between left groups some takes spells first)
one_of_first laws form input left next some other (inr (between, groups, (line, takes, spells), rest)) (inl second) =
    absurd (not_bad_next FitsChangeset changeset_spelling IsChangesetFault laws.changesets.right input line between next groups other takes spells second)
one_of_first laws form input left next some other (inr (between, groups, (line, takes, spells), rest)) (inr (between', groups', (line', takes', spells'), rest')) =
    let taken = one_next input line' line between' between takes' takes in
    let same = one_in_hex FitsChangeset changeset_spelling laws.changesets.one line groups' groups
    (subst (λ (l : List ℕ). SpellsInHex FitsChangeset changeset_spelling l groups') taken.0 spells') spells in
    let known = known_rest input line between takes in
    let here = subst (λ (b : Option (List ℕ)). FaultBehind form b left groups some) known.1 rest in
    let there = subst (λ (b : Option (List ℕ)). FaultBehind form b next groups' other) (taken.1 ∙ known.1) rest' in
    one_behind laws form known.0 left next groups some other here
    (subst (λ (g : List Group). FaultBehind form (Some known.0) next g other) same there)

none_of_second : Below → (form : Form) (input bytes line : List ℕ) (left next : Option (List ℕ)) (groups : List Group)
    (local made : List TableChanges) (blob : List BlobGroup) (why : ToolFault) → TakesNext (Some input) left line → SpellsBlob line blob
    → IsRebased blob local made → SpellsIn form (heads_of_both groups blob) made bytes
    → FaultOfSecond form (Some input) next groups local why → ⊥
none_of_second laws form input bytes line left next groups local made blob why takes spells is written (inl bad) =
    not_bad_next FitsBlob blob_spelling IsBlobFault laws.blobs.right input line left next blob why takes spells bad
none_of_second laws form input bytes line left next groups local made blob why takes spells is written (inr (line', blob', takes', spells', has)) =
    let taken = one_next input line' line next left takes' takes in
    let same = one_in_hex FitsBlob blob_spelling laws.blobs.one line blob' blob
    (subst (λ (l : List ℕ). SpellsBlob l blob') taken.0 spells') spells in
    none_to_rebase laws form groups local made blob bytes why is written
    (subst (λ (b : List BlobGroup). HasFaultToRebase form groups local b why) same has)

none_of_first : Below → (form : Form) (input bytes : List ℕ) (left next : Option (List ℕ)) (why : ToolFault)
    → Rebases form (Some input) left bytes → FaultOfFirst form (Some input) next why → ⊥
none_of_first laws form input bytes left next why owed (inl bad) =
    not_bad_next FitsChangeset changeset_spelling IsChangesetFault laws.changesets.right input owed.lines.first owed.lines.between next
    owed.groups why owed.lines.takes_first owed.lines.changeset bad
none_of_first laws form input bytes left next why owed (inr (between, groups, (line, takes, spells), rest)) =
    let taken = one_next input line owed.lines.first between owed.lines.between takes owed.lines.takes_first in
    let same = one_in_hex FitsChangeset changeset_spelling laws.changesets.one owed.lines.first groups owed.groups
    (subst (λ (l : List ℕ). SpellsInHex FitsChangeset changeset_spelling l groups) taken.0 spells) owed.lines.changeset in
    let known = known_rest input owed.lines.first owed.lines.between owed.lines.takes_first in
    let there = subst (λ (b : Option (List ℕ)). FaultBehind form b next groups why) (taken.1 ∙ known.1) rest in
    let second = subst (λ (b : Option (List ℕ)). TakesNext b left owed.lines.second) known.1 owed.lines.takes_second in
    elim (subst (λ (g : List Group). FaultBehind form (Some known.0) next g why) same there) [
      | inl not ↦ not_combined_too laws (owed.groups ∷ []) owed.local why owed.normal not
      | inr behind ↦ none_of_second laws form known.0 bytes owed.lines.second left next owed.groups owed.local owed.made owed.blob why second owed.lines.conflicts owed.rebased owed.spelled (subst (λ (l : List TableChanges). FaultOfSecond form (Some known.0) next owed.groups l why) (laws.combined (owed.groups ∷ []) behind.0 owed.local behind.1 owed.normal) behind.2)
    ]

-- ---- each tool

one_shown : (IsFault : Fault → ℕ → List ℕ → Type 0) → HasOneFault IsFault → (input : List ℕ) (left next : Option (List ℕ))
    (some other : ToolFault) → RefusesToShow IsFault ⊤ (Some input) left some → RefusesToShow IsFault ⊤ (Some input) next other
    → IsOfNoLine some ⊎ IsOfNoLine other ⊎ (some ≡ other)
one_shown IsFault once input left next some other (inl failure) second = inl (of_no_line _ some failure)
one_shown IsFault once input left next some other (inr first) (inl failure) = inr (inl (of_no_line _ other failure))
one_shown IsFault once input left next some other (inr first) (inr second) =
    inr (inr (one_bad_next IsFault once input left next some other first second))

one_combining : Below → (form : Form) (input : List ℕ) (left next : Option (List ℕ)) (some other : ToolFault) → RefusesToCombine form ⊤ (Some input) left some
    → RefusesToCombine form ⊤ (Some input) next other → IsOfNoLine some ⊎ IsOfNoLine other ⊎ (some ≡ other)
one_combining laws form input left next some other (inl failure) second = inl (of_no_line _ some failure)
one_combining laws form input left next some other (inr first) (inl failure) = inr (inl (of_no_line _ other failure))
one_combining laws form input left next some other (inr first) (inr second) =
    let same = second.1 ∙ sym first.1 in
    inr (inr (one_to_combine laws form first.0 some other first.2 (subst (λ (l : List (List ℕ)). HasFaultToCombine form l other) same second.2)))

one_rebasing : Below → (form : Form) (input : List ℕ) (left next : Option (List ℕ)) (some other : ToolFault)
    → IsOfNoLine some ⊎ FaultOfFirst form (Some input) left some → IsOfNoLine other ⊎ FaultOfFirst form (Some input) next other
    → IsOfNoLine some ⊎ IsOfNoLine other ⊎ (some ≡ other)
one_rebasing laws form input left next some other (inl failure) second = inl failure
one_rebasing laws form input left next some other (inr first) (inl failure) = inr (inl failure)
one_rebasing laws form input left next some other (inr first) (inr second) =
    inr (inr (one_of_first laws form input left next some other first second))

pub one_fault : Below → OneFault
one_fault laws (Combine form) input left next some other first second = one_combining laws form input left next some other first second
one_fault laws (Rebase form) input left next some other first second =
    one_rebasing laws form input left next some other (in_order form ⊤ (Some input) left some first) (in_order form ⊤ (Some input) next other second)
one_fault laws ShowChangeset input left next some other first second =
    one_shown IsChangesetFault laws.changesets.fault input left next some other first second
one_fault laws ShowBlob input left next some other first second =
    one_shown IsBlobFault laws.blobs.fault input left next some other first second

none_combining : Below → (form : Form) (input text : List ℕ) (left next : Option (List ℕ)) (why : ToolFault)
    → Owes (Combine form) (Some input) left text → RefusesToCombine form ⊤ (Some input) next why → IsOfNoLine why
none_combining laws form input text left next why owed (inl failure) = of_no_line _ why failure
none_combining laws form input text left next why owed (inr has) =
    let same = has.1 ∙ sym owed.2 in
    absurd (none_to_combine laws form owed.0 owed.1 why owed.3 (subst (λ (l : List (List ℕ)). HasFaultToCombine form l why) same has.2))

none_rebasing : Below → (form : Form) (input text : List ℕ) (left next : Option (List ℕ)) (why : ToolFault)
    → Owes (Rebase form) (Some input) left text → IsOfNoLine why ⊎ FaultOfFirst form (Some input) next why → IsOfNoLine why
none_rebasing laws form input text left next why owed (inl failure) = failure
none_rebasing laws form input text left next why owed (inr has) =
    absurd (none_of_first laws form input owed.0 left next why owed.1 has)

none_showing : {A : Type 0} (Fits : A → Type 0) (spelling : A → List ℕ) (IsFault : Fault → ℕ → List ℕ → Type 0)
    → HasNoFault Fits spelling IsFault → (input line : List ℕ) (left next : Option (List ℕ)) (thing : A) (why : ToolFault)
    → TakesNext (Some input) left line → SpellsInHex Fits spelling line thing → RefusesToShow IsFault ⊤ (Some input) next why → IsOfNoLine why
none_showing Fits spelling IsFault right input line left next thing why takes spells (inl failure) = of_no_line _ why failure
none_showing Fits spelling IsFault right input line left next thing why takes spells (inr bad) =
    absurd (not_bad_next Fits spelling IsFault right input line left next thing why takes spells bad)

pub no_fault_where_owed : Below → NoFaultWhereOwed
no_fault_where_owed laws (Combine form) input text left next why owed refused = none_combining laws form input text left next why owed refused
no_fault_where_owed laws (Rebase form) input text left next why owed refused =
    none_rebasing laws form input text left next why owed (in_order form ⊤ (Some input) next why refused)
no_fault_where_owed laws ShowChangeset input text left next why owed refused =
    none_showing FitsChangeset changeset_spelling IsChangesetFault laws.changesets.right input owed.0 left next owed.1 why owed.2 owed.3 refused
no_fault_where_owed laws ShowBlob input text left next why owed refused =
    none_showing FitsBlob blob_spelling IsBlobFault laws.blobs.right input owed.0 left next owed.1 why owed.2 owed.3 refused
