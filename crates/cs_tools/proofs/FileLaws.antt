-- Files have one text that `show` and `combine` owe, or one fault.
use Rattle.std.proofs.Common.{◌≡◌, ℕ, List, [], ◌∷◌, Option, inl, inr, refl, sym, ap, ap₂, ◌∙◌, subst}
use Rattle.std.specs.Prelude.{◌⊎◌, IfSome, flat_map}
use Rattle.std.specs.List.{AllZip}
use Rattle.cs_blob.specs.Reading.{IsBlobFault}
use Rattle.cs_blob.specs.Spelling.{FitsBlob, blob_spelling}
use Rattle.cs_change.specs.Spelling.{FitsChangeset, changeset_spelling}
use Rattle.cs_change.specs.declared.group.Group.{Group}
use Rattle.cs_changeset.specs.Reading.{IsChangesetFault}
use Rattle.cs_changeset.specs.declared.fault.Fault.{Fault}
use Rattle.cs_changeset.specs.declared.fault.CodecFault.TheVariants.{At}
use Rattle.cs_column_bytes.specs.KeyPlaces.{heads_of}
use Rattle.cs_group.specs.Combined.{IsCombined}
use Rattle.cs_lines.specs.Lines.{hex_line}
use Rattle.cs_text.specs.Text.{blob_text, changeset_text}
use Rattle.cs_tools.specs.CombinedLines.{AreNotCombined}
use Rattle.cs_tools.specs.Faults.{IsFailure, IsOfNoLine}
use Rattle.cs_tools.specs.Files.{ChangesetAt, CombinesFiles, HasBadFile, HeldAt, IsBadFile, IsFile, IsUnread, OneCombinedFault, OneCombinedOfFiles, OneShownFile, OneShownFileFault, Reading, RefusesFiles, SpelledAt}
use Rattle.cs_tools.specs.declared.fault.ToolFault.{ToolFault}
use Rattle.cs_tools.specs.declared.fault.ToolFault.TheVariants as told
use Rattle.cs_tools.specs.declared.input_files.InputFiles.{Ghosts}
use Rattle.cs_tools.specs.declared.show.Shown.TheVariants.{Blob, Changeset}
use Rattle.cs_tools.specs.declared.tool.Form.{Form}
use Rattle.cs_tools.proofs.FaultLaws.{Below, HasNoFault, HasOneFault, not_combined_too, one_not_combined}
use Rattle.cs_tools.proofs.TextLaws.{OneSpelled, one_in_form}

-- it is one fault, or no file is the reason of one of them
abbrev Agree : ToolFault → ToolFault → Type 0
Agree some other = IsOfNoLine some ⊎ IsOfNoLine other ⊎ (some ≡ other)

module _ {F I : Type 0} (reads : Reading I) (g : Ghosts F I) (files : F) where
  -- ---- one file

  held_is : (path bytes held : List ℕ) → IsFile reads g files path bytes → HeldAt reads g files path held → held ≡ bytes
  held_is path bytes held is (input, there, known) = subst (λ (o : Option (List ℕ)). IfSome o (λ b. held ≡ b)) (is input there) known

  one_at : {A : Type 0} (Fits : A → Type 0) (spelling : A → List ℕ) → OneSpelled Fits spelling → (path bytes : List ℕ) (some other : A) → IsFile reads g files path bytes
      → SpelledAt reads g files Fits spelling path some → SpelledAt reads g files Fits spelling path other → some ≡ other
  one_at Fits spelling once path bytes some other is (held, at, (fits, spells)) (its, its_at, (its_fit, its_spell)) =
      once some other fits its_fit (sym spells ∙ held_is path bytes held is at ∙ sym (held_is path bytes its is its_at) ∙ its_spell)

  no_line : (path : List ℕ) (why : ToolFault) → IsFailure (IsUnread reads g files path) why → IsOfNoLine why
  no_line path why (inl memory) = inl memory
  no_line path why (inr (read, unread)) = inr read

  fault_of : (IsFault : Fault → ℕ → List ℕ → Type 0) (path bytes : List ℕ) (input : I) (fault : Fault) (offset : ℕ) → IsFile reads g files path bytes → g.opened files path input
      → IfSome (reads.remaining input) (λ b. IsFault fault offset b) → IsFault fault offset bytes
  fault_of IsFault path bytes input fault offset is there known = subst (λ (o : Option (List ℕ)). IfSome o (λ b. IsFault fault offset b)) (is input there) known

  one_bad_file : (IsFault : Fault → ℕ → List ℕ → Type 0) → HasOneFault IsFault → (path bytes : List ℕ) (some other : ToolFault) → IsFile reads g files path bytes
      → IsBadFile reads g files IsFault path some → IsBadFile reads g files IsFault path other → Agree some other
  one_bad_file IsFault once path bytes some other is (inl first) second = inl (no_line path some first)
  one_bad_file IsFault once path bytes some other is (inr first) (inl second) = inr (inl (no_line path other second))
  one_bad_file IsFault once path bytes some other is (inr (input, f, o, there, known, told_so)) (inr (its, g, p, its_there, its_known, its_told)) =
      let same = once f g o p bytes (fault_of IsFault path bytes input f o is there known) (fault_of IsFault path bytes its g p is its_there its_known) in
      inr (inr (told_so ∙ ap₂ (λ fault offset. told.Codec (At fault offset)) same.0 same.1 ∙ sym its_told))

  spelled_not_bad_file : {A : Type 0} (Fits : A → Type 0) (spelling : A → List ℕ) (IsFault : Fault → ℕ → List ℕ → Type 0) → HasNoFault Fits spelling IsFault → (path bytes : List ℕ) (thing : A) (why : ToolFault)
      → IsFile reads g files path bytes → SpelledAt reads g files Fits spelling path thing → IsBadFile reads g files IsFault path why → IsOfNoLine why
  spelled_not_bad_file Fits spelling IsFault right path bytes thing why is spelled (inl failure) = no_line path why failure
  spelled_not_bad_file Fits spelling IsFault right path bytes thing why is (held, at, (fits, spells)) (inr (input, fault, offset, there, known, told_so)) =
      let its : bytes ≡ spelling thing = sym (held_is path bytes held is at) ∙ spells in
      absurd (right thing fault offset fits (subst (λ (b : List ℕ). IsFault fault offset b) its (fault_of IsFault path bytes input fault offset is there known)))

  -- ---- several

  module _ (laws : Below) where
    one_of_files : (paths contents : List (List ℕ)) (ones others : List (List Group)) → AllZip (IsFile reads g files) paths contents
        → AllZip (ChangesetAt reads g files) paths ones → AllZip (ChangesetAt reads g files) paths others → ones ≡ others
    one_of_files [] contents [] [] are first second = refl
    one_of_files [] contents [] (b ∷ others) are first second = absurd second
    one_of_files [] contents (a ∷ ones) others are first second = absurd first
    one_of_files (path ∷ paths) [] ones others are first second = absurd are
    one_of_files (path ∷ paths) (bytes ∷ contents) [] others are first second = absurd first
    one_of_files (path ∷ paths) (bytes ∷ contents) (a ∷ ones) [] are first second = absurd second
    one_of_files (path ∷ paths) (bytes ∷ contents) (a ∷ ones) (b ∷ others) are first second =
        ap₂ (λ x xs. x ∷ xs) (one_at FitsChangeset changeset_spelling laws.changesets.one path bytes a b are.0 first.0 second.0)
        (one_of_files paths contents ones others are.1 first.1 second.1)

    pub one_combined_of_files : (form : Form) (paths contents : List (List ℕ)) (text other : List ℕ) → AllZip (IsFile reads g files) paths contents
        → CombinesFiles reads g files form paths text → CombinesFiles reads g files form paths other → text ≡ other
    one_combined_of_files form paths contents text other are first second =
        let same = one_of_files paths contents first.changesets second.changesets are first.read second.read in
        let both =
        laws.combined first.changesets first.both second.both first.combined
        (subst (λ (l : List (List Group)). IsCombined l second.both) (sym same) second.combined) in
        let bytes = one_in_form form _ _ first.both second.both first.bytes second.bytes (ap (flat_map heads_of) same) both first.spelled second.spelled in
        first.written ∙ ap hex_line bytes ∙ sym second.written

    -- what is told of files one of which spells nothing
    one_bad_of_files : (paths contents : List (List ℕ)) (some other : ToolFault) → AllZip (IsFile reads g files) paths contents
        → HasBadFile reads g files some paths → HasBadFile reads g files other paths → Agree some other
    one_bad_of_files [] contents some other are first second = absurd first
    one_bad_of_files (path ∷ paths) [] some other are first second = absurd are
    one_bad_of_files (path ∷ paths) (bytes ∷ contents) some other are (inl first) (inl second) =
        one_bad_file IsChangesetFault laws.changesets.fault path bytes some other are.0 first second
    one_bad_of_files (path ∷ paths) (bytes ∷ contents) some other are (inl first) (inr second) =
        inl (spelled_not_bad_file FitsChangeset changeset_spelling IsChangesetFault laws.changesets.right path bytes second.0 some are.0 second.1 first)
    one_bad_of_files (path ∷ paths) (bytes ∷ contents) some other are (inr first) (inl second) =
        inr (inl (spelled_not_bad_file FitsChangeset changeset_spelling IsChangesetFault laws.changesets.right path bytes first.0 other are.0 first.1 second))
    one_bad_of_files (path ∷ paths) (bytes ∷ contents) some other are (inr first) (inr second) =
        one_bad_of_files paths contents some other are.1 first.2 second.2

    none_bad_of_files : (paths contents : List (List ℕ)) (changesets : List (List Group)) (why : ToolFault) → AllZip (IsFile reads g files) paths contents
        → AllZip (ChangesetAt reads g files) paths changesets → HasBadFile reads g files why paths → IsOfNoLine why
    none_bad_of_files [] contents changesets why are spell bad = absurd bad
    none_bad_of_files (path ∷ paths) [] changesets why are spell bad = absurd are
    none_bad_of_files (path ∷ paths) (bytes ∷ contents) [] why are spell bad = absurd spell
    none_bad_of_files (path ∷ paths) (bytes ∷ contents) (groups ∷ changesets) why are spell (inl bad) =
        spelled_not_bad_file FitsChangeset changeset_spelling IsChangesetFault laws.changesets.right path bytes groups why are.0 spell.0 bad
    none_bad_of_files (path ∷ paths) (bytes ∷ contents) (groups ∷ changesets) why are spell (inr bad) =
        none_bad_of_files paths contents changesets why are.1 spell.1 bad.2

    module _ (form : Form) (paths contents : List (List ℕ)) (are : AllZip (IsFile reads g files) paths contents) where
      its_too : (P : List (List Group) → Type 0) (some other : List (List Group)) → AllZip (ChangesetAt reads g files) paths some
          → AllZip (ChangesetAt reads g files) paths other → P other → P some
      its_too P some other first second holds = subst P (one_of_files paths contents other some are second first) holds

      pub one_combined_fault : (some other : ToolFault) → RefusesFiles reads g files form paths some → RefusesFiles reads g files form paths other → Agree some other
      one_combined_fault some other (inl memory) second = inl (inl memory)
      one_combined_fault some other (inr first) (inl memory) = inr (inl (inl memory))
      one_combined_fault some other (inr (inl first)) (inr (inl second)) = one_bad_of_files paths contents some other are first second
      one_combined_fault some other (inr (inl first)) (inr (inr (inl second))) = inl (none_bad_of_files paths contents second.0 some are second.1 first)
      one_combined_fault some other (inr (inl first)) (inr (inr (inr second))) = inl (none_bad_of_files paths contents second.0 some are second.2 first)
      one_combined_fault some other (inr (inr (inl first))) (inr (inl second)) = inr (inl (none_bad_of_files paths contents first.0 other are first.1 second))
      one_combined_fault some other (inr (inr (inr first))) (inr (inl second)) = inr (inl (none_bad_of_files paths contents first.0 other are first.2 second))
      one_combined_fault some other (inr (inr (inl first))) (inr (inr (inl second))) =
          inr (inr (one_not_combined laws first.0 some other first.2 (its_too (λ c. AreNotCombined c other) first.0 second.0 first.1 second.1 second.2)))
      one_combined_fault some other (inr (inr (inl first))) (inr (inr (inr second))) =
          absurd (not_combined_too laws second.0 second.1 some second.3 (its_too (λ c. AreNotCombined c some) second.0 first.0 second.2 first.1 first.2))
      one_combined_fault some other (inr (inr (inr first))) (inr (inr (inl second))) =
          absurd (not_combined_too laws first.0 first.1 other first.3 (its_too (λ c. AreNotCombined c other) first.0 second.0 first.2 second.1 second.2))
      one_combined_fault some other (inr (inr (inr first))) (inr (inr (inr second))) = inr (inr (first.4.2 ∙ sym second.4.2))

module _ (laws : Below) {F I : Type 0} (reads : Reading I) (g : Ghosts F I) where
  pub one_shown_file : OneShownFile reads g
  one_shown_file files Changeset path bytes text other is first second =
      first.2
      ∙ ap changeset_text (one_at reads g files FitsChangeset changeset_spelling laws.changesets.one path bytes first.0 second.0 is first.1 second.1)
      ∙ sym second.2
  one_shown_file files Blob path bytes text other is first second =
      first.2
      ∙ ap blob_text (one_at reads g files FitsBlob blob_spelling laws.blobs.one path bytes first.0 second.0 is first.1 second.1)
      ∙ sym second.2

  pub one_shown_file_fault : OneShownFileFault reads g
  one_shown_file_fault files Changeset path bytes some other is first second =
      one_bad_file reads g files IsChangesetFault laws.changesets.fault path bytes some other is first second
  one_shown_file_fault files Blob path bytes some other is first second =
      one_bad_file reads g files IsBlobFault laws.blobs.fault path bytes some other is first second

  pub one_combined_of : OneCombinedOfFiles reads g
  one_combined_of files form paths contents text other are first second =
      one_combined_of_files reads g files laws form paths contents text other are first second

  pub one_combined_fault_of : OneCombinedFault reads g
  one_combined_fault_of files form paths contents some other are first second =
      one_combined_fault reads g files laws form paths contents are some other first second
