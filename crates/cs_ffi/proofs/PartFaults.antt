-- Inputs are cut into changesets in one way, or a part of them has the first fault.
use Rattle.std.proofs.Common.{◌≡◌, ◌⊎◌, inl, inr, ℕ, ◌+◌, List, [], ◌∷◌, ◌++◌, length, take, drop, refl, sym, ap, subst, ◌∙◌, arith, append_assoc, length-append}
use Rattle.std.specs.List.{AllByRecursion}
use Rattle.std.proofs.lemmas.List.{take_at, drop_at}
use Rattle.cs_change.specs.declared.group.Group.{Group}
use Rattle.cs_change.specs.Spelling.{changeset_spelling, FitsChangeset}
use Rattle.cs_changeset.specs.Laws.{ChangesetLaws}
use Rattle.cs_changeset.specs.Reading.{IsChangesetFault}
use Rattle.cs_changeset.specs.declared.fault.Fault.{Fault}
use Rattle.cs_ffi.specs.Answers.{Spell}
use Rattle.cs_ffi.specs.CombinedAnswers.{spellings, spelled_lengths, ArePartsOf, IsPartFault}
use Rattle.cs_ffi.proofs.Parts.{cut_first, no_parts}

pub one_cut : ChangesetLaws → (lengths bytes : List ℕ) (some others : List (List Group)) → ArePartsOf lengths bytes some → ArePartsOf lengths bytes others → some ≡ others
one_cut laws [] bytes some others s o = no_parts some s.parts ∙ sym (no_parts others o.parts)
one_cut laws (n ∷ more) bytes some others s o =
    let a = cut_first n more bytes some s in
    let b = cut_first n more bytes others o in
    let first : a.0 ≡ b.0 = laws.one a.0 b.0 a.3.0 b.3.0 (sym a.3.1 ∙ b.3.1) in
    let rest : a.1 ≡ b.1 = one_cut laws more (drop n bytes) a.1 b.1 a.4 b.4 in
    a.2 ∙ ap (λ (g : List Group). g ∷ a.1) first ∙ ap (λ (gs : List (List Group)). b.0 ∷ gs) rest ∙ sym b.2

-- the first part has the fault, or it spells a changeset and the parts behind it have the fault
abbrev IsFirstFault : ℕ → List ℕ → List ℕ → Fault → ℕ → Type 0
IsFirstFault n more bytes fault offset =
    IsChangesetFault fault offset (take n bytes)
    ⊎ ((groups : List Group) × (inner : ℕ) × Spell (take n bytes) groups × IsPartFault more (drop n bytes) fault inner × (offset ≡ n + inner))

head_is : (n m : ℕ) (more others : List ℕ) → n ∷ more ≡ m ∷ others → m ≡ n
head_is n m more others is = cc

fault_first : (n : ℕ) (more bytes : List ℕ) (fault : Fault) (offset : ℕ) → IsPartFault (n ∷ more) bytes fault offset → IsFirstFault n more bytes fault offset
fault_first n more bytes fault offset is =
    split is.before is.fit is.spelled is.parts is.there
  where
    split : (before : List (List Group)) → AllByRecursion FitsChangeset before → bytes ≡ spellings before ++ (is.part ++ is.rest) → n ∷ more ≡ spelled_lengths before ++ (length is.part ∷ is.others)
        → offset ≡ length (spellings before) + is.inner → IsFirstFault n more bytes fault offset
    split [] fit spelled parts there =
        let len : length is.part ≡ n = head_is n (length is.part) more is.others parts in
        let front : take n bytes ≡ is.part = ap (take n) spelled ∙ take_at is.part is.rest n len in
        inl (subst (λ (at : ℕ). IsChangesetFault fault at (take n bytes)) (omega arith) (subst (λ (b : List ℕ). IsChangesetFault fault is.inner b) (sym front) is.told))
    split (groups ∷ before) fit spelled parts there =
        let rest = spellings before ++ (is.part ++ is.rest) in
        let len : length (changeset_spelling groups) ≡ n = head_is n (length (changeset_spelling groups)) more (spelled_lengths before ++ (length is.part ∷ is.others)) parts in
        let whole : bytes ≡ changeset_spelling groups ++ rest = spelled ∙ append_assoc (changeset_spelling groups) (spellings before) (is.part ++ is.rest) in
        inr (
          groups,
          length (spellings before) + is.inner,
          (fit.0, ap (take n) whole ∙ take_at (changeset_spelling groups) rest n len),
          record {
            before = before;
            part = is.part;
            rest = is.rest;
            others = is.others;
            inner = is.inner;
            fit = fit.1;
            spelled = ap (drop n) whole ∙ drop_at (changeset_spelling groups) rest n len;
            parts = ap (drop 1) parts;
            told = is.told;
            there = refl;
          },
          omega (arith, there, length-append (changeset_spelling groups) (spellings before), len),
        )

no_first : (bytes : List ℕ) (fault : Fault) (offset : ℕ) → IsPartFault [] bytes fault offset → ⊥
no_first bytes fault offset is =
    omega (arith, ap length is.parts, length-append (spelled_lengths is.before) (length is.part ∷ is.others))

no_fault_here : ChangesetLaws → (bytes : List ℕ) (groups : List Group) (fault : Fault) (offset : ℕ) → Spell bytes groups → IsChangesetFault fault offset bytes → ⊥
no_fault_here laws bytes groups fault offset spells told =
    laws.right groups fault offset spells.0 (subst (λ (b : List ℕ). IsChangesetFault fault offset b) spells.1 told)

pub no_part_fault : ChangesetLaws → (lengths bytes : List ℕ) (changesets : List (List Group)) (fault : Fault) (offset : ℕ) → ArePartsOf lengths bytes changesets → IsPartFault lengths bytes fault offset → ⊥
no_part_fault laws [] bytes changesets fault offset cut told = no_first bytes fault offset told
no_part_fault laws (n ∷ more) bytes changesets fault offset cut told =
    let first = cut_first n more bytes changesets cut in
    elim (fault_first n more bytes fault offset told) [
      | inl here ↦ no_fault_here laws (take n bytes) first.0 fault offset first.3 here
      | inr behind ↦ no_part_fault laws more (drop n bytes) first.1 fault behind.1 first.4 behind.3
    ]

pub one_part_fault : ChangesetLaws → (lengths bytes : List ℕ) (f g : Fault) (o p : ℕ) → IsPartFault lengths bytes f o → IsPartFault lengths bytes g p → (f ≡ g) × (o ≡ p)
one_part_fault laws [] bytes f g o p told told' = absurd (no_first bytes f o told)
one_part_fault laws (n ∷ more) bytes f g o p told told' =
    elim (fault_first n more bytes f o told) [
      | inl here ↦ elim (fault_first n more bytes g p told') [
        | inl there ↦ laws.fault f g o p (take n bytes) here there
        | inr behind ↦ absurd (no_fault_here laws (take n bytes) behind.0 f o behind.2 here)
      ]
      | inr behind ↦ elim (fault_first n more bytes g p told') [
        | inl there ↦ absurd (no_fault_here laws (take n bytes) behind.0 g p behind.2 there)
        | inr behind' ↦
            let both = one_part_fault laws more (drop n bytes) f g behind.1 behind'.1 behind.3 behind'.3 in
            (both.0, omega (arith, behind.4, behind'.4, both.1))
      ]
    ]
