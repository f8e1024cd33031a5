-- Parts of the inputs, read one after another.
use Rattle.std.specs.Prelude.{sum}
use Rattle.std.proofs.Common.{◌≡◌, ℕ, ◌+◌, ◌≤◌, List, [], ◌∷◌, ◌++◌, length, take, drop, refl, sym, ap, ◌∙◌, arith, append_assoc, length-append, get_or}
use Rattle.std.specs.List.{AllByRecursion}
use Rattle.std.proofs.lemmas.List.{take-append-drop, take_at, drop_at, length-take-le, length-drop, flat_map_more, map_push, append-nil, nil_from_length}
use Rattle.std.proofs.lemmas.List.Sums.{sum_by-cons, sum-map}
use Rattle.std.proofs.lemmas.List.Concat.{length-flat_map}
use Rattle.cs_change.specs.declared.group.Group.{Group}
use Rattle.cs_change.specs.Spelling.{changeset_spelling, FitsChangeset}
use Rattle.cs_ffi.specs.Answers.{no_memory, Spell}
use Rattle.cs_ffi.specs.CombinedAnswers.{spellings, spelled_lengths, ArePartsOf}
use Rattle.cs_ffi.specs.declared.answer.Answer.{Answer}

-- ---- cutting

pub cut_adds_up : (lengths bytes : List ℕ) (changesets : List (List Group)) → ArePartsOf lengths bytes changesets → sum lengths ≡ length bytes
cut_adds_up lengths bytes changesets cut =
    ap sum cut.parts ∙ sum-map (λ groups. length (changeset_spelling groups)) changesets
    ∙ sym (ap length cut.spelled ∙ length-flat_map changeset_spelling changesets)

-- the first part spells the first changeset, and what is left is cut into the others
pub cut_first : (n : ℕ) (more rest : List ℕ) (changesets : List (List Group)) → ArePartsOf (n ∷ more) rest changesets
    → (groups : List Group) × (others : List (List Group)) × (changesets ≡ groups ∷ others) × Spell (take n rest) groups × ArePartsOf more (drop n rest) others
cut_first n more rest [] cut = absurd (omega (arith, ap length cut.parts))
cut_first n more rest (groups ∷ others) cut =
    let len : length (changeset_spelling groups) ≡ n = ap (λ (l : List ℕ). get_or l 0 0) (sym cut.parts) in (
      groups,
      others,
      refl,
      (cut.fit.0, ap (take n) cut.spelled ∙ take_at (changeset_spelling groups) (spellings others) n len),
      record {
        fit = cut.fit.1;
        spelled = ap (drop n) cut.spelled ∙ drop_at (changeset_spelling groups) (spellings others) n len;
        parts = ap (drop 1) cut.parts;
      },
    )

pub no_parts : (changesets : List (List Group)) → [] ≡ spelled_lengths changesets → changesets ≡ []
no_parts [] parts = refl
no_parts (groups ∷ others) parts = absurd (omega (arith, ap length parts))

-- ---- some parts are read, and the others are left

pub record AreRead (lengths bytes left rest : List ℕ) (before : List (List Group)) : Type 0 where
  pub fit : AllByRecursion FitsChangeset before
  pub spelled : bytes ≡ spellings before ++ rest
  pub parts : lengths ≡ spelled_lengths before ++ left
  pub total : sum left ≡ length rest
  pub only : (changesets : List (List Group)) → ArePartsOf lengths bytes changesets → (more : List (List Group)) × (changesets ≡ before ++ more) × ArePartsOf left rest more

pub none_read : (lengths bytes : List ℕ) (before : List (List Group)) → before ≡ [] → sum lengths ≡ length bytes → AreRead lengths bytes lengths bytes before
none_read lengths bytes before none total = rw none record {
  fit = tt;
  spelled = refl;
  parts = refl;
  total = total;
  only = λ changesets cut. (changesets, refl, cut);
}

-- the next part is within what is left
pub part_within : (lengths bytes more rest : List ℕ) (n : ℕ) (before : List (List Group)) → AreRead lengths bytes (n ∷ more) rest before → n ≤ length rest
part_within lengths bytes more rest n before are = omega (arith, are.total, sum_by-cons (λ (k : ℕ). k) n more)

-- what is left is the end of the bytes
pub left_within : (lengths bytes left rest : List ℕ) (before : List (List Group)) → AreRead lengths bytes left rest before → length (spellings before) + length rest ≡ length bytes
left_within lengths bytes left rest before are = omega (arith, ap length are.spelled, length-append (spellings before) rest)

all_more : (before : List (List Group)) (groups : List Group) → AllByRecursion FitsChangeset before → FitsChangeset groups → AllByRecursion FitsChangeset (before ++ groups ∷ [])
all_more [] groups each one = (one, tt)
all_more (first ∷ before) groups each one = (each.0, all_more before groups each.1 one)

halves : (rest front : List ℕ) (n : ℕ) → front ++ rest ≡ front ++ (take n rest ++ drop n rest)
halves rest front n = ap (λ (t : List ℕ). front ++ t) (sym (take-append-drop n rest))

-- one more part is read
pub one_more_read : (lengths bytes more rest : List ℕ) (n : ℕ) (before after : List (List Group)) (groups : List Group)
    → after ≡ before ++ groups ∷ []
    → AreRead lengths bytes (n ∷ more) rest before
    → Spell (take n rest) groups
    → ((others : List Group) → Spell (take n rest) others → groups ≡ others)
    → AreRead lengths bytes more (drop n rest) after
one_more_read lengths bytes more rest n before after groups pushed are spells same =
    let within = part_within lengths bytes more rest n before are in
    let len : length (changeset_spelling groups) ≡ n = ap length (sym spells.1) ∙ length-take-le n rest within in
    let parts : lengths ≡ spelled_lengths (before ++ groups ∷ []) ++ more =
    are.parts ∙ ap (λ (m : ℕ). spelled_lengths before ++ m ∷ more) (sym len)
    ∙ sym (append_assoc (spelled_lengths before) (length (changeset_spelling groups) ∷ []) more)
    ∙ ap (λ (t : List ℕ). t ++ more) (sym (map_push (λ (g : List Group). length (changeset_spelling g)) before groups)) in
    rw pushed record {
      fit = all_more before groups are.fit spells.0;
      spelled = are.spelled ∙ halves rest (spellings before) n ∙ sym (append_assoc (spellings before) (take n rest) (drop n rest))
          ∙ ap (λ (t : List ℕ). t ++ drop n rest) (ap (λ (t : List ℕ). spellings before ++ t) spells.1 ∙ flat_map_more changeset_spelling [] before groups);
      parts = parts;
      total = omega (arith, are.total, sum_by-cons (λ (k : ℕ). k) n more, length-drop n rest, within);
      only = λ changesets cut.
          let found = are.only changesets cut in
          let next = cut_first n more rest found.0 found.2 in
          let first = same next.0 next.3 in
          (next.1, found.1 ∙ ap (λ (t : List (List Group)). before ++ t) next.2 ∙ ap (λ (g : List Group). before ++ g ∷ next.1) (sym first) ∙ sym (append_assoc before (groups ∷ []) next.1), next.4);
    }

-- all parts are read, and there are no others
pub only_read : (lengths bytes left rest : List ℕ) (before changesets : List (List Group)) → length left ≡ 0 → AreRead lengths bytes left rest before → ArePartsOf lengths bytes changesets → before ≡ changesets
only_read lengths bytes left rest before changesets ended are cut =
    let found = are.only changesets cut in
    let end = no_parts found.0 (sym (nil_from_length left ended) ∙ found.2.parts) in
    sym (found.1 ∙ ap (λ (t : List (List Group)). before ++ t) end ∙ append-nil before)

-- ---- a part that isn't read

-- where the bytes are cut into changesets, only memory is wanting
pub part_found : (lengths bytes more rest : List ℕ) (n : ℕ) (before : List (List Group)) (answer : Answer)
    → AreRead lengths bytes (n ∷ more) rest before
    → ((groups : List Group) → Spell (take n rest) groups → answer ≡ no_memory)
    → (changesets : List (List Group)) → ArePartsOf lengths bytes changesets → answer ≡ no_memory
part_found lengths bytes more rest n before answer are memory changesets cut =
    let found = are.only changesets cut in
    let next = cut_first n more rest found.0 found.2 in
    memory next.0 next.3
