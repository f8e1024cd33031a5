-- Where a group begins: its header's parts, and the groups before it.
use Rattle.std.proofs.Common.{◌≡◌, ℕ, ◌+◌, Bool, List, [], ◌∷◌, ◌++◌, length, refl, sym, ap, ◌∙◌, append_assoc, arith, inl, inr, length-append}
use Rattle.std.specs.Prelude.{IsUtf8}
use Rattle.cs_varint.specs.Varint.{spelling}
use Rattle.cs_change.specs.declared.group.Group.{Group}
use Rattle.cs_change.specs.Spelling.{marks_of, header_spelling, changes_spelling, changeset_spelling, group_spelling, FitsHeader, FitsChangeset}
use Rattle.cs_changeset.specs.Reading.{FitsMarks, HasNoZero, EndsEarly, BadName, IsGroupsFault, IsChangesetFault}
use Rattle.cs_changeset.specs.declared.fault.Fault.{Fault}
use Rattle.cs_feed.specs.Feeding.{IsChangeset}
use Rattle.cs_feed.specs.Steps.{ChangesAhead, ChangesWrong, HeaderAhead, HeaderWrong, NameAhead, NameWrong}

-- ---- a group at the front

pub groups_ahead : (rest : List ℕ) → HeaderAhead rest → (groups : List Group) × FitsChangeset groups × (rest ≡ changeset_spelling groups)
groups_ahead rest (marks, name, more, fits, e, (changes, groups, are, groups_are, e')) =
    let group : Group = record { marks = marks; name = name; changes = changes } in
    (group ∷ groups, ((fits, are), groups_are), e ∙ ap (λ (t : List ℕ). header_spelling marks name ++ t) e' ∙ sym (append_assoc (header_spelling marks name) (changes_spelling changes) (changeset_spelling groups)))

pub header_spells : (rest : List ℕ) → HeaderAhead rest → IsChangeset rest
header_spells rest ahead = groups_ahead rest ahead

pub header_follows : (keys : List Bool) (rest : List ℕ) → HeaderAhead rest → ChangesAhead keys rest
header_follows keys rest ahead = let groups = groups_ahead rest ahead in ([], groups.0, tt, groups.1, groups.2)

-- what is wrong behind a header is wrong with the group, or with those behind it
body_wrong : (marks name : List ℕ) (fault : Fault) (offset inner : ℕ) (rest more : List ℕ) → FitsHeader marks name → rest ≡ header_spelling marks name ++ more → offset ≡ length (header_spelling marks name) + inner
    → ChangesWrong (marks_of marks) fault inner more → IsGroupsFault fault offset rest
body_wrong marks name fault offset inner rest more fits e there (inl told) = record {
  before = [];
  rest = rest;
  inner = offset;
  whole = tt;
  parts = refl;
  wrong = inr (record {
    before = (marks, name);
    rest = more;
    inner = inner;
    whole = fits;
    parts = e;
    wrong = told;
    there = there;
  });
  there = omega arith;
}
body_wrong marks name fault offset inner rest more fits e there (inr told) =
    let group : Group = record { marks = marks; name = name; changes = told.before } in
    let behind = told.wrong in
    let spelled : group_spelling group ≡ header_spelling marks name ++ changes_spelling told.before = refl in
    record {
      before = group ∷ behind.before;
      rest = behind.rest;
      inner = behind.inner;
      whole = ((fits, told.whole), behind.whole);
      parts = e ∙ ap (λ (t : List ℕ). header_spelling marks name ++ t) (told.parts ∙ ap (λ (t : List ℕ). changes_spelling told.before ++ t) behind.parts)
          ∙ sym (append_assoc (header_spelling marks name) (changes_spelling told.before) (changeset_spelling behind.before ++ behind.rest))
          ∙ sym (append_assoc (group_spelling group) (changeset_spelling behind.before) behind.rest);
      wrong = behind.wrong;
      there = omega (arith, there, told.there, behind.there, length-append (header_spelling marks name) (changes_spelling told.before), length-append (group_spelling group) (changeset_spelling behind.before));
    }

pub groups_wrong : (fault : Fault) (offset : ℕ) (rest : List ℕ) → HeaderWrong fault offset rest → IsGroupsFault fault offset rest
groups_wrong fault offset rest (inl told) = record {
  before = [];
  rest = rest;
  inner = offset;
  whole = tt;
  parts = refl;
  wrong = inl told;
  there = omega arith;
}
groups_wrong fault offset rest (inr told) =
    body_wrong told.before.0 told.before.1 fault offset told.inner rest told.rest told.whole told.parts told.there told.wrong

pub header_told : (fault : Fault) (offset : ℕ) (rest : List ℕ) → HeaderWrong fault offset rest → IsChangesetFault fault offset rest
header_told fault offset rest told = inr (groups_wrong fault offset rest told)

pub header_wrong : (keys : List Bool) (fault : Fault) (offset : ℕ) (rest : List ℕ) → HeaderWrong fault offset rest → ChangesWrong keys fault offset rest
header_wrong keys fault offset rest told =
    inr (record {
      before = [];
      rest = rest;
      inner = offset;
      whole = tt;
      parts = refl;
      wrong = groups_wrong fault offset rest told;
      there = omega arith;
    })

-- ---- the name behind the column bytes

-- the byte that begins a group, and the column bytes behind their count
abbrev pub columns_front : List ℕ → List ℕ
columns_front marks = 84 ∷ (spelling (length marks) ++ marks)

name_same : (marks name rest more : List ℕ) → rest ≡ (name ++ 0 ∷ []) ++ more → columns_front marks ++ rest ≡ header_spelling marks name ++ more
name_same marks name rest more e =
    ap (λ (t : List ℕ). 84 ∷ t) (ap (λ (t : List ℕ). (spelling (length marks) ++ marks) ++ t) e ∙ simp append_assoc refl)

header_of : (marks name : List ℕ) → FitsMarks marks → HasNoZero name → IsUtf8 name → FitsHeader marks name
header_of marks name fits none text = record { some = fits.0.0; limit = fits.0.1; key = fits.1; text = text; ended = none }

pub name_follows : (marks : List ℕ) → FitsMarks marks → (rest : List ℕ) → NameAhead (marks_of marks) rest → HeaderAhead (columns_front marks ++ rest)
name_follows marks fits rest (name, more, none, text, e, ahead) =
    (marks, name, more, header_of marks name fits none text, name_same marks name rest more e, ahead)

header_long : (marks name : List ℕ) → length (header_spelling marks name) ≡ length (columns_front marks) + length (name ++ 0 ∷ [])
header_long marks name =
    omega (arith, length-append (spelling (length marks) ++ marks ++ name) (0 ∷ []), length-append (spelling (length marks) ++ marks) name, length-append (spelling (length marks)) marks, length-append name (0 ∷ []))

pub name_wrong : (marks : List ℕ) → FitsMarks marks → (fault : Fault) (offset : ℕ) (rest : List ℕ) → NameWrong (marks_of marks) fault offset rest → HeaderWrong fault (length (columns_front marks) + offset) (columns_front marks ++ rest)
name_wrong marks fits fault offset rest (inl (is, end, none)) =
    inl (EndsEarly, is, (omega (arith, end, length-append (columns_front marks) rest), inr (inr (marks, rest, refl, fits, none))))
name_wrong marks fits fault offset rest (inr (inl (is, end, (name, more, none, no_text, e)))) =
    inl (BadName, is, (marks, name, more, name_same marks name rest more e, fits, none, no_text, omega (arith, end, length-append (spelling (length marks)) marks)))
name_wrong marks fits fault offset rest (inr (inr told)) =
    inr (record {
      before = (marks, told.before);
      rest = told.rest;
      inner = told.inner;
      whole = header_of marks told.before fits told.whole.0 told.whole.1;
      parts = name_same marks told.before rest told.rest told.parts;
      wrong = told.wrong;
      there = omega (arith, told.there, header_long marks told.before);
    })

-- the name is read
pub changes_follow : (keys : List Bool) (name : List ℕ) → HasNoZero name → IsUtf8 name → (rest : List ℕ) → ChangesAhead keys rest → NameAhead keys ((name ++ 0 ∷ []) ++ rest)
changes_follow keys name none text rest ahead = (name, rest, none, text, refl, ahead)

pub changes_wrong : (keys : List Bool) (name : List ℕ) → HasNoZero name → IsUtf8 name → (fault : Fault) (offset : ℕ) (rest : List ℕ) → ChangesWrong keys fault offset rest → NameWrong keys fault (length (name ++ 0 ∷ []) + offset) ((name ++ 0 ∷ []) ++ rest)
changes_wrong keys name none text fault offset rest told =
    inr (inr (record {
      before = name;
      rest = rest;
      inner = offset;
      whole = (none, text);
      parts = refl;
      wrong = told;
      there = refl;
    }))
