-- Bytes spell a list of groups, or have a fault, whatever the entries of a group are. Crates above cite it.
use Rattle.std.proofs.Common.{◌≡◌, ℕ, zero, suc, ◌+◌, ◌<◌, ◌≤◌, Bool, List, [], ◌∷◌, ◌++◌, length, refl, sym, ap, ◌∙◌, append_assoc, arith, inl, inr, length-append}
use Rattle.std.specs.Prelude.{◌⊎◌}
use Rattle.std.specs.List.{flat_map, AllByRecursion}
use Rattle.std.proofs.lemmas.Bool.{cases_eq}
use Rattle.cs_varint.specs.Bytes.{AreBytes, bytes_rest, byte_before}
use Rattle.cs_record.specs.Reading.{FaultBehind}
use Rattle.cs_change.specs.Spelling.{marks_of, header_spelling, FitsHeader}
use Rattle.cs_changeset.specs.Groups.{EntryLaws}
use Rattle.cs_changeset.specs.Laws.{HeaderLaws}
use Rattle.cs_changeset.specs.Reading.{HasFault, group_bytes, IsEntriesFault, IsGroupOf, IsGroupFaultOf, IsFileFault}
use Rattle.cs_changeset.specs.Steps.{EndsGroup}
use Rattle.cs_changeset.specs.declared.fault.Fault.{Fault}
use Rattle.cs_changeset.specs.declared.fault.Fault.TheVariants.{Patchset, BadMark}

-- what begins bytes and isn't empty leaves fewer
fewer_left : (bytes front rest : List ℕ) (fuel : ℕ) → bytes ≡ front ++ rest → 0 < length front → length bytes ≤ suc fuel → length rest ≤ fuel
fewer_left bytes front rest fuel e some short = omega (arith, ap length e, length-append front rest, some, short)

some_there : (front : List ℕ) → ([] ≡ front ++ [] → ⊥) → 0 < length front
some_there [] none = absurd (none refl)
some_there (b ∷ front) none = omega arith

-- something before what is spelled one after another
spelled_more : {X : Type 0} (sp : X → List ℕ) (bytes more rest : List ℕ) (x : X) (xs : List X) → bytes ≡ sp x ++ more → more ≡ flat_map sp xs ++ rest → bytes ≡ flat_map sp (x ∷ xs) ++ rest
spelled_more sp bytes more rest x xs e f =
    e ∙ ap (λ (t : List ℕ). sp x ++ t) f ∙ sym (append_assoc (sp x) (flat_map sp xs) rest)

module _ {X : Type 0} (sp : X → List ℕ) (IsWhole : X → Type 0) (IsWrong : Fault → ℕ → List ℕ → Type 0) where
  -- whole things, and behind them one that is wrong
  abbrev Behind : List ℕ → Type 0
  Behind bytes = HasFault (FaultBehind (flat_map sp) (AllByRecursion IsWhole) (λ _. IsWrong)) bytes

  wrong_at_once : (bytes : List ℕ) → HasFault IsWrong bytes → Behind bytes
  wrong_at_once bytes (fault, offset, told) = (
    fault,
    offset,
    record {
      before = [];
      rest = bytes;
      inner = offset;
      whole = tt;
      parts = refl;
      wrong = told;
      there = omega arith;
    },
  )

  wrong_more : (bytes more : List ℕ) (x : X) → IsWhole x → bytes ≡ sp x ++ more → Behind more → Behind bytes
  wrong_more bytes more x is e (fault, offset, told) = (
    fault,
    length (flat_map sp (x ∷ told.before)) + told.inner,
    record {
      before = x ∷ told.before;
      rest = told.rest;
      inner = told.inner;
      whole = (is, told.whole);
      parts = spelled_more sp bytes more told.rest x told.before e told.parts;
      wrong = told.wrong;
      there = refl;
    },
  )

module _ {E G : Type 0} (spelled : E → List ℕ) (FitsEntry : List Bool → E → Type 0)
    (IsWrong : List Bool → Fault → ℕ → List ℕ → Type 0) (marks name : G → List ℕ) (entries : G → List E)
    (headers : HeaderLaws) (each : EntryLaws spelled FitsEntry IsWrong)
    (made : List ℕ → List ℕ → List E → G)
    (has_parts : (m n : List ℕ) (list : List E) → (marks (made m n list) ≡ m) × (name (made m n list) ≡ n) × (entries (made m n list) ≡ list)) where
  abbrev whole_bytes : G → List ℕ
  whole_bytes = group_bytes spelled marks name entries

  abbrev IsGroup : G → Type 0
  IsGroup = IsGroupOf FitsEntry marks name entries

  abbrev IsGroupWrong : Fault → ℕ → List ℕ → Type 0
  IsGroupWrong = IsGroupFaultOf (IsEntriesFault spelled FitsEntry IsWrong)

  -- ---- entries up to the group's end

  record Entries (keys : List Bool) (bytes : List ℕ) : Type 0 where
    list : List E
    rest : List ℕ
    fit : AllByRecursion (FitsEntry keys) list
    parts : bytes ≡ flat_map spelled list ++ rest
    ends : EndsGroup rest

  abbrev EntriesWrong : List Bool → List ℕ → Type 0
  EntriesWrong keys = HasFault (IsEntriesFault spelled FitsEntry IsWrong keys)

  entry_before : (keys : List Bool) (bytes more : List ℕ) (entry : E) → FitsEntry keys entry → bytes ≡ spelled entry ++ more → Entries keys more ⊎ EntriesWrong keys more → Entries keys bytes ⊎ EntriesWrong keys bytes
  entry_before keys bytes more entry fits e (inl found) = inl (record {
    list = entry ∷ found.list;
    rest = found.rest;
    fit = (fits, found.fit);
    parts = spelled_more spelled bytes more found.rest entry found.list e found.parts;
    ends = found.ends;
  })
  entry_before keys bytes more entry fits e (inr told) =
      inr (wrong_more spelled (FitsEntry keys) (IsWrong keys) bytes more entry fits e told)

  entries_found : (fuel : ℕ) (keys : List Bool) (bytes : List ℕ) → length bytes ≤ fuel → AreBytes bytes → Entries keys bytes ⊎ EntriesWrong keys bytes
  entries_found fuel keys [] short are = inl (record { list = []; rest = []; fit = tt; parts = refl; ends = tt })
  entries_found zero keys (first ∷ rest) short are = absurd (omega (arith, short))
  entries_found (suc fuel) keys (first ∷ rest) short are =
      elim (cases_eq first 84) [
        | inl is ↦ inl (record { list = []; rest = first ∷ rest; fit = tt; parts = refl; ends = is })
        | inr other ↦ elim (each.found keys first rest other are) [
          | inr told ↦ inr (wrong_at_once spelled (FitsEntry keys) (IsWrong keys) (first ∷ rest) told)
          | inl (entry, more, fits, e) ↦
              let left = fewer_left (first ∷ rest) (spelled entry) more fuel e (some_there (spelled entry) (each.some entry [])) short in
              entry_before keys (first ∷ rest) more entry fits e (entries_found fuel keys more left (bytes_rest (first ∷ rest) (spelled entry) more e are))
        ]
      ]

  -- ---- the group at the front

  record Front (bytes : List ℕ) : Type 0 where
    group : G
    rest : List ℕ
    fits : IsGroup group
    parts : bytes ≡ whole_bytes group ++ rest
    ends : EndsGroup rest

  group_made : (bytes m n rest : List ℕ) → FitsHeader m n → bytes ≡ header_spelling m n ++ rest → Entries (marks_of m) rest → Front bytes
  group_made bytes m n rest header e found =
      let is = has_parts m n found.list in
      record {
        group = made m n found.list;
        rest = found.rest;
        fits = rw (is.0, is.1, is.2) (header, found.fit);
        parts = rw (is.0, is.1, is.2) (e ∙ ap (λ (t : List ℕ). header_spelling m n ++ t) found.parts ∙ sym (append_assoc (header_spelling m n) (flat_map spelled found.list) found.rest));
        ends = found.ends;
      }

  body_wrong : (bytes m n rest : List ℕ) → FitsHeader m n → bytes ≡ header_spelling m n ++ rest → EntriesWrong (marks_of m) rest → HasFault IsGroupWrong bytes
  body_wrong bytes m n rest header e (fault, inner, told) = (
    fault,
    length (header_spelling m n) + inner,
    inr (record {
      before = (m, n);
      rest = rest;
      inner = inner;
      whole = header;
      parts = e;
      wrong = told;
      there = refl;
    }),
  )

  group_found : (behind : List ℕ) → AreBytes behind → Front (84 ∷ behind) ⊎ HasFault IsGroupWrong (84 ∷ behind)
  group_found behind are =
      elim (headers.found behind are) [
        | inr (fault, offset, told) ↦ inr (fault, offset, inl told)
        | inl (header, rest, fits, e) ↦
            let whole : AreBytes (84 ∷ behind) = byte_before 84 behind (omega arith) are in
            elim (entries_found (length rest) (marks_of header.0) rest (omega arith) (bytes_rest (84 ∷ behind) (header_spelling header.0 header.1) rest e whole)) [
              | inl found ↦ inl (group_made (84 ∷ behind) header.0 header.1 rest fits e found)
              | inr told ↦ inr (body_wrong (84 ∷ behind) header.0 header.1 rest fits e told)
            ]
      ]

  -- ---- groups to the end

  abbrev Whole : List ℕ → Type 0
  Whole bytes = (groups : List G) × AllByRecursion IsGroup groups × (bytes ≡ flat_map whole_bytes groups)

  group_before : (bytes : List ℕ) (front : Front bytes) → Whole front.rest ⊎ Behind whole_bytes IsGroup IsGroupWrong front.rest → Whole bytes ⊎ Behind whole_bytes IsGroup IsGroupWrong bytes
  group_before bytes front (inl (groups, fit, e)) =
      inl (front.group ∷ groups, (front.fits, fit), front.parts ∙ ap (λ (t : List ℕ). whole_bytes front.group ++ t) e)
  group_before bytes front (inr told) =
      inr (wrong_more whole_bytes IsGroup IsGroupWrong bytes front.rest front.group front.fits front.parts told)

  groups_found : (fuel : ℕ) (bytes : List ℕ) → length bytes ≤ fuel → AreBytes bytes → EndsGroup bytes → Whole bytes ⊎ Behind whole_bytes IsGroup IsGroupWrong bytes
  groups_found fuel [] short are ends = inl ([], tt, refl)
  groups_found zero (first ∷ behind) short are ends = absurd (omega (arith, short))
  groups_found (suc fuel) (first ∷ behind) short are ends =
      let there : Front (first ∷ behind) ⊎ HasFault IsGroupWrong (first ∷ behind) = rw ends (group_found behind (λ i. are (suc i))) in
      elim there [
        | inr told ↦ inr (wrong_at_once whole_bytes IsGroup IsGroupWrong (first ∷ behind) told)
        | inl front ↦
            let left = fewer_left (first ∷ behind) (whole_bytes front.group) front.rest fuel front.parts (omega arith) short in
            group_before (first ∷ behind) front (groups_found fuel front.rest left (bytes_rest (first ∷ behind) (whole_bytes front.group) front.rest front.parts are) front.ends)
      ]

  pub groups_or_fault : (bytes : List ℕ) → AreBytes bytes
      → ((groups : List G) × AllByRecursion IsGroup groups × (bytes ≡ flat_map whole_bytes groups))
      ⊎ HasFault (IsFileFault whole_bytes IsGroup IsGroupWrong) bytes
  groups_or_fault [] are = inl ([], tt, refl)
  groups_or_fault (first ∷ rest) are =
      elim (cases_eq first 84) [
        | inl is ↦ elim (groups_found (length (first ∷ rest)) (first ∷ rest) (omega arith) are is) [
          | inl found ↦ inl found
          | inr (fault, offset, told) ↦ inr (fault, offset, inr told)
        ]
        | inr other ↦ elim (cases_eq first 80) [
          | inl is ↦ inr (Patchset, 0, inl (inl (is, refl, refl)))
          | inr unknown ↦ inr (BadMark, 0, inl (inr (unknown, other, refl, refl)))
        ]
      ]
