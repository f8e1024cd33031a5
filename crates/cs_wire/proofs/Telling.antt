-- Bytes tell something: an answer, or nothing, for a fault that they have.
use Rattle.std.proofs.Common.{◌≡◌, inl, inr, ℕ, zero, suc, ◌<◌, ◌≤◌, List, [], ◌∷◌, ◌++◌, length, take, drop, Result, Ok, Err, refl, sym, ap, subst, ◌∙◌, append_assoc, arith, length-take-le}
use Rattle.std.specs.List.{flat_map}
use Rattle.std.proofs.lemmas.Bool.{cases_lt}
use Rattle.std.proofs.lemmas.Bool.Decides.{eqb_tells}
use Rattle.std.proofs.lemmas.List.{take-append-drop}
use Rattle.cs_varint.specs.Bytes.{AreBytes}
use Rattle.cs_wire.specs.Answers.{FitsShort, FitsEntriesNumbers, FitsMerged, ReadsAnswer, accepted_numbers, entries_numbers, merged_numbers, short_before, accepted_tag, stale_tag, refused_tag, entries_tag, merged_tag}
use Rattle.cs_wire.specs.Entries.{ToldEntry, FitsEntryNumbers, FindsEntries, IsEntryFault, IsFaultOfEntries, StandBefore, StandsBefore, kinds, entry_numbers, entry_spelling}
use Rattle.cs_wire.specs.Laws.{TellsSomething}
use Rattle.cs_wire.specs.Numbers.{four_bytes, eight_bytes}
use Rattle.cs_wire.specs.OneSpelling.{after_four, after_eight, numbers_more}
use Rattle.cs_wire.specs.declared.answer.Answer.{Answer}
use Rattle.cs_wire.specs.declared.answer.Answer.TheVariants.{Short, Entries, Merged}
use Rattle.cs_wire.specs.declared.fault.WireFault.{WireFault}
use Rattle.cs_wire.specs.declared.fault.WireFault.TheVariants.{Truncated, BadTag, TooLong, BadKind, NotUtf8}
use Rattle.cs_wire.specs.declared.short_answer.ShortAnswer.{ShortAnswer}
use Rattle.cs_wire.specs.declared.short_answer.ShortAnswer.TheVariants.{Accepted, Stale, Refused}
use Rattle.cs_wire.proofs.Begins.{begins_four, begins_eight, begins_sized, small_drop}

-- ---- an entry

-- an entry at the front, and bytes behind it
pub record BeginsEntry (bytes : List ℕ) : Type 0 where
  pub entry : ToldEntry
  pub rest : List ℕ
  pub stands : StandsBefore entry rest bytes
  pub small : AreBytes rest

-- an entry at the front, or the fault of what is to be one
data EntryOrFault (bytes : List ℕ) : Type 0 where
  Found : BeginsEntry bytes → EntryOrFault bytes
  Wrong : (fault : WireFault) → (IsEntryFault fault bytes) → EntryOrFault bytes

-- a body of that length is the front of what follows the numbers
cut_entry : (kind origin number size : ℕ) (part : List ℕ) → kind < kinds → FitsEntryNumbers origin number size → size ≤ length part → (bytes : List ℕ) → bytes ≡ kind ∷ entry_numbers origin number size part → StandsBefore (record { kind = kind; origin = origin; number = number; body = take size part }) (drop size part) bytes
cut_entry kind origin number size part known (of, nf, sf) enough bytes is =
    let long : length (take size part) ≡ size = length-take-le size part enough in (
      (known, (of, nf, rw long sf)),
      is
          ∙ ap (λ (p : List ℕ). kind ∷ entry_numbers origin number size p) (sym (take-append-drop size part))
          ∙ ap (λ (t : List ℕ). kind ∷ t) (sym (numbers_more origin number size (take size part) (drop size part)))
          ∙ ap (λ (n : ℕ). (kind ∷ entry_numbers origin number n (take size part)) ++ drop size part) (sym long),
    )

sized_entry_found : (kind origin number size : ℕ) (part : List ℕ) (bytes : List ℕ) → kind < kinds → FitsEntryNumbers origin number size → AreBytes part → bytes ≡ kind ∷ entry_numbers origin number size part → EntryOrFault bytes
sized_entry_found kind origin number size part bytes known fits small is =
    elim (cases_lt (length part) size) [
      | inl few ↦ Wrong Truncated (inr (inr (kind, origin, number, size, part, known, fits, is, few)))
      | inr enough ↦
          Found (record {
            entry = record { kind = kind; origin = origin; number = number; body = take size part };
            rest = drop size part;
            stands = cut_entry kind origin number size part known fits enough bytes is;
            small = small_drop size part small;
          })
    ]

long_entry : (kind : ℕ) (rest : List ℕ) → kind < kinds → AreBytes rest → 16 ≤ length rest → EntryOrFault (kind ∷ rest)
long_entry kind rest known small long =
    let origin = begins_four rest small (omega (arith, long)) in
    let number = begins_eight origin.rest origin.small (omega (arith, after_four rest origin.rest origin.number origin.is)) in
    let size = begins_four number.rest number.small (omega (arith, after_four rest origin.rest origin.number origin.is, after_eight origin.rest number.rest number.number number.is)) in
    let is : rest ≡ entry_numbers origin.number number.number size.number size.rest =
    origin.is ∙ ap (λ (r : List ℕ). four_bytes origin.number ++ r) (number.is ∙ ap (λ (r : List ℕ). eight_bytes number.number ++ r) size.is) in
    sized_entry_found kind origin.number number.number size.number size.rest (kind ∷ rest) known (origin.fits, number.fits, size.fits) size.small (ap (λ (r : List ℕ). kind ∷ r) is)

entry_or_fault : (bytes : List ℕ) → AreBytes bytes → EntryOrFault bytes
entry_or_fault [] all = Wrong Truncated (inl refl)
entry_or_fault (kind ∷ rest) all =
    elim (cases_lt kind kinds) [
      | inr other ↦ Wrong BadKind (kind, rest, refl, other)
      | inl known ↦ elim (cases_lt (length rest) 16) [
        | inl few ↦ Wrong Truncated (inr (inl (kind, rest, known, refl, few)))
        | inr long ↦ long_entry kind rest known (λ i. all (suc i)) long
      ]
    ]

-- ---- entries

abbrev Finds : ℕ → List ℕ → Type 0
Finds count bytes = (told : Result (List ToldEntry) WireFault) × FindsEntries count bytes told

first_wrong : (count : ℕ) (fault : WireFault) (bytes : List ℕ) → 0 < count → IsEntryFault fault bytes → IsFaultOfEntries count fault bytes
first_wrong count Truncated bytes some wrong = record { before = []; rest = bytes; fewer = some; stand = record { fit = tt; are = refl }; wrong = wrong }
first_wrong count BadKind bytes some wrong = record { before = []; rest = bytes; fewer = some; stand = record { fit = tt; are = refl }; wrong = wrong }
first_wrong count BadTag bytes some wrong = wrong
first_wrong count TooLong bytes some wrong = absurd wrong
first_wrong count NotUtf8 bytes some wrong = absurd wrong

-- one more before others that stand
stand_more : (entry : ToldEntry) (rest bytes : List ℕ) (entries : List ToldEntry) (behind : List ℕ) → StandsBefore entry rest bytes → StandBefore entries behind rest → StandBefore (entry ∷ entries) behind bytes
stand_more entry rest bytes entries behind first others = record {
  fit = (first.0, others.fit);
  are = first.1 ∙ ap (λ (t : List ℕ). entry_spelling entry ++ t) others.are ∙ sym (append_assoc (entry_spelling entry) (flat_map entry_spelling entries) behind);
}

later_wrong : (count : ℕ) (fault : WireFault) (entry : ToldEntry) (rest bytes : List ℕ) → StandsBefore entry rest bytes → IsFaultOfEntries count fault rest → IsFaultOfEntries (suc count) fault bytes
later_wrong count Truncated entry rest bytes first is = record { before = entry ∷ is.before; rest = is.rest; fewer = omega (arith, is.fewer); stand = stand_more entry rest bytes is.before is.rest first is.stand; wrong = is.wrong }
later_wrong count BadKind entry rest bytes first is = record { before = entry ∷ is.before; rest = is.rest; fewer = omega (arith, is.fewer); stand = stand_more entry rest bytes is.before is.rest first is.stand; wrong = is.wrong }
later_wrong count TooLong entry rest bytes first is = record { entries = entry ∷ is.entries; more = is.more; all = ap suc is.all; stand = stand_more entry rest bytes is.entries is.more first is.stand; some = is.some }
later_wrong count BadTag entry rest bytes first none = absurd none
later_wrong count NotUtf8 entry rest bytes first none = absurd none

entries_after : (count : ℕ) (entry : ToldEntry) (rest bytes : List ℕ) → StandsBefore entry rest bytes → Finds count rest → Finds (suc count) bytes
entries_after count entry rest bytes first (Ok entries, (many, fits, are)) =
    (Ok (entry ∷ entries), (ap suc many, (first.0, fits), first.1 ∙ ap (λ (t : List ℕ). entry_spelling entry ++ t) are))
entries_after count entry rest bytes first (Err fault, wrong) = (Err fault, later_wrong count fault entry rest bytes first wrong)

finds_next : (count : ℕ) (bytes : List ℕ) → ((rest : List ℕ) → AreBytes rest → Finds count rest) → EntryOrFault bytes → Finds (suc count) bytes
finds_next count bytes others (Wrong fault wrong) = (Err fault, first_wrong (suc count) fault bytes (omega arith) wrong)
finds_next count bytes others (Found begins) =
    entries_after count begins.entry begins.rest bytes begins.stands (others begins.rest begins.small)

finds_entries : (count : ℕ) (bytes : List ℕ) → AreBytes bytes → Finds count bytes
finds_entries zero [] all = (Ok [], (refl, tt, refl))
finds_entries zero (b ∷ bytes) all =
    (Err TooLong, record { entries = []; more = b ∷ bytes; all = refl; stand = record { fit = tt; are = refl }; some = omega arith })
finds_entries (suc count) bytes all = finds_next count bytes (finds_entries count) (entry_or_fault bytes all)

-- ---- an answer

abbrev TellsIt : List ℕ → Type 0
TellsIt bytes = (told : Result Answer WireFault) × ReadsAnswer bytes told

ended_short : (answer : ShortAnswer) (more : List ℕ) → FitsShort answer → TellsIt (short_before answer more)
ended_short answer [] fits = (Ok (Short answer), (fits, refl))
ended_short answer (b ∷ more) fits = (Err TooLong, inl (inl (answer, b ∷ more, fits, refl, omega arith)))

tells_accepted : (rest : List ℕ) → AreBytes rest → TellsIt (accepted_tag ∷ rest)
tells_accepted rest small =
    elim (cases_lt (length rest) 20) [
      | inl few ↦ (Err Truncated, inl (inr (inl (rest, refl, few))))
      | inr long ↦
          let origin = begins_four rest small (omega (arith, long)) in
          let number = begins_eight origin.rest origin.small (omega (arith, after_four rest origin.rest origin.number origin.is)) in
          let version = begins_eight number.rest number.small (omega (arith, after_four rest origin.rest origin.number origin.is, after_eight origin.rest number.rest number.number number.is)) in
          let is : rest ≡ accepted_numbers origin.number number.number version.number version.rest =
          origin.is ∙ ap (λ (r : List ℕ). four_bytes origin.number ++ r) (number.is ∙ ap (λ (r : List ℕ). eight_bytes number.number ++ r) version.is) in
          subst (λ (r : List ℕ). TellsIt (accepted_tag ∷ r)) (sym is)
          (ended_short (Accepted origin.number number.number version.number) version.rest (origin.fits, number.fits, version.fits))
    ]

tells_stale : (rest : List ℕ) → AreBytes rest → TellsIt (stale_tag ∷ rest)
tells_stale rest small =
    elim (cases_lt (length rest) 8) [
      | inl few ↦ (Err Truncated, inl (inr (inr (inl (rest, refl, few)))))
      | inr long ↦
          let newest = begins_eight rest small long in
          subst (λ (r : List ℕ). TellsIt (stale_tag ∷ r)) (sym newest.is) (ended_short (Stale newest.number) newest.rest newest.fits)
    ]

tells_refused : (rest : List ℕ) → AreBytes rest → TellsIt (refused_tag ∷ rest)
tells_refused [] small = (Err Truncated, inl (inr (inr (inr (inl refl)))))
tells_refused (code ∷ more) small = ended_short (Refused code) more (small 0)

abbrev Numbered : ℕ → ℕ → List ℕ → List ℕ
Numbered first count behind = entries_tag ∷ entries_numbers first count behind

numbered_wrong : (first count : ℕ) (behind : List ℕ) (fault : WireFault) → FitsEntriesNumbers first count → IsFaultOfEntries count fault behind → ReadsAnswer (Numbered first count behind) (Err fault)
numbered_wrong first count behind Truncated fits wrong = inr (first, count, behind, fits, refl, wrong)
numbered_wrong first count behind TooLong fits wrong = inr (first, count, behind, fits, refl, wrong)
numbered_wrong first count behind BadKind fits wrong = (first, count, behind, fits, refl, wrong)
numbered_wrong first count behind BadTag fits wrong = absurd wrong
numbered_wrong first count behind NotUtf8 fits wrong = absurd wrong

numbered : (first count : ℕ) (behind : List ℕ) → FitsEntriesNumbers first count → Finds count behind → TellsIt (Numbered first count behind)
numbered first count behind fits (Ok entries, (many, each, are)) =
    (Ok (Entries first entries), (((fits.0, rw many fits.1), each), rw (many, ← are) refl))
numbered first count behind fits (Err fault, wrong) = (Err fault, numbered_wrong first count behind fault fits wrong)

tells_entries : (rest : List ℕ) → AreBytes rest → TellsIt (entries_tag ∷ rest)
tells_entries rest small =
    elim (cases_lt (length rest) 12) [
      | inl few ↦ (Err Truncated, inl (inr (inr (inr (inr (inl (rest, refl, few)))))))
      | inr long ↦
          let first = begins_eight rest small (omega (arith, long)) in
          let count = begins_four first.rest first.small (omega (arith, after_eight rest first.rest first.number first.is)) in
          let is : rest ≡ entries_numbers first.number count.number count.rest =
          first.is ∙ ap (λ (r : List ℕ). eight_bytes first.number ++ r) count.is in
          subst (λ (r : List ℕ). TellsIt (entries_tag ∷ r)) (sym is)
          (numbered first.number count.number count.rest (first.fits, count.fits) (finds_entries count.number count.rest count.small))
    ]

sized_merged : (origin first next size : ℕ) (part : List ℕ) → FitsMerged origin first next size → TellsIt (merged_tag ∷ merged_numbers origin first next size part)
sized_merged origin first next size part fits =
    elim (cases_lt (length part) size) [
      | inl few ↦ (Err Truncated, inl (inr (inr (inr (inr (inr (inr (origin, first, next, size, part, fits, refl, few))))))))
      | inr enough ↦ elim (cases_lt size (length part)) [
        | inl many ↦ (Err TooLong, inl (inr (origin, first, next, size, part, fits, refl, many)))
        | inr none ↦
            let is : size ≡ length part = omega arith in
            (Ok (Merged origin first next part), (subst (FitsMerged origin first next) is fits, ap (λ (n : ℕ). merged_tag ∷ merged_numbers origin first next n part) is))
      ]
    ]

tells_merged : (rest : List ℕ) → AreBytes rest → TellsIt (merged_tag ∷ rest)
tells_merged rest small =
    elim (cases_lt (length rest) 24) [
      | inl few ↦ (Err Truncated, inl (inr (inr (inr (inr (inr (inl (rest, refl, few))))))))
      | inr long ↦
          let begins = begins_sized rest small long in
          subst (λ (r : List ℕ). TellsIt (merged_tag ∷ r)) (sym begins.is)
          (sized_merged begins.origin begins.second begins.third begins.size begins.rest (record { origin_fits = begins.origin_fits; first_fits = begins.second_fits; next_fits = begins.third_fits; size_fits = begins.size_fits }))
    ]

pub tells_something : TellsSomething
tells_something [] all = (Err Truncated, inl (inl refl))
tells_something (tag ∷ rest) all =
    elim (eqb_tells tag accepted_tag) [
      | inl (e, is) ↦ subst (λ (t : ℕ). TellsIt (t ∷ rest)) (sym is) (tells_accepted rest (λ i. all (suc i)))
      | inr (e, no_accepted) ↦ elim (eqb_tells tag stale_tag) [
        | inl (f, is) ↦ subst (λ (t : ℕ). TellsIt (t ∷ rest)) (sym is) (tells_stale rest (λ i. all (suc i)))
        | inr (f, no_stale) ↦ elim (eqb_tells tag refused_tag) [
          | inl (g, is) ↦ subst (λ (t : ℕ). TellsIt (t ∷ rest)) (sym is) (tells_refused rest (λ i. all (suc i)))
          | inr (g, no_refused) ↦ elim (eqb_tells tag entries_tag) [
            | inl (h, is) ↦ subst (λ (t : ℕ). TellsIt (t ∷ rest)) (sym is) (tells_entries rest (λ i. all (suc i)))
            | inr (h, no_entries) ↦ elim (eqb_tells tag merged_tag) [
              | inl (i, is) ↦ subst (λ (t : ℕ). TellsIt (t ∷ rest)) (sym is) (tells_merged rest (λ i. all (suc i)))
              | inr (i, no_merged) ↦
                  (Err BadTag, (tag, rest, refl, record { no_accepted = no_accepted; no_stale = no_stale; no_refused = no_refused; no_entries = no_entries; no_merged = no_merged }))
            ]
          ]
        ]
      ]
    ]
