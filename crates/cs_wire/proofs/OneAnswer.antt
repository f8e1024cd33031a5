-- What bytes tell, as a function: so they tell one thing.
use Rattle.std.proofs.Common.{◌≡◌, ℕ, zero, suc, ◌+◌, ◌<◌, false, cond, nat_eq, nat_lt, List, [], ◌∷◌, ◌++◌, length, drop, Result, Ok, Err, inl, inr, refl, ap, ◌∙◌, append_assoc, arith}
use Rattle.std.specs.List.{flat_map, AllByRecursion}
use Rattle.std.proofs.lemmas.Bool.Decides.{nat_tests}
use Rattle.cs_wire.specs.Answers.{FitsShort, FitsEntriesNumbers, FitsMerged, ReadsAnswer, accepted_numbers, entries_numbers, merged_numbers, short_before}
use Rattle.cs_wire.specs.Entries.{ToldEntry, FitsEntry, IsEntryFault, IsFaultOfEntries, entry_spelling, kinds}
use Rattle.cs_wire.specs.Numbers.{four_bytes, eight_bytes}
use Rattle.cs_wire.specs.OneSpelling.{four, eight, four_back, four_rest, eight_back, eight_rest, after_four, after_eight, below, not_below, entry_back, entry_behind, entry_reading, numbers_back, sized_entry}
use Rattle.cs_wire.specs.declared.answer.Answer.{Answer}
use Rattle.cs_wire.specs.declared.answer.Answer.TheVariants.{Short, Entries, Merged}
use Rattle.cs_wire.specs.declared.fault.WireFault.{WireFault}
use Rattle.cs_wire.specs.declared.fault.WireFault.TheVariants.{Truncated, BadTag, TooLong, BadKind, NotUtf8}
use Rattle.cs_wire.specs.declared.short_answer.ShortAnswer.{ShortAnswer}
use Rattle.cs_wire.specs.declared.short_answer.ShortAnswer.TheVariants.{Accepted, Stale, Refused}
use Rattle.cs_wire.proofs.Begins.{sized_length}

abbrev Items : Type 0
Items = Result (List ToldEntry) WireFault

abbrev Read : Type 0
Read = Result Answer WireFault

-- ---- entries

before_items : ToldEntry → Items → Items
before_items entry (Ok entries) = Ok (entry ∷ entries)
before_items entry (Err fault) = Err fault

behind_entry : Result (ToldEntry × List ℕ) WireFault → (List ℕ → Items) → Items
behind_entry (Ok split) others = before_items split.0 (others split.1)
behind_entry (Err fault) others = Err fault

items : ℕ → List ℕ → Items
items zero [] = Ok []
items zero (b ∷ bytes) = Err TooLong
items (suc count) bytes = behind_entry (entry_reading bytes) (items count)

pub entry_wrong : (fault : WireFault) (bytes : List ℕ) → IsEntryFault fault bytes → entry_reading bytes ≡ Err fault
unfolding entry_reading entry_behind sized_entry
entry_wrong Truncated bytes (inl is) = rw is refl
entry_wrong Truncated bytes (inr (inl (kind, rest, known, is, few))) = rw (is, below kind kinds known, below (length rest) 16 few) refl
entry_wrong Truncated bytes (inr (inr (kind, origin, number, size, part, known, fits, is, few))) =
    rw (is, below kind kinds known) (numbers_back kind origin number size part fits ∙ rw (below (length part) size few) refl)
entry_wrong BadKind bytes (kind, rest, is, other) = rw (is, not_below kind kinds other) refl
entry_wrong BadTag bytes none = absurd none
entry_wrong TooLong bytes none = absurd none
entry_wrong NotUtf8 bytes none = absurd none

-- an entry at the front comes before the others
item_more : (count : ℕ) (entry : ToldEntry) (rest : List ℕ) → FitsEntry entry → items (suc count) (entry_spelling entry ++ rest) ≡ before_items entry (items count rest)
unfolding items behind_entry
item_more count entry rest fits = rw (entry_back entry rest fits) refl

items_all : (entries : List ToldEntry) → AllByRecursion FitsEntry entries → items (length entries) (flat_map entry_spelling entries) ≡ Ok entries
unfolding items before_items
items_all [] fits = refl
items_all (e ∷ es) fits =
    item_more (length es) e (flat_map entry_spelling es) fits.0 ∙ ap (before_items e) (items_all es fits.1)

items_next : (before : List ToldEntry) (count : ℕ) (fault : WireFault) (rest : List ℕ) → length before < count → AllByRecursion FitsEntry before → IsEntryFault fault rest → items count (flat_map entry_spelling before ++ rest) ≡ Err fault
unfolding items before_items behind_entry
items_next [] zero fault rest few fits wrong = absurd (omega (arith, few))
items_next [] (suc count) fault rest few fits wrong = rw (entry_wrong fault rest wrong) refl
items_next (e ∷ es) zero fault rest few fits wrong = absurd (omega (arith, few))
items_next (e ∷ es) (suc count) fault rest few fits wrong =
    ap (items (suc count)) (append_assoc (entry_spelling e) (flat_map entry_spelling es) rest)
    ∙ item_more count e (flat_map entry_spelling es ++ rest) fits.0
    ∙ ap (before_items e) (items_next es count fault rest (omega (arith, few)) fits.1 wrong)

items_behind : (entries : List ToldEntry) (more : List ℕ) → AllByRecursion FitsEntry entries → 0 < length more → items (length entries) (flat_map entry_spelling entries ++ more) ≡ Err TooLong
unfolding items before_items
items_behind [] [] fits some = absurd (omega (arith, some))
items_behind [] (b ∷ more) fits some = refl
items_behind (e ∷ es) more fits some =
    ap (items (suc (length es))) (append_assoc (entry_spelling e) (flat_map entry_spelling es) more)
    ∙ item_more (length es) e (flat_map entry_spelling es ++ more) fits.0
    ∙ ap (before_items e) (items_behind es more fits.1 some)

items_wrong : (count : ℕ) (fault : WireFault) (bytes : List ℕ) → IsFaultOfEntries count fault bytes → items count bytes ≡ Err fault
items_wrong count Truncated bytes is = rw is.stand.are (items_next is.before count Truncated is.rest is.fewer is.stand.fit is.wrong)
items_wrong count BadKind bytes is = rw is.stand.are (items_next is.before count BadKind is.rest is.fewer is.stand.fit is.wrong)
items_wrong count TooLong bytes is = rw (is.stand.are, ← is.all) (items_behind is.entries is.more is.stand.fit is.some)
items_wrong count BadTag bytes none = absurd none
items_wrong count NotUtf8 bytes none = absurd none

-- ---- an answer

ended : List ℕ → ShortAnswer → Read
ended more answer = cond (nat_lt 0 (length more)) (Err TooLong) (Ok (Short answer))

of_accepted : List ℕ → Read
of_accepted rest =
    cond (nat_lt (length rest) 20) (Err Truncated)
    (ended (drop 8 (drop 8 (drop 4 rest))) (Accepted (four rest) (eight (drop 4 rest)) (eight (drop 8 (drop 4 rest)))))

of_stale : List ℕ → Read
of_stale rest = cond (nat_lt (length rest) 8) (Err Truncated) (ended (drop 8 rest) (Stale (eight rest)))

of_refused : List ℕ → Read
of_refused [] = Err Truncated
of_refused (code ∷ more) = ended more (Refused code)

from_first : ℕ → Items → Read
from_first first (Ok entries) = Ok (Entries first entries)
from_first first (Err fault) = Err fault

of_entries : List ℕ → Read
of_entries rest =
    cond (nat_lt (length rest) 12) (Err Truncated)
    (from_first (eight rest) (items (four (drop 8 rest)) (drop 4 (drop 8 rest))))

sized : ℕ → ℕ → ℕ → ℕ → List ℕ → Read
sized origin first next size part =
    cond (nat_lt (length part) size) (Err Truncated)
    (cond (nat_lt size (length part)) (Err TooLong) (Ok (Merged origin first next part)))

of_merged : List ℕ → Read
of_merged rest =
    cond (nat_lt (length rest) 24) (Err Truncated)
    (sized (four rest) (eight (drop 4 rest)) (eight (drop 8 (drop 4 rest))) (four (drop 8 (drop 8 (drop 4 rest)))) (drop 4 (drop 8 (drop 8 (drop 4 rest)))))

pub answer_reading : List ℕ → Read
answer_reading [] = Err Truncated
answer_reading (tag ∷ rest) =
    cond (nat_eq tag 17) (of_accepted rest)
    (cond (nat_eq tag 18) (of_stale rest)
    (cond (nat_eq tag 19) (of_refused rest)
    (cond (nat_eq tag 20) (of_entries rest) (cond (nat_eq tag 21) (of_merged rest) (Err BadTag)))))

accepted_length : (origin number version : ℕ) (more : List ℕ) → length (accepted_numbers origin number version more) ≡ 20 + length more
accepted_length origin number version more =
    omega (
      arith,
      after_four (accepted_numbers origin number version more) (eight_bytes number ++ (eight_bytes version ++ more)) origin refl,
      after_eight (eight_bytes number ++ (eight_bytes version ++ more)) (eight_bytes version ++ more) number refl,
      after_eight (eight_bytes version ++ more) more version refl,
    )

entries_length : (first count : ℕ) (more : List ℕ) → length (entries_numbers first count more) ≡ 12 + length more
entries_length first count more =
    omega (
      arith,
      after_eight (entries_numbers first count more) (four_bytes count ++ more) first refl,
      after_four (four_bytes count ++ more) more count refl,
    )

short_back : (answer : ShortAnswer) (more : List ℕ) → FitsShort answer → answer_reading (short_before answer more) ≡ ended more answer
unfolding answer_reading of_accepted of_stale of_refused
short_back (Accepted origin number version) more (of, nf, vf) =
    let long = not_below (length (accepted_numbers origin number version more)) 20 (omega (arith, accepted_length origin number version more)) in
    rw (long, four_rest, eight_rest, eight_rest, four_back origin _ of, eight_back number _ nf, eight_back version more vf) refl
short_back (Stale newest) more fits =
    let long = not_below (length (eight_bytes newest ++ more)) 8 (omega (arith, after_eight (eight_bytes newest ++ more) more newest refl)) in
    rw (long, eight_rest, eight_back newest more fits) refl
short_back (Refused code) more fits = refl

entries_back : (first count : ℕ) (behind : List ℕ) → FitsEntriesNumbers first count → answer_reading (20 ∷ entries_numbers first count behind) ≡ from_first first (items count behind)
unfolding answer_reading of_entries
entries_back first count behind (ff, cf) =
    let long = not_below (length (entries_numbers first count behind)) 12 (omega (arith, entries_length first count behind)) in
    rw (long, eight_rest, four_rest, eight_back first _ ff, four_back count behind cf) refl

entries_wrong : (first count : ℕ) (behind : List ℕ) (fault : WireFault) (bytes : List ℕ) → FitsEntriesNumbers first count → bytes ≡ 20 ∷ entries_numbers first count behind → IsFaultOfEntries count fault behind → answer_reading bytes ≡ Err fault
unfolding from_first
entries_wrong first count behind fault bytes fits is wrong =
    ap answer_reading is ∙ entries_back first count behind fits ∙ ap (from_first first) (items_wrong count fault behind wrong)

merged_back : (origin first next size : ℕ) (part : List ℕ) → FitsMerged origin first next size → answer_reading (21 ∷ merged_numbers origin first next size part) ≡ sized origin first next size part
unfolding answer_reading of_merged
merged_back origin first next size part fits =
    let long = not_below (length (merged_numbers origin first next size part)) 24 (omega (arith, sized_length origin first next size part)) in
    rw (long, four_rest, eight_rest, eight_rest, four_rest, four_back origin _ fits.origin_fits, eight_back first _ fits.first_fits, eight_back next _ fits.next_fits, four_back size part fits.size_fits) refl

pub reads_answer : (bytes : List ℕ) (told : Read) → ReadsAnswer bytes told → answer_reading bytes ≡ told
unfolding answer_reading ended of_accepted of_stale of_refused of_entries of_merged sized from_first
reads_answer bytes (Ok (Short answer)) (fits, is) = ap answer_reading is ∙ short_back answer [] fits
reads_answer bytes (Ok (Entries first entries)) (fits, is) =
    ap answer_reading is ∙ entries_back first (length entries) (flat_map entry_spelling entries) fits.0 ∙ ap (from_first first) (items_all entries fits.1)
reads_answer bytes (Ok (Merged origin first next changeset)) (fits, is) =
    let same = not_below (length changeset) (length changeset) (omega arith) in
    ap answer_reading is ∙ merged_back origin first next (length changeset) changeset fits ∙ rw same refl
reads_answer bytes (Err Truncated) (inl (inl is)) = rw is refl
reads_answer bytes (Err Truncated) (inl (inr (inl (rest, is, few)))) = rw (is, below (length rest) 20 few) refl
reads_answer bytes (Err Truncated) (inl (inr (inr (inl (rest, is, few))))) = rw (is, below (length rest) 8 few) refl
reads_answer bytes (Err Truncated) (inl (inr (inr (inr (inl is))))) = rw is refl
reads_answer bytes (Err Truncated) (inl (inr (inr (inr (inr (inl (rest, is, few))))))) = rw (is, below (length rest) 12 few) refl
reads_answer bytes (Err Truncated) (inl (inr (inr (inr (inr (inr (inl (rest, is, few)))))))) = rw (is, below (length rest) 24 few) refl
reads_answer bytes (Err Truncated) (inl (inr (inr (inr (inr (inr (inr (origin, first, next, size, part, fits, is, few)))))))) =
    ap answer_reading is ∙ merged_back origin first next size part fits ∙ rw (below (length part) size few) refl
reads_answer bytes (Err Truncated) (inr (first, count, behind, fits, is, wrong)) = entries_wrong first count behind Truncated bytes fits is wrong
reads_answer bytes (Err BadTag) (tag, rest, is, other) =
    let a : nat_eq tag 17 ≡ false = grind (arith, nat_tests, other.no_accepted) in
    let b : nat_eq tag 18 ≡ false = grind (arith, nat_tests, other.no_stale) in
    let c : nat_eq tag 19 ≡ false = grind (arith, nat_tests, other.no_refused) in
    let d : nat_eq tag 20 ≡ false = grind (arith, nat_tests, other.no_entries) in
    let e : nat_eq tag 21 ≡ false = grind (arith, nat_tests, other.no_merged) in
    rw (is, a, b, c, d, e) refl
reads_answer bytes (Err TooLong) (inl (inl (answer, more, fits, is, some))) =
    ap answer_reading is ∙ short_back answer more fits ∙ rw (below 0 (length more) some) refl
reads_answer bytes (Err TooLong) (inl (inr (origin, first, next, size, more, fits, is, many))) =
    ap answer_reading is ∙ merged_back origin first next size more fits ∙ rw (not_below (length more) size (omega (arith, many)), below size (length more) many) refl
reads_answer bytes (Err TooLong) (inr (first, count, behind, fits, is, wrong)) = entries_wrong first count behind TooLong bytes fits is wrong
reads_answer bytes (Err BadKind) (first, count, behind, fits, is, wrong) = entries_wrong first count behind BadKind bytes fits is wrong
reads_answer bytes (Err NotUtf8) none = absurd none
