-- Entries that stay in their bytes.
use Rattle.std.proofs.Common.{◌≡◌, ℕ, ◌+◌, append_assoc, length, length-append, List, [], ◌∷◌, ◌++◌, Ok, refl, sym, ap, subst, ◌∙◌}
use Rattle.std.specs.List.{flat_map, AllByRecursion}
use Rattle.std.proofs.lemmas.List.{append-nil}
use Rattle.cs_wire.specs.Entries.{ToldEntry, FindsEntries, FitsEntry, IsEntryFault, StandBefore, StandsBefore, entry_spelling}
use Rattle.cs_wire.specs.OneSpelling.{entry_back, one_entries, one_entry}
use Rattle.cs_wire.specs.Spelled.{SpelledEntries, SpellsEntries}
use Rattle.cs_wire.specs.declared.fault.WireFault.{WireFault}
use Rattle.cs_wire.proofs.Fronts.{not_both}
use Rattle.cs_wire.proofs.OneAnswer.{entry_wrong}

-- where an entry has a fault, none stands
pub none_there : (entries : List ToldEntry) (bytes : List ℕ) (fault : WireFault) → SpellsEntries bytes entries → IsEntryFault fault bytes → entries ≡ []
none_there [] bytes fault spells wrong = refl
none_there (e ∷ es) bytes fault (fits, are) wrong =
    absurd (not_both (e, flat_map entry_spelling es) fault _ (entry_back e (flat_map entry_spelling es) fits.0) (entry_wrong fault (entry_spelling e ++ flat_map entry_spelling es) (rw are wrong)))

-- an entry that stands at the front is the first of those that are spelled, and the others are spelled behind it
pub record IsFirst (entries : List ToldEntry) (entry : ToldEntry) (rest : List ℕ) : Type 0 where
  pub others : List ToldEntry
  pub are : entries ≡ entry ∷ others
  pub spell : SpellsEntries rest others

pub first_there : (entries : List ToldEntry) (bytes : List ℕ) (entry : ToldEntry) (rest : List ℕ) → SpellsEntries bytes entries → StandsBefore entry rest bytes → IsFirst entries entry rest
first_there [] bytes entry rest (fits, are) (fit, is) = absurd (let e : [] ≡ entry_spelling entry ++ rest = are ∙ is in cc)
first_there (e ∷ es) bytes entry rest (fits, are) (fit, is) =
    let both = one_entry e entry (flat_map entry_spelling es) rest fits.0 fit (are ∙ is) in
    record { others = es; are = ap (λ (f : ToldEntry). f ∷ es) both.0; spell = (fits.1, both.1) }

pub spelled_behind : (entries : List ToldEntry) (bytes : List ℕ) (entry : ToldEntry) (rest : List ℕ) → SpellsEntries bytes entries → StandsBefore entry rest bytes → SpelledEntries rest
spelled_behind entries bytes entry rest spells stands =
    let first = first_there entries bytes entry rest spells stands in (first.others, first.spell)

pub split_is : (entries others : List ToldEntry) (bytes : List ℕ) (entry : ToldEntry) (rest : List ℕ) → SpellsEntries bytes entries → StandsBefore entry rest bytes → SpellsEntries rest others → entries ≡ entry ∷ others
split_is entries others bytes entry rest spells stands spell =
    let first = first_there entries bytes entry rest spells stands in
    first.are ∙ ap (λ (t : List ToldEntry). entry ∷ t) (one_entries first.others others first.spell.0 spell.0 (first.spell.1 ∙ sym spell.1))

-- so many entries are those that are spelled
pub found_entries : (count : ℕ) (bytes : List ℕ) (some others : List ToldEntry) → FindsEntries count bytes (Ok some) → SpellsEntries bytes others → FindsEntries count bytes (Ok others)
found_entries count bytes some others found spell =
    subst (λ (t : List ToldEntry). FindsEntries count bytes (Ok t)) (one_entries some others found.1 spell.0 (sym found.2 ∙ sym spell.1)) found

-- ---- one more behind others

fit_more : (before : List ToldEntry) (entry : ToldEntry) → AllByRecursion FitsEntry before → FitsEntry entry → AllByRecursion FitsEntry (before ++ entry ∷ [])
fit_more [] entry fits fit = (fit, tt)
fit_more (e ∷ es) entry fits fit = (fits.0, fit_more es entry fits.1 fit)

spelled_more : (before : List ToldEntry) (entry : ToldEntry) (more : List ℕ) → flat_map entry_spelling before ++ (entry_spelling entry ++ more) ≡ flat_map entry_spelling (before ++ entry ∷ []) ++ more
spelled_more [] entry more = ap (λ (t : List ℕ). t ++ more) (sym (append-nil (entry_spelling entry)))
spelled_more (e ∷ es) entry more =
    append_assoc (entry_spelling e) (flat_map entry_spelling es) (entry_spelling entry ++ more)
    ∙ ap (λ (t : List ℕ). entry_spelling e ++ t) (spelled_more es entry more)
    ∙ sym (append_assoc (entry_spelling e) (flat_map entry_spelling (es ++ entry ∷ [])) more)

pub stand_next : (count : ℕ) (before : List ToldEntry) (entry : ToldEntry) (rest more bytes : List ℕ) → length before ≡ count → StandBefore before rest bytes → StandsBefore entry more rest → (entries : List ToldEntry) × (length entries ≡ count + 1) × StandBefore entries more bytes
stand_next count before entry rest more bytes many stand next = (
  before ++ entry ∷ [],
  length-append before (entry ∷ []) ∙ ap (λ n. n + 1) many,
  record {
    fit = fit_more before entry stand.fit next.0;
    are = stand.are ∙ ap (λ (t : List ℕ). flat_map entry_spelling before ++ t) next.1 ∙ spelled_more before entry more;
  },
)
