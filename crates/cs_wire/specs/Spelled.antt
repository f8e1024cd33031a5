-- Bytes that spell entries, one behind another. Which ones is no matter of choice, so bytes can be kept in their place.
use Rattle.std.specs.Prelude.{◌≡◌, ℕ, List}
use Rattle.std.specs.Coded.{×_prop}
use Rattle.std.specs.List.{flat_map, AllByRecursion, AllByRecursion-prop}
use Rattle.std.proofs.Common.{sym, ◌∙◌}
use Rattle.std.proofs.Props.{props}
use mathlib.Core.HLevel.{Σ_prop_path}
use Rattle.cs_wire.specs.Entries.{ToldEntry, FitsEntry, entry_spelling}
use Rattle.cs_wire.specs.OneSpelling.{one_entries}

-- the bytes spell these entries
abbrev pub SpellsEntries : List ℕ → List ToldEntry → Type 0
SpellsEntries bytes entries = AllByRecursion FitsEntry entries × (flat_map entry_spelling entries ≡ bytes)

-- the bytes spell entries
abbrev pub SpelledEntries : List ℕ → Type 0
SpelledEntries bytes = (entries : List ToldEntry) × SpellsEntries bytes entries

pub FitsEntry-prop : (entry : ToldEntry) → IsProp (FitsEntry entry)
FitsEntry-prop entry = hlevel props

pub SpelledEntries-prop : (bytes : List ℕ) → IsProp (SpelledEntries bytes)
SpelledEntries-prop bytes a b =
    Σ_prop_path
    (λ (entries : List ToldEntry). ×_prop (AllByRecursion-prop FitsEntry FitsEntry-prop entries) (hlevel props))
    (one_entries a.0 b.0 a.1.0 b.1.0 (a.1.1 ∙ sym b.1.1))
