-- Why the changes of a table have no normal form.
use Rattle.std.specs.Prelude.{◌≡◌, Bool, true, false, List, ◌∷◌, ◌++◌, map}
use Rattle.std.specs.List.{list_any}
use Rattle.cs_change.specs.declared.change.Change.{Change}
use Rattle.cs_order.specs.Order.{same_bytes}
use Rattle.cs_normal.specs.keyed.NormalForm.{change_bytes, has_key, AreKeyed}
use Rattle.cs_normalising.specs.declared.unfit.Unfit.{Unfit}
use Rattle.cs_normalising.specs.declared.unfit.Unfit.TheVariants as unfit

-- what is wrong with a change behind those
abbrev pub IsUnfitChange : Unfit → List Bool → List Change → Change → Type 0
IsUnfitChange unfit.NullKey marks before change = has_key marks change ≡ false
IsUnfitChange unfit.KeyTwice marks before change =
    (has_key marks change ≡ true)
    × (list_any (same_bytes (change_bytes marks change)) (map (change_bytes marks) before) ≡ true)
IsUnfitChange _ marks before change = ⊥

-- the first change that has a fault
abbrev pub HasFirstUnfitChange : Unfit → List Bool → List Change → Type 0
HasFirstUnfitChange fault marks changes =
    (before : List Change) × (change : Change) × (others : List Change)
    × (changes ≡ before ++ change ∷ others) × AreKeyed marks before × IsUnfitChange fault marks before change

-- why a table's changes have no normal form
abbrev pub AreUnfit : Unfit → List Bool → List Change → Type 0
AreUnfit unfit.Memory marks changes = Unit {0}
AreUnfit fault marks changes = HasFirstUnfitChange fault marks changes
