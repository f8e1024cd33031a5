-- The laws of opening a hub: one count of entries or one fault, never both, and never neither.
use Rattle.std.proofs.Common.{◌≡◌, ◌≢◌, ◌∙◌, inl, inr, ℕ, List, Option, refl, subst, sym}
use Rattle.std.specs.Prelude.{IsUtf8}
use Rattle.std.specs.List.{AllByRecursion}
use Rattle.cs_value.specs.Catalog.{AreTables}
use Rattle.cs_value.specs.declared.catalog.TableDef.{TableDef}
use Rattle.cs_store.specs.Contents.{Contents, log_count, meta_value, nothing}
use Rattle.cs_store.specs.declared.names.MetaName.TheVariants as named
use Rattle.cs_opening.specs.Laws.{IsOfContents}
use Rattle.cs_opening.specs.Owner.{IsIdOrNone, TellsTables}
use Rattle.cs_opening.specs.declared.fault.OpenFault.{OpenFault}
use Rattle.cs_opening.specs.declared.fault.OpenFault.TheVariants.{Memory, Damaged, Device, Mismatch}
use Rattle.cs_opening.specs.declared.owning.Owner.TheVariants.{This, Unreadable}
use Rattle.cs_hub.specs.log_store.Laws.{FirstLogCanBe}
use Rattle.cs_hub.specs.log_opening.Laws.{HubOpensOrFails, NoHubFaultWhereOpened, OneHubFault, OneHubOpening}
use Rattle.cs_hub.specs.log_opening.Opens.{AreOf, IsHubFault, IsHubStore}
use Rattle.cs_hub.specs.log_opening.Owner.{IsOfHub}

-- ---- one opening

pub one_opening : OneHubOpening
one_opening opening old new next some other (inl (none, first, is)) (inl (gone, same, too)) = is ∙ sym too
one_opening opening old new next some other (inl (none, first, is)) (inr (never, same, hub, too)) = absurd (never none)
one_opening opening old new next some other (inr (never, same, hub, is)) (inl (none, first, too)) = absurd (never none)
one_opening opening old new next some other (inr (never, same, hub, is)) (inr (nor, again, store, too)) = is ∙ sym too

-- ---- one fault

damaged_other : (opening : List TableDef) (old : Contents) → IsHubFault opening old Damaged → IsHubFault opening old Mismatch → ⊥
damaged_other opening old (some, inl unreadable) (never, other) = unreadable (other.0, other.1)
damaged_other opening old (some, inr (this, nowhere)) (never, other) = other.2 this

pub one_fault : OneHubFault
one_fault opening old Memory other s o a b = absurd (s.0 refl)
one_fault opening old Device other s o a b = absurd (s.1 refl)
one_fault opening old Damaged Memory s o a b = absurd (o.0 refl)
one_fault opening old Damaged Device s o a b = absurd (o.1 refl)
one_fault opening old Damaged Damaged s o a b = refl
one_fault opening old Damaged Mismatch s o a b = absurd (damaged_other opening old a b)
one_fault opening old Mismatch Memory s o a b = absurd (o.0 refl)
one_fault opening old Mismatch Device s o a b = absurd (o.1 refl)
one_fault opening old Mismatch Damaged s o a b = absurd (damaged_other opening old b a)
one_fault opening old Mismatch Mismatch s o a b = refl

-- ---- never both

-- a hub's store is this hub's
hub_this : (opening : List TableDef) (old : Contents) → IsHubStore opening old → AreOf opening old This
hub_this opening old hub = (hub.values.values named.Id, hub.values.values named.Catalog)

-- and can be read
readable : (opening : List TableDef) (own headers : Option (List ℕ)) → AreTables opening → AllByRecursion (λ (table : TableDef). IsUtf8 table.name) opening → IsOfHub opening own headers → IsIdOrNone own × TellsTables headers
readable opening own headers are names is = (
  subst IsIdOrNone (sym is.0) tt,
  subst TellsTables (sym is.1) (opening, record { are = are; named = names; spelled = refl }),
)

none_of_hub : (opening : List TableDef) (old : Contents) (fault : OpenFault) → AreTables opening → AllByRecursion (λ (table : TableDef). IsUtf8 table.name) opening → IsHubStore opening old → IsOfContents fault → IsHubFault opening old fault → ⊥
none_of_hub opening old Memory are names hub of is = of.0 refl
none_of_hub opening old Device are names hub of is = of.1 refl
none_of_hub opening old Damaged are names hub of (some, inl unreadable) =
    unreadable (readable opening (meta_value old named.Id) (meta_value old named.Catalog) are names (hub_this opening old hub))
none_of_hub opening old Damaged are names hub of (some, inr (this, never)) = never hub
none_of_hub opening old Mismatch are names hub of (some, other) = other.2 (hub_this opening old hub)

none_of_nothing : (opening : List TableDef) (old : Contents) (fault : OpenFault) → old ≡ nothing → IsOfContents fault → IsHubFault opening old fault → ⊥
none_of_nothing opening old Memory none of is = of.0 refl
none_of_nothing opening old Device none of is = of.1 refl
none_of_nothing opening old Damaged none of is = is.0 none
none_of_nothing opening old Mismatch none of is = is.0 none

pub none_where_opened : NoHubFaultWhereOpened
none_where_opened opening old new count fault are names (inl (none, first, is)) of told = none_of_nothing opening old fault none of told
none_where_opened opening old new count fault are names (inr (never, same, hub, is)) of told = none_of_hub opening old fault are names hub of told

-- ---- never neither

damaged_says : IsOfContents Damaged
damaged_says = ((λ e. let no = e in cc), (λ e. let no = e in cc))

mismatch_says : IsOfContents Mismatch
mismatch_says = ((λ e. let no = e in cc), (λ e. let no = e in cc))

pub opens_or_fails : FirstLogCanBe → HubOpensOrFails
opens_or_fails first opening old are no_opening no_fault =
    let begun = first opening are in
    let some : old ≢ nothing = λ none. no_opening begun.0 0 (inl (none, begun.1, refl)) in
    let no_hub : IsHubStore opening old → ⊥ = λ hub. no_opening old (log_count old) (inr (some, refl, hub, refl)) in
    let not_this : AreOf opening old This → ⊥ = λ this. no_fault Damaged damaged_says (some, inr (this, no_hub)) in
    let unreadable : AreOf opening old Unreadable = λ read. no_fault Mismatch mismatch_says (some, (read.0, read.1, not_this)) in
    no_fault Damaged damaged_says (some, inl unreadable)
