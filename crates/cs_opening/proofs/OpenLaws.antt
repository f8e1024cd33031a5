-- The laws of opening: one position or one fault, never both, and never neither.
use Rattle.std.proofs.Common.{◌≡◌, ◌≢◌, ◌<◌, ◌^◌, ◌∙◌, inl, inr, ℕ, List, [], ◌∷◌, Option, Some, refl, ap, subst, sym}
use Rattle.std.specs.Prelude.{IsUtf8}
use Rattle.std.specs.FinMap.{find, from_entries, get, get-empty, get-from_entries, len-empty}
use Rattle.std.specs.List.{AllByRecursion}
use Rattle.std.specs.Ordering.{int_cmp}
use Rattle.std.proofs.lemmas.Cmp.{nat_list_cmp_total}
use Rattle.cs_value.specs.Facts.{by_test}
use Rattle.cs_value.specs.Catalog.{AreTables}
use Rattle.cs_value.specs.declared.catalog.TableDef.{TableDef}
use Rattle.cs_order.specs.Order.{by_bytes, same_bytes}
use Rattle.cs_store.specs.Contents.{Contents, meta_value, name_text, nothing, place_cmp}
use Rattle.cs_store.specs.Whole.{IsName}
use Rattle.cs_store.specs.declared.names.MetaName.{MetaName}
use Rattle.cs_store.specs.declared.names.MetaName.TheVariants as named
use Rattle.cs_wire.specs.Numbers.{eight_bytes, four_bytes}
use Rattle.cs_wire.specs.OneSpelling.{four_length}
use Rattle.cs_pending.specs.Spots.{key_is}
use Rattle.cs_pending.specs.View.{View}
use Rattle.cs_pending.specs.position.Laws.{OnePosition}
use Rattle.cs_pending.specs.position.Shows.{ShowsAt, ShowsSomeAt}
use Rattle.cs_pending.specs.position.Values.{catalog_bytes, value_of}
use Rattle.cs_pending.specs.declared.position.position.Position.{Position}
use Rattle.cs_opening.specs.Fresh.{IsFirst, first_position}
use Rattle.cs_opening.specs.Laws.{FirstCanBe, IsOfContents, NoFaultWhereOpened, NothingShowsNone, OneOpenFault, OneOpening, OpensOrFails}
use Rattle.cs_opening.specs.Opens.{AreOf, IsOpenFault, StandsAt, StandsNowhere}
use Rattle.cs_opening.specs.Owner.{IsIdOrNone, IsOfReplica, TellsTables}
use Rattle.cs_opening.specs.declared.fault.OpenFault.{OpenFault}
use Rattle.cs_opening.specs.declared.fault.OpenFault.TheVariants.{Memory, Damaged, Device, Mismatch}
use Rattle.cs_opening.specs.declared.owning.Owner.TheVariants.{This, Unreadable}
use Rattle.cs_opening.proofs.Lowered.{low, low_fits, low_same}
use Rattle.cs_opening.proofs.Nothing.{first_shows}

-- ---- one position

one_standing : OnePosition → (tables : List TableDef) (id : ℕ) (contents : Contents) (some other : Position) → AreTables tables → StandsAt tables id contents some → StandsAt tables id contents other → some ≡ other
one_standing law tables id contents some other are s o =
    (law tables contents some other s.shows.0 o.shows.0 are s.fits o.fits s.shows.1 o.shows.1).0

pub one_opening : OnePosition → OneOpening
one_opening law tables id old new next some other are (inl (none, first, is)) (inl (gone, same, too)) = first ∙ sym same
one_opening law tables id old new next some other are (inl (none, first, is)) (inr (never, same, stands)) = absurd (never none)
one_opening law tables id old new next some other are (inr (never, same, stands)) (inl (none, first, is)) = absurd (never none)
one_opening law tables id old new next some other are (inr (never, same, stands)) (inr (nor, too, there)) =
    one_standing law tables id old some other are
    (subst (λ (left : Contents). StandsAt tables id left some) same stands) (subst (λ (left : Contents). StandsAt tables id left other) too there)

-- ---- one fault

damaged_other : (tables : List TableDef) (id : ℕ) (old : Contents) → IsOpenFault tables id old Damaged → IsOpenFault tables id old Mismatch → ⊥
damaged_other tables id old (some, inl unreadable) (never, other) = unreadable (other.0, other.1)
damaged_other tables id old (some, inr (this, nowhere)) (never, other) = other.2 this

pub one_fault : OneOpenFault
one_fault tables id old Memory other s o a b = absurd (s.0 refl)
one_fault tables id old Device other s o a b = absurd (s.1 refl)
one_fault tables id old Damaged Memory s o a b = absurd (o.0 refl)
one_fault tables id old Damaged Device s o a b = absurd (o.1 refl)
one_fault tables id old Damaged Damaged s o a b = refl
one_fault tables id old Damaged Mismatch s o a b = absurd (damaged_other tables id old a b)
one_fault tables id old Mismatch Memory s o a b = absurd (o.0 refl)
one_fault tables id old Mismatch Device s o a b = absurd (o.1 refl)
one_fault tables id old Mismatch Damaged s o a b = absurd (damaged_other tables id old b a)
one_fault tables id old Mismatch Mismatch s o a b = refl

-- ---- never both

-- what is shown is this replica's
shown_this : (tables : List TableDef) (id : ℕ) (contents : Contents) (position : Position) → StandsAt tables id contents position → AreOf tables id contents This
shown_this tables id contents position stands =
    (stands.shows.1.values named.Id ∙ ap (λ (n : ℕ). Some (four_bytes n)) stands.of, stands.shows.1.values named.Catalog)

-- and can be read
readable : (tables : List TableDef) (id : ℕ) (own headers : Option (List ℕ)) → AreTables tables → AllByRecursion (λ (table : TableDef). IsUtf8 table.name) tables → IsOfReplica tables id own headers → IsIdOrNone own × TellsTables headers
readable tables id own headers are names is = (
  subst IsIdOrNone (sym is.0) (four_length id),
  subst TellsTables (sym is.1) (tables, record { are = are; named = names; spelled = refl }),
)

none_standing : (tables : List TableDef) (id : ℕ) (old : Contents) (position : Position) (fault : OpenFault) → AreTables tables → AllByRecursion (λ (table : TableDef). IsUtf8 table.name) tables → StandsAt tables id old position → IsOfContents fault → IsOpenFault tables id old fault → ⊥
none_standing tables id old position Memory are names stands of is = of.0 refl
none_standing tables id old position Device are names stands of is = of.1 refl
none_standing tables id old position Damaged are names stands of (some, inl unreadable) =
    unreadable (readable tables id (meta_value old named.Id) (meta_value old named.Catalog) are names (shown_this tables id old position stands))
none_standing tables id old position Damaged are names stands of (some, inr (this, nowhere)) = nowhere position stands.of stands.shows
none_standing tables id old position Mismatch are names stands of (some, other) = other.2 (shown_this tables id old position stands)

none_of_nothing : (tables : List TableDef) (id : ℕ) (old : Contents) (fault : OpenFault) → old ≡ nothing → IsOfContents fault → IsOpenFault tables id old fault → ⊥
none_of_nothing tables id old Memory none of is = of.0 refl
none_of_nothing tables id old Device none of is = of.1 refl
none_of_nothing tables id old Damaged none of is = is.0 none
none_of_nothing tables id old Mismatch none of is = is.0 none

pub none_where_opened : NoFaultWhereOpened
none_where_opened tables id old new position fault are names (inl (none, first, is)) of told = none_of_nothing tables id old fault none of told
none_where_opened tables id old new position fault are names (inr (never, same, stands)) of told =
    none_standing tables id old position fault are names (subst (λ (left : Contents). StandsAt tables id left position) same stands) of told

-- ---- something is held where something is shown

pub some_where_shown : NothingShowsNone
some_where_shown tables position contents (view, shows) none =
    absurd (let no = sym (shows.values named.Id) ∙ ap (λ (c : Contents). meta_value c named.Id) none ∙ get-empty by_bytes (name_text named.Id) in cc)

-- ---- the first position

module _ (tables : List TableDef) (id : ℕ) where
  abbrev values : List (List ℕ × List ℕ)
  values =
      (name_text named.Id, four_bytes id) ∷ (name_text named.Version, eight_bytes 0) ∷ (name_text named.Number, eight_bytes 0) ∷ (name_text named.Catalog, catalog_bytes tables) ∷ []

  abbrev begun : Contents
  begun = record nothing { meta = from_entries values }

  value_found : (text : List ℕ) → get begun.meta text ≡ find by_bytes text values
  value_found text = get-from_entries nat_list_cmp_total values text

  values_are : (name : MetaName) → meta_value begun name ≡ value_of tables (first_position id) name
  values_are named.Id = value_found (name_text named.Id)
  values_are named.Version = value_found (name_text named.Version)
  values_are named.Number = value_found (name_text named.Number)
  values_are named.Flight = value_found (name_text named.Flight)
  values_are named.Pending = value_found (name_text named.Pending)
  values_are named.Catalog = value_found (name_text named.Catalog)

  names_are : (text value : List ℕ) → find by_bytes text values ≡ Some value → IsName text
  names_are text value e =
      by_test (same_bytes text (name_text named.Id)) _ (λ t. (named.Id, key_is text (name_text named.Id) t))
      (λ a. by_test (same_bytes text (name_text named.Version)) _ (λ t. (named.Version, key_is text (name_text named.Version) t))
      (λ b. by_test (same_bytes text (name_text named.Number)) _ (λ t. (named.Number, key_is text (name_text named.Number) t))
      (λ c. by_test (same_bytes text (name_text named.Catalog)) _ (λ t. (named.Catalog, key_is text (name_text named.Catalog) t))
      (λ d. absurd (let no = rw (a, b, c, d) at e in cc)))))

  begun_first : IsFirst tables id begun
  begun_first =
      first_shows tables id begun (λ place. get-empty place_cmp place) (λ place. get-empty place_cmp place) (len-empty place_cmp _) (len-empty int_cmp _) values_are
      (λ text value e. names_are text value (sym (value_found text) ∙ e))

pub first_can_be : FirstCanBe
first_can_be tables id = (begun tables id, begun_first tables id)

-- ---- never neither

-- the same position, with a version in range
abbrev lowered : Position → Position
lowered position = record { id = position.id; version = low position.version; number = position.number; flight = position.flight; pending = position.pending }

lowered_shown : (tables : List TableDef) (contents : Contents) (position : Position) (view : View) → ShowsAt tables contents position view → ShowsAt tables contents (lowered position) view
lowered_shown tables contents position view shows = record {
  rows = shows.rows;
  values = values_lowered;
  alone = shows.alone;
  under_way = shows.under_way;
  counted = shows.counted;
  numbered = shows.numbered;
}
  where
    values_lowered : (name : MetaName) → meta_value contents name ≡ value_of tables (lowered position) name
    values_lowered named.Id = shows.values named.Id
    values_lowered named.Version = shows.values named.Version ∙ ap (λ (bytes : List ℕ). Some bytes) (sym (low_same position.version))
    values_lowered named.Number = shows.values named.Number
    values_lowered named.Flight = shows.values named.Flight
    values_lowered named.Pending = shows.values named.Pending
    values_lowered named.Catalog = shows.values named.Catalog

stands_lowered : (tables : List TableDef) (id : ℕ) (contents : Contents) (position : Position) → id < 2 ^ 32 → position.id ≡ id → ShowsSomeAt tables position contents → StandsAt tables id contents (lowered position)
stands_lowered tables id contents position range of (view, shows) = record {
  of = of;
  fits = record { id = subst (λ (n : ℕ). n < 2 ^ 32) (sym of) range; version = low_fits position.version };
  shows = (view, lowered_shown tables contents position view shows);
}

damaged_says : IsOfContents Damaged
damaged_says = ((λ e. let no = e in cc), (λ e. let no = e in cc))

mismatch_says : IsOfContents Mismatch
mismatch_says = ((λ e. let no = e in cc), (λ e. let no = e in cc))

pub opens_or_fails : OpensOrFails
opens_or_fails tables id old range no_position no_fault =
    let some : old ≢ nothing = λ none. no_position (begun tables id) (first_position id) (inl (none, refl, begun_first tables id)) in
    let nowhere : StandsNowhere tables id old = λ position of shows. no_position old (lowered position) (inr (some, refl, stands_lowered tables id old position range of shows)) in
    let not_this : AreOf tables id old This → ⊥ = λ this. no_fault Damaged damaged_says (some, inr (this, nowhere)) in
    let unreadable : AreOf tables id old Unreadable = λ read. no_fault Mismatch mismatch_says (some, (read.0, read.1, not_this)) in
    no_fault Damaged damaged_says (some, inl unreadable)
